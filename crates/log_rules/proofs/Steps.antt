-- Walks in at most so many steps, one step at a time.
use Rattle.std.proofs.Common.{◌≡◌, ℕ, zero, suc, ◌+◌, ◌-◌, ◌<◌, ◌≤◌, Bool, true, not, ◌&&◌, ◌||◌, ◌==◌, List, [], ◌∷◌, ◌++◌, Option, Some, None, if◌then◌else◌, refl, sym, ap, ◌∙◌, append_assoc, append-nil}
use Rattle.clv_base.specs.declared.names.TxId.{TxId}
use Rattle.clv_base.specs.Orders.{tx_same, tx_in}
use Rattle.log_analysis.proofs.Laws.Bools.{all_same}
use Rattle.log_rules.specs.declared.index.Index.{Index}
use Rattle.log_rules.specs.Writes.{Writes, Step, step_at, shares_at, newest_by, KeepsWrites, Settles, settled_from}
use Rattle.log_rules.specs.Shares.{Share, without}
use Rattle.log_rules.specs.Listers.{Lister, lister_at, listers_from}
use Rattle.log_rules.specs.Rules.{is_met, is_clear_under, all_clear_from, all_clear}
use Rattle.law_base.proofs.Numbers.{minus_suc as left, minus_none as none_left}

-- ---- back over the writes of a transaction

abbrev by_own : Index → TxId → List TxId → ℕ → ℕ → Option Step → Bool
by_own x tx listed lsn n None = true
by_own x tx listed lsn n (Some w) = is_clear_under x tx listed w && all_clear_from x tx listed lsn n w.earlier

by_own_is : (x : Index) (tx : TxId) (listed : List TxId) (lsn n : ℕ) (o : Option Step)
    → elim o [ None ↦ true | Some w ↦ is_clear_under x tx listed w && all_clear_from x tx listed lsn n w.earlier ] ≡ by_own x tx listed lsn n o
by_own_is x tx listed lsn n None = refl
by_own_is x tx listed lsn n (Some w) = refl

all_step : (x : Index) (tx : TxId) (listed : List TxId) (lsn n k : ℕ) (at : Option ℕ) (total : Bool) → all_clear_from x tx listed lsn (n - k) at ≡ total → k < n
    → (o : Option Step) → step_at x.writes at ≡ o → by_own x tx listed lsn (n - (k + 1)) o ≡ total
all_step x tx listed lsn n k at total so_far lt o is =
    sym (ap (by_own x tx listed lsn (n - (k + 1))) is) ∙ sym (by_own_is x tx listed lsn (n - (k + 1)) (step_at x.writes at)) ∙ sym (ap (λ m. all_clear_from x tx listed lsn m at) (left n k lt)) ∙ so_far

module _ (x : Index) (tx : TxId) (listed : List TxId) (lsn n k : ℕ) (at : Option ℕ) (total : Bool) (so_far : all_clear_from x tx listed lsn (n - k) at ≡ total) (lt : k < n) where
  all_other : (w : Step) → step_at x.writes at ≡ Some w → (b : Bool) → is_clear_under x tx listed w ≡ b → b && all_clear_from x tx listed lsn (n - (k + 1)) w.earlier ≡ total
  all_other w is b own = sym (ap (λ a. a && all_clear_from x tx listed lsn (n - (k + 1)) w.earlier) own) ∙ all_step x tx listed lsn n k at total so_far lt (Some w) is

  pub all_on : (w : Step) → step_at x.writes at ≡ Some w → is_clear_under x tx listed w ≡ true → all_clear_from x tx listed lsn (n - (k + 1)) w.earlier ≡ total
  all_on w is own = all_other w is true own

-- ---- the listers of a transaction

listers_step : (all : List Lister) (n k : ℕ) (at : Option ℕ) → k < n → listers_from all (n - k) at ≡ elim (lister_at all at) [ None ↦ [] | Some l ↦ l.tx ∷ listers_from all (n - (k + 1)) l.next ]
listers_step all n k at lt = ap (λ m. listers_from all m at) (left n k lt)

pub listers_none : (all : List Lister) (n k : ℕ) (at : Option ℕ) (so_far total : List TxId) → so_far ++ listers_from all (n - k) at ≡ total → k < n → lister_at all at ≡ None → so_far ≡ total
listers_none all n k at so_far total is lt none =
    sym (append-nil so_far)
    ∙ sym (ap (λ xs. so_far ++ xs) (listers_step all n k at lt ∙ ap (λ o. elim o [ None ↦ [] | Some l ↦ l.tx ∷ listers_from all (n - (k + 1)) l.next ]) none)) ∙ is

pub listers_end : (all : List Lister) (n k : ℕ) (at : Option ℕ) (so_far total : List TxId) → so_far ++ listers_from all (n - k) at ≡ total → n ≤ k → so_far ≡ total
listers_end all n k at so_far total is le = sym (append-nil so_far) ∙ sym (ap (λ m. so_far ++ listers_from all m at) (none_left n k le)) ∙ is

pub listers_on : (all : List Lister) (n k : ℕ) (at : Option ℕ) (so_far total : List TxId) → so_far ++ listers_from all (n - k) at ≡ total → k < n
    → (l : Lister) → lister_at all at ≡ Some l → (so_far ++ l.tx ∷ []) ++ listers_from all (n - (k + 1)) l.next ≡ total
listers_on all n k at so_far total is lt l some =
    append_assoc so_far (l.tx ∷ []) (listers_from all (n - (k + 1)) l.next)
    ∙ sym (ap (λ xs. so_far ++ xs) (listers_step all n k at lt ∙ ap (λ o. elim o [ None ↦ [] | Some v ↦ v.tx ∷ listers_from all (n - (k + 1)) v.next ]) some)) ∙ is

-- ---- lists with the same members

pointwise : {f g : Step → Bool} (o : Option Step) → ((w : Step) → f w ≡ g w) → ◌≡◌ {A = Bool} (elim o [ None ↦ true | Some w ↦ f w ]) (elim o [ None ↦ true | Some w ↦ g w ])
pointwise None same = refl
pointwise (Some w) same = same w

module _ (x : Index) (tx : TxId) (l m : List TxId) (same : (t : TxId) → tx_in t l ≡ tx_in t m) where
  clear_same : (w : Step) → is_clear_under x tx l w ≡ is_clear_under x tx m w
  clear_same w =
      all_same (is_met tx l w.is_setting) (is_met tx m w.is_setting)
      (λ s. ap (λ b. (tx_same s.tx tx || b) || (not w.is_setting && (s.sets == 0))) (same s.tx)) (shares_at x.writes w.key)

  from_same : (lsn n : ℕ) (at : Option ℕ) → all_clear_from x tx l lsn n at ≡ all_clear_from x tx m lsn n at
  from_same lsn zero at = refl
  from_same lsn (suc n) at = pointwise (step_at x.writes at) (λ w. ap (λ b. b && all_clear_from x tx l lsn n w.earlier) (clear_same w) ∙ ap (λ b. is_clear_under x tx m w && b) (from_same lsn n w.earlier))

  pub all_clear_same : (lsn : ℕ) → all_clear x tx l lsn ≡ all_clear x tx m lsn
  all_clear_same lsn = from_same lsn lsn (newest_by x.writes tx)

-- ---- the shares of a transaction go

abbrev settled_by : Writes → TxId → ℕ → ℕ → List Share → Option Step → List Share
settled_by m tx n k ss None = ss
settled_by m tx n k ss (Some w) = settled_from m tx n w.earlier k (if w.key == k then without tx ss else ss)

settled_by_is : (m : Writes) (tx : TxId) (n k : ℕ) (ss : List Share) (o : Option Step)
    → elim o [ None ↦ ss | Some w ↦ settled_from m tx n w.earlier k (if w.key == k then without tx ss else ss) ] ≡ settled_by m tx n k ss o
settled_by_is m tx n k ss None = refl
settled_by_is m tx n k ss (Some w) = refl

settled_step : (m : Writes) (tx : TxId) (n j : ℕ) (at : Option ℕ) (k : ℕ) (ss : List Share) → j < n → (o : Option Step) → step_at m at ≡ o → settled_from m tx (n - j) at k ss ≡ settled_by m tx (n - (j + 1)) k ss o
settled_step m tx n j at k ss lt o is =
    ap (λ i. settled_from m tx i at k ss) (left n j lt) ∙ settled_by_is m tx (n - (j + 1)) k ss (step_at m at) ∙ ap (settled_by m tx (n - (j + 1)) k ss) is

same_step : (a b : Writes) (at : Option ℕ) → a.records ≡ b.records → a.rows ≡ b.rows → step_at a at ≡ step_at b at
same_step a b at records rows = ap (λ r. step_at (record a { records = r }) at) records ∙ ap (λ r. step_at (record a { records = b.records; rows = r }) at) rows

-- after j steps of the walk
pub record Settling (old now : Writes) (n : ℕ) (tx : TxId) (j : ℕ) (at : Option ℕ) : Type 0 where
  pub keeps : KeepsWrites old now
  pub shares : (k : ℕ) → settled_from old tx (n - j) at k (shares_at now k) ≡ settled_from old tx n (newest_by old tx) k (shares_at old k)

pub settles_none : (old now : Writes) (n : ℕ) (tx : TxId) (j : ℕ) (at : Option ℕ) → Settling old now n tx j at → j < n → step_at now at ≡ None → Settles old now n tx
settles_none old now n tx j at s lt none = record {
  keeps = s.keeps;
  shares = λ k. sym (settled_step old tx n j at k (shares_at now k) lt None (sym (same_step now old at s.keeps.records s.keeps.rows) ∙ none)) ∙ s.shares k;
}

pub settles_end : (old now : Writes) (n : ℕ) (tx : TxId) (j : ℕ) (at : Option ℕ) → Settling old now n tx j at → n ≤ j → Settles old now n tx
settles_end old now n tx j at s le = record {
  keeps = s.keeps;
  shares = λ k. sym (ap (λ i. settled_from old tx i at k (shares_at now k)) (none_left n j le)) ∙ s.shares k;
}

pub settles_on : (old now next : Writes) (n : ℕ) (tx : TxId) (j : ℕ) (at : Option ℕ) (w : Step) → Settling old now n tx j at → j < n → step_at now at ≡ Some w
    → KeepsWrites now next → ((k : ℕ) → shares_at next k ≡ (if w.key == k then without tx (shares_at now k) else shares_at now k)) → Settling old next n tx (j + 1) w.earlier
settles_on old now next n tx j at w s lt some keeps shares = record {
  keeps = record {
    records = keeps.records ∙ s.keeps.records;
    rows = keeps.rows ∙ s.keeps.rows;
    tops = λ k. keeps.tops k ∙ s.keeps.tops k;
    adds = λ k. keeps.adds k ∙ s.keeps.adds k;
    values = λ k. keeps.values k ∙ s.keeps.values k;
    newest = keeps.newest ∙ s.keeps.newest;
  };
  shares = λ k. ap (settled_from old tx (n - (j + 1)) w.earlier k) (shares k)
      ∙ sym (settled_step old tx n j at k (shares_at now k) lt (Some w) (sym (same_step now old at s.keeps.records s.keeps.rows) ∙ some)) ∙ s.shares k;
}
