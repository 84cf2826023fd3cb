-- What is asked of the shares, and what the walks over the index come to, by the writes that stand.
use Rattle.std.proofs.Common.{◌≡◌, ℕ, zero, suc, ◌≤◌, Bool, true, false, cond, not, ◌&&◌, ◌||◌, ◌==◌, List, [], ◌∷◌, length, Some, None, refl, sym, ap, ◌∙◌, eqb-true, arith}
use Rattle.std.specs.List.{list_any, list_all}
use Rattle.std.proofs.lemmas.Bool.{both_ways, eq-eqb, or_parts}
use Rattle.clv_base.specs.declared.names.TxId.{TxId}
use Rattle.clv_base.specs.Orders.{tx_same, tx_in}
use Rattle.clv_base.specs.Logs.{StandingUpdate, is_setting, newest_of}
use Rattle.clv_base.specs.LogRules.{writes_below}
use Rattle.clv_base.proofs.SameNames.{tx_true}
use Rattle.log_analysis.proofs.Laws.Bools.{all_same}
use Rattle.log_rules.specs.declared.index.Index.{Index}
use Rattle.log_rules.specs.Writes.{Writes, Step, step_of, shares_at, newest_by, settled_from}
use Rattle.log_rules.specs.Shares.{Share, with_share, without}
use Rattle.log_rules.specs.Rules.{is_own_or_one_of, is_met, is_clear_under, all_clear_from, all_clear}
use Rattle.log_rules.proofs.Below.{Covers, meets, meets_own, below_is, pass_is}
use Rattle.log_rules.proofs.ShareLists.{asks, all_with, all_with_set, all_with_add, without_beside, without_twice}
use Rattle.log_rules.proofs.Standing.{shares_of, lsn_of}
use Rattle.log_rules.proofs.Links.{Linked}
use Rattle.law_base.specs.Items.{AllLater}
use Rattle.law_base.proofs.Bools.{by_bool as both, or_false}
use Rattle.law_base.proofs.Names.{Falls}

-- ---- what is asked of each share

module _ (f : TxId → Bool) (c : TxId → Bool) (k : ℕ) where
  -- of all who wrote at the key
  pub asked_of_all : (ws : List StandingUpdate) → list_all (λ s. f s.tx) (shares_of c k ws) ≡ list_all (λ v. not (k == v.key) || (c v.tx || f v.tx)) ws
  asked_of_all [] = refl
  asked_of_all (w ∷ ws) = at (k == w.key) (c w.tx) (asked_of_all ws)
    where
      at : (a b : Bool) → list_all (λ s. f s.tx) (shares_of c k ws) ≡ list_all (λ v. not (k == v.key) || (c v.tx || f v.tx)) ws
          → list_all (λ s. f s.tx) (cond (a && not b) (with_share w.tx (is_setting w.change) (shares_of c k ws)) (shares_of c k ws)) ≡ (not a || (b || f w.tx)) && list_all (λ v. not (k == v.key) || (c v.tx || f v.tx)) ws
      at false b ih = ih
      at true true ih = ih
      at true false ih = all_with f w.tx (is_setting w.change) (shares_of c k ws) ∙ ap (λ b. f w.tx && b) ih

  -- and of all who set its value
  pub asked_of_sets : (ws : List StandingUpdate) → list_all (asks f) (shares_of c k ws) ≡ list_all (λ v. not (k == v.key) || (c v.tx || (not (is_setting v.change) || f v.tx))) ws
  asked_of_sets [] = refl
  asked_of_sets (w ∷ ws) = at (k == w.key) (c w.tx) (is_setting w.change) (asked_of_sets ws)
    where
      at : (a b s : Bool) → list_all (asks f) (shares_of c k ws) ≡ list_all (λ v. not (k == v.key) || (c v.tx || (not (is_setting v.change) || f v.tx))) ws
          → list_all (asks f) (cond (a && not b) (with_share w.tx s (shares_of c k ws)) (shares_of c k ws)) ≡ (not a || (b || (not s || f w.tx))) && list_all (λ v. not (k == v.key) || (c v.tx || (not (is_setting v.change) || f v.tx))) ws
      at false b s ih = ih
      at true true s ih = ih
      at true false true ih = all_with_set f w.tx (shares_of c k ws) ∙ ap (λ b. f w.tx && b) ih
      at true false false ih = all_with_add f w.tx (shares_of c k ws) ∙ ih

-- what a PREPARE or COMMIT asks at the key of one of its writes
pub met_is : (c : TxId → Bool) (tx : TxId) (listed : List TxId) (w : StandingUpdate) (ws : List StandingUpdate)
    → list_all (is_met tx listed (is_setting w.change)) (shares_of c w.key ws) ≡ list_all (meets c tx listed w) ws
met_is c tx listed w ws = at (is_setting w.change)
  where
    at : (s : Bool) → list_all (is_met tx listed s) (shares_of c w.key ws) ≡ list_all (λ v. not (w.key == v.key) || (c v.tx || (is_own_or_one_of tx listed v.tx || (not s && not (is_setting v.change))))) ws
    at true =
        all_same (is_met tx listed true) (λ s. is_own_or_one_of tx listed s.tx) (λ s. or_false (is_own_or_one_of tx listed s.tx)) (shares_of c w.key ws)
        ∙ asked_of_all (is_own_or_one_of tx listed) c w.key ws
        ∙ all_same (λ v. not (w.key == v.key) || (c v.tx || is_own_or_one_of tx listed v.tx)) (λ v. not (w.key == v.key) || (c v.tx || (is_own_or_one_of tx listed v.tx || false)))
        (λ v. ap (λ b. not (w.key == v.key) || (c v.tx || b)) (sym (or_false (is_own_or_one_of tx listed v.tx)))) ws
    at false =
        all_same (is_met tx listed false) (asks (is_own_or_one_of tx listed)) (λ s. flip (is_own_or_one_of tx listed s.tx) (s.sets == 0)) (shares_of c w.key ws)
        ∙ asked_of_sets (is_own_or_one_of tx listed) c w.key ws
        ∙ all_same (λ v. not (w.key == v.key) || (c v.tx || (not (is_setting v.change) || is_own_or_one_of tx listed v.tx))) (λ v. not (w.key == v.key) || (c v.tx || (is_own_or_one_of tx listed v.tx || not (is_setting v.change))))
        (λ v. ap (λ b. not (w.key == v.key) || (c v.tx || b)) (flip (not (is_setting v.change)) (is_own_or_one_of tx listed v.tx))) ws
      where
        flip : (a b : Bool) → a || b ≡ b || a
        flip true true = refl
        flip true false = refl
        flip false true = refl
        flip false false = refl

-- ---- back over the writes of a transaction

all_nowhere : (x : Index) (tx : TxId) (listed : List TxId) (lsn n : ℕ) → all_clear_from x tx listed lsn n None ≡ true
all_nowhere x tx listed lsn zero = refl
all_nowhere x tx listed lsn (suc n) = refl

abbrev step_in : StandingUpdate → List StandingUpdate → Step
step_in w under = record { key = w.key; is_setting = is_setting w.change; earlier = lsn_of (newest_of w.tx under) }

all_is : (x : Index) (tx : TxId) (listed : List TxId) (lsn : ℕ) (f : StandingUpdate → Bool) → ((w : StandingUpdate) (under : List StandingUpdate) → is_clear_under x tx listed (step_in w under) ≡ f w)
    → (ws : List StandingUpdate) → Linked x.writes ws → (n : ℕ) → length ws ≤ n → all_clear_from x tx listed lsn n (lsn_of (newest_of tx ws)) ≡ list_all (λ w. not (tx_same tx w.tx) || f w) ws
all_is x tx listed lsn f clear [] l n le = all_nowhere x tx listed lsn n
all_is x tx listed lsn f clear (w ∷ ws) l zero le = absurd (omega (arith, le))
all_is x tx listed lsn f clear (w ∷ ws) l (suc n) le =
    both (λ b. tx_same tx w.tx ≡ b → all_clear_from x tx listed lsn (suc n) (lsn_of (cond b (Some w) (newest_of tx ws))) ≡ (not b || f w) && list_all (λ v. not (tx_same tx v.tx) || f v) ws) (tx_same tx w.tx)
    (λ _ own.
    ap (λ o. elim o [ None ↦ true | Some v ↦ is_clear_under x tx listed v && all_clear_from x tx listed lsn n v.earlier ]) (ap step_of l.0)
    ∙ ap (λ b. b && all_clear_from x tx listed lsn n (lsn_of (newest_of w.tx ws))) (clear w ws)
    ∙ ap (λ t. f w && all_clear_from x tx listed lsn n (lsn_of (newest_of t ws))) (sym (tx_true tx w.tx own))
    ∙ ap (λ b. f w && b) (all_is x tx listed lsn f clear ws l.1 n (omega (arith, le))))
    (λ _ other. all_is x tx listed lsn f clear ws l.1 (suc n) (omega (arith, le))) refl

or_all : (a : Bool) (g : StandingUpdate → Bool) (ws : List StandingUpdate) → not a || list_all g ws ≡ list_all (λ v. not a || g v) ws
or_all true g ws = refl
or_all false g [] = refl
or_all false g (v ∷ vs) = or_all false g vs

pub all_clear_is : (closed c : TxId → Bool) (x : Index) (tx : TxId) (listed : List TxId) (n : ℕ) (ws : List StandingUpdate) → closed tx ≡ false → Linked x.writes ws → newest_by x.writes tx ≡ lsn_of (newest_of tx ws)
    → ((k : ℕ) → shares_at x.writes k ≡ shares_of c k ws) → Falls n ws → length ws ≤ n → AllLater (Covers closed) ws
    → all_clear x tx listed n ≡ list_all (λ w. c w.tx || tx_in w.tx listed) (writes_below tx ws)
all_clear_is closed c x tx listed n ws is_open linked newest shares falls within covers =
    ap (all_clear_from x tx listed n n) newest
    ∙ all_is x tx listed n (λ w. list_all (meets c tx listed w) ws) (λ w under. ap (list_all (is_met tx listed (is_setting w.change))) (shares w.key) ∙ met_is c tx listed w ws) ws linked n within
    ∙ all_same (λ w. not (tx_same tx w.tx) || list_all (meets c tx listed w) ws) (λ w. list_all (meets_own c tx listed w) ws) (λ w. or_all (tx_same tx w.tx) (meets c tx listed w) ws) ws
    ∙ sym (pass_is closed c tx listed is_open n ws falls covers) ∙ sym (below_is (λ t. c t || tx_in t listed) tx ws)

-- ---- where its shares go

abbrev is_there : TxId → ℕ → StandingUpdate → Bool
is_there tx k w = tx_same tx w.tx && (w.key == k)

settled_nowhere : (m : Writes) (tx : TxId) (n k : ℕ) (ss : List Share) → settled_from m tx n None k ss ≡ ss
settled_nowhere m tx zero k ss = refl
settled_nowhere m tx (suc n) k ss = refl

settled_is : (m : Writes) (tx : TxId) (k : ℕ) (ws : List StandingUpdate) → Linked m ws → (n : ℕ) → length ws ≤ n → (ss : List Share)
    → settled_from m tx n (lsn_of (newest_of tx ws)) k ss ≡ cond (list_any (is_there tx k) ws) (without tx ss) ss
settled_is m tx k [] l n le ss = settled_nowhere m tx n k ss
settled_is m tx k (w ∷ ws) l zero le ss = absurd (omega (arith, le))
settled_is m tx k (w ∷ ws) l (suc n) le ss =
    both (λ b. tx_same tx w.tx ≡ b → settled_from m tx (suc n) (lsn_of (cond b (Some w) (newest_of tx ws))) k ss ≡ cond ((b && (w.key == k)) || list_any (is_there tx k) ws) (without tx ss) ss) (tx_same tx w.tx)
    (λ _ own.
    ap (λ o. elim o [ None ↦ ss | Some v ↦ settled_from m tx n v.earlier k (cond (v.key == k) (without tx ss) ss) ]) (ap step_of l.0)
    ∙ ap (λ t. settled_from m tx n (lsn_of (newest_of t ws)) k (cond (w.key == k) (without tx ss) ss)) (sym (tx_true tx w.tx own))
    ∙ settled_is m tx k ws l.1 n (omega (arith, le)) (cond (w.key == k) (without tx ss) ss)
    ∙ at (w.key == k) (list_any (is_there tx k) ws))
    (λ _ other. settled_is m tx k ws l.1 (suc n) (omega (arith, le)) ss) refl
  where
    at : (a b : Bool) → cond b (without tx (cond a (without tx ss) ss)) (cond a (without tx ss) ss) ≡ cond (a || b) (without tx ss) ss
    at true true = without_twice tx ss
    at true false = refl
    at false b = refl

-- where it wrote nothing it has no share
none_there : (c : TxId → Bool) (tx : TxId) (k : ℕ) (ws : List StandingUpdate) → list_any (is_there tx k) ws ≡ false → without tx (shares_of c k ws) ≡ shares_of c k ws
none_there c tx k [] none = refl
none_there c tx k (w ∷ ws) none =
    let parts = or_parts (is_there tx k w) (list_any (is_there tx k) ws) none in
    at (k == w.key) (c w.tx) (tx_same tx w.tx) refl refl parts.0 (none_there c tx k ws parts.1)
  where
    at : (a b o : Bool) → (k == w.key) ≡ a → tx_same tx w.tx ≡ o → tx_same tx w.tx && (w.key == k) ≡ false → without tx (shares_of c k ws) ≡ shares_of c k ws
        → without tx (cond (a && not b) (with_share w.tx (is_setting w.change) (shares_of c k ws)) (shares_of c k ws)) ≡ cond (a && not b) (with_share w.tx (is_setting w.change) (shares_of c k ws)) (shares_of c k ws)
    at false b o e f no_own ih = ih
    at true true o e f no_own ih = ih
    at true false true e f no_own ih = absurd (both_ways _ no_own (ap (λ b. b && (w.key == k)) f ∙ eq-eqb w.key k (sym (eqb-true k w.key e))))
    at true false false e f no_own ih = without_beside tx w.tx (is_setting w.change) (shares_of c k ws) f ∙ ap (with_share w.tx (is_setting w.change)) ih

pub settled_shares : (c : TxId → Bool) (m : Writes) (tx : TxId) (k n : ℕ) (ws : List StandingUpdate) → Linked m ws → length ws ≤ n → settled_from m tx n (lsn_of (newest_of tx ws)) k (shares_of c k ws) ≡ without tx (shares_of c k ws)
settled_shares c m tx k n ws linked within =
    settled_is m tx k ws linked n within (shares_of c k ws)
    ∙ both (λ b. list_any (is_there tx k) ws ≡ b → cond b (without tx (shares_of c k ws)) (shares_of c k ws) ≡ without tx (shares_of c k ws)) (list_any (is_there tx k) ws) (λ _ _. refl) (λ _ none. sym (none_there c tx k ws none)) refl
