-- One write more in the table.
use Rattle.std.proofs.Common.{◌≡◌, ℕ, Bool, true, false, cond, ◌==◌, Some, if◌then◌else◌, refl, sym, ap, ◌∙◌, eqb-true}
use Rattle.std.specs.Prelude.{slice_get}
use Rattle.clv_base.specs.declared.names.TxId.{TxId}
use Rattle.clv_base.specs.declared.changes.Change.{Change}
use Rattle.clv_base.specs.declared.changes.Change.TheVariants.{Sets, Adds}
use Rattle.clv_base.specs.Orders.{tx_same}
use Rattle.clv_base.specs.OneShard.{update_of}
use Rattle.clv_base.specs.Logs.{changed, is_setting}
use Rattle.log_rules.specs.Shares.{with_share}
use Rattle.log_rules.specs.Writes.{Writes, Links, Linked, row_in, written_as, write_with, write_from, write_at, top_at, adds_at, value_at, shares_at, newest_by, linked_over, top_after, adds_after, PushesAt}

with_update : (n : ℕ) (l : Links) (tx : TxId) (key : ℕ) (c : Change) → write_with n l (update_of tx key c) ≡ Some (written_as n tx key c l)
with_update n l tx key (Sets before after) = refl
with_update n l tx key (Adds by) = refl

same_tops : (a b : Writes) (k : ℕ) → a.tops ≡ b.tops → (top_at a k ≡ top_at b k) × (adds_at a k ≡ adds_at b k) × (value_at a k ≡ value_at b k) × (shares_at a k ≡ shares_at b k)
same_tops a b k same = (
  ap (λ t. top_at (record a { tops = t }) k) same,
  ap (λ t. adds_at (record a { tops = t }) k) same,
  ap (λ t. value_at (record a { tops = t }) k) same,
  ap (λ t. shares_at (record a { tops = t }) k) same,
)

same_newest : (a b : Writes) (t : TxId) → a.newest ≡ b.newest → newest_by a t ≡ newest_by b t
same_newest a b t same = ap (λ n. newest_by (record a { newest = n }) t) same

-- where a function of what stands at a key stays, its parts do
module _ {X : Type 0} (f g : ℕ → X) (h : X → X) (key k : ℕ) where
  moved : ((j : ℕ) → f j ≡ g j) → ◌≡◌ {A = X} (if key == k then h (f key) else f k) (if key == k then h (g key) else g k)
  moved same = ap (λ x. if key == k then h x else f k) (same key) ∙ ap (λ x. if key == k then h (g key) else x) (same k)

-- what each step of a push leaves: the row is set, then what stands at the key, then the newest of the transaction
module _ (old first second new : Writes) (lsn : ℕ) (tx : TxId) (key : ℕ) (change : Change) (l : Links) where
  pub record Steps : Type 0 where
    pub links : (n : ℕ) → written_as n tx key change l ≡ linked_over old n tx key change
    pub row : (k : ℕ) → row_in first.rows.items k ≡ (if lsn == k then Linked l else row_in old.rows.items k)
    pub row_records : first.records ≡ old.records
    pub row_tops : first.tops ≡ old.tops
    pub row_newest : first.newest ≡ old.newest
    pub tops : (k : ℕ) → top_at second k ≡ (if key == k then top_after change lsn (top_at first key) else top_at first k)
    pub adds : (k : ℕ) → adds_at second k ≡ (if key == k then adds_after change (adds_at first key) else adds_at first k)
    pub values : (k : ℕ) → value_at second k ≡ (if key == k then changed change (value_at first key) else value_at first k)
    pub shares : (k : ℕ) → shares_at second k ≡ (if key == k then with_share tx (is_setting change) (shares_at first key) else shares_at first k)
    pub tops_records : second.records ≡ first.records
    pub tops_rows : second.rows ≡ first.rows
    pub tops_newest : second.newest ≡ first.newest
    pub last_records : new.records ≡ second.records
    pub last_rows : new.rows ≡ second.rows
    pub last_tops : new.tops ≡ second.tops

  module _ (s : Steps) where
    records_stay : new.records ≡ old.records
    records_stay = s.last_records ∙ s.tops_records ∙ s.row_records

    rows_now : (k : ℕ) → row_in new.rows.items k ≡ (if lsn == k then Linked l else row_in old.rows.items k)
    rows_now k = ap (λ r. row_in r.items k) (s.last_rows ∙ s.tops_rows) ∙ s.row k

    read : (k : ℕ) (b : Bool) → (lsn == k) ≡ b → slice_get old.records.now lsn ≡ Some (update_of tx key change)
        → write_from k (cond b (Linked l) (row_in old.rows.items k)) (slice_get old.records.now k) ≡ cond b (Some (linked_over old lsn tx key change)) (write_at old (Some k))
    read k true e there =
        let same : lsn ≡ k = eqb-true lsn k e in
        ap (write_from k (Linked l)) (ap (slice_get old.records.now) (sym same) ∙ there) ∙ with_update k l tx key change ∙ ap (λ n. Some (written_as n tx key change l)) (sym same) ∙ ap (λ w. Some w) (s.links lsn)
    read k false e there = refl

    pub pushed : ((t : TxId) → newest_by new t ≡ (if tx_same tx t then Some lsn else newest_by second t)) → PushesAt old new lsn tx key change
    pushed newest there = record {
      rows = λ k. ap (λ r. write_from k r (slice_get new.records.now k)) (rows_now k) ∙ ap (λ rs. write_from k (if lsn == k then Linked l else row_in old.rows.items k) (slice_get rs.now k)) records_stay ∙ read k (lsn == k) refl there;
      tops = λ k. (same_tops new second k s.last_tops).0 ∙ s.tops k ∙ moved (top_at first) (top_at old) (top_after change lsn) key k (λ j. (same_tops first old j s.row_tops).0);
      adds = λ k. (same_tops new second k s.last_tops).1 ∙ s.adds k ∙ moved (adds_at first) (adds_at old) (adds_after change) key k (λ j. (same_tops first old j s.row_tops).1);
      values = λ k. (same_tops new second k s.last_tops).2 ∙ s.values k ∙ moved (value_at first) (value_at old) (changed change) key k (λ j. (same_tops first old j s.row_tops).2);
      shares = λ k. (same_tops new second k s.last_tops).3 ∙ s.shares k ∙ moved (shares_at first) (shares_at old) (with_share tx (is_setting change)) key k (λ j. (same_tops first old j s.row_tops).3);
      newest = λ t. newest t ∙ ap (λ o. if tx_same tx t then Some lsn else o) (same_newest second first t s.tops_newest ∙ same_newest first old t s.row_newest);
    }
