-- Locks, pairs and records, row by row.
use Rattle.std.proofs.Common.{◌≡◌, refl, ℕ, Bool, true, false, cond, not, ◌&&◌, ◌==◌, List, [], ◌∷◌, Option, Some, None}
use Rattle.std.specs.List.{AllByRecursion}
use Rattle.std.specs.Map.{lookup}
use Rattle.std.specs.declared.cmp.Ordering.{Ordering}
use Rattle.std.specs.declared.cmp.Ordering.TheVariants.{Less, Equal, Greater}
use Rattle.std.specs.Ordering.{nat_cmp, match_ordering}
use Rattle.std.proofs.lemmas.Bool.{cond_both}
use Rattle.clv_base.specs.declared.values.Value.{Value as ValueType}
use Rattle.clv_base.specs.declared.names.TxId.{TxId}
use Rattle.clv_base.specs.declared.names.Birth.{Birth}
use Rattle.clv_base.specs.declared.modes.Anchor.{Anchor}
use Rattle.clv_base.specs.declared.modes.Anchor.TheVariants.{At}
use Rattle.clv_base.specs.declared.modes.Need.{Need}
use Rattle.clv_base.specs.declared.modes.Holder.{Holder}
use Rattle.clv_base.specs.declared.modes.Part.TheVariants.{X}
use Rattle.clv_base.specs.Orders.{tx_same, tx_in, tx_insert, pair_cmp, pair_insert}
use Rattle.clv_base.specs.Modes.{on_key, writes}
use Rattle.clv_base.specs.FileRules.{tx_has_spelling, is_value}
use Rattle.clv_base.specs.Locks.{Locks, row_cmp, with_mode, take_one, holder_of, take_all, gap_alone, holds_gap, copy_gaps, split_gap, close_locks, release, meets, violated_by, violated}
use Rattle.clv_base.specs.Logs.{StandingUpdate, unchanged}
use Rattle.clv_base.specs.Needs.{Records, found_by, live_of, value_at, record_set, need, lower_anchor}
use Rattle.clv_base.specs.Undo.{undone_at, records_without}
use Rattle.clv_base.specs.OneShard.{add_pairs, inserted_locks}
use Rattle.clv_base.specs.Restarts.{old_birth, part_of, restored_locks}
use Rattle.protocol_laws.proofs.ChangesKeepSpelling.UndoIsSpelled.{AreFit, Named, named_insert, unchanged_fits}
use Rattle.law_base.proofs.Lists.{all_kept as all_filter}

-- ---- holders

abbrev pub Holders : Locks → Type 0
Holders locks = AllByRecursion (λ r. tx_has_spelling (r.1).tx ≡ true) locks

pub take_named : (a : Anchor) (h : Holder) (locks : Locks) → tx_has_spelling h.tx ≡ true → Holders locks → Holders (take_one a h locks)
take_named a h [] n all = (n, tt)
take_named a h (r ∷ rs) n all = at (row_cmp a h.tx r) (take_named a h rs n all.1)
  where
    at : (o : Ordering) → Holders (take_one a h rs) → Holders (match_ordering o ((a, h) ∷ r ∷ rs) ((a, with_mode r.1 h.mode) ∷ rs) (r ∷ take_one a h rs))
    at Less more = (n, all)
    at Equal more = all
    at Greater more = (all.0, more)

pub takes_named : (tx : TxId) (birth : Birth) (needs : List Need) (locks : Locks) → tx_has_spelling tx ≡ true → Holders locks → Holders (take_all tx birth needs locks)
takes_named tx birth [] locks n all = all
takes_named tx birth (m ∷ ms) locks n all = takes_named tx birth ms (take_one m.anchor (holder_of tx birth m.mode) locks) n (take_named m.anchor (holder_of tx birth m.mode) locks n all)

copies_named : (lower new : Anchor) (rows locks : Locks) → Holders rows → Holders locks → Holders (copy_gaps lower new rows locks)
copies_named lower new [] locks from all = all
copies_named lower new (r ∷ rs) locks from all =
    copies_named lower new rs (cond (holds_gap lower r) (take_one new (gap_alone r.1) locks) locks) from.1
    (cond_both (holds_gap lower r) (take_one new (gap_alone r.1) locks) locks Holders (λ e. take_named new (gap_alone r.1) locks from.0 all) (λ e. all))

pub inserts_named : (tx : TxId) (birth : Birth) (rs : Records) (k : Option ℕ) (locks : Locks) → tx_has_spelling tx ≡ true → Holders locks → Holders (inserted_locks tx birth rs k locks)
inserts_named tx birth rs None locks n all = all
inserts_named tx birth rs (Some k) locks n all =
    takes_named tx birth (need (At k) (on_key X) ∷ []) (split_gap (lower_anchor k rs) (At k) locks) n (copies_named (lower_anchor k rs) (At k) locks locks all all)

pub close_named : (tx : TxId) (locks : Locks) → Holders locks → Holders (close_locks tx locks)
close_named tx [] all = tt
close_named tx (r ∷ rs) all =
    (cond_both (tx_same tx (r.1).tx) (record r.1 { closed = true }) r.1 (λ (h : Holder). tx_has_spelling h.tx ≡ true) (λ e. all.0) (λ e. all.0), close_named tx rs all.1)

pub release_named : (txs : List TxId) (locks : Locks) → Holders locks → Holders (release txs locks)
release_named txs locks all = all_filter (λ r. tx_has_spelling (r.1).tx ≡ true) (λ r. not (tx_in (r.1).tx txs)) locks all

violated_named : (tx : TxId) (needs : List Need) (locks : Locks) (so_far : List TxId) → Holders locks → Named so_far → Named (violated_by tx needs locks so_far)
violated_named tx needs [] so_far all n = n
violated_named tx needs (r ∷ rs) so_far all n =
    violated_named tx needs rs (cond (not (tx_same tx (r.1).tx) && (r.1).closed && meets writes needs r) (tx_insert (r.1).tx so_far) so_far) all.1
    (cond_both (not (tx_same tx (r.1).tx) && (r.1).closed && meets writes needs r) (tx_insert (r.1).tx so_far) so_far Named (λ e. named_insert (r.1).tx so_far all.0 n) (λ e. n))

pub violated_are_named : (tx : TxId) (needs : List Need) (locks : Locks) → Holders locks → Named (violated tx needs locks)
violated_are_named tx needs locks all = violated_named tx needs locks [] all tt

pub restored_named : (n : ℕ) (txs : List TxId) (ws : List StandingUpdate) (locks : Locks) → AreFit n ws → Holders locks → Holders (restored_locks txs ws locks)
restored_named n txs [] locks f all = all
restored_named n txs (w ∷ ws) locks f all =
    let lock : Holder = record { tx = w.tx; birth = old_birth w.tx; mode = on_key (part_of w.change); closed = true } in
    restored_named n txs ws (cond (tx_in w.tx txs) (take_one (At w.key) lock locks) locks) f.1
    (cond_both (tx_in w.tx txs) (take_one (At w.key) lock locks) locks Holders (λ e. take_named (At w.key) lock locks f.0.1 all) (λ e. all))

-- ---- pairs

abbrev pub Seconds : List (TxId × TxId) → Type 0
Seconds pairs = AllByRecursion (λ p. tx_has_spelling p.1 ≡ true) pairs

insert_second : (q : TxId × TxId) (ps : List (TxId × TxId)) → tx_has_spelling q.1 ≡ true → Seconds ps → Seconds (pair_insert q ps)
insert_second q [] n all = (n, tt)
insert_second q (p ∷ ps) n all = at (pair_cmp q p) (insert_second q ps n all.1)
  where
    at : (o : Ordering) → Seconds (pair_insert q ps) → Seconds (match_ordering o (q ∷ p ∷ ps) (p ∷ ps) (p ∷ pair_insert q ps))
    at Less more = (n, all)
    at Equal more = all
    at Greater more = (all.0, more)

pub add_seconds : (tx : TxId) (qs : List TxId) (ps : List (TxId × TxId)) → Named qs → Seconds ps → Seconds (add_pairs tx qs ps)
add_seconds tx [] ps n all = all
add_seconds tx (q ∷ qs) ps n all = add_seconds tx qs (pair_insert (tx, q) ps) n.1 (insert_second (tx, q) ps n.0 all)

-- ---- records

abbrev pub Values : Records → Type 0
Values rs = AllByRecursion (λ r. is_value r.1 ≡ true) rs

pub set_value : (k : ℕ) (v : Option ValueType) (rs : Records) → is_value v ≡ true → Values rs → Values (record_set k v rs)
set_value k v [] n all = (n, tt)
set_value k v (r ∷ rs) n all = at (nat_cmp k r.0) (set_value k v rs n all.1)
  where
    at : (o : Ordering) → Values (record_set k v rs) → Values (match_ordering o ((k, v) ∷ r ∷ rs) ((r.0, v) ∷ rs) (r ∷ record_set k v rs))
    at Less more = (n, all)
    at Equal more = (n, all.1)
    at Greater more = (all.0, more)

found_value : (k : ℕ) (rs : Records) → Values rs → is_value (live_of (found_by (lookup (◌==◌ k) rs))) ≡ true
found_value k [] all = refl
found_value k (r ∷ rs) all = at (k == r.0) (found_value k rs all.1)
  where
    of : (v : Option ValueType) → is_value v ≡ true → is_value (live_of (found_by (Some v))) ≡ true
    of None n = refl
    of (Some v) n = n

    at : (b : Bool) → is_value (live_of (found_by (lookup (◌==◌ k) rs))) ≡ true → is_value (live_of (found_by (cond b (Some r.1) (lookup (◌==◌ k) rs)))) ≡ true
    at true more = of r.1 all.0
    at false more = more

pub value_fits : (k : ℕ) (rs : Records) → Values rs → is_value (value_at k rs) ≡ true
value_fits k rs all = found_value k rs all

undone_fits : (gone : StandingUpdate → Bool) (k n : ℕ) (ws : List StandingUpdate) (v : Option ValueType) → AreFit n ws → is_value v ≡ true → is_value (undone_at gone k ws v) ≡ true
undone_fits gone k n [] v f h = h
undone_fits gone k n (w ∷ ws) v f h =
    undone_fits gone k n ws (cond (gone w && (k == w.key)) (unchanged w.change v) v) f.1
    (cond_both (gone w && (k == w.key)) (unchanged w.change v) v (λ o. is_value o ≡ true) (λ e. unchanged_fits w.change v f.0.3 h) (λ e. h))

pub undone_values : (gone : StandingUpdate → Bool) (n : ℕ) (ws : List StandingUpdate) (rs : Records) → AreFit n ws → Values rs → Values (records_without gone ws rs)
undone_values gone n ws [] f all = tt
undone_values gone n ws (r ∷ rs) f all = (undone_fits gone r.0 n ws r.1 f all.0, undone_values gone n ws rs f all.1)
