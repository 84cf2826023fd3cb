-- What a restart restores of those in doubt: locks, parts, and a record at each key that they wrote.
use Rattle.std.proofs.Common.{◌≡◌, refl, sym, ap, ◌∙◌, ℕ, Bool, true, false, cond, ◌==◌, List, [], ◌∷◌, Option, Some, None, eqb-true}
use Rattle.std.proofs.lemmas.Bool.{both_ways, cond_both}
use Rattle.clv_base.specs.declared.names.TxId.{TxId}
use Rattle.clv_base.specs.declared.modes.Anchor.TheVariants.{At}
use Rattle.clv_base.specs.declared.state.Stage.{Stage}
use Rattle.clv_base.specs.declared.state.Stage.TheVariants.{Closed}
use Rattle.clv_base.specs.Orders.{tx_same, tx_in, tx_get}
use Rattle.clv_base.specs.Logs.{StandingUpdate}
use Rattle.clv_base.specs.declared.modes.Found.{Found}
use Rattle.clv_base.specs.declared.modes.Found.TheVariants.{Live, Ghost, Absent}
use Rattle.clv_base.specs.Locks.{Locks, take_one}
use Rattle.clv_base.specs.Needs.{Records, found_at, value_at}
use Rattle.clv_base.specs.Restarts.{with_ghosts, ghost_if_absent, part_of, restored_locks, restored_parts, restored_part}
use Rattle.clv_base.proofs.SameNames.{or_left, or_right, tx_flip}
use Rattle.law_base.proofs.Cells.{record_at, live_by}
use Rattle.law_base.proofs.Anchors.{Rising, record_at_set, rising_set}
use Rattle.law_base.proofs.Tables.{stage_in, stage_by}
use Rattle.law_base.proofs.LockRows.{Rows, rows_take}
use Rattle.shard_laws.proofs.Keeping.WhatOneShardKeeps.{Belongs}
use Rattle.law_base.proofs.Names.{shut_lock, restored_there}
use Rattle.law_base.proofs.Options.{absent_is}

-- ---- parts

pub restored_closed : (txs : List TxId) (t : TxId) → tx_in t txs ≡ true → stage_in (restored_parts txs) t ≡ Some Closed
restored_closed txs t i = ap stage_by (restored_there txs t i)

pub restored_stage : (txs : List TxId) (t : TxId) (st : Stage) → stage_in (restored_parts txs) t ≡ Some st → (st ≡ Closed) × (tx_in t txs ≡ true)
restored_stage [] t st e = absurd cc
restored_stage (x ∷ xs) t st e = at (tx_same t x) refl e (restored_stage xs t st)
  where
    some_stage : (a b : Stage) → Some a ≡ Some b → a ≡ b
    some_stage a b f = cc

    at : (b : Bool) → tx_same t x ≡ b → stage_by (cond b (Some (restored_part x)) (tx_get t (restored_parts xs))) ≡ Some st → (stage_in (restored_parts xs) t ≡ Some st → (st ≡ Closed) × (tx_in t xs ≡ true)) → (st ≡ Closed) × (tx_in t (x ∷ xs) ≡ true)
    at true f g k = (sym (some_stage Closed st g), or_left _ _ (tx_flip t x f))
    at false f g k = let r = k g in (r.0, or_right (tx_same x t) _ r.1)

pub restored_none : (txs : List TxId) (t : TxId) → tx_in t txs ≡ false → stage_in (restored_parts txs) t ≡ None
restored_none txs t i = at (stage_in (restored_parts txs) t) refl
  where
    at : (o : Option Stage) → stage_in (restored_parts txs) t ≡ o → o ≡ None
    at None e = refl
    at (Some st) e = absurd (both_ways _ i (restored_stage txs t st e).1)

-- ---- locks

pub rows_restored : (txs : List TxId) (ws : List StandingUpdate) (locks : Locks) → Rows (Belongs (restored_parts txs)) locks → Rows (Belongs (restored_parts txs)) (restored_locks txs ws locks)
rows_restored txs [] locks h = h
rows_restored txs (w ∷ ws) locks h =
    rows_restored txs ws (cond (tx_in w.tx txs) (take_one (At w.key) (shut_lock w.tx (part_of w.change)) locks) locks)
    (cond_both (tx_in w.tx txs) (take_one (At w.key) (shut_lock w.tx (part_of w.change)) locks) locks (Rows (Belongs (restored_parts txs)))
    (λ i. rows_take (Belongs (restored_parts txs)) (At w.key) (shut_lock w.tx (part_of w.change)) locks (restored_part w.tx, restored_there txs w.tx i, refl, tt) h) (λ i. h))

-- ---- records

ghost_value : (k q : ℕ) (rs : Records) (f : Found) → found_at k rs ≡ f → value_at q (ghost_if_absent k rs f) ≡ value_at q rs
ghost_value k q rs (Live v) e = refl
ghost_value k q rs Ghost e = refl
ghost_value k q rs Absent e = ap live_by (record_at_set q k None rs) ∙ at (q == k) refl
  where
    at : (b : Bool) → (q == k) ≡ b → live_by (cond b (Some None) (record_at q rs)) ≡ live_by (record_at q rs)
    at true t = sym (ap live_by (ap (λ j. record_at j rs) (eqb-true q k t) ∙ absent_is (record_at k rs) e))
    at false t = refl

ghost_rises : (k : ℕ) (rs : Records) (f : Found) → Rising rs → Rising (ghost_if_absent k rs f)
ghost_rises k rs (Live v) h = h
ghost_rises k rs Ghost h = h
ghost_rises k rs Absent h = rising_set k None rs h

pub ghosts_value : (txs : List TxId) (ws : List StandingUpdate) (rs : Records) (q : ℕ) → value_at q (with_ghosts txs ws rs) ≡ value_at q rs
ghosts_value txs [] rs q = refl
ghosts_value txs (w ∷ ws) rs q =
    ghosts_value txs ws (cond (tx_in w.tx txs) (ghost_if_absent w.key rs (found_at w.key rs)) rs) q
    ∙ cond_both (tx_in w.tx txs) (ghost_if_absent w.key rs (found_at w.key rs)) rs (λ l. value_at q l ≡ value_at q rs) (λ e. ghost_value w.key q rs (found_at w.key rs) refl) (λ e. refl)

pub ghosts_rise : (txs : List TxId) (ws : List StandingUpdate) (rs : Records) → Rising rs → Rising (with_ghosts txs ws rs)
ghosts_rise txs [] rs h = h
ghosts_rise txs (w ∷ ws) rs h =
    ghosts_rise txs ws (cond (tx_in w.tx txs) (ghost_if_absent w.key rs (found_at w.key rs)) rs)
    (cond_both (tx_in w.tx txs) (ghost_if_absent w.key rs (found_at w.key rs)) rs Rising (λ e. ghost_rises w.key rs (found_at w.key rs) h) (λ e. h))
