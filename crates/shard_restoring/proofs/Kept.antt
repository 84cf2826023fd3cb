-- What holds of the state after a restart: each part in doubt can be taken away.
use Rattle.std.proofs.Common.{◌≡◌, ◌≤◌, ⊎_elim, refl, ap, ◌∙◌, ℕ, Bool, true, false, ◌&&◌, ◌||◌, List, [], ◌∷◌, Option, Some, None, arith}
use Rattle.std.proofs.lemmas.Bool.{both_ways, cases_Bool}
use Rattle.clv_base.specs.declared.values.Value.{Value as ValueType}
use Rattle.clv_base.specs.declared.names.TxId.{TxId}
use Rattle.clv_base.specs.declared.logs.LogRecord.{LogRecord}
use Rattle.clv_base.specs.declared.modes.Anchor.TheVariants.{At}
use Rattle.clv_base.specs.declared.modes.Part.TheVariants.{I}
use Rattle.clv_base.specs.declared.state.Held.{Held}
use Rattle.clv_base.specs.Orders.{tx_same, tx_in, anchor_same}
use Rattle.clv_base.specs.Logs.{StandingUpdate, standing, in_doubt, is_winner, fold_updates}
use Rattle.clv_base.specs.Locks.{Locks}
use Rattle.clv_base.specs.Needs.{found_by, is_there}
use Rattle.clv_base.specs.State.{Local, is_present}
use Rattle.clv_base.specs.Restarts.{local_after, records_of}
use Rattle.clv_base.proofs.SameNames.{or_left, or_right}
use Rattle.law_base.proofs.Cells.{record_at}
use Rattle.law_base.proofs.LockRows.{holds, row_holds}
use Rattle.txn_core.specs.Sound.{is_here, has_lock, IsHeld, owed_by, IsSound}
use Rattle.txn_core.proofs.Laws.{count_owed_fewer}
use Rattle.shard_restoring.proofs.Updates.{restored_away}
use Rattle.law_base.proofs.Names.{restored_there, own_in}
use Rattle.law_base.proofs.Lists.{all_mono}
use Rattle.law_base.proofs.Logs.{has_write_at, each_write_at, restored_have, locks_hold, ghosts_there}

-- ---- a lock with key I is a lock

first_two : (a b c : Bool) → (a && b && c) ≡ true → (a && b) ≡ true
first_two true true c h = refl
first_two true false c h = h
first_two false b c h = h

lock_from : (t : TxId) (k : ℕ) (locks : Locks) → holds true I (At k) t locks ≡ true → has_lock t k locks ≡ true
lock_from t k [] h = h
lock_from t k (r ∷ rs) h = at (row_holds true I (At k) t r) refl h (lock_from t k rs)
  where
    at : (b : Bool) → row_holds true I (At k) t r ≡ b → (b || holds true I (At k) t rs) ≡ true → (holds true I (At k) t rs ≡ true → has_lock t k rs ≡ true) → ((anchor_same (At k) r.0 && tx_same t (r.1).tx) || has_lock t k rs) ≡ true
    at true e i more = or_left _ _ (first_two (anchor_same (At k) r.0) (tx_same t (r.1).tx) _ e)
    at false e i more = or_right (anchor_same (At k) r.0 && tx_same t (r.1).tx) _ (more i)

there_by : (o : Option (Option ValueType)) → (o ≡ None → ⊥) → is_there (found_by o) ≡ true
there_by None h = absurd (h refl)
there_by (Some None) h = refl
there_by (Some (Some v)) h = refl

-- ---- those in doubt

module _ (shard epoch : ℕ) (log : List LogRecord) where
  abbrev l : Local
  l = local_after shard epoch log

  abbrev txs : List TxId
  txs = in_doubt shard log

  abbrev here_by : Option Held → Bool
  here_by o = is_present (elim o [ Some h ↦ Some h.stage | None ↦ None ])

  in_here : (t : TxId) → tx_in t txs ≡ true → is_here l t ≡ true
  in_here t i = ap here_by (restored_there txs t i)

  here_in : (t : TxId) → is_here l t ≡ true → tx_in t txs ≡ true
  here_in t h = ⊎_elim (λ i. i) (λ o. absurd (both_ways _ (ap here_by (restored_away txs t o)) h)) (cases_Bool (tx_in t txs))

  held : (w : StandingUpdate) → has_write_at (standing log) w.tx w.key ≡ true → IsHeld l w
  held w u = λ h.
      let i = here_in w.tx h in (
        there_by (record_at w.key l.records) (ghosts_there txs (standing log) (records_of (fold_updates (is_winner shard log) log [])) w.tx w.key i u),
        lock_from w.tx w.key l.locks (locks_hold txs (standing log) [] w.tx w.key i u),
      )

  pub restored_sound : (ss : List TxId) (room : ℕ) → ((t : TxId) → tx_in t ss ≡ tx_in t txs) → owed_by (λ t. tx_in t ss) log ≤ room → IsSound l room
  restored_sound ss room same enough = record {
    successors = restored_have (λ t. is_here l t ≡ true) log txs (all_mono (λ t. tx_in t txs ≡ true) (λ t. is_here l t ≡ true) in_here txs (own_in txs));
    writes = all_mono (λ w. has_write_at (standing log) w.tx w.key ≡ true) (IsHeld l) held (standing log) (each_write_at (standing log));
    room = let a = count_owed_fewer (is_here l) (λ t. tx_in t ss) log (λ t h. same t ∙ here_in t h) in omega (arith, a, enough);
  }
