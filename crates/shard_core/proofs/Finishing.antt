-- After a COMMIT was done.
use Rattle.std.proofs.Common.{◌≡◌, Bool, true, false, cond, ◌&&◌, ◌||◌, [], ◌∷◌, Option, Some, None, is_none, is_some, refl, ap}
use Rattle.clv_base.specs.declared.names.TxId.{TxId}
use Rattle.clv_base.specs.declared.parts.PartFacts.{PartFacts}
use Rattle.clv_base.specs.declared.state.Held.{Held}
use Rattle.clv_base.specs.declared.state.Stage.{Stage}
use Rattle.clv_base.specs.Orders.{Table, tx_get, tx_same}
use Rattle.clv_base.specs.State.{Shard, with_local}
use Rattle.clv_base.specs.Undo.{gone_in, gone_part}
use Rattle.clv_base.specs.Facts.{doom_by, facts_of, has_durable_commit, is_closed_state, is_waiting, state_by}
use Rattle.clv_base.specs.Due.{due_of}
use Rattle.due_step.proofs.Laws.{finds_nothing}
use Rattle.due_step.specs.declared.finding.Due.TheVariants.{Commit}
use Rattle.due_step.specs.Found.{carried}
use Rattle.clv_base.specs.OneShard.{purge}
use Rattle.two_phase_commit.specs.Coordinated.{ruling_of}
use Rattle.two_phase_commit.specs.Voting.{home_by}
use Rattle.shard_core.specs.Finished.{IsFinished}

abbrev stage_in : Option Held → Option Stage
stage_in o = elim o [ Some h ↦ Some h.stage | None ↦ None ]

abbrev Over : Option Stage → Type 0
Over o = (is_closed_state (state_by o) ≡ false) × (doom_by o ≡ None)

gone_over : (tx : TxId) (parts : Table Held) → Over (stage_in (tx_get tx (gone_in (tx ∷ []) None parts)))
gone_over tx [] = (refl, refl)
gone_over tx (p ∷ ps) = at (tx_same tx p.0) (gone_over tx ps)
  where
    at : (b : Bool) → Over (stage_in (tx_get tx (gone_in (tx ∷ []) None ps))) → Over (stage_in (cond b (Some (cond (b || false) (gone_part None p.1) p.1)) (tx_get tx (gone_in (tx ∷ []) None ps))))
    at true more = (refl, refl)
    at false more = more

pub commit_finishes : (s : Shard) (tx : TxId) → IsFinished (with_local purge (carried s tx Commit)).local tx
commit_finishes s tx = let o = gone_over tx s.local.parts in record { closed = o.0; doom = o.1 }

closed_and : (a b : Bool) → a ≡ false → (a && b) ≡ false
closed_and true b e = absurd cc
closed_and false b e = refl

-- nothing is due where nobody has to hear of it
pub finished_rests : (s : Shard) (tx : TxId) → IsFinished s.local tx → home_by (tx_get tx s.voters) ≡ None
    → ((f : PartFacts) → is_waiting f ≡ false → is_some f.doom ≡ false → ruling_of s.shard tx f (tx_get tx s.requests) ≡ None) → due_of s tx ≡ None
finished_rests s tx is voter request =
    let f = facts_of s tx in
    (finds_nothing s tx (closed_and (is_closed_state f.state) (has_durable_commit f) is.closed) voter
    (request f (closed_and (is_closed_state f.state) (is_none f.commit) is.closed) (ap is_some is.doom))).0
