-- Decisions that come.
use Rattle.std.proofs.Common.{◌≡◌, refl, Bool, true, false, ◌&&◌, Option, Some, None, is_some}
use Rattle.std.proofs.lemmas.Bool.{both_ways}
use Rattle.clv_base.specs.declared.names.TxId.{TxId}
use Rattle.clv_base.specs.Orders.{tx_in}
use Rattle.clv_base.specs.declared.state.Stage.{Stage}
use Rattle.clv_base.specs.declared.state.Taken.TheVariants.{Waiting as IsAwaited}
use Rattle.clv_base.specs.State.{Shard}
use Rattle.clv_base.specs.Undo.{stage_of}
use Rattle.clv_base.specs.Facts.{facts_of, is_closed_state, state_by}
use Rattle.clv_base.specs.Participant.{taken_if, taken_by}
use Rattle.due_step.specs.Noting.{known_keys}
use Rattle.shard_core.proofs.Taking.{stage_known}

-- who waits for a decision has a part here
pub awaited_known : (s : Shard) (tx : TxId) (commit : Bool) → taken_by (facts_of s tx) commit ≡ IsAwaited → tx_in tx (known_keys s) ≡ true
awaited_known s tx commit e = stage_known s tx (closed (stage_of s.local tx) (waits _ _ _ e))
  where
    waits : (a b d : Bool) → taken_if (a && b) d ≡ IsAwaited → a ≡ true
    waits true b d h = refl
    waits false b true h = absurd cc
    waits false b false h = absurd cc

    closed : (o : Option Stage) → is_closed_state (state_by o) ≡ true → is_some o ≡ true
    closed None h = absurd (both_ways false refl h)
    closed (Some st) h = refl
