-- What a COMMIT that was done leaves of its part.
use Rattle.std.specs.Prelude.{◌≡◌, false, None}
use Rattle.clv_base.specs.declared.names.TxId.{TxId}
use Rattle.clv_base.specs.State.{Local}
use Rattle.clv_base.specs.Undo.{stage_of}
use Rattle.clv_base.specs.Facts.{doom_by, is_closed_state, state_by}

-- it isn't closed any more, and no abort took it away
pub record IsFinished (l : Local) (tx : TxId) : Type 0 where
  pub closed : is_closed_state (state_by (stage_of l tx)) ≡ false
  pub doom : doom_by (stage_of l tx) ≡ None
