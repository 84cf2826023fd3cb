-- A session's last transaction, if it began any.
use Rattle.std.specs.Prelude.{◌≡◌, ℕ}
use Rattle.clv_base.specs.Sessions.{Phase, Ended}

-- it bears the run, and its serial is at least 1; before the first one the session is as one that has ended
pub record IsPlaced (run serial : ℕ) (phase : Phase) : Type 0 where
  pub bears : run ≡ 1
  pub idle : serial ≡ 0 → phase ≡ Ended
