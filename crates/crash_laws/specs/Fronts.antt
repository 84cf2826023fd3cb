-- What is in a shard's log, and when the end of a flush may come.
use Rattle.std.specs.Prelude.{◌≡◌, ◌≤◌, ◌<◌, ◌+◌, ◌^◌, ℕ, true, length, Some}
use Rattle.clv_base.specs.State.{Shard}

-- what is durable and what is in flight is in the log
pub record FrontsFit (s : Shard) : Type 0 where
  pub within : s.durable ≤ length s.local.log
  pub flying : (n : ℕ) → s.flight ≡ Some n → (s.durable ≤ n) × (n ≤ length s.local.log)

-- while the shard is up and records are in flight, there is a stamp for a walker with this clock
abbrev pub LandsBy : ℕ → Shard → Type 0
LandsBy clock s = s.is_up ≡ true → (n : ℕ) → s.flight ≡ Some n → (s.last < 2 ^ 48) × (clock < 2 ^ 48 + 15)
