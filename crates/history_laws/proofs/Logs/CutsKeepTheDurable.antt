-- What a crash keeps isn't less than what is durable.
use Rattle.std.proofs.Common.{◌≡◌, refl, ℕ, ◌≤◌, true, false, cond, Bool, Option, Some, None, arith}
use Rattle.std.specs.Prelude.{unwrap_or}
use Rattle.clv_base.specs.State.{Shard}
use Rattle.history_cases.proofs.Durability.{Counted}

cut_by : (s : Shard) (f : Option ℕ) → Counted s → s.flight ≡ f → s.durable ≤ unwrap_or f s.durable
cut_by s None c e = omega arith
cut_by s (Some n) c e = (c.flying n e).0

pub cut_above : (s : Shard) (kept : Bool) → Counted s → s.durable ≤ cond kept (unwrap_or s.flight s.durable) s.durable
cut_above s true c = cut_by s s.flight c refl
cut_above s false c = omega arith
