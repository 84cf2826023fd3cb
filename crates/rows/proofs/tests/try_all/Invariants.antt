-- No disk is out.
use Rattle.std.proofs.Common.{◌≡◌, ◌<◌, ℕ, false}
use Rattle.io_model.specs.Sides.{sides_out}
use Rattle.disk_memory.specs.House.{is_out_at}
use Rattle.rows.proofs.tests.try_all.Given as goal

abbrev pub invariant-loop-row : goal.invariant-loop-row
invariant-loop-row g l = (n : ℕ) → n < 16 → sides_out (is_out_at l.house.slots.items) n ≡ (false, false)
