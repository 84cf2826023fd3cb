use Rattle.std.proofs.Common.{◌≡◌, ℕ, length, vec_capacity}
use Rattle.disk_memory.proofs.Slots.{IsEmptyAt}
use Rattle.disk_memory.proofs.house.MemoryHouse.new.Given as goal

abbrev pub invariant-loop : goal.invariant-loop
invariant-loop l = record { many : length l.slots.items ≡ l.counter; room : vec_capacity l.slots ≡ 16; empty : (shard : ℕ) → IsEmptyAt l.slots.items shard }
