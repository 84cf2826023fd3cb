use Rattle.std.proofs.Common.{◌≡◌, ◌+◌, ◌-◌, ◌≤◌, []}
use Rattle.std.specs.Prelude.{vec_len, vec_capacity}
use Rattle.interleaving_core.proofs.Beginning.{Begun}
use Rattle.interleaving_core.proofs.running.begin.Given as goal

abbrev pub invariant-loop-shard : goal.invariant-loop-shard
invariant-loop-shard g l =
    Begun (g.M.Machine.shard) (g.M.Machine.gate) l.seats.items l.shard l.count × (vec_len l.seats + (l.count - l.shard) ≤ vec_capacity l.seats) × (l.history.items ≡ [])
