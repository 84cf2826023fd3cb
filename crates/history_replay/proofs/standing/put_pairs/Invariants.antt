use Rattle.std.proofs.Common.{◌≡◌, drop}
use Rattle.clv_base.specs.Maps.{with_pairs}
use Rattle.history_replay.proofs.standing.put_pairs.Given as goal

-- the later ones are put
abbrev pub invariant-loop-place : goal.invariant-loop-place
invariant-loop-place l = l.pairs ≡ with_pairs (drop l.place l.base) l.fn.pairs
