use Rattle.std.proofs.Common.{◌≡◌, drop}
use Rattle.checkpoint_taking.specs.Cut.{cut}
use Rattle.checkpoint_taking.specs.Kept.{kept_by, kept_places}
use Rattle.checkpoint_taking.specs.Lsns.{has_lsn}
use Rattle.checkpoint_taking.proofs.parts.put_places.Given as goal

-- with those that are left all are put
abbrev pub invariant-loop-place : goal.invariant-loop-place
invariant-loop-place l =
    cut l.batches (kept_places (kept_by l.facts l.log (has_lsn l.stands) l.shard) l.place (drop l.place l.log)) ≡ cut l.fn.batches (kept_places (kept_by l.facts l.log (has_lsn l.stands) l.shard) 1 (drop 1 l.log))
