use Rattle.std.proofs.Common.{◌≡◌, map, drop}
use Rattle.clv_base.specs.declared.shard_log.FileRecord.TheVariants.{Base}
use Rattle.checkpoint_taking.specs.Cut.{cut}
use Rattle.checkpoint_taking.proofs.parts.put_pairs.Given as goal

-- with those that are left all are put
abbrev pub invariant-loop-pair : goal.invariant-loop-pair
invariant-loop-pair l = cut l.batches (map (λ p. Base p.0 p.1) (drop l.pair-index l.pairs)) ≡ cut l.fn.batches (map (λ p. Base p.0 p.1) l.pairs)
