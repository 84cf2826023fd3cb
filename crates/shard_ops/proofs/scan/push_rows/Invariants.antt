use Rattle.std.proofs.Common.{◌≡◌, ◌++◌, map, take}
use Rattle.clv_base.specs.declared.modes.Part.TheVariants.{S as Shared}
use Rattle.clv_base.specs.declared.modes.Anchor.TheVariants.{At}
use Rattle.clv_base.specs.Modes.{on_both as both_mode}
use Rattle.clv_base.specs.Needs.{need}
use Rattle.shard_ops.proofs.scan.push_rows.Given as goal

abbrev pub invariant-loop-row : goal.invariant-loop-row
invariant-loop-row l = (l.needs).items ≡ l.initial.needs.items ++ map (λ r. need (At r.0) (both_mode Shared)) (take l.row-index l.rows)
