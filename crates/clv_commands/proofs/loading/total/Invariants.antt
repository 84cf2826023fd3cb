use Rattle.std.proofs.Common.{◌≡◌, ◌+◌, drop}
use Rattle.clv_base.specs.Maps.{map_between}
use Rattle.report_text.specs.Loads.{values_sum}
use Rattle.clv_commands.proofs.loading.total.Given as goal

-- the sum so far and that of what is left are that of all
abbrev pub invariant-loop-pair : goal.invariant-loop-pair
invariant-loop-pair l = l.sum + values_sum (map_between 0 l.last (drop l.pair-index l.pairs)) ≡ values_sum (map_between 0 l.last l.pairs)
