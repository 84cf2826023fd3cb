use Rattle.std.proofs.Common.{◌≡◌, [], ◌∙◌, arith}
use Rattle.std.proofs.lemmas.Grind.{common_steps}
use Rattle.log_analysis.specs.Doubt.{doubted_from}
use Rattle.log_analysis.proofs.Doubted.{in_doubt_is}
use Rattle.log_analysis.proofs.doubt.doubted.Goals as goal

pub returns : goal.returns
returns c =
    let walked : c.loop-r.so_far ≡ doubted_from c.args.facts.now c.args.shard c.args.records.now [] = grind (arith, common_steps) in
    walked ∙ in_doubt_is c.args.facts.now c.args.records.now c.requires c.args.shard
