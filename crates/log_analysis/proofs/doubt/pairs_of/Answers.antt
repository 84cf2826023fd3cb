use Rattle.std.proofs.Common.{◌≡◌, ◌∙◌, arith}
use Rattle.std.proofs.lemmas.Grind.{common_steps}
use Rattle.log_analysis.specs.Doubt.{pairs_from}
use Rattle.log_analysis.proofs.Doubted.{pairs_are}
use Rattle.log_analysis.proofs.doubt.pairs_of.Goals as goal

pub returns : goal.returns
returns c =
    let walked : c.loop-tx.pairs.items ≡ pairs_from c.args.facts.now c.args.records.now c.args.txs.now = grind (arith, common_steps) in
    walked ∙ pairs_are c.args.facts.now c.args.records.now c.requires c.args.txs.now
