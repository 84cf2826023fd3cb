use Rattle.std.proofs.Common.{take, subst, sym}
use Rattle.std.proofs.lemmas.List.{take_more}
use Rattle.log_rules.specs.Adding.{BarsAll}
use Rattle.log_rules.proofs.Barring.{bars_more}
use Rattle.log_rules.proofs.index.Index.bar_all.Goals as goal

pub loop-tx-preserved : goal.loop-tx-preserved
loop-tx-preserved c =
    subst (BarsAll c.args.self.now c.bar.new.self) (sym (take_more c.args.txs.now c.loop-tx.tx-index _ c.loop-tx-test.true))
    (bars_more c.args.self.now c.loop-tx.self c.bar.new.self _ (take c.loop-tx.tx-index c.args.txs.now) c.loop-tx.invariant c.in_ok-bar.ensures)
