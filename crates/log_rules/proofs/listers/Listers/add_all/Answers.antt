use Rattle.std.proofs.Common.{take, subst, sym}
use Rattle.std.proofs.lemmas.List.{take_more}
use Rattle.log_rules.specs.Listers.{ListsAll}
use Rattle.log_rules.proofs.Listing.{lists_more}
use Rattle.log_rules.proofs.listers.Listers.add_all.Goals as goal

pub loop-p-preserved : goal.loop-p-preserved
loop-p-preserved c =
    subst (ListsAll c.args.self.now c.add.new.self c.args.tx) (sym (take_more c.args.listed.now c.loop-p.p-index _ c.loop-p-test.true))
    (lists_more c.args.self.now c.loop-p.self c.add.new.self c.args.tx _ (take c.loop-p.p-index c.args.listed.now) c.loop-p.invariant c.in_ok-add.ensures)
