-- A loop that closes the holders one after another.
use Rattle.std.proofs.Common.{ap, ◌∙◌, set, arith}
use Rattle.std.proofs.lemmas.List.Edits.{map_over_more}
use Rattle.clv_base.specs.Locks.{close_holder}
use Rattle.lock_index.proofs.group.close.Goals as goal
use Rattle.law_base.proofs.Lists.{own_default}

pub loop-holder-preserved : goal.loop-holder-preserved
loop-holder-preserved c = let hs = c.args.holders.now in let ys = c.loop-holder.holders in let i = c.loop-holder.holder-index in let now = c.loop-holder.invariant in
    ap (set ys i) c.close_one.ensures ∙ map_over_more (close_holder c.args.tx) hs ys i _ c.loop-holder-test.true now (own_default ys i _ (omega (arith, c.loop-holder.auto.holders, c.loop-holder-test.true)))
