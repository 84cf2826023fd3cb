-- A pair that is there is put in once more, which changes nothing.
use Rattle.std.proofs.Common.{sym, ◌∙◌}
use Rattle.law_base.proofs.Rising.{insert_there}
use Rattle.cascade_undo.proofs.Runs.{pair_total}
use Rattle.cascade_undo.proofs.Members.{in_predecessors}
use Rattle.cascade_undo.proofs.deps.Deps.add.Goals as goal

pub add_new-requires-clause-new : goal.add_new-requires-clause-new
add_new-requires-clause-new c = sym c.is_predecessor.ensures.is ∙ c.if-not-is_predecessor.true

pub add_new-requires-clause-behind : goal.add_new-requires-clause-behind
add_new-requires-clause-behind c = c.requires.behind (sym c.is_predecessor.ensures.is ∙ c.if-not-is_predecessor.true)

pub returns-else-not-is_predecessor-clause-pairs : goal.returns-else-not-is_predecessor-clause-pairs
returns-else-not-is_predecessor-clause-pairs c = let tx = c.args.tx in let pred = c.args.pred in let pairs = c.args.self.now.pairs in
    sym (insert_there pair_total (tx, pred) pairs c.is_predecessor.ensures.rising (in_predecessors tx pred pairs ∙ sym c.is_predecessor.ensures.is ∙ c.if-not-is_predecessor.false))
