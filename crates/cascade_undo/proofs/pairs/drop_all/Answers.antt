use Rattle.std.proofs.Common.{◌≤◌, List, length, sym, ◌∙◌, arith}
use Rattle.std.proofs.lemmas.List.{at_drop_all}
use Rattle.clv_base.specs.declared.names.TxId.{TxId}
use Rattle.clv_base.specs.Undo.{pairs_without}
use Rattle.cascade_undo.specs.Pairs.{pairs_in}
use Rattle.cascade_undo.proofs.Runs.{without_next, without_none}
use Rattle.cascade_undo.proofs.pairs.drop_all.Goals as goal

nobody : TxId
nobody = record { run = 0; session = 0; serial = 0 }

pub loop-tx-preserved : goal.loop-tx-preserved
unfolding nobody
loop-tx-preserved c =
    let i = c.loop-tx.tx-index in let set = c.args.set.now in let e = c.drop_own.ensures in let before = c.loop-tx.invariant in
    record {
      pairs = without_next set i nobody c.loop-tx-test.true (pairs_in c.loop-tx.pairs.lists) (pairs_in c.drop_own.new.pairs.lists) e.pairs ∙ before.pairs;
      turned = e.turned;
      few = e.few;
      less = let one = e.less in let all = before.less in omega (arith, one, all);
    }

pub returns-clause-pairs : goal.returns-clause-pairs
returns-clause-pairs c =
    let set = c.args.set.now in let i = c.loop-tx.tx-index in let ps = pairs_in c.loop-tx.pairs.lists in let over : length set ≤ i = omega arith in
    sym (at_drop_all (λ (s : List TxId). pairs_without s ps) set i over ∙ without_none ps) ∙ c.loop-tx.invariant.pairs
