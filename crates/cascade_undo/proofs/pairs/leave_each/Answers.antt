use Rattle.std.proofs.Common.{◌≤◌, List, length, sym, ◌∙◌, arith}
use Rattle.std.proofs.lemmas.List.{at_drop_all}
use Rattle.clv_base.specs.declared.names.TxId.{TxId}
use Rattle.tx_table.specs.Lists.{list_in}
use Rattle.cascade_undo.specs.Pairs.{left_by}
use Rattle.cascade_undo.proofs.Listed.{left_next}
use Rattle.cascade_undo.proofs.pairs.leave_each.Goals as goal

nobody : TxId
nobody = record { run = 0; session = 0; serial = 0 }

pub loop-pred-preserved : goal.loop-pred-preserved
unfolding nobody
loop-pred-preserved c = λ p. let tx = c.args.tx in let i = c.loop-pred.pred-index in let qs = c.args.preds.now in
    left_next tx qs i nobody c.loop-pred-test.true p (list_in p c.loop-pred.turned.lists) (list_in p c.leave.new.self.lists) (c.leave.ensures p) ∙ c.loop-pred.invariant p

pub returns : goal.returns
returns c = λ p. let tx = c.args.tx in let qs = c.args.preds.now in let i = c.loop-pred.pred-index in let over : length qs ≤ i = omega arith in
    sym (at_drop_all (λ (l : List TxId). left_by tx l p (list_in p c.loop-pred.turned.lists)) qs i over) ∙ c.loop-pred.invariant p
