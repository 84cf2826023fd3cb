use Rattle.std.proofs.Common.{◌≡◌, List, length, sym, subst, ◌∙◌, ap, arith}
use Rattle.clv_base.specs.declared.names.TxId.{TxId}
use Rattle.tx_table.specs.Lists.{list_in}
use Rattle.cascade_undo.specs.Pairs.{AreTurned, pairs_in, left_by}
use Rattle.cascade_undo.proofs.Listed.{pairs_less, left_turned, own_and_others}
use Rattle.cascade_undo.proofs.pairs.drop_own.Goals as goal

pub returns-clause-pairs : goal.returns-clause-pairs
returns-clause-pairs c = pairs_less c.args.pairs.now.lists c.take-own.new.self.lists c.args.tx c.take-own.ensures.lists

pub returns-clause-turned : goal.returns-clause-turned
returns-clause-turned c = let tx = c.args.tx in let lists = c.args.pairs.now.lists in let turned = c.args.turned.now.lists in let after = c.drop_empty.new.self.lists in
    subst (λ (ps : List (TxId × TxId)). AreTurned ps (pairs_in after)) (sym (pairs_less lists c.take-own.new.self.lists tx c.take-own.ensures.lists))
    (left_turned lists turned after tx c.requires.turned
    (λ p. c.drop_empty.ensures p ∙ c.leave_all-gone.ensures.lists p ∙ ap (λ (xs : List TxId). left_by tx xs p (list_in p turned)) c.take-own.ensures.taken))

pub returns-clause-few : goal.returns-clause-few
returns-clause-few c = let tx = c.args.tx in let lists = c.args.pairs.now.lists in
    let all = own_and_others lists tx c.take-own.ensures.rising in let now = ap length (pairs_less lists c.take-own.new.self.lists tx c.take-own.ensures.lists) in
    let gone : c.leave_all-gone.result ≡ length (list_in tx lists) = c.leave_all-gone.ensures.count ∙ ap length c.take-own.ensures.taken in
    let few = c.requires.few in omega (arith, all, now, gone, few)

pub overflow_sub-count : goal.overflow_sub-count
overflow_sub-count c = let tx = c.args.tx in let lists = c.args.pairs.now.lists in
    let all = own_and_others lists tx c.take-own.ensures.rising in
    let gone : c.leave_all-gone.result ≡ length (list_in tx lists) = c.leave_all-gone.ensures.count ∙ ap length c.take-own.ensures.taken in
    let few = c.requires.few in omega (arith, all, gone, few)
