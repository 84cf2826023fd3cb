use Rattle.std.proofs.Common.{◌≡◌, List, [], ◌∷◌, ◌++◌, take, subst, ap, sym, ◌∙◌, arith}
use Rattle.std.proofs.lemmas.List.{take_more}
use Rattle.callers.specs.declared.store_calls.StoreCall.{StoreCall}
use Rattle.callers.specs.StoreRuns.{answers_of, records_after}
use Rattle.callers.proofs.StoreLonger.{answers-longer, records-longer}
use Rattle.callers.proofs.store_running.run_calls.Goals as goal

pub loop-call-preserved : goal.loop-call-preserved
loop-call-preserved g c =
    let calls = c.args.calls.now in let i = c.loop-call.call-index in let call = c.call-item.result in let told = c.loop-call.answers.items in let answer = c.in_ok-run_call.field-0 in
    let start = g.S.Store.records c.args.store.now in let between = g.S.Store.records c.loop-call.store in let after = g.S.Store.records c.run_call.new.store in
    let so_far = c.loop-call.invariant.records in
    let answers = answers-longer (take i calls) call start between so_far told answer c.loop-call.invariant.answers c.in_ok-run_call.ensures.answer in
    let records = records-longer (take i calls) call start between so_far after c.in_ok-run_call.ensures.records in
    let so_many = ap (λ x. take i calls ++ x ∷ []) c.call-item.is ∙ sym (take_more calls i call c.loop-call-test.true) in
    record {
      answers = c.push_reserved.ensures.items ∙ subst (λ (cs : List StoreCall). told ++ answer ∷ [] ≡ answers_of cs start) so_many answers;
      records = subst (λ (cs : List StoreCall). after ≡ records_after cs start) so_many records;
      count = (let n = c.loop-call.invariant.count in let m = c.push_reserved.ensures.len in omega arith);
      room = (let n = c.loop-call.invariant.room in let m = c.push_reserved.ensures.capacity in omega arith);
    }
