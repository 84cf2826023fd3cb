use Rattle.std.proofs.Common.{◌+◌, List, [], ◌∷◌, ◌++◌, take, subst, sym, arith}
use Rattle.std.proofs.lemmas.List.{take_more}
use Rattle.callers.specs.declared.lock_calls.LockCall.{LockCall}
use Rattle.callers.specs.declared.lock_answers.LockAnswer.{LockAnswer}
use Rattle.callers.specs.LockRuns.{Runs}
use Rattle.callers.proofs.LocksLonger.{runs-longer}
use Rattle.callers.proofs.lock_running.run_calls.Goals as goal

pub loop-call-preserved : goal.loop-call-preserved
loop-call-preserved g c =
    let calls = c.args.calls.now in let i = c.loop-call.call-index in let told = c.loop-call.answers.items in let answer = c.in_ok-run_call.field-0 in
    let before = g.L.Locks.rows c.args.locks.now in let between = g.L.Locks.rows c.loop-call.locks in let after = g.L.Locks.rows c.run_call.new.locks in
    let longer = runs-longer (take i calls) _ told answer before between after c.loop-call.invariant.made c.in_ok-run_call.ensures.ok in
    let made : Runs (take (i + 1) calls) (told ++ answer ∷ []) before after = subst (λ (cs : List LockCall). Runs cs (told ++ answer ∷ []) before after) (sym (take_more calls i _ c.loop-call-test.true)) longer in
    record {
      made = subst (λ (answers : List LockAnswer). Runs (take (i + 1) calls) answers before after) (sym c.push_reserved.ensures.items) made;
      count = (let n = c.loop-call.invariant.count in let m = c.push_reserved.ensures.len in omega arith);
      room = (let n = c.loop-call.invariant.room in let m = c.push_reserved.ensures.capacity in omega arith);
    }
