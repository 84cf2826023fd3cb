use Rattle.std.proofs.Common.{◌∙◌, ◌<◌, sym, ap, subst, refl, arith, suc, length, get_or, slice_index_or, vec_len}
use Rattle.session_api.specs.Standing.{IsAtRest}
use Rattle.session_examples.specs.Walkers.{IsSeated}
use Rattle.session_examples.proofs.Walking.{rests_as, rest_new, all_behind}
use Rattle.session_examples.proofs.Seats.{seat_rests}
use Rattle.session_examples.proofs.together.transfer_and_drain.Goals as goal
use Rattle.law_base.proofs.Lists.{elem_at as some_one, get_or_taken as written}

pub drain_together-requires-clause-rest : goal.drain_together-requires-clause-rest
drain_together-requires-clause-rest g c κs within =
    let many = c.run_together.auto.seats in
    λ k d l. let y = (slice_index_or c.run_together.new.seats k d).session in rests_as y.shards.now y.walker.number y.walker y.progress (c.run_together.ensures.session k d (omega arith)) refl

pub returns-clause-rest : goal.returns-clause-rest
returns-clause-rest g c =
    let sh = c.args.shards.now in let ws = c.args.walkers.now in let taken = c.take_seats-seats.result in let value = c.as_mut_slice-all.ensures.value in let slice = c.as_mut_slice-all.ensures.len in
    let run = c.run_together.ensures in let ran = c.run_together.auto.seats in let drained = c.drain_together.auto.seats in let S = c.drain_together.new.seats in
    let first = c.take_seats-seats.ensures.first in let long = c.take_seats-seats.ensures.len in let left = c.leave_seats.ensures in let back = left.len in let okT = taken.ok in let okV = c.leave_seats.new.walkers.ok in let okW = ws.ok in
    let some = c.requires.some in
    all_behind sh c.leave_seats.new.walkers.items (vec_len taken) (omega arith)
    (λ d. subst (λ w. IsAtRest sh 0 w) (sym (left.first d ∙ first d)) (rest_new sh 0 0 _ (c.requires.new 0 d (omega arith))))
    (λ k d l. (let low : k < length S = omega arith in let e = some_one S k low in
    let o = (get_or taken.items k e).session in let y = (get_or c.run_together.new.seats k e).session in
    let was = subst (λ z. IsSeated sh (suc k) (get_or z k e).session.shards.now (get_or z k e).session.walker (get_or z k e).session.progress (get_or z k e).session.saves.items) (sym value) (c.take_seats-seats.ensures.seated k e l) in
    let s = (get_or c.as_mut_slice-all.result.now k e).session in
    subst (λ w. IsAtRest sh (suc k) w) (sym (left.walkers k d e (omega arith) ∙ ap (λ z. z.session.walker) (written S _ taken.len k e (omega arith) low)))
    (seat_rests sh s.shards.now y.shards.now (suc k) s.walker y.walker (get_or S k e).session.walker s.progress s.saves.items was (run.shards k e (omega arith)) (run.number k e (omega arith)) (c.drain_together.ensures.rest k e (omega arith)))))
