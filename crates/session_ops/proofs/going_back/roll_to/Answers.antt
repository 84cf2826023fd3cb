use Rattle.std.proofs.Common.{◌≡◌, ◌∙◌, true, sym, ap, subst, refl, length, Ok, Err, add-one, arith}
use Rattle.clv_base.specs.Shards.{shard_count}
use Rattle.cluster_turns.specs.Notes.{is_noted}
use Rattle.session_ops.specs.WentBack.{MayRoll, RollIf}
use Rattle.session_ops.proofs.BackBelow.{SoFar, none_so_far, more_so_far, back_fails, all_back, left_undone, next_may, done_back}
use Rattle.session_ops.proofs.going_back.roll_to.Goals as goal

pub loop-shard-init : goal.loop-shard-init
loop-shard-init g c = let n = c.nth-nth.ensures.number in (c.requires.active, (refl, refl), none_so_far c.args.shards.now c.args.walker.now c.args.place.now c.args.upto, (omega arith))

pub roll_if_noted-requires-clause-may : goal.roll_if_noted-requires-clause-may
roll_if_noted-requires-clause-may g c = let i = c.loop-shard.invariant in
    subst (λ k. is_noted c.loop-shard.shard c.args.upto (c.loop-shard.place).written ≡ true → MayRoll c.loop-shard.place c.loop-shard.shard k c.args.upto) (sym i.3)
    (next_may c.args.shards.now c.args.walker.now c.args.place.now c.args.upto c.requires.active c.requires.stands c.loop-shard.shard c.loop-shard.walker c.loop-shard.place i.2)

pub loop-shard-preserved : goal.loop-shard-preserved
loop-shard-preserved g c = let w = c.args.walker.now in let p = c.args.place.now in let sh = c.args.shards.now in let u = c.loop-shard.walker in let v = c.roll_if_noted.new.walker in let m = c.loop-shard.place in let q = c.roll_if_noted.new.place in let i = c.loop-shard.invariant in let e = c.in-Ok.ensures in let n = c.loop-shard.shard in (
  e.stands,
  (e.walker.0 ∙ i.1.0, e.walker.1 ∙ i.1.1),
  subst (λ k. SoFar sh w p c.args.upto k v q) (sym (add-one n))
      (more_so_far sh w p c.args.upto c.requires.stands n u v m q c.in-Ok.field-0 i.1.0 i.2 (subst (λ k. RollIf (is_noted n c.args.upto m.written) (length sh.locks.items) u m k c.args.upto n (Ok c.in-Ok.field-0) v q) i.3 e.told)),
  i.3,
)

pub returns-in-Err-clause-told : goal.returns-in-Err-clause-told
returns-in-Err-clause-told g c = let w = c.args.walker.now in let p = c.args.place.now in let sh = c.args.shards.now in let u = c.loop-shard.walker in let v = c.roll_if_noted.new.walker in let m = c.loop-shard.place in let q = c.roll_if_noted.new.place in let i = c.loop-shard.invariant in let e = c.in-Err.ensures in let n = c.loop-shard.shard in
    let below = c.loop-shard-test.true in let end = c.shards-shard-end.ensures.shards ∙ ap shard_count c.splits.ensures in let count = c.requires.active.ready.walker.count in
    back_fails sh w p c.args.upto c.requires.stands n u v m q c.in-Err.error (omega arith) i.1.0 i.2 (subst (λ k. RollIf {A = Unit {0}} (is_noted n c.args.upto m.written) (length sh.locks.items) u m k c.args.upto n (Err c.in-Err.error) v q) i.3 e.told)

pub returns-in-Err-clause-left : goal.returns-in-Err-clause-left
returns-in-Err-clause-left g c = let w = c.args.walker.now in let p = c.args.place.now in let sh = c.args.shards.now in let u = c.loop-shard.walker in let v = c.roll_if_noted.new.walker in let m = c.loop-shard.place in let q = c.roll_if_noted.new.place in let i = c.loop-shard.invariant in let e = c.in-Err.ensures in let n = c.loop-shard.shard in
    let below = c.loop-shard-test.true in let end = c.shards-shard-end.ensures.shards ∙ ap shard_count c.splits.ensures in let count = c.requires.active.ready.walker.count in
    left_undone sh w p c.args.upto c.requires.stands n u v m q c.in-Err.error (omega arith) i.2 (subst (λ k. RollIf {A = Unit {0}} (is_noted n c.args.upto m.written) (length sh.locks.items) u m k c.args.upto n (Err c.in-Err.error) v q) i.3 e.told) e.past

pub returns-clause-told : goal.returns-clause-told
returns-clause-told g c = let i = c.loop-shard.invariant in
    let below = c.loop-shard.auto.shard-end in let past = c.loop-shard-test.false in let end = c.shards-shard-end.ensures.shards ∙ ap shard_count c.splits.ensures in let count = c.requires.active.ready.walker.count in
    all_back c.args.shards.now c.args.walker.now c.args.place.now c.args.upto c.requires.stands c.loop-shard.shard c.loop-shard.walker c.loop-shard.place tt (omega arith) i.2

pub returns-clause-left : goal.returns-clause-left
returns-clause-left g c = let i = c.loop-shard.invariant in
    let below = c.loop-shard.auto.shard-end in let past = c.loop-shard-test.false in let end = c.shards-shard-end.ensures.shards ∙ ap shard_count c.splits.ensures in let count = c.requires.active.ready.walker.count in
    done_back c.args.shards.now c.args.walker.now c.args.place.now c.args.upto c.requires.active c.requires.stands c.loop-shard.shard c.loop-shard.walker c.loop-shard.place (omega arith) i.2
