use Rattle.std.proofs.Common.{◌≡◌, true, sym, subst, refl}
use Rattle.journal_laws.specs.Offers.{may_make}
use Rattle.cluster_turns.specs.Turns.{EventTold}
use Rattle.cluster_turns.specs.Walkers.{kept, Walked}
use Rattle.session_ops.specs.WentBack.{StandsBack}
use Rattle.session_ops.proofs.RollAsking.{may_roll, last_or_next, roll_told, roll_fits, roll_wants_none, roll_stamped, roll_stands}
use Rattle.session_ops.proofs.rolling.roll.Goals as goal

pub session_event-answer-requires-clause-may : goal.session_event-answer-requires-clause-may
session_event-answer-requires-clause-may g c = let w = c.args.walker.now in let sh = c.args.shards.now in let p = c.args.place.now in let m = c.requires.may in
    subst (λ e. may_make sh.splits sh.run w.number (kept w.passes.items) c.args.shard e ≡ true) (sym (c.roll_to-event.ensures m.seen m.touched)) (may_roll sh w p c.requires.active c.args.shard c.args.nth c.args.upto m)

pub follow-requires-clause-number : goal.follow-requires-clause-number
follow-requires-clause-number g c = last_or_next c.args.place.now c.args.shard c.args.nth c.args.upto c.requires.may

pub returns-clause-turn : goal.returns-clause-turn
returns-clause-turn g c = let w = c.args.walker.now in let v = c.session_event-answer.new.walker in let sh = c.args.shards.now in let p = c.args.place.now in let r = c.session_event-answer.result in let m = c.requires.may in
    roll_told sh w v p c.requires.active c.args.shard c.args.nth c.args.upto m r
    (subst (λ e. Walked (EventTold w.clock w.number e r v.clock) c.args.shard w.number w.passes.items v.passes.items) (c.roll_to-event.ensures m.seen m.touched) c.session_event-answer.ensures.event)

pub returns-clause-outcome : goal.returns-clause-outcome
returns-clause-outcome g c = let w = c.args.walker.now in let v = c.session_event-answer.new.walker in let sh = c.args.shards.now in let p = c.args.place.now in let r = c.session_event-answer.result in let m = c.requires.may in
    roll_fits sh w v p c.requires.active c.args.shard c.args.nth c.args.upto m r
    (subst (λ e. Walked (EventTold w.clock w.number e r v.clock) c.args.shard w.number w.passes.items v.passes.items) (c.roll_to-event.ensures m.seen m.touched) c.session_event-answer.ensures.event)

pub returns-clause-memory : goal.returns-clause-memory
returns-clause-memory g c = let w = c.args.walker.now in let v = c.session_event-answer.new.walker in let sh = c.args.shards.now in let p = c.args.place.now in let r = c.session_event-answer.result in let m = c.requires.may in
    roll_wants_none sh w v p c.requires.active c.args.shard c.args.nth c.args.upto m r
    (subst (λ e. Walked (EventTold w.clock w.number e r v.clock) c.args.shard w.number w.passes.items v.passes.items) (c.roll_to-event.ensures m.seen m.touched) c.session_event-answer.ensures.event)

pub returns-clause-stamped : goal.returns-clause-stamped
returns-clause-stamped g c = let w = c.args.walker.now in let v = c.session_event-answer.new.walker in let sh = c.args.shards.now in let p = c.args.place.now in let r = c.session_event-answer.result in let m = c.requires.may in
    roll_stamped sh w v p c.requires.active c.args.shard c.args.nth c.args.upto m r
    (subst (λ e. Walked (EventTold w.clock w.number e r v.clock) c.args.shard w.number w.passes.items v.passes.items) (c.roll_to-event.ensures m.seen m.touched) c.session_event-answer.ensures.event)

pub returns-clause-stands : goal.returns-clause-stands
returns-clause-stands g c = let w = c.args.walker.now in let v = c.session_event-answer.new.walker in let sh = c.args.shards.now in let p = c.args.place.now in let r = c.session_event-answer.result in let m = c.requires.may in
    subst (λ q. StandsBack c.args.shard sh v q r) (sym c.follow.ensures)
    (roll_stands sh w v p c.requires.active c.args.shard c.args.nth c.args.upto m r
    (subst (λ e. Walked (EventTold w.clock w.number e r v.clock) c.args.shard w.number w.passes.items v.passes.items) (c.roll_to-event.ensures m.seen m.touched) c.session_event-answer.ensures.event)
    c.session_event-answer.ensures.walker.0 c.session_event-answer.ensures.walker.1 r refl)
