use Rattle.std.proofs.Common.{◌≡◌, true, sym, ap, subst, refl}
use Rattle.clv_base.specs.declared.events.Event.TheVariants.{Drop}
use Rattle.journal_laws.specs.Offers.{may_make}
use Rattle.cluster_turns.specs.Turns.{EventTold}
use Rattle.cluster_turns.specs.Walkers.{kept, Walked, MayBeFree}
use Rattle.session_ops.specs.Dropped.{IsEnding}
use Rattle.session_ops.proofs.Going.{may_leave, is_own, drop_told, drop_fits, drop_stands}
use Rattle.session_ops.proofs.dropping.drop_part.Goals as goal

pub session_event-answer-requires-clause-may : goal.session_event-answer-requires-clause-may
session_event-answer-requires-clause-may g c = let w = c.args.walker.now in let sh = c.args.shards.now in let p = c.args.place.now in
    subst (λ e. may_make sh.splits sh.run w.number (kept w.passes.items) c.args.shard e ≡ true) (sym (ap Drop c.tx.ensures)) (may_leave sh w p c.args.shard c.requires.ending)

pub session_event-answer-requires-clause-free : goal.session_event-answer-requires-clause-free
session_event-answer-requires-clause-free g c = let w = c.args.walker.now in let sh = c.args.shards.now in let p = c.args.place.now in
    subst (λ e. MayBeFree c.args.shard w.number e w.passes.items) (sym (ap Drop c.tx.ensures)) (record { named = is_own sh w p c.args.shard c.requires.ending; free = λ q o had has up. refl })

pub returns-clause-turn : goal.returns-clause-turn
returns-clause-turn g c = let w = c.args.walker.now in let v = c.session_event-answer.new.walker in let sh = c.args.shards.now in let p = c.args.place.now in let r = c.session_event-answer.result in
    drop_told sh w v p c.args.shard c.requires.ending r (subst (λ e. Walked (EventTold w.clock w.number e r v.clock) c.args.shard w.number w.passes.items v.passes.items) (ap Drop c.tx.ensures) c.session_event-answer.ensures.event)

pub returns-clause-outcome : goal.returns-clause-outcome
returns-clause-outcome g c = let w = c.args.walker.now in let v = c.session_event-answer.new.walker in let sh = c.args.shards.now in let p = c.args.place.now in let r = c.session_event-answer.result in
    drop_fits sh w v p c.args.shard c.requires.ending r (subst (λ e. Walked (EventTold w.clock w.number e r v.clock) c.args.shard w.number w.passes.items v.passes.items) (ap Drop c.tx.ensures) c.session_event-answer.ensures.event)

pub returns-clause-stands : goal.returns-clause-stands
returns-clause-stands g c = let w = c.args.walker.now in let v = c.session_event-answer.new.walker in let sh = c.args.shards.now in let p = c.args.place.now in let r = c.session_event-answer.result in
    subst (IsEnding sh v) (sym c.follow.ensures)
    (drop_stands sh w v p c.args.shard c.requires.ending r (subst (λ e. Walked (EventTold w.clock w.number e r v.clock) c.args.shard w.number w.passes.items v.passes.items) (ap Drop c.tx.ensures) c.session_event-answer.ensures.event)
    c.session_event-answer.ensures.walker.0 c.session_event-answer.ensures.walker.1 r refl)
