use Rattle.std.proofs.Common.{◌≡◌, true, sym, ap, subst, refl}
use Rattle.clv_base.specs.declared.events.Event.TheVariants.{Look}
use Rattle.journal_laws.specs.Offers.{may_make}
use Rattle.cluster_turns.specs.Turns.{EventTold}
use Rattle.cluster_turns.specs.Walkers.{kept, Walked}
use Rattle.session_ops.specs.Looked.{LookStands}
use Rattle.session_ops.proofs.Seeing.{may_look, look_told, look_fits, look_stands}
use Rattle.session_ops.proofs.looking.look.Goals as goal

pub session_event-answer-requires-clause-may : goal.session_event-answer-requires-clause-may
session_event-answer-requires-clause-may g c = let w = c.args.walker.now in let sh = c.args.shards.now in let p = c.args.place.now in
    subst (λ e. may_make sh.splits sh.run w.number (kept w.passes.items) c.args.home e ≡ true) (sym (ap Look c.tx.ensures)) (may_look sh w p c.args.home c.requires.standing)

pub returns-clause-turn : goal.returns-clause-turn
returns-clause-turn g c = let w = c.args.walker.now in let v = c.session_event-answer.new.walker in let sh = c.args.shards.now in let p = c.args.place.now in let r = c.session_event-answer.result in
    look_told sh w v p c.args.home c.requires.standing r (subst (λ e. Walked (EventTold w.clock w.number e r v.clock) c.args.home w.number w.passes.items v.passes.items) (ap Look c.tx.ensures) c.session_event-answer.ensures.event)

pub returns-clause-outcome : goal.returns-clause-outcome
returns-clause-outcome g c = let w = c.args.walker.now in let v = c.session_event-answer.new.walker in let sh = c.args.shards.now in let p = c.args.place.now in let r = c.session_event-answer.result in
    look_fits sh w v p c.args.home c.requires.standing r (subst (λ e. Walked (EventTold w.clock w.number e r v.clock) c.args.home w.number w.passes.items v.passes.items) (ap Look c.tx.ensures) c.session_event-answer.ensures.event)

pub returns-clause-stands : goal.returns-clause-stands
returns-clause-stands g c = let w = c.args.walker.now in let v = c.session_event-answer.new.walker in let sh = c.args.shards.now in let p = c.args.place.now in let r = c.session_event-answer.result in
    subst (λ q. LookStands sh v q c.args.home r) (sym c.follow.ensures)
    (look_stands sh w v p c.args.home c.requires.standing r (subst (λ e. Walked (EventTold w.clock w.number e r v.clock) c.args.home w.number w.passes.items v.passes.items) (ap Look c.tx.ensures) c.session_event-answer.ensures.event)
    c.session_event-answer.ensures.walker.0 c.session_event-answer.ensures.walker.1 r refl)
