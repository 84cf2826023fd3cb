use Rattle.std.proofs.Common.{◌≡◌, ◌∙◌, true, sym, ap, subst, refl}
use Rattle.clv_base.specs.declared.names.TxId.{TxId}
use Rattle.clv_base.specs.declared.events.Event.TheVariants.{Request}
use Rattle.journal_laws.specs.Offers.{may_make}
use Rattle.cluster_turns.specs.Turns.{EventTold}
use Rattle.cluster_turns.specs.Walkers.{kept, Walked}
use Rattle.session_ops.specs.Requested.{RequestStands}
use Rattle.session_ops.proofs.Making.{may_request, request_told, request_fits, request_stands}
use Rattle.session_ops.proofs.requesting.ask_home.Goals as goal

pub session_event-answer-requires-clause-may : goal.session_event-answer-requires-clause-may
session_event-answer-requires-clause-may g c = let w = c.args.walker.now in let sh = c.args.shards.now in let p = c.args.place.now in
    subst (λ e. may_make sh.splits sh.run w.number (kept w.passes.items) c.args.home e ≡ true) (sym (ap (λ (x : TxId). Request x c.args.parts) c.tx.ensures ∙ ap (Request p.tx) c.requires.parts))
    (may_request sh w p c.requires.active c.args.home c.requires.whole c.requires.lowest)

pub returns-clause-turn : goal.returns-clause-turn
returns-clause-turn g c = let w = c.args.walker.now in let v = c.session_event-answer.new.walker in let sh = c.args.shards.now in let p = c.args.place.now in let r = c.session_event-answer.result in
    request_told sh w v p c.requires.active c.args.home r
    (subst (λ e. Walked (EventTold w.clock w.number e r v.clock) c.args.home w.number w.passes.items v.passes.items) (ap (λ (x : TxId). Request x c.args.parts) c.tx.ensures ∙ ap (Request p.tx) c.requires.parts) c.session_event-answer.ensures.event)

pub returns-clause-outcome : goal.returns-clause-outcome
returns-clause-outcome g c = let w = c.args.walker.now in let v = c.session_event-answer.new.walker in let sh = c.args.shards.now in let p = c.args.place.now in let r = c.session_event-answer.result in
    request_fits sh w v p c.requires.active c.args.home r
    (subst (λ e. Walked (EventTold w.clock w.number e r v.clock) c.args.home w.number w.passes.items v.passes.items) (ap (λ (x : TxId). Request x c.args.parts) c.tx.ensures ∙ ap (Request p.tx) c.requires.parts) c.session_event-answer.ensures.event)

pub returns-clause-stands : goal.returns-clause-stands
returns-clause-stands g c = let w = c.args.walker.now in let v = c.session_event-answer.new.walker in let sh = c.args.shards.now in let p = c.args.place.now in let r = c.session_event-answer.result in
    subst (λ q. RequestStands sh v q c.args.home r) (sym c.follow.ensures)
    (request_stands sh w v p c.requires.active c.args.home r
    (subst (λ e. Walked (EventTold w.clock w.number e r v.clock) c.args.home w.number w.passes.items v.passes.items) (ap (λ (x : TxId). Request x c.args.parts) c.tx.ensures ∙ ap (Request p.tx) c.requires.parts) c.session_event-answer.ensures.event)
    c.session_event-answer.ensures.walker.0 c.session_event-answer.ensures.walker.1 c.requires.whole c.requires.lowest r refl)
