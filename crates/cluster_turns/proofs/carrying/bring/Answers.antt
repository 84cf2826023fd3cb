use Rattle.std.proofs.Common.{arith, ◌≡◌, length, true, subst, sym, ap, refl, ◌∙◌}
use Rattle.clv_base.specs.declared.events.Event.TheVariants.{Deliver}
use Rattle.clv_base.specs.Sessions.{is_session}
use Rattle.cluster_turns.specs.Turns.{EventTold}
use Rattle.cluster_turns.specs.Walkers.{kept, Walked}
use Rattle.cluster_turns.proofs.Walking.{other_goes_on}
use Rattle.cluster_turns.specs.Carried.{BringTold, is_lost, is_brought, brought_by}
use Rattle.cluster_turns.proofs.carrying.bring.Goals as goal

pub event-answer-requires-clause-free : goal.event-answer-requires-clause-free
event-answer-requires-clause-free g c = record { named = refl; free = λ p o had from up. refl }

pub event-answer-requires-clause-goes : goal.event-answer-requires-clause-goes
event-answer-requires-clause-goes g c = let w = c.args.walker.now in let sh = c.args.shards.now in
    other_goes_on sh.splits sh.run w.number (kept w.passes.items) c.receiver-to.result (Deliver c.args.message w.clock)
    (subst (λ run. is_session sh.splits run w.number (kept w.passes.items) ≡ true) (sym c.requires.walker.run) c.requires.walker.walks.keeps.session) refl c.requires.taken

pub returns-then-to-len-clause-brought : goal.returns-then-to-len-clause-brought
returns-then-to-len-clause-brought g c = is_lost (let r = c.receiver-to.ensures in let n = c.len.ensures in let t = c.if-to-len.true in let ok = c.args.shards.now.locks.ok in omega arith)

pub returns-clause-brought : goal.returns-clause-brought
returns-clause-brought g c = let w = c.args.walker.now in let u = c.event-answer.new.walker in let m = c.args.message in let is = c.receiver-to.ensures in let locks = c.args.shards.now.locks in
    subst (λ r. BringTold (length locks.items) m w.number w.clock w.passes.items r u.clock u.passes.items) (sym (c.brought.ensures ∙ ap (λ to. brought_by to c.event-answer.result) is))
    (is_brought c.event-answer.result u.clock u.passes.items (let n = c.len.ensures in let t = c.if-to-len.false in let ok = locks.ok in omega arith)
    (subst (λ to. Walked (EventTold w.clock w.number (Deliver m w.clock) c.event-answer.result u.clock) to w.number w.passes.items u.passes.items) is c.event-answer.ensures.event))
