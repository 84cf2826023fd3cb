use Rattle.std.proofs.Common.{◌≡◌, ◌∙◌, true, sym, subst, eq-eqb, refl, [], Some, inl}
use Rattle.std.specs.Prelude.{◌==◌}
use Rattle.std.specs.Map.{lookup}
use Rattle.clv_base.specs.declared.events.Event.TheVariants.{Op}
use Rattle.journal_laws.specs.Offers.{may_make}
use Rattle.cluster_turns.specs.Turns.{EventTold}
use Rattle.cluster_turns.specs.Walkers.{kept, Walked, MayBeFree}
use Rattle.cluster_turns.specs.CallTurns.{no_turn}
use Rattle.session_ops.specs.Standing.{IsActive, TryTold, StandsAfter}
use Rattle.session_ops.proofs.Offered.{may_ask, ask_told, ask_fits, stands_after}
use Rattle.session_ops.proofs.asking.ask.Goals as goal

pub session_event-answer-requires-clause-free : goal.session_event-answer-requires-clause-free
session_event-answer-requires-clause-free g c = let w = c.args.walker.now in let a = c.requires.active in
    subst (λ e. MayBeFree c.args.shard w.number e w.passes.items) (sym (c.op-event.ensures a.born.birth a.born.is))
    (record { named = eq-eqb a.born.birth.session w.number a.born.bears; free = λ p o had has. a.born.free c.args.shard p had o has })

pub session_event-answer-requires-clause-may : goal.session_event-answer-requires-clause-may
session_event-answer-requires-clause-may g c = let w = c.args.walker.now in let sh = c.args.shards.now in let a = c.requires.active in
    subst (λ e. may_make sh.splits sh.run w.number (kept w.passes.items) c.args.shard e ≡ true) (sym (c.op-event.ensures a.born.birth a.born.is))
    (may_ask sh w c.args.place.now a c.args.shard c.args.nth c.args.op.now c.requires.number c.requires.lies)

pub returns-in-Ok-clause-turn : goal.returns-in-Ok-clause-turn
returns-in-Ok-clause-turn g c birth is = let w = c.args.walker.now in let v = c.session_event-answer.new.walker in let sh = c.args.shards.now in let a = c.requires.active in let p = c.args.place.now in
    let told = ask_told sh w v p a c.args.shard c.args.nth c.args.op.now c.session_event-answer.result (subst (λ e. Walked (EventTold w.clock w.number e c.session_event-answer.result v.clock) c.args.shard w.number w.passes.items v.passes.items) (c.op-event.ensures a.born.birth a.born.is) c.session_event-answer.ensures.event) in
    subst (λ b. TryTold w.number w.clock w.passes.items c.args.shard (Op p.tx b c.args.nth (lookup (◌==◌ c.args.shard) p.touched) c.args.op.now) c.session_event-answer.result v.clock v.passes.items) (birth_same a.born.birth birth (sym a.born.is ∙ is)) told
  where
    birth_same : (x y : Rattle.clv_base.specs.declared.names.Birth.Birth) → Some x ≡ Some y → x ≡ y
    birth_same x y h = cc

pub returns-in-Ok-clause-stands : goal.returns-in-Ok-clause-stands
returns-in-Ok-clause-stands g c = let w = c.args.walker.now in let v = c.session_event-answer.new.walker in let sh = c.args.shards.now in let a = c.requires.active in let p = c.args.place.now in
    subst (λ q. StandsAfter c.args.shard sh v q c.session_event-answer.result) (sym (c.follow.ensures p c.in-Ok.ensures.ok))
    (stands_after sh w v p a c.args.shard c.args.nth c.args.op.now c.session_event-answer.result (subst (λ e. Walked (EventTold w.clock w.number e c.session_event-answer.result v.clock) c.args.shard w.number w.passes.items v.passes.items) (c.op-event.ensures a.born.birth a.born.is) c.session_event-answer.ensures.event)
    c.session_event-answer.ensures.walker.0 c.session_event-answer.ensures.walker.1 c.requires.number c.requires.lies c.session_event-answer.result refl)

pub returns-in-Ok-clause-outcome : goal.returns-in-Ok-clause-outcome
returns-in-Ok-clause-outcome g c = let w = c.args.walker.now in let v = c.session_event-answer.new.walker in let sh = c.args.shards.now in let a = c.requires.active in let p = c.args.place.now in
    ask_fits sh w v p a c.args.shard c.args.nth c.args.op.now c.session_event-answer.result (subst (λ e. Walked (EventTold w.clock w.number e c.session_event-answer.result v.clock) c.args.shard w.number w.passes.items v.passes.items) (c.op-event.ensures a.born.birth a.born.is) c.session_event-answer.ensures.event)

pub returns-in-Err-clause-turn : goal.returns-in-Err-clause-turn
returns-in-Err-clause-turn g c birth is = let w = c.args.walker.now in record { turns = []; took = no_turn w.clock w.passes.items; is = inl (refl, refl) }

pub returns-in-Err-clause-stands : goal.returns-in-Err-clause-stands
returns-in-Err-clause-stands g c = subst (IsActive c.args.shards.now c.args.walker.now) (sym c.in-Err.ensures.err) c.requires.active
