use Rattle.std.proofs.Common.{◌≡◌, ◌∙◌, true, length, subst, sym, ap, Ok, Err, None, IfOk}
use Rattle.clv_base.specs.declared.events.Event.TheVariants.{Send}
use Rattle.machine_calls.specs.Events.{sends_fit}
use Rattle.cluster_turns.specs.Turns.{EventTold}
use Rattle.cluster_turns.specs.Walkers.{Walked}
use Rattle.cluster_turns.specs.Carried.{not_taken, BringTold, CarryTold, none_sent, one_sent}
use Rattle.cluster_turns.proofs.Sending.{taken_out, message_back, no_message}
use Rattle.cluster_turns.proofs.carrying.carry_once.Goals as goal

pub bring-requires-clause-taken : goal.bring-requires-clause-taken
bring-requires-clause-taken g c = let w = c.args.walker.now in let u = c.take_out.new.walker in let e = c.in-Ok.ensures.taken in let m = c.in-Some.message in
    let back = message_back c.args.from e.0 m (ap (λ o. Ok o) (sym c.in-Some.is) ∙ e.1) in
    taken_out c.args.from w.number w.clock m u.clock w.passes.items u.passes.items (subst (λ r. Walked (EventTold w.clock w.number Send r u.clock) c.args.from w.number w.passes.items u.passes.items) back e.2)

pub bring-requires-clause-fits : goal.bring-requires-clause-fits
bring-requires-clause-fits g c = let e = c.in-Ok.ensures.taken in let m = c.in-Some.message in
    subst (λ r. IfOk r (λ o. sends_fit o ≡ true)) (message_back c.args.from e.0 m (ap (λ o. Ok o) (sym c.in-Some.is) ∙ e.1)) e.3

pub returns-in-Some-clause-carried : goal.returns-in-Some-clause-carried
returns-in-Some-clause-carried g c = let w = c.args.walker.now in let u = c.take_out.new.walker in let v = c.bring.new.walker in let e = c.in-Ok.ensures.taken in let m = c.in-Some.message in let count = length c.args.shards.now.locks.items in
    let back = message_back c.args.from e.0 m (ap (λ o. Ok o) (sym c.in-Some.is) ∙ e.1) in
    one_sent m u.clock u.passes.items c.bring.result v.clock v.passes.items (subst (λ r. Walked (EventTold w.clock w.number Send r u.clock) c.args.from w.number w.passes.items u.passes.items) back e.2)
    (subst (λ n. BringTold count m n u.clock u.passes.items c.bring.result v.clock v.passes.items) c.in-Ok.ensures.walker.1.0 c.bring.ensures.brought)

pub returns-in-None-clause-carried : goal.returns-in-None-clause-carried
returns-in-None-clause-carried g c = let w = c.args.walker.now in let u = c.take_out.new.walker in let e = c.in-Ok.ensures.taken in let count = length c.args.shards.now.locks.items in
    let is = ap (λ o. Ok o) (sym c.in-None.is) ∙ e.1 in
    subst (λ r. CarryTold count c.args.from w.number w.clock w.passes.items r u.clock u.passes.items) (ap not_taken (sym is))
    (none_sent e.0 u.clock u.passes.items (no_message c.args.from e.0 (Ok None) is (λ m q. absurd cc)) e.2)

pub returns-in-Err-clause-carried : goal.returns-in-Err-clause-carried
returns-in-Err-clause-carried g c = let w = c.args.walker.now in let u = c.take_out.new.walker in let e = c.in-Err.ensures.taken in let count = length c.args.shards.now.locks.items in
    subst (λ r. CarryTold count c.args.from w.number w.clock w.passes.items r u.clock u.passes.items) (ap not_taken (sym e.1))
    (none_sent e.0 u.clock u.passes.items (no_message c.args.from e.0 (Err c.in-Err.error) e.1 (λ m q. absurd cc)) e.2)
