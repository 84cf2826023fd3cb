-- Each event by its own call.
use Rattle.std.proofs.Common.{refl, sym, ap, ◌∙◌, subst, Option}
use Rattle.clv_base.specs.declared.events.Event.{Event}
use Rattle.clv_base.specs.declared.events.Event.TheVariants.{Op as OpEvent, Deliver}
use Rattle.clv_base.specs.declared.events.Entry.{Entry}
use Rattle.clv_base.specs.Events.{step}
use Rattle.machine_calls.specs.Steps.{Tells}
use Rattle.shard_machine.proofs.Outcomes.{other_fits}
use Rattle.shard_machine.proofs.machine.ShardMachine.step_event.Goals as goal

pub returns-in-Op-clause-told : goal.returns-in-Op-clause-told
returns-in-Op-clause-told g c =
    let s = c.args.self.now.shard in let t = c.operate.new.self.shard in
    subst (λ (e : Event). (x : Option Entry) × Tells (step s c.args.clock c.args.walker e) s c.args.clock c.args.walker e c.operate.result t x)
    (ap (λ o. OpEvent c.in-Op.tx c.in-Op.birth c.in-Op.nth c.in-Op.seen o) c.op.ensures ∙ sym c.in-Op.is) c.operate.ensures.told

pub returns-in-RollTo-clause-told : goal.returns-in-RollTo-clause-told
returns-in-RollTo-clause-told g c =
    let s = c.args.self.now.shard in let t = c.roll_to.new.self.shard in
    subst (λ (e : Event). (x : Option Entry) × Tells (step s c.args.clock c.args.walker e) s c.args.clock c.args.walker e c.roll_to.result t x) (sym c.in-RollTo.is) c.roll_to.ensures.told

pub returns-in-Request-clause-told : goal.returns-in-Request-clause-told
returns-in-Request-clause-told g c =
    let s = c.args.self.now.shard in let t = c.request.new.self.shard in
    subst (λ (e : Event). (x : Option Entry) × Tells (step s c.args.clock c.args.walker e) s c.args.clock c.args.walker e c.request.result t x) (sym c.in-Request.is) c.request.ensures.told

pub returns-in-Look-clause-told : goal.returns-in-Look-clause-told
returns-in-Look-clause-told g c =
    let s = c.args.self.now.shard in let t = c.look.new.self.shard in
    subst (λ (e : Event). (x : Option Entry) × Tells (step s c.args.clock c.args.walker e) s c.args.clock c.args.walker e c.look.result t x) (sym c.in-Look.is) c.look.ensures.told

pub returns-in-Drop-clause-told : goal.returns-in-Drop-clause-told
returns-in-Drop-clause-told g c =
    let s = c.args.self.now.shard in let t = c.drop_part.new.self.shard in
    subst (λ (e : Event). (x : Option Entry) × Tells (step s c.args.clock c.args.walker e) s c.args.clock c.args.walker e c.drop_part.result t x) (sym c.in-Drop.is) c.drop_part.ensures.told

pub returns-in-Deliver-clause-told : goal.returns-in-Deliver-clause-told
returns-in-Deliver-clause-told g c =
    let s = c.args.self.now.shard in let t = c.deliver.new.self.shard in
    subst (λ (e : Event). (x : Option Entry) × Tells (step s c.args.clock c.args.walker e) s c.args.clock c.args.walker e c.deliver.result t x) (sym c.in-Deliver.is) c.deliver.ensures.told

pub returns-in-Remind-clause-told : goal.returns-in-Remind-clause-told
returns-in-Remind-clause-told g c =
    let s = c.args.self.now.shard in let t = c.remind.new.self.shard in
    subst (λ (e : Event). (x : Option Entry) × Tells (step s c.args.clock c.args.walker e) s c.args.clock c.args.walker e c.remind.result t x) (sym c.in-Remind.is) c.remind.ensures.told

pub returns-in-Send-clause-sends : goal.returns-in-Send-clause-sends
returns-in-Send-clause-sends g c = c.send.ensures.sends

pub returns-in-Deliver-clause-sends : goal.returns-in-Deliver-clause-sends
returns-in-Deliver-clause-sends g c =
    other_fits c.args.self.now.shard c.deliver.new.self.shard c.args.clock c.args.walker (Deliver c.in-Deliver.message c.in-Deliver.stamp) c.deliver.result refl c.deliver.ensures.told
