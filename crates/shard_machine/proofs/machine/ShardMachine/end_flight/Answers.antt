-- The records that flew are durable, and the entry is made in the place that was kept.
use Rattle.std.proofs.Common.{◌≡◌, sym, ◌∙◌, ap, subst, ◌<◌, Option, Some, is_some, arith}
use Rattle.clv_base.specs.declared.events.Event.TheVariants.{FlushIn}
use Rattle.clv_base.specs.declared.events.Outcome.TheVariants.{Durable}
use Rattle.clv_base.specs.State.{Shard}
use Rattle.clv_base.specs.Events.{finish, with_durable, with_entry}
use Rattle.shard_machine.specs.Machined.{Machined, IsRunning}
use Rattle.shard_machine.proofs.Homing.{kept_durable, durable_as}
use Rattle.shard_machine.proofs.machine.ShardMachine.end_flight.Goals as goal

pub enter-requires-clause-few : goal.enter-requires-clause-few
enter-requires-clause-few g c =
    let few = c.self.invariant.few in let later : c.self.inside.last < c.args.stamp = subst (λ (v : Machined _). v.shard.last < c.args.stamp) (sym c.self.view_is) c.requires.later in omega (arith, few, later)

pub invariant_of-self : goal.invariant_of-self
invariant_of-self g c =
    let i = c.self.inside in let d = c.land.new.self in let k = c.enter.new.journal in
    let flies : i.core.shard.flight ≡ Some c.args.upto = subst (λ (v : Machined _). v.shard.flight ≡ Some c.args.upto) (sym c.self.view_is) c.requires.flies in
    let later : i.last < c.args.stamp = subst (λ (v : Machined _). v.shard.last < c.args.stamp) (sym c.self.view_is) c.requires.later in
    subst (λ (o : Option _). IsRunning d i.is_up c.args.stamp k (is_some o)) (sym c.bring_home.ensures)
    (kept_durable i.core d i.is_up i.last c.args.stamp c.args.upto i.journal k (is_some i.gate) _ flies c.land.ensures.landed c.land.ensures.rest c.log_end-end.ensures.short c.enter.ensures.shard c.enter.ensures.entries later c.self.invariant)

pub returns-clause-shard : goal.returns-clause-shard
returns-clause-shard g c =
    let i = c.self.inside in let d : Shard = c.land.new.self.shard in let n = c.args.upto in let w = c.args.walker in
    durable_as i.is_up i.last c.args.stamp i.journal.entries c.enter.new.journal.entries i.core.shard d n w c.land.ensures.landed c.enter.ensures.entries
    ∙ ap (λ (v : Machined _). with_entry c.args.stamp w FlushIn (Durable n) (finish (with_durable n v.shard))) c.self.view_is
