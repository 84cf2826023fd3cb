-- The entry is made, and the shard is down.
use Rattle.std.proofs.Common.{◌≡◌, refl, sym, subst, ◌++◌, ◌∷◌, [], false, Option, Some, Ok, is_some}
use Rattle.clv_base.specs.declared.events.Entry.{Entry}
use Rattle.clv_base.specs.declared.events.Event.TheVariants.{Stop}
use Rattle.clv_base.specs.declared.events.Outcome.TheVariants.{Stopped}
use Rattle.clv_base.specs.State.{Shard}
use Rattle.clv_base.specs.Events.{put_down, step}
use Rattle.machine_calls.specs.Steps.{entry, Tells}
use Rattle.machine_laws.specs.Frame.{stamped_as}
use Rattle.shard_machine.specs.Machined.{Machined}
use Rattle.shard_machine.proofs.Running.{few_before, noted}
use Rattle.shard_machine.proofs.Telling.{told_done, goes_up}
use Rattle.shard_machine.proofs.machine.ShardMachine.stop.Goals as goal

pub returns-clause-told : goal.returns-clause-told
returns-clause-told g c =
    let i = c.self.inside in let s : Shard = stamped_as i.is_up i.last i.journal.entries i.core.shard in let n = c.in-Ok.stamp in let w = c.args.walker in
    let told = told_done s (put_down s) c.args.clock w Stop Stopped Stopped n (goes_up s Stop c.if-not-self.false) refl c.in-Ok.ensures.ok refl in
    let journal : c.enter.new.journal.entries ≡ i.journal.entries ++ entry n w Stop Stopped ∷ [] = c.enter.ensures.entries in
    subst (λ (v : Machined _). (x : Option Entry) × Tells (step v.shard c.args.clock w Stop) v.shard c.args.clock w Stop (Ok Stopped) (stamped_as false n c.enter.new.journal.entries i.core.shard) x) c.self.view_is
    (Some (entry n w Stop Stopped), subst (λ j. Tells (step s c.args.clock w Stop) s c.args.clock w Stop (Ok Stopped) (stamped_as false n j i.core.shard) (Some (entry n w Stop Stopped))) (sym journal) told)

pub enter-requires-clause-few : goal.enter-requires-clause-few
enter-requires-clause-few g c = few_before c.self.inside.last c.args.clock 0 c.in-Ok.stamp c.self.inside.journal.entries c.self.invariant.few c.in-Ok.ensures.ok

pub invariant_of-self : goal.invariant_of-self
invariant_of-self g c =
    let i = c.self.inside in
    let r = noted i.core i.is_up i.last c.args.clock 0 c.in-Ok.stamp i.journal c.enter.new.journal (is_some i.gate) _ c.enter.ensures.shard c.enter.ensures.entries c.in-Ok.ensures.ok c.self.invariant in
    record { rest = r.rest; named = r.named; index = r.index; few = r.few; gate = λ up. absurd cc }
