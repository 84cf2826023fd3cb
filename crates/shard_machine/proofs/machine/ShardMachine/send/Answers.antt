-- The oldest message leaves, and its entry is made.
use Rattle.std.proofs.Common.{◌≡◌, refl, sym, subst, ◌++◌, ◌∷◌, [], true, Option, Some, Ok, is_some}
use Rattle.clv_base.specs.declared.events.Entry.{Entry}
use Rattle.clv_base.specs.declared.events.Event.TheVariants.{Send}
use Rattle.clv_base.specs.declared.events.Outcome.TheVariants.{Sent}
use Rattle.clv_base.specs.State.{Shard}
use Rattle.clv_base.specs.Events.{happen, Does, step}
use Rattle.machine_calls.specs.Steps.{entry, Tells}
use Rattle.machine_laws.specs.Frame.{stamped_as}
use Rattle.shard_machine.specs.Machined.{Machined}
use Rattle.shard_machine.proofs.Telling.{told_done}
use Rattle.shard_machine.proofs.Running.{kept, few_before, goes_as, sent}
use Rattle.shard_machine.proofs.Outcomes.{first_fits}
use Rattle.shard_machine.proofs.machine.ShardMachine.send.Goals as goal

pub enter-requires-clause-few : goal.enter-requires-clause-few
enter-requires-clause-few g c = few_before c.self.inside.last c.args.clock 0 c.in-Ok.stamp c.self.inside.journal.entries c.self.invariant.few c.in-Ok.ensures.ok

pub invariant_of-self : goal.invariant_of-self
invariant_of-self g c =
    let i = c.self.inside in let d = c.leave_message.new.self in
    kept i.core d i.is_up i.last c.args.clock 0 c.in-Ok.stamp i.journal c.enter.new.journal (is_some i.gate) Send (Sent c.in-Some.message) _ refl
    (goes_as i.last i.journal.entries i.core.shard d.shard Send (Sent c.in-Some.message) refl (sent i.core.shard d.shard c.in-Some.message (sym c.in-Some.ensures) c.leave_message.ensures.sent)) c.leave_message.ensures.rest refl refl
    c.few_undecided.ensures c.log_end-before.ensures.short c.log_end-after.ensures.short c.enter.ensures.shard c.enter.ensures.entries c.in-Ok.ensures.ok c.self.invariant

pub returns-clause-told : goal.returns-clause-told
returns-clause-told g c =
    let i = c.self.inside in let d = c.leave_message.new.self in let n = c.in-Ok.stamp in let w = c.args.walker in let m = c.in-Some.message in
    let s : Shard = stamped_as true i.last i.journal.entries i.core.shard in let t : Shard = stamped_as true i.last i.journal.entries d.shard in
    let does : happen s Send ≡ Does (Sent m) t = goes_as i.last i.journal.entries i.core.shard d.shard Send (Sent m) refl (sent i.core.shard d.shard m (sym c.in-Some.ensures) c.leave_message.ensures.sent) in
    let told = told_done s t c.args.clock w Send (Sent m) (Sent m) n does refl c.in-Ok.ensures.ok refl in
    let journal : c.enter.new.journal.entries ≡ i.journal.entries ++ entry n w Send (Sent m) ∷ [] = c.enter.ensures.entries in
    let up : i.is_up ≡ true = c.if-not-self.false in
    subst (λ (v : Machined _). (x : Option Entry) × Tells (step v.shard c.args.clock w Send) v.shard c.args.clock w Send (Ok (Sent m)) (stamped_as i.is_up n c.enter.new.journal.entries d.shard) x) c.self.view_is (
      Some (entry n w Send (Sent m)),
      subst (λ b. Tells (step (stamped_as b i.last i.journal.entries i.core.shard) c.args.clock w Send) (stamped_as b i.last i.journal.entries i.core.shard) c.args.clock w Send (Ok (Sent m)) (stamped_as b n c.enter.new.journal.entries d.shard) (Some (entry n w Send (Sent m)))) (sym up)
          (subst (λ j. Tells (step s c.args.clock w Send) s c.args.clock w Send (Ok (Sent m)) (stamped_as true n j d.shard) (Some (entry n w Send (Sent m)))) (sym journal) told),
    )

pub returns-clause-sends : goal.returns-clause-sends
returns-clause-sends g c = first_fits c.self.inside.core.shard.outbox c.in-Some.message c.self.invariant.named.fitting.outbox (sym c.in-Some.ensures)
