-- A going back, by what the journal tells, and its entry.
use Rattle.std.proofs.Common.{◌≡◌, refl, ◌∙◌, ap, subst, ◌==◌, true, is_some}
use Rattle.clv_base.specs.declared.events.Event.{Event}
use Rattle.clv_base.specs.declared.events.Event.TheVariants.{RollTo}
use Rattle.clv_base.specs.Backs.{standing_numbers, count_after}
use Rattle.clv_base.specs.State.{Shard}
use Rattle.clv_base.specs.Events.{Does, happen}
use Rattle.machine_laws.specs.Frame.{stamped_as, reply_as}
use Rattle.shard_core.specs.Rolling.{goes_back, went_back}
use Rattle.shard_machine.specs.Machined.{Machined}
use Rattle.shard_machine.proofs.Running.{few_before, kept}
use Rattle.shard_machine.proofs.Answering.{Told, Refused, entered, twice, worn, on_up}
use Rattle.shard_machine.proofs.Backward.{rolled_as, rolls_go_on}
use Rattle.shard_machine.proofs.machine.ShardMachine.roll_to.Goals as goal

pub enter-requires-clause-few : goal.enter-requires-clause-few
enter-requires-clause-few g c = few_before c.self.inside.last c.args.clock 0 c.in-Ok.stamp c.self.inside.journal.entries c.self.invariant.few c.in-Ok.ensures.ok

pub invariant_of-self : goal.invariant_of-self
invariant_of-self g c =
    let i = c.self.inside in let s : Shard = i.core.shard in let a = c.args in let e : Event = RollTo a.tx a.nth a.seen a.upto in let d = c.roll_to-cause.new.self in let j = i.journal.entries in let o = went_back c.roll_to-cause.result in
    let does : happen (stamped_as true i.last j s) e ≡ Does o (stamped_as true i.last j d.shard) =
    rolled_as i.last j s a.tx a.nth a.seen a.upto c.count_after-count.result c.count_after-count.ensures ∙ ap (reply_as i.last j) c.roll_to-cause.ensures.happens in
    kept i.core d i.is_up i.last c.args.clock 0 c.in-Ok.stamp i.journal c.enter.new.journal (is_some i.gate) e o _ refl does c.roll_to-cause.ensures.rest c.requires refl
    c.few_undecided.ensures c.log_end-before.ensures.short c.log_end-after.ensures.short c.enter.ensures.shard c.enter.ensures.entries c.in-Ok.ensures.ok c.self.invariant

pub returns-clause-told : goal.returns-clause-told
returns-clause-told g c =
    let i = c.self.inside in let s : Shard = i.core.shard in let a = c.args in let e : Event = RollTo a.tx a.nth a.seen a.upto in let d : Shard = c.roll_to-cause.new.self.shard in let j = i.journal.entries in let k = c.enter.new.journal.entries in
    let n = c.in-Ok.stamp in let w = a.walker in let r = goes_back s a.tx a.seen c.count_after-count.result (a.seen == s.local.epoch) in
    subst (λ (v : Machined _). Told v.shard a.clock w e c.outcome_of-2.result (stamped_as i.is_up n k d)) c.self.view_is
    (on_up i.is_up (λ b. Told (stamped_as b i.last j s) a.clock w e c.outcome_of-2.result (stamped_as b n k d)) c.if-not-self.false
    (entered i.last j k s d a.clock w e r c.outcome_of-2.result c.outcome_of.result n (rolled_as i.last j s a.tx a.nth a.seen a.upto c.count_after-count.result c.count_after-count.ensures)
    (twice r s d (went_back c.roll_to-cause.result) c.outcome_of-2.result c.outcome_of.result c.roll_to-cause.ensures.happens c.outcome_of-2.ensures c.outcome_of.ensures) c.in-Ok.ensures.ok c.enter.ensures.entries))

pub returns-in-Err-clause-told : goal.returns-in-Err-clause-told
returns-in-Err-clause-told g c =
    let i = c.self.inside in let s : Shard = i.core.shard in let a = c.args in let e : Event = RollTo a.tx a.nth a.seen a.upto in let j = i.journal.entries in
    let n = count_after a.upto (standing_numbers a.tx j) in
    subst (λ (v : Machined _). Refused v.shard a.clock a.walker e c.in-Err.error v.shard) c.self.view_is
    (on_up i.is_up (λ b. Refused (stamped_as b i.last j s) a.clock a.walker e c.in-Err.error (stamped_as b i.last j s)) c.if-not-self.false
    (worn i.last j s a.clock a.walker e (goes_back s a.tx a.seen n (a.seen == s.local.epoch)) c.in-Err.error (rolled_as i.last j s a.tx a.nth a.seen a.upto n refl) (rolls_go_on s a.tx a.seen n (a.seen == s.local.epoch)) c.in-Err.ensures.err))
