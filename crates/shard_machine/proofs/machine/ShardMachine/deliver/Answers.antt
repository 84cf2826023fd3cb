-- A message comes, and its entry is made.
use Rattle.std.proofs.Common.{◌≡◌, refl, sym, ◌∙◌, subst, ◌++◌, ◌∷◌, [], Some, is_some}
use Rattle.clv_base.specs.declared.events.Event.{Event}
use Rattle.clv_base.specs.declared.events.Event.TheVariants.{Deliver}
use Rattle.clv_base.specs.declared.events.Outcome.TheVariants.{Stale}
use Rattle.clv_base.specs.State.{Shard}
use Rattle.clv_base.specs.Events.{Reply, Does, deliver_event, on_message}
use Rattle.shard_machine.specs.declared.happening.Happened.{Happened}
use Rattle.shard_machine.specs.declared.happening.Happened.TheVariants.{Quiet as QuietHere, Done}
use Rattle.shard_machine.specs.Happening.{Happens}
use Rattle.machine_calls.specs.declared.machine.StepError.TheVariants.{Memory}
use Rattle.machine_calls.specs.Steps.{entry}
use Rattle.machine_laws.specs.Frame.{stamped_as}
use Rattle.machine_laws.proofs.Laws.{events_alike}
use Rattle.shard_machine.specs.Machined.{Machined}
use Rattle.shard_machine.proofs.Running.{goes_as, few_before, kept, stays}
use Rattle.shard_machine.proofs.Answering.{Told, Refused, entered, earlier, quieted, refused, worn, on_up}
use Rattle.shard_machine.proofs.Replying.{stale_early, heard_on, for_here}
use Rattle.shard_machine.proofs.machine.ShardMachine.deliver.Goals as goal

pub returns-then-is_stale-clause-told : goal.returns-then-is_stale-clause-told
returns-then-is_stale-clause-told g c =
    let i = c.self.inside in let s : Shard = i.core.shard in let m = c.args.message in let e : Event = Deliver m c.args.sent in let j = i.journal.entries in
    subst (λ (v : Machined _). Told v.shard c.args.clock c.args.walker e Stale v.shard) c.self.view_is
    (on_up i.is_up (λ b. Told (stamped_as b i.last j s) c.args.clock c.args.walker e Stale (stamped_as b i.last j s)) c.if-not-self.false
    (earlier i.last j s c.args.clock c.args.walker e (deliver_event s m) Stale (events_alike i.last j s e refl) (stale_early s m (sym c.if-is_stale.ensures))))

pub returns-in-Err-clause-told : goal.returns-in-Err-clause-told
returns-in-Err-clause-told g c =
    let i = c.self.inside in let s : Shard = i.core.shard in let m = c.args.message in let e : Event = Deliver m c.args.sent in let j = i.journal.entries in
    subst (λ (v : Machined _). Refused v.shard c.args.clock c.args.walker e c.in-Err.error v.shard) c.self.view_is
    (on_up i.is_up (λ b. Refused (stamped_as b i.last j s) c.args.clock c.args.walker e c.in-Err.error (stamped_as b i.last j s)) c.if-not-self.false
    (worn i.last j s c.args.clock c.args.walker e (deliver_event s m) c.in-Err.error (events_alike i.last j s e refl) (heard_on s m (sym c.if-is_stale.ensures)) c.in-Err.ensures.err))

pub enter-requires-clause-few : goal.enter-requires-clause-few
enter-requires-clause-few g c = few_before c.self.inside.last c.args.clock c.args.sent c.in-Ok.stamp c.self.inside.journal.entries c.self.invariant.few c.in-Ok.ensures.ok

pub invariant_of-self-in-Ok-Done : goal.invariant_of-self-in-Ok-Done
invariant_of-self-in-Ok-Done g c =
    let i = c.self.inside in let s : Shard = i.core.shard in let m = c.args.message in let e : Event = Deliver m c.args.sent in let d = c.hear.new.core in let w = c.in-Ok-Done in let k = c.enter.new.journal in
    let happens : Happens (on_message s m) s (Done w.outcome w.copy) d.shard = subst (λ (h : Happened). Happens (on_message s m) s h d.shard) w.field-0-is w.ensures.ok in
    let does : deliver_event s m ≡ Does w.outcome d.shard = for_here s m (sym c.if-is_stale.ensures) ∙ happens.0 in
    kept i.core d i.is_up i.last c.args.clock c.args.sent c.in-Ok.stamp i.journal k (is_some i.gate) e w.outcome _ refl (goes_as i.last i.journal.entries s d.shard e w.outcome refl does) c.hear.ensures.rest c.requires refl
    c.few_undecided.ensures c.log_end-before.ensures.short c.log_end-after.ensures.short c.enter.ensures.shard c.enter.ensures.entries c.in-Ok.ensures.ok c.self.invariant

pub returns-in-Ok-Done-clause-told : goal.returns-in-Ok-Done-clause-told
returns-in-Ok-Done-clause-told g c =
    let i = c.self.inside in let s : Shard = i.core.shard in let m = c.args.message in let e : Event = Deliver m c.args.sent in let d : Shard = c.hear.new.core.shard in let w = c.in-Ok-Done in
    let j = i.journal.entries in let k = c.enter.new.journal.entries in let n = c.in-Ok.stamp in
    let happens : Happens (on_message s m) s (Done w.outcome w.copy) d = subst (λ (h : Happened). Happens (on_message s m) s h d) w.field-0-is w.ensures.ok in
    let grown : k ≡ j ++ entry n c.args.walker e w.copy ∷ [] = c.enter.ensures.entries in
    subst (λ (v : Machined _). Told v.shard c.args.clock c.args.walker e w.outcome (stamped_as i.is_up n k d)) c.self.view_is
    (on_up i.is_up (λ b. Told (stamped_as b i.last j s) c.args.clock c.args.walker e w.outcome (stamped_as b n k d)) c.if-not-self.false
    (entered i.last j k s d c.args.clock c.args.walker e (deliver_event s m) w.outcome w.copy n (events_alike i.last j s e refl) (for_here s m (sym c.if-is_stale.ensures) ∙ happens.0, happens.1) c.in-Ok.ensures.ok grown))

-- where there is no memory, and at a quiet answer, all stays
pub invariant_of-self-in-Err-hear : goal.invariant_of-self-in-Err-hear
invariant_of-self-in-Err-hear g c =
    let i = c.self.inside in stays i.core c.hear.new.core i.is_up i.last i.journal i.journal (is_some i.gate) c.hear.ensures.rest c.in-Err-hear.ensures.err refl refl c.self.invariant

pub invariant_of-self : goal.invariant_of-self
invariant_of-self g c =
    let i = c.self.inside in let s : Shard = i.core.shard in let m = c.args.message in let d = c.hear.new.core in let w = c.in-Ok-Quiet in
    let happens : Happens (on_message s m) s (QuietHere w.outcome) d.shard = subst (λ (h : Happened). Happens (on_message s m) s h d.shard) w.field-0-is w.ensures.ok in
    stays i.core d i.is_up i.last i.journal i.journal (is_some i.gate) c.hear.ensures.rest happens.1 refl refl c.self.invariant

pub returns-in-Err-hear-clause-told : goal.returns-in-Err-hear-clause-told
returns-in-Err-hear-clause-told g c =
    let i = c.self.inside in let s : Shard = i.core.shard in let m = c.args.message in let e : Event = Deliver m c.args.sent in let j = i.journal.entries in let k = i.journal.entries in let d : Shard = c.hear.new.core.shard in let n = c.in-Ok.stamp in
    let same : k ≡ j = refl in
    subst (λ (v : Machined _). Refused v.shard c.args.clock c.args.walker e Memory (stamped_as i.is_up i.last k d)) c.self.view_is
    (on_up i.is_up (λ b. Refused (stamped_as b i.last j s) c.args.clock c.args.walker e Memory (stamped_as b i.last k d)) c.if-not-self.false
    (refused i.last j k s d c.args.clock c.args.walker e (deliver_event s m) Memory (Some n) (events_alike i.last j s e refl) (heard_on s m (sym c.if-is_stale.ensures)) refl c.in-Ok.ensures.ok tt same c.in-Err-hear.ensures.err))

pub returns-in-Ok-Quiet-clause-told : goal.returns-in-Ok-Quiet-clause-told
returns-in-Ok-Quiet-clause-told g c =
    let i = c.self.inside in let s : Shard = i.core.shard in let m = c.args.message in let e : Event = Deliver m c.args.sent in let j = i.journal.entries in let k = i.journal.entries in let d : Shard = c.hear.new.core.shard in let n = c.in-Ok.stamp in
    let same : k ≡ j = refl in
    let w = c.in-Ok-Quiet in
    let happens : Happens (on_message s m) s (QuietHere w.outcome) d = subst (λ (h : Happened). Happens (on_message s m) s h d) w.field-0-is w.ensures.ok in
    subst (λ (v : Machined _). Told v.shard c.args.clock c.args.walker e w.outcome (stamped_as i.is_up i.last k d)) c.self.view_is
    (on_up i.is_up (λ b. Told (stamped_as b i.last j s) c.args.clock c.args.walker e w.outcome (stamped_as b i.last k d)) c.if-not-self.false
    (quieted i.last j k s d c.args.clock c.args.walker e (deliver_event s m) w.outcome n (events_alike i.last j s e refl)
    (subst (λ (r : Reply). Happens r s (QuietHere w.outcome) d) (sym (for_here s m (sym c.if-is_stale.ensures))) happens) c.in-Ok.ensures.ok same))
