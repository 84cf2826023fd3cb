-- An operation, and its entry.
use Rattle.std.proofs.Common.{◌≡◌, refl, sym, ◌∙◌, ap, subst, ◌++◌, ◌∷◌, [], ◌≤◌, length, is_some}
use Rattle.clv_base.specs.declared.events.Event.{Event}
use Rattle.clv_base.specs.declared.events.Event.TheVariants.{Op as OpEvent}
use Rattle.clv_base.specs.State.{Shard}
use Rattle.clv_base.specs.Events.{happen_up}
use Rattle.shard_machine.specs.Journaled.{Journaled}
use Rattle.shard_machine.specs.declared.happening.Happened.{Happened}
use Rattle.shard_machine.specs.declared.happening.Happened.TheVariants.{Done, Quiet}
use Rattle.shard_machine.specs.Happening.{Happens}
use Rattle.machine_calls.specs.Steps.{entry}
use Rattle.machine_laws.specs.Frame.{stamped_as}
use Rattle.machine_laws.proofs.Laws.{events_alike}
use Rattle.shard_machine.specs.Machined.{Machined}
use Rattle.shard_machine.proofs.Running.{goes_as, few_before, kept, stays}
use Rattle.shard_machine.proofs.Answering.{Told, entered, quieted, on_up}
use Rattle.shard_machine.proofs.machine.ShardMachine.operate.Goals as goal

pub enter-requires-clause-few : goal.enter-requires-clause-few
enter-requires-clause-few g c =
    let i = c.self.inside in
    few_before i.last c.args.clock 0 c.in-Ok.stamp c.place_op.new.journal.entries (subst (λ (x : Journaled). length x.entries ≤ i.last) (sym c.place_op.ensures.same) c.self.invariant.few) c.in-Ok.ensures.ok

pub invariant_of-self-in-Ok-Done : goal.invariant_of-self-in-Ok-Done
invariant_of-self-in-Ok-Done g c =
    let i = c.self.inside in let s : Shard = i.core.shard in let e : Event = OpEvent c.args.tx c.args.birth c.args.nth c.args.seen c.args.op in let d = c.operate.new.core in let w = c.in-Ok-Done in
    let k = c.enter.new.journal in let x = entry c.in-Ok.stamp c.args.walker (OpEvent c.args.tx c.args.birth c.args.nth c.args.seen c.new.result) w.copy in
    let happens : Happens (happen_up s e) s (Done w.outcome w.copy) d.shard = subst (λ (h : Happened). Happens (happen_up s e) s h d.shard) w.field-0-is w.ensures.ok in
    kept i.core d i.is_up i.last c.args.clock 0 c.in-Ok.stamp i.journal k (is_some i.gate) e w.outcome x refl (goes_as i.last i.journal.entries s d.shard e w.outcome refl happens.0) c.operate.ensures.rest c.requires c.fits.ensures
    c.few_undecided.ensures c.log_end-before.ensures.short c.log_end-after.ensures.short (c.enter.ensures.shard ∙ ap (λ (x : Journaled). x.shard) c.place_op.ensures.same)
    (c.enter.ensures.entries ∙ ap (λ (y : Journaled). y.entries ++ x ∷ []) c.place_op.ensures.same) c.in-Ok.ensures.ok c.self.invariant

pub returns-in-Ok-Quiet-clause-told : goal.returns-in-Ok-Quiet-clause-told
returns-in-Ok-Quiet-clause-told g c =
    let i = c.self.inside in let s : Shard = i.core.shard in let e : Event = OpEvent c.args.tx c.args.birth c.args.nth c.args.seen c.args.op in let d : Shard = c.operate.new.core.shard in
    let w = c.in-Ok-Quiet in let j = i.journal.entries in let k = c.place_op.new.journal.entries in
    let happens : Happens (happen_up s e) s (Quiet w.outcome) d = subst (λ (h : Happened). Happens (happen_up s e) s h d) w.field-0-is w.ensures.ok in
    let same : k ≡ j = ap (λ (x : Journaled). x.entries) c.place_op.ensures.same in
    subst (λ (v : Machined _). Told v.shard c.args.clock c.args.walker e w.outcome (stamped_as i.is_up i.last k d)) c.self.view_is
    (on_up i.is_up (λ b. Told (stamped_as b i.last j s) c.args.clock c.args.walker e w.outcome (stamped_as b i.last k d)) c.if-not-self.false
    (quieted i.last j k s d c.args.clock c.args.walker e (happen_up s e) w.outcome c.in-Ok.stamp (events_alike i.last j s e refl) happens c.in-Ok.ensures.ok same))

pub returns-in-Ok-Done-clause-told : goal.returns-in-Ok-Done-clause-told
returns-in-Ok-Done-clause-told g c =
    let i = c.self.inside in let s : Shard = i.core.shard in let e : Event = OpEvent c.args.tx c.args.birth c.args.nth c.args.seen c.args.op in let d : Shard = c.operate.new.core.shard in
    let w = c.in-Ok-Done in let j = i.journal.entries in let k = c.enter.new.journal.entries in let n = c.in-Ok.stamp in
    let happens : Happens (happen_up s e) s (Done w.outcome w.copy) d = subst (λ (h : Happened). Happens (happen_up s e) s h d) w.field-0-is w.ensures.ok in
    let grown : k ≡ j ++ entry n c.args.walker e w.copy ∷ [] =
    c.enter.ensures.entries ∙ ap (λ o. c.place_op.new.journal.entries ++ entry n c.args.walker (OpEvent c.args.tx c.args.birth c.args.nth c.args.seen o) w.copy ∷ []) c.new.ensures
    ∙ ap (λ (x : Journaled). x.entries ++ entry n c.args.walker e w.copy ∷ []) c.place_op.ensures.same in
    subst (λ (v : Machined _). Told v.shard c.args.clock c.args.walker e w.outcome (stamped_as i.is_up n k d)) c.self.view_is
    (on_up i.is_up (λ b. Told (stamped_as b i.last j s) c.args.clock c.args.walker e w.outcome (stamped_as b n k d)) c.if-not-self.false
    (entered i.last j k s d c.args.clock c.args.walker e (happen_up s e) w.outcome w.copy n (events_alike i.last j s e refl) happens c.in-Ok.ensures.ok grown))

-- where there is no memory, and at a quiet answer, there is only more room in the journal
pub invariant_of-self : goal.invariant_of-self
invariant_of-self g c =
    let i = c.self.inside in
    stays i.core i.core i.is_up i.last i.journal c.place_op.new.journal (is_some i.gate) c.self.invariant.rest refl (ap (λ (x : Journaled). x.shard) c.place_op.ensures.same) (ap (λ (x : Journaled). x.entries) c.place_op.ensures.same) c.self.invariant

pub invariant_of-self-in-Err-operate : goal.invariant_of-self-in-Err-operate
invariant_of-self-in-Err-operate g c =
    let i = c.self.inside in
    stays i.core c.operate.new.core i.is_up i.last i.journal c.place_op.new.journal (is_some i.gate) c.operate.ensures.rest c.in-Err-operate.ensures.err (ap (λ (x : Journaled). x.shard) c.place_op.ensures.same)
    (ap (λ (x : Journaled). x.entries) c.place_op.ensures.same) c.self.invariant

pub invariant_of-self-in-Ok-Quiet : goal.invariant_of-self-in-Ok-Quiet
invariant_of-self-in-Ok-Quiet g c =
    let i = c.self.inside in let s : Shard = i.core.shard in let e : Event = OpEvent c.args.tx c.args.birth c.args.nth c.args.seen c.args.op in let d = c.operate.new.core in let w = c.in-Ok-Quiet in
    let happens : Happens (happen_up s e) s (Quiet w.outcome) d.shard = subst (λ (h : Happened). Happens (happen_up s e) s h d.shard) w.field-0-is w.ensures.ok in
    stays i.core d i.is_up i.last i.journal c.place_op.new.journal (is_some i.gate) c.operate.ensures.rest happens.1 (ap (λ (x : Journaled). x.shard) c.place_op.ensures.same) (ap (λ (x : Journaled). x.entries) c.place_op.ensures.same) c.self.invariant
