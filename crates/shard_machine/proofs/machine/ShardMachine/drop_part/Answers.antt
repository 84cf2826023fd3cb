-- A drop of a part that is known, and its entry.
use Rattle.std.proofs.Common.{◌≡◌, refl, ◌∙◌, ap, subst, not, true, is_some}
use Rattle.clv_base.specs.declared.events.Event.TheVariants.{Drop}
use Rattle.clv_base.specs.declared.events.Outcome.TheVariants.{Dropped, Absent}
use Rattle.clv_base.specs.State.{Shard}
use Rattle.clv_base.specs.Events.{happen_up, Does}
use Rattle.machine_laws.specs.Frame.{stamped_as}
use Rattle.machine_laws.proofs.Laws.{events_alike}
use Rattle.shard_machine.specs.Machined.{Machined}
use Rattle.shard_machine.proofs.Running.{goes_as, few_before, kept}
use Rattle.shard_machine.proofs.Answering.{Told, Refused, entered, earlier, worn, on_up}
use Rattle.shard_machine.proofs.Dropped.{is_known, dropped, drop_goes_on, absent}
use Rattle.shard_machine.proofs.machine.ShardMachine.drop_part.Goals as goal

pub returns-then-is_none-clause-told : goal.returns-then-is_none-clause-told
returns-then-is_none-clause-told g c =
    let i = c.self.inside in let s : Shard = i.core.shard in let tx = c.args.tx in let j = i.journal.entries in
    subst (λ (v : Machined _). Told v.shard c.args.clock c.args.walker (Drop tx) Absent v.shard) c.self.view_is
    (on_up i.is_up (λ b. Told (stamped_as b i.last j s) c.args.clock c.args.walker (Drop tx) Absent (stamped_as b i.last j s)) c.if-not-self.false
    (earlier i.last j s c.args.clock c.args.walker (Drop tx) (happen_up s (Drop tx)) Absent (events_alike i.last j s (Drop tx) refl) (absent s tx c.stage_of.result c.stage_of.ensures (c.is_none.ensures ∙ ap not c.if-is_none.true))))

pub enter-requires-clause-few : goal.enter-requires-clause-few
enter-requires-clause-few g c = few_before c.self.inside.last c.args.clock 0 c.in-Ok.stamp c.self.inside.journal.entries c.self.invariant.few c.in-Ok.ensures.ok

pub invariant_of-self : goal.invariant_of-self
invariant_of-self g c =
    let i = c.self.inside in let s : Shard = i.core.shard in let d = c.drop_part.new.self in let tx = c.args.tx in
    let there : is_some c.stage_of.result ≡ true = c.is_none.ensures ∙ ap not c.if-is_none.false in
    let does : happen_up s (Drop tx) ≡ Does Dropped d.shard = dropped s d.shard tx c.stage_of.result c.stage_of.ensures there (c.drop_part.ensures.dropped (c.drop_part.ensures.known ∙ is_known s tx c.stage_of.result c.stage_of.ensures there)) in
    kept i.core d i.is_up i.last c.args.clock 0 c.in-Ok.stamp i.journal c.enter.new.journal (is_some i.gate) (Drop tx) Dropped _ refl (goes_as i.last i.journal.entries s d.shard (Drop tx) Dropped refl does) c.drop_part.ensures.rest c.requires refl
    c.few_undecided.ensures c.log_end-before.ensures.short c.log_end-after.ensures.short c.enter.ensures.shard c.enter.ensures.entries c.in-Ok.ensures.ok c.self.invariant

pub returns-clause-told : goal.returns-clause-told
returns-clause-told g c =
    let i = c.self.inside in let s : Shard = i.core.shard in let d = c.drop_part.new.self in let tx = c.args.tx in let j = i.journal.entries in let k = c.enter.new.journal.entries in let n = c.in-Ok.stamp in let w = c.args.walker in
    let there : is_some c.stage_of.result ≡ true = c.is_none.ensures ∙ ap not c.if-is_none.false in
    let does : happen_up s (Drop tx) ≡ Does Dropped d.shard = dropped s d.shard tx c.stage_of.result c.stage_of.ensures there (c.drop_part.ensures.dropped (c.drop_part.ensures.known ∙ is_known s tx c.stage_of.result c.stage_of.ensures there)) in
    subst (λ (v : Machined _). Told v.shard c.args.clock w (Drop tx) Dropped (stamped_as i.is_up n k d.shard)) c.self.view_is
    (on_up i.is_up (λ b. Told (stamped_as b i.last j s) c.args.clock w (Drop tx) Dropped (stamped_as b n k d.shard)) c.if-not-self.false
    (entered i.last j k s d.shard c.args.clock w (Drop tx) (happen_up s (Drop tx)) Dropped Dropped n (events_alike i.last j s (Drop tx) refl) (does, refl) c.in-Ok.ensures.ok c.enter.ensures.entries))

pub returns-in-Err-clause-told : goal.returns-in-Err-clause-told
returns-in-Err-clause-told g c =
    let i = c.self.inside in let s : Shard = i.core.shard in let tx = c.args.tx in let j = i.journal.entries in
    let there : is_some c.stage_of.result ≡ true = c.is_none.ensures ∙ ap not c.if-is_none.false in
    subst (λ (v : Machined _). Refused v.shard c.args.clock c.args.walker (Drop tx) c.in-Err.error v.shard) c.self.view_is
    (on_up i.is_up (λ b. Refused (stamped_as b i.last j s) c.args.clock c.args.walker (Drop tx) c.in-Err.error (stamped_as b i.last j s)) c.if-not-self.false
    (worn i.last j s c.args.clock c.args.walker (Drop tx) (happen_up s (Drop tx)) c.in-Err.error (events_alike i.last j s (Drop tx) refl) (drop_goes_on s tx c.stage_of.result c.stage_of.ensures there) c.in-Err.ensures.err))
