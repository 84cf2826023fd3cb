-- What is missing is sent again, and the entry is made.
use Rattle.std.proofs.Common.{◌≡◌, refl, sym, ◌∙◌, ap, subst, ◌++◌, ◌∷◌, [], length, None, is_some, arith}
use Rattle.clv_base.specs.declared.events.Event.TheVariants.{Remind}
use Rattle.clv_base.specs.declared.events.Outcome.TheVariants.{Reminded, Nothing}
use Rattle.clv_base.specs.State.{Shard}
use Rattle.clv_base.specs.Due.{send}
use Rattle.clv_base.specs.Events.{happen_up, Does, finish, reminders}
use Rattle.due_step.specs.Sent.{first_of}
use Rattle.machine_calls.specs.Steps.{entry}
use Rattle.machine_laws.specs.Frame.{stamped_as}
use Rattle.machine_laws.proofs.Laws.{events_alike}
use Rattle.shard_machine.specs.Machined.{Machined}
use Rattle.shard_machine.proofs.Running.{goes_as, few_before, kept}
use Rattle.shard_machine.proofs.Answering.{Told, Refused, entered, earlier, twice, worn, on_up}
use Rattle.shard_machine.proofs.Dropped.{reminded, none_missing, none_waits, no_items, some_items}
use Rattle.shard_machine.proofs.Replying.{done_goes_on}
use Rattle.shard_machine.proofs.machine.ShardMachine.remind.Goals as goal

pub returns-then-is_empty-clause-told : goal.returns-then-is_empty-clause-told
returns-then-is_empty-clause-told g c =
    let i = c.self.inside in let s : Shard = i.core.shard in let ok = c.in-Ok.missing.ok in let len : length c.in-Ok.missing.items ≡ c.in-Ok.missing.len = omega (arith, ok) in
    let none : first_of s.outbox ≡ None = none_waits s c.first_message.result c.first_message.ensures (sym c.is_some.ensures ∙ c.if-is_some.false) in
    let empty : reminders s ≡ [] = sym c.in-Ok.ensures ∙ no_items c.in-Ok.missing.items c.in-Ok.missing.len len (sym c.is_empty.ensures ∙ c.if-is_empty.true) in
    subst (λ (v : Machined _). Told v.shard c.args.clock c.args.walker Remind Nothing v.shard) c.self.view_is
    (on_up i.is_up (λ b. Told (stamped_as b i.last i.journal.entries s) c.args.clock c.args.walker Remind Nothing (stamped_as b i.last i.journal.entries s)) c.if-not-self.false
    (earlier i.last i.journal.entries s c.args.clock c.args.walker Remind (happen_up s Remind) Nothing (events_alike i.last i.journal.entries s Remind refl) (none_missing s none empty)))

pub invariant_of-self-2 : goal.invariant_of-self-2
invariant_of-self-2 g c =
    let i = c.self.inside in let s : Shard = i.core.shard in let ok = c.in-Ok.missing.ok in let len : length c.in-Ok.missing.items ≡ c.in-Ok.missing.len = omega (arith, ok) in let d = c.send_again.new.self in let k = c.enter.new.journal in let ms = c.in-Ok.missing.items in
    let none : first_of s.outbox ≡ None = none_waits s c.first_message.result c.first_message.ensures (sym c.is_some.ensures ∙ c.if-is_some.false) in
    let does : happen_up s Remind ≡ Does (Reminded (length ms)) d.shard = reminded s d.shard ms none c.in-Ok.ensures (some_items ms c.in-Ok.missing.len len (sym c.is_empty.ensures ∙ c.if-is_empty.false))
    (c.in-Ok-send_again.ensures.told ∙ ap (λ x. finish (send x s)) c.deref.ensures.value) in
    kept i.core d i.is_up i.last c.args.clock 0 c.in-Ok-place.stamp i.journal k (is_some i.gate) Remind (Reminded (length ms)) _ refl (goes_as i.last i.journal.entries s d.shard Remind (Reminded (length ms)) refl does) c.send_again.ensures.rest refl refl
    c.few_undecided.ensures c.log_end-before.ensures.short c.log_end-after.ensures.short c.enter.ensures.shard c.enter.ensures.entries c.in-Ok-place.ensures.ok c.self.invariant

pub enter-requires-clause-few : goal.enter-requires-clause-few
enter-requires-clause-few g c = few_before c.self.inside.last c.args.clock 0 c.in-Ok-place.stamp c.self.inside.journal.entries c.self.invariant.few c.in-Ok-place.ensures.ok

pub returns-clause-told : goal.returns-clause-told
returns-clause-told g c =
    let i = c.self.inside in let s : Shard = i.core.shard in let ok = c.in-Ok.missing.ok in let len : length c.in-Ok.missing.items ≡ c.in-Ok.missing.len = omega (arith, ok) in let d : Shard = c.send_again.new.self.shard in let j = i.journal.entries in let k = c.enter.new.journal.entries in
    let n = c.in-Ok-place.stamp in let ms = c.in-Ok.missing.items in let o = Reminded c.len-count.result in
    let none : first_of s.outbox ≡ None = none_waits s c.first_message.result c.first_message.ensures (sym c.is_some.ensures ∙ c.if-is_some.false) in
    let does : happen_up s Remind ≡ Does (Reminded (length ms)) d = reminded s d ms none c.in-Ok.ensures (some_items ms c.in-Ok.missing.len len (sym c.is_empty.ensures ∙ c.if-is_empty.false))
    (c.in-Ok-send_again.ensures.told ∙ ap (λ x. finish (send x s)) c.deref.ensures.value) in
    let count : o ≡ Reminded (length ms) = ap (λ m. Reminded m) (c.len-count.ensures ∙ sym len) in
    let grown : k ≡ j ++ entry n c.args.walker Remind o ∷ [] = c.enter.ensures.entries in
    subst (λ (v : Machined _). Told v.shard c.args.clock c.args.walker Remind o (stamped_as i.is_up n k d)) c.self.view_is
    (on_up i.is_up (λ b. Told (stamped_as b i.last j s) c.args.clock c.args.walker Remind o (stamped_as b n k d)) c.if-not-self.false
    (entered i.last j k s d c.args.clock c.args.walker Remind (happen_up s Remind) o o n (events_alike i.last j s Remind refl)
    (twice (happen_up s Remind) s d (Reminded (length ms)) o o does count count) c.in-Ok-place.ensures.ok grown))

pub returns-in-Err-clause-told : goal.returns-in-Err-clause-told
returns-in-Err-clause-told g c =
    let i = c.self.inside in let s : Shard = i.core.shard in let j = i.journal.entries in let ok = c.in-Ok.missing.ok in let len : length c.in-Ok.missing.items ≡ c.in-Ok.missing.len = omega (arith, ok) in let ms = c.in-Ok.missing.items in
    let none : first_of s.outbox ≡ None = none_waits s c.first_message.result c.first_message.ensures (sym c.is_some.ensures ∙ c.if-is_some.false) in
    let does : happen_up s Remind ≡ Does (Reminded (length ms)) (finish (send ms s)) = reminded s (finish (send ms s)) ms none c.in-Ok.ensures (some_items ms c.in-Ok.missing.len len (sym c.is_empty.ensures ∙ c.if-is_empty.false)) refl in
    subst (λ (v : Machined _). Refused v.shard c.args.clock c.args.walker Remind c.in-Err.error v.shard) c.self.view_is
    (on_up i.is_up (λ b. Refused (stamped_as b i.last j s) c.args.clock c.args.walker Remind c.in-Err.error (stamped_as b i.last j s)) c.if-not-self.false
    (worn i.last j s c.args.clock c.args.walker Remind (happen_up s Remind) c.in-Err.error (events_alike i.last j s Remind refl) (done_goes_on _ _ _ does) c.in-Err.ensures.err))
