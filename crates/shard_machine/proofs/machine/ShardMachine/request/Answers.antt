-- A request, and its entry.
use Rattle.std.proofs.Common.{◌≡◌, refl, sym, ◌∙◌, ap, subst, true, ◌++◌, ◌∷◌, [], ◌≤◌, length, is_some}
use Rattle.std.proofs.lemmas.Bool.{and_from}
use Rattle.clv_base.specs.declared.events.Event.{Event}
use Rattle.clv_base.specs.declared.events.Event.TheVariants.{Request}
use Rattle.clv_base.specs.State.{Shard}
use Rattle.clv_base.specs.Events.{Does, happen_up}
use Rattle.shard_machine.specs.Journaled.{Journaled}
use Rattle.shard_core.specs.Requesting.{requested}
use Rattle.machine_calls.specs.Events.{touched_fit}
use Rattle.machine_calls.specs.Steps.{entry}
use Rattle.machine_laws.specs.Frame.{stamped_as}
use Rattle.machine_laws.proofs.Laws.{events_alike}
use Rattle.shard_machine.specs.Machined.{Machined}
use Rattle.shard_machine.proofs.Running.{goes_as, few_before, kept, stays}
use Rattle.shard_machine.proofs.Answering.{Told, entered, twice, on_up}
use Rattle.shard_machine.proofs.Touching.{touched_as}
use Rattle.shard_machine.proofs.machine.ShardMachine.request.Goals as goal

pub request-requires-clause-rising : goal.request-requires-clause-rising
request-requires-clause-rising g c =
    let fit = subst (λ (v : Machined _). touched_fit (v.shard).shard c.args.touched ≡ true) (sym c.self.view_is) c.requires.fits in (touched_as c.self.inside.core.shard.shard c.args.touched fit).rising

pub request-requires-clause-low : goal.request-requires-clause-low
request-requires-clause-low g c =
    let fit = subst (λ (v : Machined _). touched_fit (v.shard).shard c.args.touched ≡ true) (sym c.self.view_is) c.requires.fits in (touched_as c.self.inside.core.shard.shard c.args.touched fit).low

pub request-requires-clause-own : goal.request-requires-clause-own
request-requires-clause-own g c =
    let fit = subst (λ (v : Machined _). touched_fit (v.shard).shard c.args.touched ≡ true) (sym c.self.view_is) c.requires.fits in (touched_as c.self.inside.core.shard.shard c.args.touched fit).own

pub enter-requires-clause-few : goal.enter-requires-clause-few
enter-requires-clause-few g c =
    let i = c.self.inside in
    few_before i.last c.args.clock 0 c.in-Ok.stamp c.place_request.new.journal.entries (subst (λ (x : Journaled). length x.entries ≤ i.last) (sym c.place_request.ensures.same) c.self.invariant.few) c.in-Ok.ensures.ok

pub invariant_of-self-in-Ok-request : goal.invariant_of-self-in-Ok-request
invariant_of-self-in-Ok-request g c =
    let i = c.self.inside in let s : Shard = i.core.shard in let e : Event = Request c.args.tx c.args.touched in let d = c.request.new.self in let k = c.enter.new.journal in
    let fit : touched_fit s.shard c.args.touched ≡ true = subst (λ (v : Machined _). touched_fit (v.shard).shard c.args.touched ≡ true) (sym c.self.view_is) c.requires.fits in
    let does : happen_up s e ≡ Does (requested c.in-Ok-request.answer) d.shard = c.in-Ok-request.ensures.ok in let x = entry c.in-Ok.stamp c.args.walker (Request c.args.tx c.in-Some.parts) c.outcome_of-copy.result in
    kept i.core d i.is_up i.last c.args.clock 0 c.in-Ok.stamp i.journal k (is_some i.gate) e (requested c.in-Ok-request.answer) x refl (goes_as i.last i.journal.entries s d.shard e (requested c.in-Ok-request.answer) refl does)
    c.request.ensures.still (and_from _ _ c.requires.spelled fit) refl c.few_undecided.ensures
    c.log_end-before.ensures.short c.log_end-after.ensures.short (c.enter.ensures.shard ∙ ap (λ (x : Journaled). x.shard) c.place_request.ensures.same)
    (c.enter.ensures.entries ∙ ap (λ (y : Journaled). y.entries ++ x ∷ []) c.place_request.ensures.same) c.in-Ok.ensures.ok c.self.invariant

pub returns-in-Ok-request-clause-told : goal.returns-in-Ok-request-clause-told
returns-in-Ok-request-clause-told g c =
    let i = c.self.inside in let s : Shard = i.core.shard in let e : Event = Request c.args.tx c.args.touched in let d : Shard = c.request.new.self.shard in let j = i.journal.entries in
    let k = c.enter.new.journal.entries in let n = c.in-Ok.stamp in let o = c.outcome_of-outcome.result in let p = c.outcome_of-copy.result in
    let does : happen_up s e ≡ Does (requested c.in-Ok-request.answer) d = c.in-Ok-request.ensures.ok in
    let grown : k ≡ j ++ entry n c.args.walker e p ∷ [] =
    c.enter.ensures.entries ∙ ap (λ (x : Journaled). x.entries ++ entry n c.args.walker (Request c.args.tx c.in-Some.parts) p ∷ []) c.place_request.ensures.same
    ∙ ap (λ t. j ++ entry n c.args.walker (Request c.args.tx t) p ∷ []) c.in-Some.ensures in
    subst (λ (v : Machined _). Told v.shard c.args.clock c.args.walker e o (stamped_as i.is_up n k d)) c.self.view_is
    (on_up i.is_up (λ b. Told (stamped_as b i.last j s) c.args.clock c.args.walker e o (stamped_as b n k d)) c.if-not-self.false
    (entered i.last j k s d c.args.clock c.args.walker e (happen_up s e) o p n (events_alike i.last j s e refl)
    (twice (happen_up s e) s d (requested c.in-Ok-request.answer) o p does c.outcome_of-outcome.ensures c.outcome_of-copy.ensures) c.in-Ok.ensures.ok grown))

-- where there is no memory there is only more room in the journal
pub invariant_of-self : goal.invariant_of-self
invariant_of-self g c =
    let i = c.self.inside in
    stays i.core i.core i.is_up i.last i.journal c.place_request.new.journal (is_some i.gate) c.self.invariant.rest refl (ap (λ (x : Journaled). x.shard) c.place_request.ensures.same) (ap (λ (x : Journaled). x.entries) c.place_request.ensures.same) c.self.invariant

pub invariant_of-self-in_default : goal.invariant_of-self-in_default
invariant_of-self-in_default g c =
    let i = c.self.inside in
    stays i.core i.core i.is_up i.last i.journal c.place_request.new.journal (is_some i.gate) c.self.invariant.rest refl (ap (λ (x : Journaled). x.shard) c.place_request.ensures.same) (ap (λ (x : Journaled). x.entries) c.place_request.ensures.same) c.self.invariant

pub invariant_of-self-in-Err-request : goal.invariant_of-self-in-Err-request
invariant_of-self-in-Err-request g c =
    let i = c.self.inside in
    stays i.core c.request.new.self i.is_up i.last i.journal c.place_request.new.journal (is_some i.gate) c.request.ensures.still c.in-Err-request.ensures.err (ap (λ (x : Journaled). x.shard) c.place_request.ensures.same)
    (ap (λ (x : Journaled). x.entries) c.place_request.ensures.same) c.self.invariant
