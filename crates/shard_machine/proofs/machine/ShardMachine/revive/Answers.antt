-- The new core is what the restart of the log leaves, and its entry is made.
use Rattle.std.proofs.Common.{◌≡◌, refl, sym, ap, subst, ◌∙◌, ◌<◌, ◌++◌, ◌∷◌, [], true, Some, is_some}
use Rattle.std.proofs.lemmas.Bool.{ltb-true}
use Rattle.clv_base.specs.declared.events.Event.TheVariants.{Restart}
use Rattle.clv_base.specs.declared.events.Outcome.TheVariants.{Up}
use Rattle.clv_base.specs.Restarts.{state_after}
use Rattle.machine_calls.specs.Restored.{IsRestored}
use Rattle.machine_calls.specs.Steps.{entry}
use Rattle.shard_machine.specs.Machined.{Machined, IsRunning}
use Rattle.shard_machine.specs.Stamps.{newest, stamp_by}
use Rattle.shard_core.specs.Core.{Core}
use Rattle.shard_core.specs.Whole.{IsAtRest}
use Rattle.shard_machine.proofs.Running.{few_before, noted, stays}
use Rattle.shard_machine.proofs.Starting.{begun}
use Rattle.shard_machine.proofs.Restarting.{revived_by}
use Rattle.shard_machine.proofs.machine.ShardMachine.revive.Goals as goal

pub restart-requires : goal.restart-requires
restart-requires g c =
    subst (λ (v : Machined _). IsRestored v.shard.shard v.shard.run c.args.epoch (g.S.Store.records c.args.store) c.args.recovered) (sym c.self.view_is) c.requires.restored

pub enter-requires-clause-few : goal.enter-requires-clause-few
enter-requires-clause-few g c = few_before c.self.inside.last c.args.clock 0 c.in-Ok.stamp c.self.inside.journal.entries c.self.invariant.few c.in-Ok.ensures.ok

pub invariant_of-self : goal.invariant_of-self
invariant_of-self g c =
    let i = c.self.inside in let same = c.in-Err-restart.ensures.err in
    stays i.core c.restart.new.self i.is_up i.last i.journal i.journal (is_some i.gate) (subst IsAtRest (sym same) c.self.invariant.rest) (ap (λ (d : Core). d.shard) same) refl refl c.self.invariant

pub invariant_of-self-2 : goal.invariant_of-self-2
invariant_of-self-2 g c =
    let i = c.self.inside in let d = c.restart.new.self in let k = c.enter.new.journal in let log = c.args.recovered.buffer.records in let s = c.args.self.now.shard in let n = c.in-Ok.stamp in
    let number : i.core.shard.shard ≡ s.shard = ap (λ (v : Machined _). v.shard.shard) c.self.view_is in
    let same : i.core.shard.run ≡ s.run = ap (λ (v : Machined _). v.shard.run) c.self.view_is in
    let is : d.shard ≡ state_after s.shard s.run c.args.epoch log 0 [] =
    c.in-Ok-restart.ensures.shard ∙ ap (λ a. state_after a i.core.shard.run c.args.epoch log 0 []) number ∙ ap (λ a. state_after s.shard a c.args.epoch log 0 []) same in
    let low : s.shard < 16 = subst (λ (v : Machined _). v.shard.shard < 16) c.self.view_is (ltb-true i.core.shard.shard 16 c.self.invariant.named.fitting.shard) in
    let index : k.shard ≡ s.shard = c.enter.ensures.shard ∙ c.self.invariant.index ∙ number in
    let few = (noted i.core i.is_up i.last c.args.clock 0 n i.journal k (is_some i.gate) _ c.enter.ensures.shard c.enter.ensures.entries c.in-Ok.ensures.ok c.self.invariant).few in
    subst (λ o. IsRunning d true n k (is_some o)) (sym c.replace.ensures.after)
    (begun d k s.shard s.run c.args.epoch n _ c.args.recovered low c.requires.restored is c.in-Ok-restart.ensures.rest index few)

pub returns-clause-told : goal.returns-clause-told
returns-clause-told g c =
    let i = c.self.inside in let n = c.in-Ok.stamp in let e = entry n c.args.walker Restart (Up c.args.epoch) in let s = c.args.self.now.shard in
    revived_by s c.restart.new.self.shard c.args.clock c.args.walker c.args.epoch n i.core.shard.shard i.core.shard.run c.args.recovered.buffer.records c.enter.new.journal.entries
    c.in-Ok-restart.ensures.shard
    (ap (λ (v : Machined _). v.shard.shard) c.self.view_is)
    (ap (λ (v : Machined _). v.shard.run) c.self.view_is)
    (subst (λ (v : Machined _). stamp_by (newest v.shard.last c.args.clock 0) ≡ Some n) c.self.view_is c.in-Ok.ensures.ok)
    (c.enter.ensures.entries ∙ ap (λ (v : Machined _). v.shard.journal ++ e ∷ []) c.self.view_is)
