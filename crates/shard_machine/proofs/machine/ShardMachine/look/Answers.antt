-- A look, by the epoch that the journal tells.
use Rattle.std.proofs.Common.{subst, is_some}
use Rattle.clv_base.specs.declared.events.Event.TheVariants.{Look}
use Rattle.clv_base.specs.State.{Shard}
use Rattle.machine_laws.specs.Frame.{stamped_as, look_by}
use Rattle.shard_machine.specs.Machined.{Machined}
use Rattle.shard_machine.proofs.Running.{few_before, noted}
use Rattle.shard_machine.proofs.Answering.{Told, Refused, looked, entered, earlier, worn, on_up}
use Rattle.shard_machine.proofs.Replying.{look_early, done_goes_on}
use Rattle.shard_machine.proofs.machine.ShardMachine.look.Goals as goal

pub returns-in-Quiet-clause-told : goal.returns-in-Quiet-clause-told
returns-in-Quiet-clause-told g c =
    let i = c.self.inside in let s : Shard = i.core.shard in let tx = c.args.tx in let named = c.request_epoch.result in let o = c.in-Quiet.outcome in
    let alike = looked i.last i.journal.entries s tx named i.journal.shard c.request_epoch.ensures c.self.invariant.index in
    subst (λ (v : Machined _). Told v.shard c.args.clock c.args.walker (Look tx) o v.shard) c.self.view_is
    (on_up i.is_up (λ b. Told (stamped_as b i.last i.journal.entries s) c.args.clock c.args.walker (Look tx) o (stamped_as b i.last i.journal.entries s)) c.if-not-self.false
    (earlier i.last i.journal.entries s c.args.clock c.args.walker (Look tx) (look_by s tx named) o alike (look_early s tx named o c.in-Quiet.ensures.0)))

pub returns-in-Ok-clause-told : goal.returns-in-Ok-clause-told
returns-in-Ok-clause-told g c =
    let i = c.self.inside in let s : Shard = i.core.shard in let tx = c.args.tx in let named = c.request_epoch.result in let o = c.in-Done.outcome in let n = c.in-Ok.stamp in
    let alike = looked i.last i.journal.entries s tx named i.journal.shard c.request_epoch.ensures c.self.invariant.index in let k = c.enter.new.journal.entries in
    let grown = c.enter.ensures.entries in
    subst (λ (v : Machined _). Told v.shard c.args.clock c.args.walker (Look tx) o (stamped_as i.is_up n k s)) c.self.view_is
    (on_up i.is_up (λ b. Told (stamped_as b i.last i.journal.entries s) c.args.clock c.args.walker (Look tx) o (stamped_as b n k s)) c.if-not-self.false
    (entered i.last i.journal.entries k s s c.args.clock c.args.walker (Look tx) (look_by s tx named) o c.in-Done.copy n alike c.in-Done.ensures c.in-Ok.ensures.ok grown))

pub returns-in-Err-clause-told : goal.returns-in-Err-clause-told
returns-in-Err-clause-told g c =
    let i = c.self.inside in let s : Shard = i.core.shard in let tx = c.args.tx in let named = c.request_epoch.result in let j = i.journal.entries in let err = c.in-Err.error in
    let alike = looked i.last j s tx named i.journal.shard c.request_epoch.ensures c.self.invariant.index in
    subst (λ (v : Machined _). Refused v.shard c.args.clock c.args.walker (Look tx) err v.shard) c.self.view_is
    (on_up i.is_up (λ b. Refused (stamped_as b i.last j s) c.args.clock c.args.walker (Look tx) err (stamped_as b i.last j s)) c.if-not-self.false
    (worn i.last j s c.args.clock c.args.walker (Look tx) (look_by s tx named) err alike (done_goes_on _ _ _ c.in-Done.ensures.0) c.in-Err.ensures.err))

pub enter-requires-clause-few : goal.enter-requires-clause-few
enter-requires-clause-few g c = few_before c.self.inside.last c.args.clock 0 c.in-Ok.stamp c.self.inside.journal.entries c.self.invariant.few c.in-Ok.ensures.ok

pub invariant_of-self : goal.invariant_of-self
invariant_of-self g c =
    let i = c.self.inside in
    noted i.core i.is_up i.last c.args.clock 0 c.in-Ok.stamp i.journal c.enter.new.journal (is_some i.gate) _ c.enter.ensures.shard c.enter.ensures.entries c.in-Ok.ensures.ok c.self.invariant
