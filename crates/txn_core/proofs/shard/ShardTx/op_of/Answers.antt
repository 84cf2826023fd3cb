-- A part that dies is rolled back from the state before, which is then the protocol's; and each ghost bears a lock before and after.
use Rattle.std.proofs.Common.{ap, subst, ◌∙◌}
use Rattle.clv_base.specs.Undo.{roll_back}
use Rattle.clv_base.specs.OneShard.{purge}
use Rattle.shard_ops.specs.Ghosts.{GhostsAreLocked}
use Rattle.txn_core.specs.State.{TxState, IsSameBut}
use Rattle.txn_core.proofs.Locked.{same_purged, known_purged}
use Rattle.txn_core.proofs.shard.ShardTx.op_of.Goals as goal

pub returns-in-Answered-clause-ok : goal.returns-in-Answered-clause-ok
returns-in-Answered-clause-ok g c =
    let s = c.args.self.now in let t = c.attempt.new.self in
    let come = rw c.in-Answered.is at c.in-Ok.ensures.ok in
    let locked = subst (λ (v : TxState). GhostsAreLocked (v.local).locks (v.local).records) c.self.view_is c.self.invariant.ghosts in
    (t.local, come.0, ap (λ (v : TxState). (v.local).epoch) c.self.view_is ∙ come.1, known_purged s t come.2 locked, come.3)

pub returns-in-Dead-clause-ok : goal.returns-in-Dead-clause-ok
returns-in-Dead-clause-ok g c =
    let s = c.args.self.now in
    let come = rw c.in-Dead.is at c.in-Ok.ensures.ok in
    let locked = subst (λ (v : TxState). GhostsAreLocked (v.local).locks (v.local).records) c.self.view_is c.self.invariant.ghosts in
    (s.local, come.0, same_purged s c.attempt.new.self come.1 locked)

pub returns-in-Dying-clause-ok : goal.returns-in-Dying-clause-ok
returns-in-Dying-clause-ok g c =
    let s = c.args.self.now in let tx = c.args.tx in
    let come = rw c.in-Dying.is at c.in-Ok.ensures.ok in
    (roll_back tx s.local, come.0, subst (λ (v : TxState). IsSameBut v (purge (roll_back tx v.local)) c.roll_back_part.new.self) come.2 c.roll_back_part.ensures.without)
