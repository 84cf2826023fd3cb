-- A COMMIT is there where it has a place.
use Rattle.std.proofs.Common.{◌≡◌, ◌∙◌, ap, subst, is_some}
use Rattle.clv_base.specs.Logs.{is_commit_of, committed_in}
use Rattle.txn_core.specs.State.{TxState}
use Rattle.txn_core.proofs.shard.ShardTx.is_committed.Goals as goal
use Rattle.law_base.proofs.Logs.{place_is}

pub returns : goal.returns
returns g c =
    let i = c.self.inside in let tx = c.args.tx in
    subst (λ (v : TxState). c.is_some.result ≡ committed_in (v.local).log tx) c.self.view_is
    (c.is_some.ensures ∙ ap is_some c.settled_at.ensures ∙ ap is_some (c.self.invariant.settled tx) ∙ place_is 0 (is_commit_of tx) i.buffer.records)
