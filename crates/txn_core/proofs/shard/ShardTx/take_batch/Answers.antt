use Rattle.std.proofs.Common.{◌≡◌, ◌+◌, ◌∙◌, ℕ, ap, sym, subst, drop}
use Rattle.std.specs.Option.{IfSome}
use Rattle.clv_base.specs.declared.logs.LogRecord.{LogRecord}
use Rattle.clv_base.specs.Logs.{record_size, fitting}
use Rattle.clv_base.specs.State.{Local}
use Rattle.log_buffer.specs.Buffers.{Buffer, next_count}
use Rattle.txn_core.specs.State.{TxState}
use Rattle.txn_core.proofs.shard.ShardTx.take_batch.Goals as goal
use Rattle.log_buffer.proofs.Laws.{fitting_by-fitting as fitting_same}

pub returns-clause-none : goal.returns-clause-none
returns-clause-none g c =
    let b = c.self.inside.buffer in
    let same : next_count record_size c.args.limit b ≡ fitting c.args.limit (drop c.args.self.now.taken c.args.self.now.local.log) =
    fitting_same c.args.limit (drop b.taken b.records) ∙ ap (λ (v : TxState). fitting c.args.limit (drop v.taken (v.local).log)) c.self.view_is in
    let none = c.take_batch.ensures.none in (λ n. sym same ∙ none.0 n, λ z. none.1 (same ∙ z))

pub returns-clause-some : goal.returns-clause-some
returns-clause-some g c =
    let b = c.self.inside.buffer in let limit = c.args.limit in
    subst (λ (v : TxState). IfSome c.take_batch.result (λ t. (t.from ≡ v.taken) × (t.upto ≡ v.taken + fitting limit (drop v.taken (v.local).log)))) c.self.view_is
    (subst (λ (n : ℕ). IfSome c.take_batch.result (λ t. (t.from ≡ b.taken) × (t.upto ≡ b.taken + n))) (fitting_same limit (drop b.taken b.records)) c.take_batch.ensures.some)

pub returns-clause-taken : goal.returns-clause-taken
returns-clause-taken g c =
    let s = c.self.inside in let b = s.buffer in let limit = c.args.limit in
    let l : Local = record { records = g.S.Store.records s.store; locks = g.L.Locks.rows s.locks; parts = s.parts.entries; pairs = s.deps.pairs; log = b.records; epoch = s.epoch } in
    let fits = fitting_same limit (drop b.taken b.records) in
    let state : Buffer LogRecord → TxState = λ f. record { shard = s.shard; local = record l { log = f.records }; durable = f.durable; taken = f.taken; room = f.room; pairs_room = s.deps.room } in
    ap state (c.take_batch.ensures.taken ∙ ap (λ (n : ℕ). record b { taken = b.taken + n }) fits)
    ∙ ap (λ (v : TxState). record v { taken = v.taken + fitting limit (drop v.taken (v.local).log) }) c.self.view_is
