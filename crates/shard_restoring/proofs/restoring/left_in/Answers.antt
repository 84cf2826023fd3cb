-- The list, the set and the slice of those in doubt have the same members, and the slice of the log is the log.
use Rattle.std.proofs.Common.{◌≡◌, ◌≤◌, ◌∙◌, sym, ap, subst, List, [], map, Result, Ok, Err}
use Rattle.std.specs.Prelude.{OnOk, IfOk}
use Rattle.clv_base.specs.declared.names.TxId.{TxId}
use Rattle.clv_base.specs.declared.logs.LogRecord.{LogRecord}
use Rattle.clv_base.specs.Orders.{tx_in}
use Rattle.clv_base.specs.Logs.{standing}
use Rattle.clv_base.specs.Restarts.{restored_locks, restored_parts}
use Rattle.txn_core.specs.Sound.{owed_by}
use Rattle.txn_core.specs.State.{AreSettled}
use Rattle.law_base.proofs.Lists.{whole_range}
use Rattle.law_base.proofs.Names.{Rise as Rises}
use Rattle.shard_restoring.proofs.restoring.left_in.Goals as goal

whatever : {A E : Type 0} (r : Result A E) (P : Type 0) → P → OnOk r P
whatever (Ok a) P p = p
whatever (Err e) P p = tt

pub left_of-requires-clause-same : goal.left_of-requires-clause-same
left_of-requires-clause-same g c = λ t. c.in_ok-doubtful.ensures.set t ∙ ap (tx_in t) (sym c.deref-2.ensures.value)

pub left_of-requires-clause-rising : goal.left_of-requires-clause-rising
left_of-requires-clause-rising g c = subst Rises (sym (c.deref-2.ensures.value ∙ c.in_ok-doubtful.ensures.list)) c.requires.rising

pub returns-clause-locks : goal.returns-clause-locks
returns-clause-locks g c =
    let names = c.deref-2.ensures.value ∙ c.in_ok-doubtful.ensures.list in
    let seen : c.records-log.result.now ≡ c.args.buffer.now.records = whole_range _ _ _ c.records-log.ensures c.end.ensures.end ∙ c.reserve_undo.ensures.records in
    subst (λ (rs : List LogRecord). IfOk c.left_of.result (λ m. g.L.Locks.rows m.locks ≡ restored_locks (map (λ d. d.0) c.args.in_doubt.now) (standing rs) [])) seen
    (subst (λ (ts : List TxId). IfOk c.left_of.result (λ m. g.L.Locks.rows m.locks ≡ restored_locks ts (standing c.records-log.result.now) [])) names c.left_of.ensures.locks)

pub returns-clause-parts : goal.returns-clause-parts
returns-clause-parts g c =
    subst (λ (ts : List TxId). IfOk c.left_of.result (λ m. m.parts.entries ≡ restored_parts ts)) (c.deref-2.ensures.value ∙ c.in_ok-doubtful.ensures.list) c.left_of.ensures.parts

pub returns-clause-settled : goal.returns-clause-settled
returns-clause-settled g c =
    let seen : c.records-log.result.now ≡ c.args.buffer.now.records = whole_range _ _ _ c.records-log.ensures c.end.ensures.end ∙ c.reserve_undo.ensures.records in
    subst (λ (rs : List LogRecord). IfOk c.left_of.result (λ m. AreSettled m.deps.commits rs)) seen c.left_of.ensures.settled

pub reserve_undo-requires : goal.reserve_undo-requires
reserve_undo-requires g c = subst Rises (sym (c.deref.ensures.value ∙ c.in_ok-doubtful.ensures.list)) c.requires.rising

pub returns-clause-room : goal.returns-clause-room
returns-clause-room g c =
    let log = c.args.buffer.now.records in let names = c.deref.ensures.value ∙ c.in_ok-doubtful.ensures.list in
    whatever c.left_of.result _ (subst (λ (ts : List TxId). owed_by (λ t. tx_in t ts) log ≤ c.reserve_undo.new.buffer.room) names c.in-Ok.ensures.ok)
