-- The parts of the state after a restart are all there, and each part in doubt can be taken away.
use Rattle.std.proofs.Common.{◌≡◌, ◌≤◌, ◌∙◌, sym, ap, subst, List, [], map, refl}
use Rattle.std.specs.List.Sorted.{IsStrictlySortedBy}
use Rattle.clv_base.specs.declared.names.TxId.{TxId}
use Rattle.clv_base.specs.Orders.{tx_in, pair_cmp}
use Rattle.clv_base.specs.Logs.{in_doubt, standing}
use Rattle.clv_base.specs.State.{Local}
use Rattle.clv_base.specs.Restarts.{restored_locks, restored_parts}
use Rattle.txn_core.specs.Sound.{owed_by, IsKept}
use Rattle.law_base.proofs.Sets.{doubts_rise}
use Rattle.law_base.proofs.Names.{Rise as Rises}
use Rattle.law_base.proofs.Logs.{firsts_are}
use Rattle.shard_restoring.proofs.Listed.{restored_rise}
use Rattle.shard_restoring.proofs.Whole.{local_is, kept_is}
use Rattle.shard_restoring.proofs.restoring.restored.Goals as goal

pub left_in-requires-clause-rising : goal.left_in-requires-clause-rising
left_in-requires-clause-rising g c =
    let log = c.args.buffer.records in let shard = c.args.shard in
    subst Rises (sym (ap (map (λ d. d.0)) c.requires.in_doubt ∙ firsts_are log (in_doubt shard log))) (doubts_rise shard log)

pub left_in-requires-clause-pairs : goal.left_in-requires-clause-pairs
left_in-requires-clause-pairs g c =
    let log = c.args.buffer.records in let shard = c.args.shard in
    subst (λ (ps : List (TxId × TxId)). IsStrictlySortedBy pair_cmp ps) (sym c.requires.pairs) (restored_rise log c.requires.spelled (in_doubt shard log) (doubts_rise shard log))

pub new-requires : goal.new-requires
new-requires g c =
    let log = c.args.buffer.records in let shard = c.args.shard in let epoch = c.args.epoch in let txs = in_doubt shard log in let left = c.in_ok-left.left in let e = c.in_ok-left.ensures in
    let names = ap (map (λ d. d.0)) c.requires.in_doubt ∙ firsts_are log txs in
    let locks : g.L.Locks.rows left.locks ≡ restored_locks txs (standing log) [] = e.locks ∙ ap (λ (ts : List TxId). restored_locks ts (standing log) []) names in
    let parts : left.parts.entries ≡ restored_parts txs = e.parts ∙ ap restored_parts names in
    let kept = c.left_in.ensures.records in let room = c.left_in.new.buffer.room in
    let enough = subst (λ (ts : List TxId). owed_by (λ t. tx_in t ts) log ≤ room) names e.room in
    subst (λ (x : Local). IsKept left.deps.commits x room)
    (sym (local_is shard epoch log (g.S.Store.records c.args.store) (g.L.Locks.rows left.locks) left.parts.entries left.deps.pairs c.left_in.new.buffer.records c.requires.records locks parts (e.pairs ∙ c.requires.pairs) kept))
    (kept_is shard epoch log c.restarts_end_at_rest.ensures c.requires.spelled txs left.deps.commits room (λ t. refl) enough e.settled)

pub returns-clause-local : goal.returns-clause-local
returns-clause-local g c =
    let log = c.args.buffer.records in let shard = c.args.shard in let txs = in_doubt shard log in let left = c.in_ok-left.left in let e = c.in_ok-left.ensures in
    let names = ap (map (λ d. d.0)) c.requires.in_doubt ∙ firsts_are log txs in
    let locks : g.L.Locks.rows left.locks ≡ restored_locks txs (standing log) [] = e.locks ∙ ap (λ (ts : List TxId). restored_locks ts (standing log) []) names in
    c.new.ensures.local
    ∙ local_is shard c.args.epoch log (g.S.Store.records c.args.store) (g.L.Locks.rows left.locks) left.parts.entries left.deps.pairs c.left_in.new.buffer.records c.requires.records locks (e.parts ∙ ap restored_parts names) (e.pairs ∙ c.requires.pairs) c.left_in.ensures.records
