use Rattle.std.proofs.Common.{◌≡◌, sym, ◌∙◌, ap, subst, List, [], Result, Ok, Err, IfOk, Vec}
use Rattle.std.specs.List.Sorted.{IsStrictlySortedBy}
use Rattle.clv_base.specs.declared.names.TxId.{TxId}
use Rattle.clv_base.specs.Orders.{tx_cmp}
use Rattle.clv_base.specs.Locks.{violated}
use Rattle.lock_index.specs.Rows.{groups}
use Rattle.lock_index.specs.Meeting.{visit, violated_step}
use Rattle.lock_index.proofs.Violations.{violated_visited, violated_sorted}
use Rattle.lock_index.proofs.hashed_locks.HashedLocksLocks.violated.Goals as goal

pub returns-clause-ok : goal.returns-clause-ok
returns-clause-ok c = let tx = c.args.tx in let needs = c.args.needs.now in
    subst (λ l. IfOk c.violated.result (λ txs. txs.items ≡ l)) (violated_visited tx needs (groups c.self.inside.groups.entries) c.self.invariant.0.apart ∙ ap (λ v. violated tx needs v.rows) c.self.view_is) c.violated.ensures

rising : {Z E : Type 0} (r : Result (Vec TxId Z) E) (l : List TxId) → IsStrictlySortedBy tx_cmp l → IfOk r (λ txs. txs.items ≡ l) → IfOk r (λ txs. IsStrictlySortedBy tx_cmp txs.items)
rising (Ok txs) l s e = subst (IsStrictlySortedBy tx_cmp) (sym e) s
rising (Err x) l s e = e

pub returns-clause-rising : goal.returns-clause-rising
returns-clause-rising c = let tx = c.args.tx in let needs = c.args.needs.now in let gs = groups c.self.inside.groups.entries in
    rising c.violated.result (visit (violated_step tx) needs gs []) (violated_sorted tx needs gs c.self.invariant.0.apart) c.violated.ensures
