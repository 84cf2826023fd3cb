-- How many undecided predecessors a transaction has.
use Rattle.std.proofs.Common.{◌≡◌, ◌≤◌, ⊎_elim, Bool, true, false, not, ◌||◌, List, [], ◌∷◌, ◌++◌, length, Option, Some, None, refl, sym, ap, subst, ◌∙◌, arith}
use Rattle.std.proofs.lemmas.Bool.{cases_Bool, or_cases, or_left, or_right, and_parts}
use Rattle.std.proofs.lemmas.List.Folds.{list_any-append}
use Rattle.std.specs.List.{filter}
use Rattle.clv_base.specs.declared.names.TxId.{TxId}
use Rattle.clv_base.specs.declared.logs.LogRecord.{LogRecord}
use Rattle.shard_ops.specs.declared.plan.Write.{Write}
use Rattle.shard_ops.specs.Effects.{log_after}
use Rattle.clv_base.specs.Orders.{tx_same, tx_in, tx_union, pair_insert}
use Rattle.clv_base.specs.Logs.{committed_in, is_commit_of}
use Rattle.clv_base.specs.Facts.{predecessors_of}
use Rattle.clv_base.specs.Undo.{pairs_without}
use Rattle.clv_base.specs.OneShard.{add_pairs, update_of}
use Rattle.clv_base.proofs.SameNames.{tx_true, tx_self}
use Rattle.protocol_laws.specs.UndoLaws.{is_pair}
use Rattle.law_base.proofs.Tables.{pair_in, in_pair, add_keeps, add_has, insert_from}
use Rattle.cascade_undo.proofs.Laws.{preds_gone, same_list}
use Rattle.shard_ops.proofs.Laws.{predecessors_rise, union_rises, in_union}
use Rattle.txn_core.specs.Sound.{FewUndecided}
use Rattle.txn_core.proofs.Counting.{count-fewer}
use Rattle.law_base.proofs.Bools.{same_truth as same_bits}
use Rattle.law_base.proofs.Names.{preds_without, preds_add}

-- ---- a longer log

not_or : (b c : Bool) → not (b || c) ≡ true → not b ≡ true
not_or true c h = h
not_or false c h = refl

pub few_grows : (log more : List LogRecord) (pairs : List (TxId × TxId)) → FewUndecided log pairs → FewUndecided (log ++ more) pairs
few_grows log more pairs few t =
    let a = count-fewer (λ p. not (committed_in (log ++ more) p)) (λ p. not (committed_in log p)) (predecessors_of pairs t) open_before in
    let b = few t in omega (arith, a, b)
  where
    open_before : (p : TxId) → not (committed_in (log ++ more) p) ≡ true → not (committed_in log p) ≡ true
    open_before p h = not_or (committed_in log p) (committed_in more p) (ap not (sym (list_any-append (is_commit_of p) log more)) ∙ h)

-- ---- fewer pairs

pub few_without : (set : List TxId) (log : List LogRecord) (pairs : List (TxId × TxId)) → FewUndecided log pairs → FewUndecided log (pairs_without set pairs)
few_without set log pairs few t =
    ⊎_elim (λ i. subst (λ (us : List TxId). length (filter (λ p. not (committed_in log p)) us) ≤ 1024) (sym (preds_gone set t pairs i)) (omega arith))
    (λ o. subst (λ (us : List TxId). length (filter (λ p. not (committed_in log p)) us) ≤ 1024) (sym (preds_without set t pairs o)) (few t)) (cases_Bool (tx_in t set))

-- ---- more pairs of one transaction

-- its new pairs are with these alone
from_these : (tx : TxId) (qs : List TxId) (pairs : List (TxId × TxId)) (p : TxId) → is_pair (add_pairs tx qs pairs) tx p ≡ true → (tx_in p qs || tx_in p (predecessors_of pairs tx)) ≡ true
from_these tx [] pairs p e = pair_in pairs tx p e
from_these tx (q ∷ qs) pairs p e =
    ⊎_elim (λ i. or_left _ _ (or_right (tx_same q p) (tx_in p qs) i))
    (λ i. ⊎_elim (λ old. or_right (tx_same q p || tx_in p qs) _ (pair_in pairs tx p old)) (λ new. or_left _ _ (or_left (tx_same q p) (tx_in p qs) (flip p q (and_parts _ _ new).1))) (insert_from pairs (tx, q) tx p (in_pair (pair_insert (tx, q) pairs) tx p i)))
    (or_cases (tx_in p qs) _ (from_these tx qs (pair_insert (tx, q) pairs) p e))
  where
    flip : (p q : TxId) → tx_same p q ≡ true → tx_same q p ≡ true
    flip p q s = ap (λ z. tx_same z p) (sym (tx_true p q s)) ∙ tx_self p

preds_own : (tx : TxId) (qs : List TxId) (pairs : List (TxId × TxId)) → predecessors_of (add_pairs tx qs pairs) tx ≡ tx_union qs (predecessors_of pairs tx)
preds_own tx qs pairs =
    same_list (predecessors_of (add_pairs tx qs pairs) tx) (tx_union qs (predecessors_of pairs tx)) (predecessors_rise (add_pairs tx qs pairs) tx) (union_rises qs (predecessors_of pairs tx) (predecessors_rise pairs tx))
    (λ p. same_bits _ _ (λ i. in_union p qs (predecessors_of pairs tx) ∙ from_these tx qs pairs p (in_pair (add_pairs tx qs pairs) tx p i))
    (λ i. pair_in (add_pairs tx qs pairs) tx p
    (⊎_elim (λ new. add_has tx qs pairs p new) (λ old. add_keeps tx qs pairs tx p (in_pair pairs tx p old)) (or_cases (tx_in p qs) _ (sym (in_union p qs (predecessors_of pairs tx)) ∙ i)))))

pub few_add : (tx : TxId) (qs : List TxId) (log : List LogRecord) (pairs : List (TxId × TxId)) → FewUndecided log pairs
    → length (filter (λ p. not (committed_in log p)) (tx_union qs (predecessors_of pairs tx))) ≤ 1024 → FewUndecided log (add_pairs tx qs pairs)
few_add tx qs log pairs few own t =
    ⊎_elim
    (λ s. subst (λ (u : TxId). length (filter (λ p. not (committed_in log p)) (predecessors_of (add_pairs tx qs pairs) u)) ≤ 1024) (sym (tx_true t tx s))
    (subst (λ (us : List TxId). length (filter (λ p. not (committed_in log p)) us) ≤ 1024) (sym (preds_own tx qs pairs)) own))
    (λ o. subst (λ (us : List TxId). length (filter (λ p. not (committed_in log p)) us) ≤ 1024) (sym (preds_add t tx qs pairs o)) (few t)) (cases_Bool (tx_same t tx))

-- ---- an equal log and equal pairs; the log of an undo, and of a write

pub few_same : (log rest : List LogRecord) (pairs left : List (TxId × TxId)) → rest ≡ log → left ≡ pairs → FewUndecided log pairs → FewUndecided rest left
few_same log rest pairs left l p few = subst (λ (ps : List (TxId × TxId)). FewUndecided rest ps) (sym p) (subst (λ (rs : List LogRecord). FewUndecided rs pairs) (sym l) few)

pub few_undone : (log aborts clrs : List LogRecord) (pairs : List (TxId × TxId)) → FewUndecided log pairs → FewUndecided (log ++ aborts ++ clrs) pairs
few_undone log aborts clrs pairs few = few_grows (log ++ aborts) clrs pairs (few_grows log aborts pairs few)

pub few_written : (tx : TxId) (write : Option Write) (log : List LogRecord) (pairs : List (TxId × TxId)) → FewUndecided log pairs → FewUndecided (log_after tx write log) pairs
few_written tx None log pairs few = few
few_written tx (Some w) log pairs few = few_grows log (update_of tx w.key w.change ∷ []) pairs few
