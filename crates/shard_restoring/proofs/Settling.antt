-- Pairs and COMMITs, put in one after another.
use Rattle.std.proofs.Common.{◌≡◌, List, [], ◌∷◌, ◌++◌, refl, sym, ap, subst, ◌∙◌, ℕ, ◌+◌, ◌<◌, length, get_or, drop, drop-cons, add-one}
use Rattle.std.specs.List.{AllByRecursion}
use Rattle.std.specs.List.Sorted.{IsStrictlySortedBy}
use Rattle.std.specs.Cmp.{IsTotalOrder}
use Rattle.std.proofs.lemmas.Cmp.{then_total, on_total}
use Rattle.std.specs.declared.cmp.Ordering.TheVariants.{Less, Greater}
use Rattle.std.specs.Ordering.{match_ordering, ordering_reverse}
use Rattle.clv_base.specs.declared.names.TxId.{TxId}
use Rattle.clv_base.specs.Orders.{pair_cmp, pair_insert}
use Rattle.law_base.proofs.Sets.{tx_total}

-- ---- rising pairs put in one after another

pair_total : IsTotalOrder pair_cmp
pair_total = then_total (on_total (λ (p : TxId × TxId). p.0) tx_total) (on_total (λ (p : TxId × TxId). p.1) tx_total)

abbrev Above : TxId × TxId → List (TxId × TxId) → Type 0
Above p ps = AllByRecursion (λ q. pair_cmp p q ≡ Less) ps

above_one : (p q : TxId × TxId) (xs rest : List (TxId × TxId)) → Above p (xs ++ q ∷ rest) → pair_cmp q p ≡ Greater
above_one p q [] rest a = pair_total.antisymm q p ∙ ap ordering_reverse a.0
above_one p q (x ∷ xs) rest a = above_one p q xs rest a.1

put_last : (q : TxId × TxId) (xs rest : List (TxId × TxId)) → IsStrictlySortedBy pair_cmp (xs ++ q ∷ rest) → pair_insert q xs ++ rest ≡ xs ++ q ∷ rest
unfolding IsStrictlySortedBy
put_last q [] rest s = refl
put_last q (p ∷ ps) rest s = ap (λ o. match_ordering o (q ∷ p ∷ ps) (p ∷ ps) (p ∷ pair_insert q ps) ++ rest) (above_one p q ps rest s.0) ∙ ap (λ l. p ∷ l) (put_last q ps rest s.1)

pub step_pairs : (i : ℕ) (ps : List (TxId × TxId)) (d : TxId × TxId) (now : List (TxId × TxId)) → IsStrictlySortedBy pair_cmp ps → i < length ps → now ++ drop i ps ≡ ps
    → pair_insert (get_or ps i d) now ++ drop (i + 1) ps ≡ ps
step_pairs i ps d now s h e =
    let cut : drop i ps ≡ get_or ps i d ∷ drop (i + 1) ps = rw (add-one, drop-cons ps i d) refl in
    let whole : now ++ get_or ps i d ∷ drop (i + 1) ps ≡ ps = ap (λ l. now ++ l) (sym cut) ∙ e in
    put_last (get_or ps i d) now (drop (i + 1) ps) (subst (λ l. IsStrictlySortedBy pair_cmp l) (sym whole) s) ∙ whole
