-- The pairs of one first transaction, and a list without them.
use Rattle.std.proofs.Common.{◌≡◌, ℕ, suc, ◌+◌, ◌<◌, Bool, true, false, cond, not, ◌||◌, List, [], ◌∷◌, length, get_or, drop, drop-cons, refl, sym, ap, ◌∙◌, arith}
use Rattle.std.proofs.lemmas.Cmp.{then_total, on_total}
use Rattle.std.specs.List.{filter}
use Rattle.std.specs.Cmp.{IsTotalOrder}
use Rattle.clv_base.specs.declared.names.TxId.{TxId}
use Rattle.clv_base.specs.Orders.{tx_same, tx_in, pair_cmp}
use Rattle.clv_base.specs.Undo.{pairs_without}
use Rattle.law_base.proofs.Sets.{tx_total}

pub pair_total : IsTotalOrder pair_cmp
pair_total = then_total (on_total (λ p. p.0) tx_total) (on_total (λ p. p.1) tx_total)

-- ---- the pairs of a transaction

abbrev pub of_tx : TxId → List (TxId × TxId) → List (TxId × TxId)
of_tx t ps = filter (λ p. tx_same t p.0) ps

-- ---- a list without the pairs of a transaction

abbrev pub others : TxId → List (TxId × TxId) → List (TxId × TxId)
others t ps = filter (λ p. not (tx_same t p.0)) ps

-- the same, with the transaction as a set of one
pub others-set : (t : TxId) (ps : List (TxId × TxId)) → others t ps ≡ pairs_without (t ∷ []) ps
others-set t [] = refl
others-set t (p ∷ ps) = at (tx_same t p.0) (others-set t ps)
  where
    at : (b : Bool) → others t ps ≡ pairs_without (t ∷ []) ps → cond (not b) (p ∷ others t ps) (others t ps) ≡ cond (not (b || false)) (p ∷ pairs_without (t ∷ []) ps) (pairs_without (t ∷ []) ps)
    at true more = more
    at false more = ap (λ l. p ∷ l) more

pub without_more : (t : TxId) (set : List TxId) (ps : List (TxId × TxId)) → pairs_without set (pairs_without (t ∷ []) ps) ≡ pairs_without (t ∷ set) ps
without_more t set [] = refl
without_more t set (p ∷ ps) = at (tx_same t p.0) (without_more t set ps)
  where
    at : (b : Bool) → pairs_without set (pairs_without (t ∷ []) ps) ≡ pairs_without (t ∷ set) ps
        → pairs_without set (cond (not (b || false)) (p ∷ pairs_without (t ∷ []) ps) (pairs_without (t ∷ []) ps)) ≡ cond (not (b || tx_in p.0 set)) (p ∷ pairs_without (t ∷ set) ps) (pairs_without (t ∷ set) ps)
    at true more = more
    at false more = ap (λ l. cond (not (tx_in p.0 set)) (p ∷ l) l) more

pub without_none : (ps : List (TxId × TxId)) → pairs_without [] ps ≡ ps
without_none [] = refl
without_none (p ∷ ps) = ap (λ l. p ∷ l) (without_none ps)

pub without_next : (set : List TxId) (i : ℕ) (d : TxId) → i < length set → (ps now : List (TxId × TxId)) → now ≡ pairs_without (get_or set i d ∷ []) ps
    → pairs_without (drop (i + 1) set) now ≡ pairs_without (drop i set) ps
without_next set i d l ps now e =
    let next : suc i ≡ i + 1 = omega arith in
    ap (pairs_without (drop (i + 1) set)) e ∙ without_more (get_or set i d) (drop (i + 1) set) ps
    ∙ sym (ap (λ xs. pairs_without xs ps) (drop-cons set i d l ∙ ap (λ n. get_or set i d ∷ drop n set) next))
