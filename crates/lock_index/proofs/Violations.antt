-- Whom a grant violates, found from need to need.
use Rattle.std.proofs.Common.{◌≡◌, ◌⊎◌, inl, inr, ⊎_elim, refl, sym, ap, ◌∙◌, subst, Bool, true, false, cond, not, ◌&&◌, List, [], ◌∷◌}
use Rattle.std.specs.List.Sorted.{IsStrictlySortedBy}
use Rattle.std.proofs.lemmas.Bool.{both_ways}
use Rattle.clv_base.specs.declared.names.TxId.{TxId}
use Rattle.clv_base.specs.declared.modes.Need.{Need}
use Rattle.clv_base.specs.Modes.{writes}
use Rattle.clv_base.specs.Orders.{tx_cmp, tx_same, tx_in, tx_insert}
use Rattle.clv_base.specs.Locks.{Locks, meets, violated_by, violated}
use Rattle.clv_base.proofs.SameNames.{in_insert, insert_keeps, insert_has}
use Rattle.lock_index.specs.Groups.{Groups, rows_of, Apart}
use Rattle.lock_index.specs.Meeting.{visit, violated_step, is_closed}
use Rattle.lock_index.proofs.Sums.{Row, In, visited}
use Rattle.law_base.proofs.Sets.{Rise, nothing_rises, insert_rises, same_list}
use Rattle.law_base.proofs.Bools.{same_truth}

-- ---- whose rows they are

pub record Tells (txs : List TxId) (X : Row → Type 0) : Type 1 where
  pub rises : Rise txs
  pub from : (t : TxId) → tx_in t txs ≡ true → (r : Row) × X r × ((r.1).tx ≡ t)
  pub has : (r : Row) → X r → tx_in (r.1).tx txs ≡ true

tells_alike : (s : List TxId) (X Y : Row → Type 0) → ((r : Row) → X r → Y r) → ((r : Row) → Y r → X r) → Tells s X → Tells s Y
tells_alike s X Y f g k = record { rises = k.rises; from = λ t e. (let w = k.from t e in (w.0, f w.0 w.1, w.2)); has = λ r y. k.has r (g r y) }

tells_put : (r : Row) (s : List TxId) (X : Row → Type 0) → Tells s X → Tells (tx_insert (r.1).tx s) (λ q. (q ≡ r) ⊎ X q)
tells_put r s X k = record {
  rises = insert_rises (r.1).tx s k.rises;
  from = λ t e. ⊎_elim (λ same. (r, inl refl, sym same)) (λ i. let w = k.from t i in (w.0, inr w.1, w.2)) (in_insert (r.1).tx t s e);
  has = λ q x. ⊎_elim (λ same. subst (λ (u : Row). tx_in (u.1).tx (tx_insert (r.1).tx s) ≡ true) (sym same) (insert_has (r.1).tx s)) (λ y. insert_keeps (r.1).tx (q.1).tx s (k.has q y)) x;
}

abbrev Violates : TxId → List Need → Locks → Row → Type 0
Violates tx needs rows q = In q rows × ((is_closed tx q.1 && meets writes needs q) ≡ true)

and_more : (a b c : Bool) → (a && b && c) ≡ ((a && b) && c)
and_more true b c = refl
and_more false b c = refl

-- what the definition tells of
by_tells : (tx : TxId) (needs : List Need) (rows : Locks) (s : List TxId) (X : Row → Type 0) → Tells s X → Tells (violated_by tx needs rows s) (λ q. Violates tx needs rows q ⊎ X q)
by_tells tx needs [] s X k = tells_alike s X _ (λ r x. inr x) (λ r x. ⊎_elim (λ i. absurd i.0) (λ y. y) x) k
by_tells tx needs (r ∷ rs) s X k = subst (λ b. Tells (violated_by tx needs rs (cond b (tx_insert (r.1).tx s) s)) (λ q. Violates tx needs (r ∷ rs) q ⊎ X q)) (sym (and_more (not (tx_same tx (r.1).tx)) (r.1).closed (meets writes needs r)))
    (go (is_closed tx r.1 && meets writes needs r) refl (by_tells tx needs rs))
  where
    go : (b : Bool) → (is_closed tx r.1 && meets writes needs r) ≡ b → ((s : List TxId) (X : Row → Type 0) → Tells s X → Tells (violated_by tx needs rs s) (λ q. Violates tx needs rs q ⊎ X q))
        → Tells (violated_by tx needs rs (cond b (tx_insert (r.1).tx s) s)) (λ q. Violates tx needs (r ∷ rs) q ⊎ X q)
    go true e more = tells_alike _ (λ q. Violates tx needs rs q ⊎ ((q ≡ r) ⊎ X q)) _
        (λ q x. ⊎_elim (λ i. inl (inr i.0, i.1)) (λ y. ⊎_elim (λ z. inl (inl z, ap (λ (u : Row). is_closed tx u.1 && meets writes needs u) z ∙ e)) (λ z. inr z) y) x)
        (λ q x. ⊎_elim (λ i. ⊎_elim (λ z. inr (inl z)) (λ j. inl (j, i.1)) i.0) (λ y. inr (inr y)) x)
        (more (tx_insert (r.1).tx s) (λ q. (q ≡ r) ⊎ X q) (tells_put r s X k))
    go false e more = tells_alike _ (λ q. Violates tx needs rs q ⊎ X q) _
        (λ q x. ⊎_elim (λ i. inl (inr i.0, i.1)) (λ y. inr y) x)
        (λ q x. ⊎_elim (λ i. ⊎_elim (λ z. absurd (both_ways _ (ap (λ (u : Row). is_closed tx u.1 && meets writes needs u) z ∙ e) i.1)) (λ j. inl (j, i.1)) i.0) (λ y. inr y) x)
        (more s X k)

none_told : Tells [] (λ q. ⊥)
none_told = record { rises = nothing_rises; from = λ t e. absurd (both_ways false refl e); has = λ r x. absurd x }

visit_tells : (tx : TxId) (needs : List Need) (gs : Groups) → Apart gs → Tells (visit (violated_step tx) needs gs []) (Violates tx needs (rows_of gs))
visit_tells tx needs gs p = visited Tells tells_alike (λ r s. tx_insert (r.1).tx s) tells_put (is_closed tx) writes needs gs p [] none_told

-- from need to need the same are found
pub violated_visited : (tx : TxId) (needs : List Need) (gs : Groups) → Apart gs → visit (violated_step tx) needs gs [] ≡ violated tx needs (rows_of gs)
violated_visited tx needs gs p =
    let here = visit_tells tx needs gs p in let there = by_tells tx needs (rows_of gs) [] (λ q. ⊥) none_told in
    same_list _ _ here.rises there.rises (λ t. same_truth _ _
    (λ e. let w = here.from t e in subst (λ u. tx_in u (violated tx needs (rows_of gs)) ≡ true) w.2 (there.has w.0 (inl w.1)))
    (λ e. let w = there.from t e in subst (λ u. tx_in u (visit (violated_step tx) needs gs []) ≡ true) w.2 (here.has w.0 (⊎_elim (λ v. v) (λ v. absurd v) w.1))))

pub violated_sorted : (tx : TxId) (needs : List Need) (gs : Groups) → Apart gs → IsStrictlySortedBy tx_cmp (visit (violated_step tx) needs gs [])
violated_sorted tx needs gs p = (visit_tells tx needs gs p).rises
