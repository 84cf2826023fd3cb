-- Rising lists with the same members are the same, so an index that rises stands in its table's order.
use Rattle.std.proofs.Common.{◌≡◌, Bool, true, false, cond, ◌||◌, List, [], ◌∷◌, Some, refl, sym, ap, subst, ◌∙◌}
use Rattle.std.proofs.lemmas.Bool.{both_ways, false_from_ne_true}
use Rattle.std.specs.List.{AllByRecursion, filter}
use Rattle.std.specs.List.Sorted.{IsStrictlySortedBy}
use Rattle.std.specs.Map.{keys_of}
use Rattle.std.specs.Ordering.{is_eq, ordering_reverse}
use Rattle.clv_base.specs.declared.names.TxId.{TxId}
use Rattle.clv_base.specs.Orders.{Table, tx_cmp, tx_same, tx_get, tx_in}
use Rattle.clv_base.proofs.SameNames.{or_left, tx_true, tx_self, tx_eq}
use Rattle.law_base.proofs.Sets.{tx_total, AllAbove as Above, same_list}
use Rattle.tx_table.specs.Index.{IsIndex, index_of, passes}
use Rattle.law_base.proofs.Names.{above_not_in}

-- ---- the rows that pass

abbrev kept : {V : Type 0} → (V → Bool) → Table V → Table V
kept test rows = filter (λ r. test r.1) rows

above_kept : {V : Type 0} (test : V → Bool) (t : TxId) (rows : Table V) → Above t (keys_of rows) → Above t (index_of test rows)
above_kept test t [] a = tt
above_kept test t (r ∷ rs) a = at (test r.1) (above_kept test t rs a.1)
  where
    at : (b : Bool) → Above t (index_of test rs) → Above t (keys_of (cond b (r ∷ kept test rs) (kept test rs)))
    at true more = (a.0, more)
    at false more = more

pub index_rises : {V : Type 0} (test : V → Bool) (rows : Table V) → IsStrictlySortedBy tx_cmp (keys_of rows) → IsStrictlySortedBy tx_cmp (index_of test rows)
unfolding IsStrictlySortedBy
index_rises test [] s = tt
index_rises test (r ∷ rs) s = at (test r.1) (index_rises test rs s.1)
  where
    at : (b : Bool) → IsStrictlySortedBy tx_cmp (index_of test rs) → IsStrictlySortedBy tx_cmp (keys_of (cond b (r ∷ kept test rs) (kept test rs)))
    at true more = (above_kept test r.0 rs s.0, more)
    at false more = more

pub index_has : {V : Type 0} (test : V → Bool) (rows : Table V) → IsStrictlySortedBy tx_cmp (keys_of rows) → IsIndex test rows (index_of test rows)
unfolding IsStrictlySortedBy
index_has test [] s t = refl
index_has test (r ∷ rs) s t = at (test r.1) refl (tx_same r.0 t) refl (index_has test rs s.1 t)
  where
    flip : (c : Bool) → tx_same r.0 t ≡ c → tx_same t r.0 ≡ c
    flip true e = tx_eq t r.0 (sym (tx_true r.0 t e))
    flip false e = false_from_ne_true _ (λ h. both_ways _ e (tx_eq r.0 t (sym (tx_true t r.0 h))))

    found : (c : Bool) → tx_same r.0 t ≡ c → passes test (tx_get t (r ∷ rs)) ≡ passes test (cond c (Some r.1) (tx_get t rs))
    found c e = ap (λ b. passes test (cond b (Some r.1) (tx_get t rs))) (flip c e)

    at : (b : Bool) → test r.1 ≡ b → (c : Bool) → tx_same r.0 t ≡ c → tx_in t (keys_of (kept test rs)) ≡ passes test (tx_get t rs) → tx_in t (keys_of (cond b (r ∷ kept test rs) (kept test rs))) ≡ passes test (tx_get t (r ∷ rs))
    at true e true f more = or_left _ _ f ∙ sym (found true f ∙ e)
    at true e false f more = ap (λ c. c || tx_in t (keys_of (kept test rs))) f ∙ more ∙ sym (found false f)
    at false e true f more = subst (λ z. tx_in z (keys_of (kept test rs)) ≡ false) (tx_true r.0 t f) (above_not_in r.0 (keys_of (kept test rs)) (above_kept test r.0 rs s.0)) ∙ sym (found true f ∙ e)
    at false e false f more = more ∙ sym (found false f)

-- an index that rises is its table's
pub in_order : {V : Type 0} (test : V → Bool) (rows : Table V) (txs : List TxId) → IsStrictlySortedBy tx_cmp (keys_of rows) → IsStrictlySortedBy tx_cmp txs → IsIndex test rows txs → txs ≡ index_of test rows
in_order test rows txs s r is = same_list txs (index_of test rows) r (index_rises test rows s) (λ t. is t ∙ sym (index_has test rows s t))

-- ---- each row of a rising table is found by its transaction

abbrev pub HasOwn : {V : Type 0} → Table V → TxId × V → Type 0
HasOwn whole r = tx_get r.0 whole ≡ Some r.1

behind : {V : Type 0} (r : TxId × V) (rs vs : Table V) → Above r.0 (keys_of vs) → AllByRecursion (HasOwn rs) vs → AllByRecursion (HasOwn (r ∷ rs)) vs
behind r rs [] a h = tt
behind r rs (v ∷ vs) a h = (ap (λ o. cond (is_eq o) (Some r.1) (tx_get v.0 rs)) (tx_total.antisymm v.0 r.0 ∙ ap ordering_reverse a.0) ∙ h.0, behind r rs vs a.1 h.1)

pub rows_own : {V : Type 0} (rs : Table V) → IsStrictlySortedBy tx_cmp (keys_of rs) → AllByRecursion (HasOwn rs) rs
unfolding IsStrictlySortedBy
rows_own [] s = tt
rows_own (r ∷ rs) s = (ap (λ b. cond b (Some r.1) (tx_get r.0 rs)) (tx_self r.0), behind r rs rs s.0 (rows_own rs s.1))
