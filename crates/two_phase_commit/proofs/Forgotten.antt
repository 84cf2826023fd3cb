-- Tables without one transaction's row.
use Rattle.std.proofs.Common.{◌≡◌, refl, sym, ap, subst, ◌∙◌, ℕ, Bool, true, false, cond, ◌&&◌, List, [], ◌∷◌, Option, Some, None}
use Rattle.std.specs.List.{AllByRecursion}
use Rattle.std.specs.List.Sorted.{IsStrictlySortedBy}
use Rattle.std.specs.Map.{keys_of}
use Rattle.std.proofs.lemmas.Bool.{both_ways, cond-false, false_from_ne_true}
use Rattle.clv_base.specs.declared.names.TxId.{TxId}
use Rattle.clv_base.specs.declared.state.Request.{Request}
use Rattle.clv_base.specs.Orders.{Table, tx_cmp, tx_same, tx_in, tx_get, tx_drop}
use Rattle.clv_base.proofs.SameNames.{tx_true, tx_eq}
use Rattle.law_base.proofs.Names.{not_above}
use Rattle.tx_table.specs.Index.{passes, IsIndex}
use Rattle.two_phase_commit.specs.declared.brief.Brief.{Brief}
use Rattle.two_phase_commit.specs.Asked.{AreAsked, IsTold}

pub get_drop : {V : Type 0} (tx t : TxId) (rows : Table V) → IsStrictlySortedBy tx_cmp (keys_of rows) → tx_get t (tx_drop tx rows) ≡ cond (tx_same tx t) None (tx_get t rows)
unfolding IsStrictlySortedBy
get_drop {V} tx t [] h = at (tx_same tx t)
  where
    at : (b : Bool) → ◌≡◌ {A = Option V} None (cond b None None)
    at true = refl
    at false = refl
get_drop {V} tx t (r ∷ rs) h = at (tx_same tx r.0) (tx_same tx t) refl refl (get_drop tx t rs h.1)
  where
    at : (b c : Bool) → tx_same tx r.0 ≡ b → tx_same tx t ≡ c → tx_get t (tx_drop tx rs) ≡ cond (tx_same tx t) None (tx_get t rs)
        → tx_get t (cond b rs (r ∷ tx_drop tx rs)) ≡ cond c None (cond (tx_same t r.0) (Some r.1) (tx_get t rs))
    at true true e f ih = subst (λ z. tx_get z rs ≡ None) (sym (tx_true tx r.0 e) ∙ tx_true tx t f) (not_above r.0 rs h.0)
    at true false e f ih = sym (cond-false (tx_same t r.0) (Some r.1) (tx_get t rs) (false_from_ne_true _ (λ i. both_ways _ f (tx_eq tx t (tx_true tx r.0 e ∙ sym (tx_true t r.0 i))))))
    at false true e f ih =
        cond-false (tx_same t r.0) (Some r.1) (tx_get t (tx_drop tx rs)) (false_from_ne_true _ (λ i. both_ways _ e (tx_eq tx r.0 (tx_true tx t f ∙ tx_true t r.0 i))))
        ∙ ih ∙ ap (λ b. cond b None (tx_get t rs)) f
    at false false e f ih = ap (cond (tx_same t r.0) (Some r.1)) (ih ∙ ap (λ b. cond b None (tx_get t rs)) f)

pub rows_drop : {V : Type 0} (P : TxId × V → Type 0) (tx : TxId) (rows : Table V) → AllByRecursion P rows → AllByRecursion P (tx_drop tx rows)
rows_drop P tx [] a = tt
rows_drop P tx (r ∷ rs) a = at (tx_same tx r.0) (rows_drop P tx rs a.1)
  where
    at : (b : Bool) → AllByRecursion P (tx_drop tx rs) → AllByRecursion P (cond b rs (r ∷ tx_drop tx rs))
    at true more = a.1
    at false more = (a.0, more)

pub index_drop : {V : Type 0} (test : V → Bool) (tx : TxId) (rows : Table V) (old new : List TxId) → IsStrictlySortedBy tx_cmp (keys_of rows) → IsIndex test rows old
    → ((t : TxId) → tx_in t new ≡ cond (tx_same tx t) (false && tx_in t old) (tx_in t old)) → IsIndex test (tx_drop tx rows) new
index_drop test tx rows old new h is now t = now t ∙ ap (cond (tx_same tx t) false) (is t) ∙ at (tx_same tx t) ∙ ap (passes test) (sym (get_drop tx t rows h))
  where
    at : (b : Bool) → cond b false (passes test (tx_get t rows)) ≡ passes test (cond b None (tx_get t rows))
    at true = refl
    at false = refl

pub told_drop : (shard : ℕ) (tx : TxId) (old new : Table Brief) (rows : Table Request) → IsStrictlySortedBy tx_cmp (keys_of rows) → AreAsked shard old rows → ((t : TxId) → tx_get t new ≡ cond (tx_same tx t) None (tx_get t old))
    → AreAsked shard new (tx_drop tx rows)
told_drop shard tx old new rows h are now t = subst (IsTold shard (tx_get t new)) (sym (get_drop tx t rows h)) (subst (λ o. IsTold shard o (cond (tx_same tx t) None (tx_get t rows))) (sym (now t)) (at (tx_same tx t)))
  where
    at : (b : Bool) → IsTold shard (cond b None (tx_get t old)) (cond b None (tx_get t rows))
    at true = tt
    at false = are t
