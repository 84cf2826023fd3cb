-- A history whose entries are another's is its sublist.
use Rattle.std.proofs.Common.{◌≡◌, ◌⊎◌, inl, inr, ⊎_elim, refl, sym, subst, ◌∙◌, List, [], ◌∷◌}
use Rattle.std.specs.List.{AllByRecursion}
use Rattle.clv_base.specs.Journals.{History}
use Rattle.history_laws.specs.Continuing.{IsSublistOf, nothing, also, only}
use Rattle.history_cases.proofs.Merging.{Placed, Before, InOrder, Among, among_all, before_then, not_before_itself}

later_among : (x y : Placed) (xs ys : History) → AllByRecursion (Before x) xs → x ≡ y → ((z : Placed) → Among z (x ∷ xs) → Among z (y ∷ ys)) → (z : Placed) → Among z xs → Among z ys
later_among x y xs ys a e k z m =
    ⊎_elim (λ (p : y ≡ z). absurd (not_before_itself x z (e ∙ p) (among_all (Before x) z xs a m))) (λ n. n) (k z (inr m))

passed_among : (x y : Placed) (xs ys : History) → AllByRecursion (Before x) xs → AllByRecursion (Before y) ys → Among x ys → ((z : Placed) → Among z (x ∷ xs) → Among z (y ∷ ys))
    → (z : Placed) → Among z (x ∷ xs) → Among z ys
passed_among x y xs ys a b i k z (inl e) = subst (λ w. Among w ys) e i
passed_among x y xs ys a b i k z (inr m) =
    ⊎_elim (λ (p : y ≡ z). absurd (not_before_itself y z p (before_then y x z (among_all (Before y) x ys b i) (among_all (Before x) z xs a m)))) (λ n. n) (k z (inr m))

sub_case : (x y : Placed) (xs ys : History) → InOrder (x ∷ xs) → InOrder (y ∷ ys) → ((z : Placed) → Among z (x ∷ xs) → Among z (y ∷ ys)) → (y ≡ x) ⊎ Among x ys
    → ((zs : History) → InOrder zs → ((z : Placed) → Among z zs → Among z ys) → IsSublistOf zs ys) → IsSublistOf (x ∷ xs) (y ∷ ys)
sub_case x y xs ys o p k (inl e) ih = subst (λ w. IsSublistOf (w ∷ xs) (y ∷ ys)) e (also y (ih xs o.1 (later_among x y xs ys o.0 (sym e) k)))
sub_case x y xs ys o p k (inr m) ih = only y (ih (x ∷ xs) o (passed_among x y xs ys o.0 p.0 m k))

none_of : (ys : History) → IsSublistOf [] ys
none_of [] = nothing
none_of (y ∷ ys) = only y (none_of ys)

pub sublist : (ys xs : History) → InOrder xs → InOrder ys → ((z : Placed) → Among z xs → Among z ys) → IsSublistOf xs ys
sublist [] [] o p k = nothing
sublist [] (x ∷ xs) o p k = absurd (k x (inl refl))
sublist (y ∷ ys) [] o p k = none_of (y ∷ ys)
sublist (y ∷ ys) (x ∷ xs) o p k = sub_case x y xs ys o p k (k x (inl refl)) (λ zs q i. sublist ys zs q p.1 i)

pub sublist_among : {A : Type 0} (x : A) (xs ys : List A) → IsSublistOf xs ys → Among x xs → Among x ys
sublist_among x _ _ nothing m = elim m [ ]
sublist_among x _ _ (also y s) (inl e) = inl e
sublist_among x _ _ (also y {xs = xs} {ys = ys} s) (inr m) = inr (sublist_among x xs ys s m)
sublist_among x xs _ (only y {ys = ys} s) m = inr (sublist_among x xs ys s m)
