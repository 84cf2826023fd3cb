-- Acknowledgements that come from the parts of a commit, each once, are no more than the parts.
use Rattle.std.proofs.Common.{◌≡◌, refl, sym, ap, subst, ◌∙◌, ℕ, ◌+◌, ◌<◌, ◌≤◌, ⊎_elim, Bool, true, false, cond, not, ◌||◌, ◌==◌, List, [], ◌∷◌, map, length, eqb-true, eq-eqb, arith}
use Rattle.std.proofs.lemmas.Bool.{both_ways, or_cases, or_parts, and_parts, false_from_ne_true}
use Rattle.std.specs.List.{AllByRecursion}
use Rattle.std.specs.List.Sorted.{IsStrictlySortedBy}
use Rattle.std.specs.declared.cmp.Ordering.{Ordering}
use Rattle.std.specs.declared.cmp.Ordering.TheVariants.{Less, Equal, Greater}
use Rattle.std.specs.Ordering.{nat_cmp, match_ordering, is_eq}
use Rattle.clv_base.specs.declared.state.Request.{Request}
use Rattle.clv_base.specs.declared.state.RequestState.{RequestState}
use Rattle.clv_base.specs.declared.state.RequestState.TheVariants.{Undecided, Committed, Finished, Refused}
use Rattle.clv_base.specs.Orders.{nat_in, nat_insert}
use Rattle.clv_base.specs.Coordinator.{others, takes_done, counts_done, with_done_of}
use Rattle.clv_base.proofs.SameNames.{or_left, or_right, nat_cmp_true, nat_cmp_self}
use Rattle.std.specs.Ordering.{ordering_reverse}
use Rattle.std.proofs.lemmas.Cmp.{nat_cmp_total}
use Rattle.two_phase_commit.specs.Coordinated.{HasHome, IsFit, AreParts, parts_of}
use Rattle.law_base.proofs.Lists.{insert_in}

abbrev Above : ℕ → List ℕ → Type 0
Above n ns = AllByRecursion (λ m. nat_cmp n m ≡ Less) ns

above_out : (n : ℕ) (ns : List ℕ) → Above n ns → nat_in n ns ≡ false
above_out n [] a = refl
above_out n (m ∷ ms) a = false_from_ne_true _ (λ e. ⊎_elim (λ s. both_ways _ (ap is_eq a.0) (subst (λ k. is_eq (nat_cmp n k) ≡ true) (eqb-true n m s) (nat_cmp_self n))) (λ i. both_ways _ (above_out n ms a.1) i) (or_cases (n == m) (nat_in n ms) e))

-- the list without the first of this number
abbrev without : ℕ → List ℕ → List ℕ
without n [] = []
without n (m ∷ ms) = cond (n == m) ms (m ∷ without n ms)

without_length : (n : ℕ) (ms : List ℕ) → nat_in n ms ≡ true → length (without n ms) + 1 ≡ length ms
without_length n [] i = absurd (both_ways false refl i)
without_length n (m ∷ ms) i = at (n == m) i (without_length n ms)
  where
    at : (b : Bool) → (b || nat_in n ms) ≡ true → (nat_in n ms ≡ true → length (without n ms) + 1 ≡ length ms) → length (cond b ms (m ∷ without n ms)) + 1 ≡ length (m ∷ ms)
    at true i more = omega arith
    at false i more = let h = more i in omega (arith, h)

without_keeps : (n k : ℕ) (ms : List ℕ) → (k ≡ n → ⊥) → nat_in k ms ≡ true → nat_in k (without n ms) ≡ true
without_keeps n k [] ne i = absurd (both_ways false refl i)
without_keeps n k (m ∷ ms) ne i = at (n == m) refl (without_keeps n k ms ne)
  where
    at : (b : Bool) → (n == m) ≡ b → (nat_in k ms ≡ true → nat_in k (without n ms) ≡ true) → nat_in k (cond b ms (m ∷ without n ms)) ≡ true
    at true e more = ⊎_elim (λ s. absurd (ne (eqb-true k m s ∙ sym (eqb-true n m e)))) (λ h. h) (or_cases (k == m) (nat_in k ms) i)
    at false e more = ⊎_elim (λ s. or_left _ _ s) (λ h. or_right (k == m) _ (more h)) (or_cases (k == m) (nat_in k ms) i)

pub no_more : (ns ms : List ℕ) → IsStrictlySortedBy nat_cmp ns → ((k : ℕ) → nat_in k ns ≡ true → nat_in k ms ≡ true) → length ns ≤ length ms
unfolding IsStrictlySortedBy
no_more [] ms s h = omega arith
no_more (n ∷ ns) ms s h =
    let here = without_length n ms (h n (or_left _ _ (eq-eqb n n refl))) in
    let rest = no_more ns (without n ms) s.1 (λ k i. without_keeps n k ms (λ e. both_ways _ (above_out n ns s.0) (subst (λ z. nat_in z ns ≡ true) e i)) (h k (or_right (k == n) _ i))) in
    omega (arith, here, rest)

-- ---- one more

insert_length : (n : ℕ) (ns : List ℕ) → nat_in n ns ≡ false → length (nat_insert n ns) ≡ length ns + 1
insert_length n [] e = omega arith
insert_length n (m ∷ ms) e = at (nat_cmp n m) (λ q. nat_cmp_true n m (ap is_eq q)) (insert_length n ms (or_parts (n == m) (nat_in n ms) e).1)
  where
    at : (o : Ordering) → (o ≡ Equal → n ≡ m) → length (nat_insert n ms) ≡ length ms + 1 → length (match_ordering o (n ∷ m ∷ ms) (m ∷ ms) (m ∷ nat_insert n ms)) ≡ length (m ∷ ms) + 1
    at Less q h = omega arith
    at Equal q h = absurd (both_ways _ (or_parts (n == m) (nat_in n ms) e).0 (eq-eqb n m (q refl)))
    at Greater q h = omega (arith, h)

insert_above : (a n : ℕ) (ns : List ℕ) → nat_cmp a n ≡ Less → Above a ns → Above a (nat_insert n ns)
insert_above a n [] l h = (l, tt)
insert_above a n (m ∷ ms) l h = at (nat_cmp n m) (insert_above a n ms l h.1)
  where
    at : (o : Ordering) → Above a (nat_insert n ms) → Above a (match_ordering o (n ∷ m ∷ ms) (m ∷ ms) (m ∷ nat_insert n ms))
    at Less k = (l, h)
    at Equal k = h
    at Greater k = (h.0, k)

above_more : (a b : ℕ) (xs : List ℕ) → nat_cmp a b ≡ Less → Above b xs → Above a xs
above_more a b [] l h = tt
above_more a b (x ∷ xs) l h = (nat_cmp_total.trans a b x l h.0, above_more a b xs l h.1)

less_from_greater : (a b : ℕ) → nat_cmp a b ≡ Greater → nat_cmp b a ≡ Less
less_from_greater a b e = nat_cmp_total.antisymm b a ∙ ap ordering_reverse e

rise_case : (o : Ordering) (t y : ℕ) (xs ys : List ℕ) → nat_cmp t y ≡ o → IsStrictlySortedBy nat_cmp (y ∷ xs) → (o ≡ Greater → Above y ys) → IsStrictlySortedBy nat_cmp ys → IsStrictlySortedBy nat_cmp (match_ordering o (t ∷ y ∷ xs) (y ∷ xs) (y ∷ ys))
unfolding IsStrictlySortedBy
rise_case Less t y xs ys e h k r = ((e, above_more t y xs e h.0), h)
rise_case Equal t y xs ys e h k r = h
rise_case Greater t y xs ys e h k r = (k refl, r)

insert_rises : (n : ℕ) (ns : List ℕ) → IsStrictlySortedBy nat_cmp ns → IsStrictlySortedBy nat_cmp (nat_insert n ns)
unfolding IsStrictlySortedBy
insert_rises n [] h = (tt, tt)
insert_rises n (m ∷ ms) h = rise_case (nat_cmp n m) n m ms (nat_insert n ms) refl h (λ g. insert_above m n ms (less_from_greater n m g) h.0) (insert_rises n ms h.1)

-- ---- an acknowledgement that counts

abbrev Counts : ℕ → Request → RequestState → Type 0
Counts from q st = counts_done from q st ≡ true

is_of_part : (from : ℕ) (q : Request) (st : RequestState) → Counts from q st → (nat_in from (parts_of st) ≡ true) × (nat_in from q.acknowledged_by ≡ false)
is_of_part from q (Committed parts) e = let p = and_parts _ _ e in let r = and_parts _ _ p.0 in (r.0, not_true _ r.1)
  where
    not_true : (b : Bool) → not b ≡ true → b ≡ false
    not_true true e = absurd (both_ways false refl e)
    not_true false e = refl
is_of_part from q Undecided e = absurd (both_ways false refl e)
is_of_part from q Finished e = absurd (both_ways false refl e)
is_of_part from q (Refused c) e = absurd (both_ways false refl e)

within : (from : ℕ) (q : Request) (st : RequestState) (acked : List ℕ) → AreParts st acked → Counts from q st → (k : ℕ) → nat_in k (nat_insert from acked) ≡ true → nat_in k (parts_of st) ≡ true
within from q (Committed parts) acked h e k i = ⊎_elim (λ s. subst (λ z. nat_in z parts ≡ true) (sym s) (is_of_part from q (Committed parts) e).0) (λ j. h k j) (insert_in from k acked i)
within from q Undecided acked h e k i = absurd (both_ways false refl e)
within from q Finished acked h e k i = absurd (both_ways false refl e)
within from q (Refused c) acked h e k i = absurd (both_ways false refl e)

pub room_for_one : (shard from : ℕ) (q : Request) → IsFit shard q → takes_done from q ≡ true → length (parts_of q.state) ≤ 15 → length q.acknowledged_by < 15
room_for_one shard from q fit e few =
    let more = insert_length from q.acknowledged_by (is_of_part from q q.state e).1 in
    let most = no_more (nat_insert from q.acknowledged_by) (parts_of q.state) (insert_rises from q.acknowledged_by fit.acked) (within from q q.state q.acknowledged_by fit.parts e) in
    omega (arith, more, most, few)

parts_again : (from : ℕ) (q : Request) (st : RequestState) (acked : List ℕ) → AreParts st acked → Counts from q st → AreParts st (nat_insert from acked)
parts_again from q (Committed parts) acked h e = within from q (Committed parts) acked h e
parts_again from q Undecided acked h e = absurd (both_ways false refl e)
parts_again from q Finished acked h e = tt
parts_again from q (Refused c) acked h e = tt

pub still_fit : (shard from : ℕ) (q : Request) → IsFit shard q → takes_done from q ≡ true → IsFit shard (with_done_of from q)
still_fit shard from q fit e = record { home = fit.home; few = fit.few; low = fit.low; rise = fit.rise; acked = insert_rises from q.acknowledged_by fit.acked; parts = parts_again from q q.state q.acknowledged_by fit.parts e }

-- ---- a new one

none_rise : (acked : List ℕ) → acked ≡ [] → IsStrictlySortedBy nat_cmp acked
unfolding IsStrictlySortedBy
none_rise [] e = tt
none_rise (n ∷ ns) e = absurd cc

pub has_home : (shard : ℕ) (touched : List (ℕ × ℕ)) → nat_in shard (map (λ t. t.0) touched) ≡ true → HasHome shard touched
has_home shard [] e = tt
has_home shard (t ∷ ts) e = e

pub new_fit : (shard : ℕ) (q : Request) → HasHome shard q.touched → length (others shard q.touched) ≤ 15 → AllByRecursion (λ t. t.0 < 16) q.touched → IsStrictlySortedBy nat_cmp (map (λ t. t.0) q.touched) → q.acknowledged_by ≡ [] → q.state ≡ Undecided → IsFit shard q
new_fit shard q home few low rise none st = record { home = home; few = few; low = low; rise = rise; acked = none_rise q.acknowledged_by none; parts = subst (λ (s : RequestState). AreParts s q.acknowledged_by) (sym st) (ap length none) }
