-- A cut that is no moment, and a part that is no cut.
use Rattle.std.proofs.Common.{◌≡◌, ◌⊎◌, inl, inr, refl, sym, ap, subst, ◌∙◌, ℕ, ◌<◌, true, false, cond, Bool, [], ◌∷◌, ◌++◌, ◌==◌, nat_lt, arith, eqb-true}
use Rattle.std.specs.Prelude.{take}
use Rattle.std.specs.List.{filter}
use Rattle.std.proofs.lemmas.Bool.{both_ways, ltb-true, lt-ltb}
use Rattle.clv_base.specs.Shards.{shard_count}
use Rattle.clv_base.specs.Sessions.{is_of_session}
use Rattle.clv_base.specs.Journals.{History, journal_of}
use Rattle.protocol_laws.specs.Growth.{IsPrefixOf}
use Rattle.history_cases.proofs.Merging.{Placed, Among, is_among}
use Rattle.journal_laws.specs.Cuts.{session_entries}
use Rattle.history_examples.specs.Noted.{splits}
use Rattle.history_examples.specs.Aborted.{dies, refused}
use Rattle.history_examples.specs.Lagging.{lagging, unsent, LaggingIsACut, LaggingIsNoMoment, LaggingWalkersAreNoFront, UnsentIsNeverLegal}
use Rattle.law_base.proofs.Shards.{own_none}

-- ---- the cut

abbrev Begins : ℕ → Type 0
Begins w = IsPrefixOf (session_entries w lagging) (session_entries w refused)

begins : (w : ℕ) → Begins w
begins w = at_0 (0 == w) refl
  where
    others : (0 == w) ≡ false → (1 == w) ≡ false → (2 == w) ≡ false → (3 == w) ≡ false → Begins w
    others z a b c = (
      session_entries w refused,
      ap (λ l. filter (λ (e : Placed). is_of_session (e.1).event) l ++ session_entries w refused) (own_none w lagging (a, (a, (a, (b, (b, (z, tt))))))),
    )

    at_3 : (c : Bool) → (3 == w) ≡ c → (0 == w) ≡ false → (1 == w) ≡ false → (2 == w) ≡ false → Begins w
    at_3 true e z a b = subst Begins (eqb-true 3 w e) (session_entries 3 refused, refl)
    at_3 false e z a b = others z a b e

    at_2 : (c : Bool) → (2 == w) ≡ c → (0 == w) ≡ false → (1 == w) ≡ false → Begins w
    at_2 true e z a = subst Begins (eqb-true 2 w e) (_, refl)
    at_2 false e z a = at_3 (3 == w) refl z a e

    at_1 : (c : Bool) → (1 == w) ≡ c → (0 == w) ≡ false → Begins w
    at_1 true e z = subst Begins (eqb-true 1 w e) (_, refl)
    at_1 false e z = at_2 (2 == w) refl z e

    at_0 : (c : Bool) → (0 == w) ≡ c → Begins w
    at_0 true e = subst Begins (eqb-true 0 w e) (session_entries 0 refused, refl)
    at_0 false e = at_1 (1 == w) refl e

abbrev Fronts : ℕ → Type 0
Fronts n = IsPrefixOf (journal_of n lagging) (journal_of n refused)

fronts : (n : ℕ) → n < shard_count splits → Fronts n
fronts n l = at_0 (0 == n) refl
  where
    at_1 : (c : Bool) → (1 == n) ≡ c → (0 == n) ≡ false → Fronts n
    at_1 true e z = subst Fronts (eqb-true 1 n e) (_, refl)
    at_1 false e z = absurd (no n l z e)
      where
        no : (m : ℕ) → m < 2 → (0 == m) ≡ false → (1 == m) ≡ false → ⊥
        no m l a b = at_less m l (λ e. both_ways (0 == m) a (ap (λ k. 0 == k) e)) (λ e. both_ways (1 == m) b (ap (λ k. 1 == k) e))
          where
            at_less : (m : ℕ) → m < 2 → (m ≡ 0 → ⊥) → (m ≡ 1 → ⊥) → ⊥
            at_less m l x y = omega (arith, l, x, y)

    at_0 : (c : Bool) → (0 == n) ≡ c → Fronts n
    at_0 true e = subst Fronts (eqb-true 0 n e) (_, refl)
    at_0 false e = at_1 (1 == n) refl e

pub lagging_is_a_cut : LaggingIsACut
lagging_is_a_cut =
    record {
      ordered = refl;
      in_shards = refl;
      journals = fronts;
      sessions = begins;
      messages = (tt, (tt, (tt, (tt, (tt, (tt, tt))))));
    }

-- ---- no moment

in_front : (p : Placed → Bool) (x : Placed) (xs : History) → Among x xs → p x ≡ true → Among x (filter p xs)
in_front p x [] i e = elim i [ ]
in_front p x (y ∷ ys) i e = at (p y) refl i (λ j. in_front p x ys j e)
  where
    at : (b : Bool) → p y ≡ b → (y ≡ x) ⊎ Among x ys → (Among x ys → Among x (filter p ys)) → Among x (cond b (y ∷ filter p ys) (filter p ys))
    at true q (inl s) k = inl s
    at true q (inr j) k = inr (k j)
    at false q (inl s) k = absurd (both_ways (p y) q (ap p s ∙ e))
    at false q (inr j) k = k j

passes : (p : Placed → Bool) (x : Placed) (xs : History) → Among x (filter p xs) → p x ≡ true
passes p x [] i = elim i [ ]
passes p x (y ∷ ys) i = at (p y) refl i (passes p x ys)
  where
    at : (b : Bool) → p y ≡ b → Among x (cond b (y ∷ filter p ys) (filter p ys)) → (Among x (filter p ys) → p x ≡ true) → p x ≡ true
    at true q (inl s) k = ap p (sym s) ∙ q
    at true q (inr j) k = k j
    at false q j k = k j

abbrev stamps_are : History → Placed → Type 0
stamps_are [] x = ⊥
stamps_are (y ∷ ys) x = ((y.1).stamp ≡ (x.1).stamp) ⊎ stamps_are ys x

stamps_of : (h : History) (x : Placed) → Among x h → stamps_are h x
stamps_of [] x i = elim i [ ]
stamps_of (y ∷ ys) x (inl s) = inl (ap (λ z. (z.1).stamp) s)
stamps_of (y ∷ ys) x (inr i) = inr (stamps_of ys x i)

none_four : stamps_are lagging dies → ⊥
none_four (inl e) = omega (arith, e)
none_four (inr (inl e)) = omega (arith, e)
none_four (inr (inr (inl e))) = omega (arith, e)
none_four (inr (inr (inr (inl e)))) = omega (arith, e)
none_four (inr (inr (inr (inr (inl e))))) = omega (arith, e)
none_four (inr (inr (inr (inr (inr (inl e)))))) = omega (arith, e)
none_four (inr (inr (inr (inr (inr (inr e)))))) = elim e [ ]

pub lagging_is_no_moment : LaggingIsNoMoment
lagging_is_no_moment stamp e =
    let late : nat_lt 5 stamp ≡ true = passes (λ x. nat_lt (x.1).stamp stamp) _ refused (subst (Among _) (sym e) (inr (inr (inl refl)))) in
    let l = ltb-true 5 stamp late in
    none_four (stamps_of lagging dies (subst (Among dies) e (in_front (λ x. nat_lt (x.1).stamp stamp) dies refused (inr (inr (inl refl))) (lt-ltb 4 stamp (omega (arith, l))))))

first_stamp : (a b : Placed) (as_ bs : History) → a ∷ as_ ≡ b ∷ bs → (a.1).stamp ≡ (b.1).stamp
first_stamp a b as_ bs e = ap (λ (z : Placed). (z.1).stamp) (same e)
  where
    same : a ∷ as_ ≡ b ∷ bs → a ≡ b
    same q = cc

pub lagging_walkers_are_no_front : LaggingWalkersAreNoFront
lagging_walkers_are_no_front (rest, e) = let s = first_stamp _ _ _ _ e in omega (arith, s)

-- ---- no legal history

none_ten : (x : Placed) → stamps_are (take 8 unsent) x → (x.1).stamp ≡ 10 → ⊥
none_ten x (inl e) s = omega (arith, e, s)
none_ten x (inr (inl e)) s = omega (arith, e, s)
none_ten x (inr (inr (inl e))) s = omega (arith, e, s)
none_ten x (inr (inr (inr (inl e)))) s = omega (arith, e, s)
none_ten x (inr (inr (inr (inr (inl e))))) s = omega (arith, e, s)
none_ten x (inr (inr (inr (inr (inr (inl e)))))) s = omega (arith, e, s)
none_ten x (inr (inr (inr (inr (inr (inr (inl e))))))) s = omega (arith, e, s)
none_ten x (inr (inr (inr (inr (inr (inr (inr (inl e)))))))) s = omega (arith, e, s)
none_ten x (inr (inr (inr (inr (inr (inr (inr (inr e)))))))) s = elim e [ ]

pub unsent_is_never_legal : UnsentIsNeverLegal
unsent_is_never_legal logs l =
    let k = l.messages.1.1.1.1.1.1.1.1.0 in
    none_ten (k.0, k.1) (stamps_of (take 8 unsent) (k.0, k.1) (is_among k.0 k.1 (take 8 unsent) k.2)) k.3
