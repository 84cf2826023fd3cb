-- Savepoints, by their numbers.
use Rattle.std.proofs.Common.{◌≡◌, refl, sym, ap, subst, ◌∙◌, ℕ, zero, suc, ◌<◌, ◌≤◌, Bool, true, false, cond, ◌==◌, nat_le, List, [], ◌∷◌, ◌++◌, take, length, get_or, Some, None, arith}
use Rattle.std.specs.List.{filter}
use Rattle.std.specs.List.Sorted.{IsPartitionedBy, IsPartitionPoint}
use Rattle.std.proofs.lemmas.Bool.{leb-true, leb-false, lt-leb, le-leb, ne_eqb}
use Rattle.script_lang.specs.Bodies.{Action}
use Rattle.script_lang.specs.Savepoints.{Savepoints, AreNumbered, count_up_to, upto_of}
use Rattle.script_lang.specs.Grammar.{with_line, saves_from}

-- ---- numbers that rise

numbered_from : (low lo : ℕ) (ss : List (ℕ × ℕ)) (hi : ℕ) → low ≤ lo → AreNumbered lo ss hi → AreNumbered low ss hi
numbered_from low lo [] hi l h = omega arith
numbered_from low lo (s ∷ ss) hi l h = (omega (arith, h.0), h.1)

above_at : (lo : ℕ) (ss : List (ℕ × ℕ)) (hi j : ℕ) (d : ℕ × ℕ) → AreNumbered lo ss hi → j < length ss → lo < (get_or ss j d).0
above_at lo [] hi j d h l = absurd (omega arith)
above_at lo (s ∷ ss) hi zero d h l = h.0
above_at lo (s ∷ ss) hi (suc j) d h l = let up = above_at s.0 ss hi j d h.1 (omega arith) in omega (arith, h.0)

numbers_rise : (lo : ℕ) (ss : List (ℕ × ℕ)) (hi i j : ℕ) (d : ℕ × ℕ) → AreNumbered lo ss hi → i ≤ j → j < length ss → (get_or ss i d).0 ≤ (get_or ss j d).0
numbers_rise lo [] hi i j d h l m = absurd (omega arith)
numbers_rise lo (s ∷ ss) hi zero zero d h l m = omega arith
numbers_rise lo (s ∷ ss) hi zero (suc j) d h l m = let up = above_at s.0 ss hi j d h.1 (omega arith) in omega arith
numbers_rise lo (s ∷ ss) hi (suc i) zero d h l m = absurd (omega arith)
numbers_rise lo (s ∷ ss) hi (suc i) (suc j) d h l m = numbers_rise s.0 ss hi i j d h.1 (omega arith) (omega arith)

pub partitioned : (i lo : ℕ) (ss : List (ℕ × ℕ)) (hi : ℕ) → AreNumbered lo ss hi → IsPartitionedBy (λ (s : ℕ × ℕ). nat_le s.0 i) ss
partitioned i lo ss hi h a b d l m e = let low = leb-true (get_or ss b d).0 i e in let up = numbers_rise lo ss hi a b d h l m in le-leb (get_or ss a d).0 i (omega arith)

pub point_is_count : (i : ℕ) (ss : List (ℕ × ℕ)) (n : ℕ) → n ≤ length ss → IsPartitionPoint (λ (s : ℕ × ℕ). nat_le s.0 i ≡ true) (λ (s : ℕ × ℕ). nat_le s.0 i ≡ false) ss n → n ≡ count_up_to i ss
point_is_count i [] n l h = omega arith
point_is_count i (s ∷ ss) zero l h = ap (λ b. cond b (suc (count_up_to i ss)) zero) (sym (h.1 0 s (omega arith) (omega arith)))
point_is_count i (s ∷ ss) (suc n) l h =
    ap suc (point_is_count i ss n (omega arith) (λ j d a b. h.0 (suc j) d (omega arith) (omega arith), λ j d a b. h.1 (suc j) d (omega arith) (omega arith)))
    ∙ ap (λ b. cond b (suc (count_up_to i ss)) zero) (sym (h.0 0 s (omega arith) (omega arith)))

-- ---- those up to a number

none_up_to : (i lo : ℕ) (ss : List (ℕ × ℕ)) (hi : ℕ) → i ≤ lo → AreNumbered lo ss hi → (count_up_to i ss ≡ 0) × (filter (λ (s : ℕ × ℕ). nat_le s.0 i) ss ≡ []) × (upto_of i ss ≡ None)
none_up_to i lo [] hi l h = (refl, refl, refl)
none_up_to i lo (s ∷ ss) hi l h =
    let past : nat_le s.0 i ≡ false = lt-leb s.0 i (omega (arith, h.0)) in
    let rest = none_up_to i s.0 ss hi (omega (arith, h.0)) h.1 in (
      ap (λ b. cond b (suc (count_up_to i ss)) zero) past,
      ap (λ b. cond b (s ∷ filter (λ (s : ℕ × ℕ). nat_le s.0 i) ss) (filter (λ (s : ℕ × ℕ). nat_le s.0 i) ss)) past ∙ rest.1,
      ap (λ b. cond b (Some s.1) (upto_of i ss)) (ne_eqb s.0 i (λ e. omega (arith, h.0))) ∙ rest.2,
    )

pub take_up_to : (i lo : ℕ) (ss : List (ℕ × ℕ)) (hi : ℕ) → AreNumbered lo ss hi → take (count_up_to i ss) ss ≡ filter (λ (s : ℕ × ℕ). nat_le s.0 i) ss
take_up_to i lo [] hi h = refl
take_up_to i lo (s ∷ ss) hi h = at (take_up_to i s.0 ss hi h.1) (nat_le s.0 i) refl
  where
    at : take (count_up_to i ss) ss ≡ filter (λ (s : ℕ × ℕ). nat_le s.0 i) ss → (b : Bool) → nat_le s.0 i ≡ b → take (cond b (suc (count_up_to i ss)) zero) (s ∷ ss) ≡ cond b (s ∷ filter (λ (s : ℕ × ℕ). nat_le s.0 i) ss) (filter (λ (s : ℕ × ℕ). nat_le s.0 i) ss)
    at more true e = ap (λ l. s ∷ l) more
    at more false e = let past = leb-false s.0 i e in sym (none_up_to i s.0 ss hi (omega arith) h.1).1

pub none_stands : (i lo : ℕ) (ss : List (ℕ × ℕ)) (hi : ℕ) → AreNumbered lo ss hi → count_up_to i ss ≡ 0 → upto_of i ss ≡ None
none_stands i lo [] hi h e = refl
none_stands i lo (s ∷ ss) hi h e = at (nat_le s.0 i) refl e
  where
    at : (b : Bool) → nat_le s.0 i ≡ b → cond b (suc (count_up_to i ss)) zero ≡ 0 → cond (s.0 == i) (Some s.1) (upto_of i ss) ≡ None
    at true f g = absurd (omega arith)
    at false f g =
        let past = leb-false s.0 i f in
        ap (λ b. cond b (Some s.1) (upto_of i ss)) (ne_eqb s.0 i (λ same. omega arith)) ∙ (none_up_to i s.0 ss hi (omega arith) h.1).2

-- it is the last one of those, or stands nowhere
pub last_stands : (i lo : ℕ) (ss : List (ℕ × ℕ)) (hi m : ℕ) (d : ℕ × ℕ) → AreNumbered lo ss hi → count_up_to i ss ≡ suc m → upto_of i ss ≡ cond ((get_or ss m d).0 == i) (Some (get_or ss m d).1) None
last_stands i lo [] hi m d h e = absurd (let no : ⊥ = omega arith in no)
last_stands i lo (s ∷ ss) hi m d h e = at (λ n. last_stands i s.0 ss hi n d h.1) (nat_le s.0 i) refl m e
  where
    first : ((n : ℕ) → count_up_to i ss ≡ suc n → upto_of i ss ≡ cond ((get_or ss n d).0 == i) (Some (get_or ss n d).1) None) → (n : ℕ) → count_up_to i ss ≡ n → s.0 ≤ i → cond (s.0 == i) (Some s.1) (upto_of i ss) ≡ cond ((get_or (s ∷ ss) n d).0 == i) (Some (get_or (s ∷ ss) n d).1) None
    first more zero f low = ap (cond (s.0 == i) (Some s.1)) (none_stands i s.0 ss hi h.1 f)
    first more (suc n) f low =
        ap (λ b. cond b (Some s.1) (upto_of i ss)) (ne_eqb s.0 i (λ same. let none = (none_up_to i s.0 ss hi (omega arith) h.1).0 in omega arith))
        ∙ more n f

    at : ((n : ℕ) → count_up_to i ss ≡ suc n → upto_of i ss ≡ cond ((get_or ss n d).0 == i) (Some (get_or ss n d).1) None) → (b : Bool) → nat_le s.0 i ≡ b → (n : ℕ) → cond b (suc (count_up_to i ss)) zero ≡ suc n → cond (s.0 == i) (Some s.1) (upto_of i ss) ≡ cond ((get_or (s ∷ ss) n d).0 == i) (Some (get_or (s ∷ ss) n d).1) None
    at more true f n g = first more n (omega arith) (leb-true s.0 i f)
    at more false f n g = absurd (let no : ⊥ = omega arith in no)

-- ---- one more, and fewer

numbered_push : (lo : ℕ) (ss : List (ℕ × ℕ)) (hi upto : ℕ) → AreNumbered lo ss hi → AreNumbered lo (ss ++ (suc hi, upto) ∷ []) (suc hi)
numbered_push lo [] hi upto h = (omega arith, omega arith)
numbered_push lo (s ∷ ss) hi upto h = (h.0, numbered_push s.0 ss hi upto h.1)

numbered_fewer : (i lo : ℕ) (ss : List (ℕ × ℕ)) (hi : ℕ) → AreNumbered lo ss hi → AreNumbered lo (filter (λ (s : ℕ × ℕ). nat_le s.0 i) ss) hi
numbered_fewer i lo [] hi h = h
numbered_fewer i lo (s ∷ ss) hi h = at (numbered_fewer i s.0 ss hi h.1) (nat_le s.0 i)
  where
    at : AreNumbered s.0 (filter (λ (s : ℕ × ℕ). nat_le s.0 i) ss) hi → (b : Bool) → AreNumbered lo (cond b (s ∷ filter (λ (s : ℕ × ℕ). nat_le s.0 i) ss) (filter (λ (s : ℕ × ℕ). nat_le s.0 i) ss)) hi
    at more true = (h.0, more)
    at more false = numbered_from lo s.0 (filter (λ (s : ℕ × ℕ). nat_le s.0 i) ss) hi (omega (arith, h.0)) more

pub numbered_push_as : (ss now : List (ℕ × ℕ)) (hi next upto : ℕ) → now ≡ ss ++ (next, upto) ∷ [] → next ≡ suc hi → AreNumbered 0 ss hi → AreNumbered 0 now next
numbered_push_as ss now hi next upto is one h =
    subst (λ (l : List (ℕ × ℕ)). AreNumbered 0 l next) (sym is) (subst (λ n. AreNumbered 0 (ss ++ (n, upto) ∷ []) n) (sym one) (numbered_push 0 ss hi upto h))

pub fewer_are : (i hi : ℕ) (ss now read : List (ℕ × ℕ)) (count : ℕ) → now ≡ take count ss → count ≡ count_up_to i read → read ≡ ss → AreNumbered 0 ss hi → now ≡ filter (λ (s : ℕ × ℕ). nat_le s.0 i) ss
fewer_are i hi ss now read count is c r h = is ∙ ap (λ n. take n ss) (c ∙ ap (count_up_to i) r) ∙ take_up_to i 0 ss hi h

pub numbered_as : (i hi : ℕ) (ss now : List (ℕ × ℕ)) → now ≡ filter (λ (s : ℕ × ℕ). nat_le s.0 i) ss → AreNumbered 0 ss hi → AreNumbered 0 now hi
numbered_as i hi ss now is h = subst (λ (l : List (ℕ × ℕ)). AreNumbered 0 l hi) (sym is) (numbered_fewer i 0 ss hi h)

-- ---- by the lines

pub saves_more : (s : Savepoints) (actions : List Action) (action : Action) → saves_from s (actions ++ action ∷ []) ≡ with_line action (saves_from s actions)
saves_more s [] action = refl
saves_more s (a ∷ actions) action = saves_more (with_line a s) actions action
