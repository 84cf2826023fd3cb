-- A text is one script, or is refused at one line.
use Rattle.std.proofs.Common.{◌≡◌, ◌⊎◌, inl, inr, refl, ap, ◌∙◌, sym, subst, ℕ, suc, List, [], ◌∷◌, ◌++◌, length, Some, None, arith}
use Rattle.script_lang.specs.Bodies.{Action}
use Rattle.script_lang.specs.Grammar.{Line, Reading, reading, nothing_read, with_last, Leads, lines_of, after_line, IsLine, at_line, at_end, too_long, HasNoPlace}
use Rattle.script_lang.specs.Laws.{ScriptsHaveOneMeaning, ScriptsAreNotRefused, RefusalsHaveOneLine}
use Rattle.script_lang.proofs.Meanings.{one_meaning}

leads_once : (before a b : Reading) (lines : List (List ℕ)) → Leads before lines a → Leads before lines b → a ≡ b
leads_once before a b [] p q = sym p ∙ q
leads_once before a b (l ∷ lines) (x, n, is, goes, rest) (y, m, also, comes, more) =
    let same : x ≡ y = one_meaning l x y is also in
    let e : Some n ≡ Some m = sym goes ∙ ap (after_line before) same ∙ comes in
    let next : n ≡ m = cc in
    leads_once n a b lines rest (subst (λ (r : Reading). Leads r lines b) (sym next) more)

pub one_script : ScriptsHaveOneMeaning
one_script bytes sessions others (f, s, short, is, leads) (g, t, low, also, comes) =
    let e = leads_once nothing_read (reading f s None) (reading g t None) (lines_of bytes) leads comes in
    is ∙ ap (λ (r : Reading). with_last r.finished r.session) e ∙ sym also

-- lines that lead on go through each of them
leads_split :
    (before after : Reading) (front : List (List ℕ)) (l : List ℕ) (behind : List (List ℕ)) → Leads before (front ++ l ∷ behind) after
    → (middle : Reading) × (line : Line) × (next : Reading) × Leads before front middle × IsLine l line × (after_line middle line ≡ Some next)
leads_split before after [] l behind (line, next, is, goes, rest) = (before, line, next, refl, is, goes)
leads_split before after (x ∷ front) l behind (first, second, means, step, rest) =
    let deeper = leads_split second after front l behind rest in
    (deeper.0, deeper.1, deeper.2, (first, second, means, step, deeper.3), deeper.4, deeper.5)

some_not_none : (r : Reading) → Some r ≡ None → ⊥
some_not_none r e = cc

-- so they don't go through a line that has no place
stuck : (front : List (List ℕ)) (before : Reading) (line : List ℕ) (behind : List (List ℕ)) → Leads nothing_read front before → HasNoPlace before line → (after : Reading) → Leads nothing_read (front ++ line ∷ behind) after → ⊥
stuck front before line behind leads none after all =
    let parts = leads_split nothing_read after front line behind all in
    let same : parts.0 ≡ before = leads_once nothing_read parts.0 before front parts.3 leads in
    some_not_none parts.2 (sym parts.5 ∙ ap (λ (r : Reading). after_line r parts.1) same ∙ none parts.1 parts.4)

open_not_closed : (a : List Action) (r : Reading) → r.current ≡ Some a → r.current ≡ None → ⊥
open_not_closed a r p q = let e : Some a ≡ None = sym p ∙ q in cc

pub not_refused : ScriptsAreNotRefused
not_refused bytes sessions n (f, s, short, is, leads) (at_line front before line behind low whole comes none) =
    stuck front before line behind comes none (reading f s None) (subst (λ (ls : List (List ℕ)). Leads nothing_read ls (reading f s None)) whole leads)
not_refused bytes sessions n (f, s, short, is, leads) (at_end before actions low comes open_) =
    let same = leads_once nothing_read before (reading f s None) (lines_of bytes) comes leads in
    open_not_closed actions before open_ (ap (λ (r : Reading). r.current) same)
not_refused bytes sessions n (f, s, short, is, leads) (too_long long) = omega arith

-- two places in one list are one place, or one stands before the other
places :
    (a b : List (List ℕ)) (x y : List ℕ) (p q : List (List ℕ)) → a ++ x ∷ p ≡ b ++ y ∷ q
    → (length a ≡ length b) ⊎ (((r : List (List ℕ)) × (b ≡ a ++ x ∷ r)) ⊎ ((r : List (List ℕ)) × (a ≡ b ++ y ∷ r)))
places [] [] x y p q e = inl refl
places [] (z ∷ b) x y p q e = let same : z ≡ x = cc in inr (inl (b, cc))
places (z ∷ a) [] x y p q e = let same : z ≡ y = cc in inr (inr (a, cc))
places (z ∷ a) (w ∷ b) x y p q e =
    let heads : z ≡ w = cc in
    let tails : a ++ x ∷ p ≡ b ++ y ∷ q = cc in
    elim (places a b x y p q tails) as (λ d. (length (z ∷ a) ≡ length (w ∷ b)) ⊎ (((r : List (List ℕ)) × (w ∷ b ≡ (z ∷ a) ++ x ∷ r)) ⊎ ((r : List (List ℕ)) × (z ∷ a ≡ (w ∷ b) ++ y ∷ r)))) [
      | inl same ↦ inl (ap suc same)
      | inr other ↦ elim other as (λ d. (length (z ∷ a) ≡ length (w ∷ b)) ⊎ (((r : List (List ℕ)) × (w ∷ b ≡ (z ∷ a) ++ x ∷ r)) ⊎ ((r : List (List ℕ)) × (z ∷ a ≡ (w ∷ b) ++ y ∷ r)))) [
        | inl later ↦ inr (inl (later.0, let t = later.1 in cc))
        | inr sooner ↦ inr (inr (sooner.0, let t = sooner.1 in cc))
      ]
    ]

-- a line without a place isn't one of the lines that lead on
passed : (front other : List (List ℕ)) (before after : Reading) (line : List ℕ) (r : List (List ℕ)) → Leads nothing_read front before → HasNoPlace before line → Leads nothing_read other after → other ≡ front ++ line ∷ r → ⊥
passed front other before after line r leads none comes is = stuck front before line r leads none after (subst (λ (ls : List (List ℕ)). Leads nothing_read ls after) is comes)

one_place :
    (a b : List (List ℕ)) (x y : List ℕ) (p q : Reading) → Leads nothing_read a p → HasNoPlace p x → Leads nothing_read b q → HasNoPlace q y
    → ((length a ≡ length b) ⊎ (((r : List (List ℕ)) × (b ≡ a ++ x ∷ r)) ⊎ ((r : List (List ℕ)) × (a ≡ b ++ y ∷ r)))) → suc (length a) ≡ suc (length b)
one_place a b x y p q la na lb nb (inl same) = ap suc same
one_place a b x y p q la na lb nb (inr (inl later)) = absurd (passed a b p q x later.0 la na lb later.1)
one_place a b x y p q la na lb nb (inr (inr sooner)) = absurd (passed b a q p y sooner.0 lb nb la sooner.1)

pub one_line : RefusalsHaveOneLine
one_line bytes m n (at_line a p x more short is la na) (at_line b q y others low also lb nb) =
    one_place a b x y p q la na lb nb (places a b x y more others (sym is ∙ also))
one_line bytes m n (at_line a p x more short is la na) (at_end q actions low lb open_) = absurd (passed a (lines_of bytes) p q x more la na lb is)
one_line bytes m n (at_line a p x more short is la na) (too_long long) = absurd (let no : ⊥ = omega arith in no)
one_line bytes m n (at_end q actions low lb open_) (at_line a p x more short is la na) = absurd (passed a (lines_of bytes) p q x more la na lb is)
one_line bytes m n (at_end p actions short la open_) (at_end q others low lb also) = refl
one_line bytes m n (at_end p actions short la open_) (too_long long) = absurd (let no : ⊥ = omega arith in no)
one_line bytes m n (too_long long) (at_line a p x more short is la na) = absurd (let no : ⊥ = omega arith in no)
one_line bytes m n (too_long long) (at_end p actions short la open_) = absurd (let no : ⊥ = omega arith in no)
one_line bytes m n (too_long long) (too_long other) = refl
