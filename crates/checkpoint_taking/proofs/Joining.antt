-- One more spelling joins payloads.
use Rattle.std.proofs.Common.{◌≡◌, ℕ, ◌-◌, ◌≤◌, Bool, true, false, cond, List, [], ◌∷◌, ◌++◌, length, length-append, refl, sym, ap, ◌∙◌, arith}
use Rattle.std.proofs.lemmas.Bool.{leb-true}
use Rattle.std.specs.List.{AllByRecursion}
use Rattle.law_base.proofs.Lists.{all_push}
use Rattle.checkpoint_taking.specs.Cut.{FitsBatch, fits_behind, joined}

-- it joins the last one
pub joined_last : (ps : List (List ℕ)) (p s : List ℕ) → joined (ps ++ p ∷ []) s ≡ cond (fits_behind p s) (ps ++ (p ++ s) ∷ []) ((ps ++ p ∷ []) ++ s ∷ [])
joined_last [] p s = refl
joined_last (x ∷ []) p s = at (fits_behind p s)
  where
    at : (b : Bool) → x ∷ cond b ((p ++ s) ∷ []) (p ∷ s ∷ []) ≡ cond b (x ∷ (p ++ s) ∷ []) (x ∷ p ∷ s ∷ [])
    at true = refl
    at false = refl
joined_last (x ∷ y ∷ ps) p s = ap (λ (l : List (List ℕ)). x ∷ l) (joined_last (y ∷ ps) p s) ∙ at (fits_behind p s)
  where
    at : (b : Bool) → x ∷ cond b ((y ∷ ps) ++ (p ++ s) ∷ []) (((y ∷ ps) ++ p ∷ []) ++ s ∷ []) ≡ cond b ((x ∷ y ∷ ps) ++ (p ++ s) ∷ []) (((x ∷ y ∷ ps) ++ p ∷ []) ++ s ∷ [])
    at true = refl
    at false = refl

pub joins_last : (ps : List (List ℕ)) (p s : List ℕ) → true ≡ fits_behind p s → ps ++ (p ++ s) ∷ [] ≡ joined (ps ++ p ∷ []) s
joins_last ps p s e = ap (λ b. cond b (ps ++ (p ++ s) ∷ []) ((ps ++ p ∷ []) ++ s ∷ [])) e ∙ sym (joined_last ps p s)

pub begins_next : (ps : List (List ℕ)) (p s : List ℕ) → false ≡ fits_behind p s → (ps ++ p ∷ []) ++ s ∷ [] ≡ joined (ps ++ p ∷ []) s
begins_next ps p s e = ap (λ b. cond b (ps ++ (p ++ s) ∷ []) ((ps ++ p ∷ []) ++ s ∷ [])) e ∙ sym (joined_last ps p s)

-- ---- each payload fits

pub but_last : (ps : List (List ℕ)) (p : List ℕ) → AllByRecursion FitsBatch (ps ++ p ∷ []) → AllByRecursion FitsBatch ps
but_last [] p all = tt
but_last (x ∷ ps) p all = (all.0, but_last ps p all.1)

the_last : (ps : List (List ℕ)) (p : List ℕ) → AllByRecursion FitsBatch (ps ++ p ∷ []) → FitsBatch p
the_last [] p all = all.0
the_last (x ∷ ps) p all = the_last ps p all.1

-- with another one in the place of the last, and with one more
pub another_fits : (ps : List (List ℕ)) (p s : List ℕ) → AllByRecursion FitsBatch (ps ++ p ∷ []) → FitsBatch s → AllByRecursion FitsBatch (ps ++ s ∷ [])
another_fits ps p s all fits = all_push FitsBatch ps s (but_last ps p all) fits

pub longer_fits : (ps : List (List ℕ)) (p s : List ℕ) → AllByRecursion FitsBatch (ps ++ p ∷ []) → true ≡ fits_behind p s → AllByRecursion FitsBatch (ps ++ (p ++ s) ∷ [])
longer_fits ps p s all e =
    let l = the_last ps p all in
    let few : length s ≤ 1048576 - length p = leb-true (length s) (1048576 - length p) (sym e) in
    another_fits ps p (p ++ s) all (omega (arith, length-append p s, l.0), omega (arith, length-append p s, l.1, few))

pub one_more_fits : (ps : List (List ℕ)) (p s : List ℕ) → AllByRecursion FitsBatch (ps ++ p ∷ []) → FitsBatch s → AllByRecursion FitsBatch ((ps ++ p ∷ []) ++ s ∷ [])
one_more_fits ps p s all fits = all_push FitsBatch (ps ++ p ∷ []) s all fits
