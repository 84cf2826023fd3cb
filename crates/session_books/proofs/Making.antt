-- The books of all sessions make the report.
use Rattle.std.proofs.Common.{◌≡◌, inl, inr, ⊎_elim, refl, ap, ap₂, subst, ◌∙◌, ℕ, suc, ◌<◌, ◌≤◌, Bool, true, false, cond, not, ◌||◌, nat_lt, nat_le, List, [], ◌∷◌, ◌++◌, length, arith}
use Rattle.std.specs.List.{filter}
use Rattle.std.specs.List.Sorted.{IsPermutation}
use Rattle.std.proofs.lemmas.Bool.{both_ways, and_parts, ltb-true, cases_lt}
use Rattle.std.proofs.lemmas.List.Sorted.{IsPermutation-trans}
use Rattle.clv_base.specs.declared.logs.LogRecord.{LogRecord}
use Rattle.clv_base.specs.Journals.{History, own}
use Rattle.clv_base.specs.History.{Legal}
use Rattle.clv_base.specs.Sessions.{is_of_session, is_session_number}
use Rattle.history_cases.proofs.Merging.{Placed, Among, in_order, in_own}
use Rattle.session_books.specs.declared.books.Row.{Row}
use Rattle.session_books.specs.declared.counts.Counts.{Counts}
use Rattle.session_books.specs.Books.{Book, rows}
use Rattle.session_books.specs.Laws.{session_part, AreBooks, all_rows, all_counts, plus, BooksMakeTheReport}
use Rattle.session_books.proofs.EntriesAreTheirWalkers.{AreTheirs, are_theirs, all_at}
use Rattle.session_books.proofs.Spreading.{AreOf, spread, rows_of_part, rows_spread}
use Rattle.session_books.proofs.Ordered.{rows_rise, sorted_back}
use Rattle.session_books.proofs.Summing.{summed, counts_of_part, counts_summed}

-- an entry that only sessions make stands in its walker's part
in_part : (x : Placed) (es : History) → is_of_session (x.1).event ≡ true → Among x es → Among x (filter (λ (e : Placed). is_of_session (e.1).event) es)
in_part x [] s m = elim m [ ]
in_part x (e ∷ es) s m = at (is_of_session (e.1).event) refl m (λ n. in_part x es s n)
  where
    kept : History
    kept = filter (λ (f : Placed). is_of_session (f.1).event) es

    at : (b : Bool) → is_of_session (e.1).event ≡ b → Among x (e ∷ es) → (Among x es → Among x kept) → Among x (cond b (e ∷ kept) kept)
    at true f (inl p) k = inl p
    at true f (inr n) k = inr (k n)
    at false f (inl p) k = absurd (both_ways _ f (ap (λ (z : Placed). is_of_session (z.1).event) p ∙ s))
    at false f (inr n) k = k n

nowhere : (x : Placed) (es : History) → es ≡ [] → Among x es → ⊥
nowhere x es e m = elim (subst (Among x) e m) [ ]

is_numbered : (b : Bool) (w : ℕ) → (not b || is_session_number w) ≡ true → b ≡ true → 1 ≤ w
is_numbered true w h e = let l = ltb-true 0 w (and_parts (nat_lt 0 w) (nat_le w 64) h).0 in omega arith
is_numbered false w h e = absurd (both_ways false refl e)

are_of : (splits : List ℕ) (before : List (List LogRecord)) (h : History) (after : List (List LogRecord)) (n : ℕ) → Legal splits before h after
    → ((w : ℕ) → n < w → session_part w h ≡ []) → AreOf n h
are_of splits before h after n l none x m s = (
  is_numbered (is_of_session (x.1).event) (x.1).walker (all_at (λ e. not (is_of_session (e.1).event) || is_session_number (e.1).walker) x h l.numbered m) s,
  ⊎_elim (λ g. absurd (nowhere x (session_part (x.1).walker h) (none (x.1).walker g) (in_part x (own (x.1).walker h) s (in_own x h m)))) (λ g. g) (cases_lt n (x.1).walker),
)

books_rows : (h : History) (w : ℕ) (books : List Book) → AreTheirs h → AreBooks h w books → all_rows books ≡ spread h w (length books) h
books_rows h w [] a b = refl
books_rows h w (book ∷ books) a b = ap₂ (λ (rs qs : List Row). rs ++ qs) ((b.0).rows ∙ rows_of_part w h a) (books_rows h (suc w) books a b.1)

books_counts : (h : History) (w : ℕ) (books : List Book) → AreTheirs h → AreBooks h w books → all_counts books ≡ summed h w (length books) h
books_counts h w [] a b = refl
books_counts h w (book ∷ books) a b = ap₂ (λ (c d : Counts). plus c d) ((b.0).counts ∙ counts_of_part w h a) (books_counts h (suc w) books a b.1)

pub made : BooksMakeTheReport
made splits before h after books rs l b none p s =
    let a = are_theirs splits before h after l in
    let of = are_of splits before h after (length books) l none in
    let whole : IsPermutation (rows h) rs =
    IsPermutation-trans (rows h) (spread h 1 (length books) h) rs (rows_spread h (length books) h of) (subst (λ qs. IsPermutation qs rs) (books_rows h 1 books a b) p) in
    (sorted_back (rows h) rs (rows_rise h h (in_order h l.ordered)) whole s, books_counts h 1 books a b ∙ counts_summed h (length books) h a of)
