-- Notes grow at their end.
use Rattle.std.proofs.Common.{◌≡◌, ℕ, ◌<◌, List, [], ◌∷◌, ◌++◌, map, length, take, sym, ap, refl, ◌∙◌, subst, arith, append_assoc, length-append}
use Rattle.std.specs.Prelude.{drop, reverse}
use Rattle.std.proofs.lemmas.List.{map-append, take-append-le, drop-append-le, take_all, take_at, drop_at, length-drop, reverse-append}
use Rattle.clv_base.specs.declared.logs.LogRecord.{LogRecord}
use Rattle.clv_base.specs.declared.events.Entry.{Entry}
use Rattle.machine_laws.specs.declared.notes.Note.TheVariants.{Made, Fetched}
use Rattle.machine_laws.specs.declared.notes.Mark.{Mark}
use Rattle.machine_laws.specs.declared.notes.Mark.TheVariants.{Left, Fetched as FetchedAt}
use Rattle.machine_laws.specs.Notes.{plain, with_left, noted, notes_of, stands_in, AreMarksOf, IsLeft}

plain_last : (es : List Entry) (e : Entry) → map plain (es ++ e ∷ []) ≡ map plain es ++ plain e ∷ []
plain_last es e = map-append plain es (e ∷ [])

left_more : (log : List LogRecord) (es : List Entry) (e : Entry) → 0 < length es → with_left log (es ++ e ∷ []) ≡ with_left log es ++ plain e ∷ []
left_more log [] e l = absurd (omega arith)
left_more log (x ∷ xs) e l = ap (λ z. Made x log ∷ z) (plain_last xs e)

-- ---- an entry more

entry_on : (es : List Entry) (ms : List Mark) (e : Entry) → stands_in es ms → noted (es ++ e ∷ []) ms ≡ noted es ms ++ plain e ∷ []
entry_on es [] e l = plain_last es e
entry_on es (Left at log ∷ ms) e l =
    ap (λ z. noted z ms ++ with_left log.value.records (drop at (es ++ e ∷ []))) (take-append-le at es (e ∷ []) (omega arith))
    ∙ ap (λ z. noted (take at es) ms ++ with_left log.value.records z) (drop-append-le at es (e ∷ []) (omega arith))
    ∙ ap (λ z. noted (take at es) ms ++ z) (left_more log.value.records (drop at es) e (let k = length-drop at es in omega arith))
    ∙ sym (append_assoc (noted (take at es) ms) (with_left log.value.records (drop at es)) (plain e ∷ []))
entry_on es (FetchedAt at w ∷ ms) e l =
    ap (λ z. noted z ms ++ Fetched w ∷ map plain (drop at (es ++ e ∷ []))) (take-append-le at es (e ∷ []) l)
    ∙ ap (λ z. noted (take at es) ms ++ Fetched w ∷ map plain z) (drop-append-le at es (e ∷ []) l)
    ∙ ap (λ z. noted (take at es) ms ++ Fetched w ∷ z) (plain_last (drop at es) e)
    ∙ sym (append_assoc (noted (take at es) ms) (Fetched w ∷ map plain (drop at es)) (plain e ∷ []))

stands_on : (es : List Entry) (ms : List Mark) (e : Entry) → stands_in es ms → stands_in (es ++ e ∷ []) ms
stands_on es [] e l = tt
stands_on es (Left at log ∷ ms) e l = (let k = length-append es (e ∷ []) in omega arith)
stands_on es (FetchedAt at w ∷ ms) e l = (let k = length-append es (e ∷ []) in omega arith)

pub entry_last : (es : List Entry) (marks : List Mark) (e : Entry) → AreMarksOf es marks → (notes_of (es ++ e ∷ []) marks ≡ notes_of es marks ++ plain e ∷ []) × AreMarksOf (es ++ e ∷ []) marks
entry_last es marks e l = (entry_on es (reverse marks) e l, stands_on es (reverse marks) e l)

-- ---- a mark more

newest : (marks : List Mark) (m : Mark) → reverse (marks ++ m ∷ []) ≡ m ∷ reverse marks
newest marks m = reverse-append marks (m ∷ [])

pub fetch_last : (es : List Entry) (marks : List Mark) (w : ℕ) → (notes_of es (marks ++ FetchedAt (length es) w ∷ []) ≡ notes_of es marks ++ Fetched w ∷ []) × AreMarksOf es (marks ++ FetchedAt (length es) w ∷ [])
fetch_last es marks w = (
  ap (noted es) (newest marks (FetchedAt (length es) w))
      ∙ ap (λ z. noted z (reverse marks) ++ Fetched w ∷ map plain (drop (length es) es)) (take_all (length es) es (omega arith))
      ∙ ap (λ z. noted es (reverse marks) ++ Fetched w ∷ map plain z) (none es),
  subst (stands_in es) (sym (newest marks (FetchedAt (length es) w))) (omega arith),
)
  where
    none : (xs : List Entry) → drop (length xs) xs ≡ []
    none [] = refl
    none (x ∷ xs) = none xs

pub left_last : (es : List Entry) (marks : List Mark) (e : Entry) (m : Mark) (log : List LogRecord) → IsLeft (length es) log m
    → (notes_of (es ++ e ∷ []) (marks ++ m ∷ []) ≡ notes_of es marks ++ Made e log ∷ []) × AreMarksOf (es ++ e ∷ []) (marks ++ m ∷ [])
left_last es marks e (FetchedAt at w) log h = absurd h
left_last es marks e (Left at l) log h = (
  ap (noted (es ++ e ∷ [])) (newest marks (Left at l))
      ∙ ap (λ z. noted z (reverse marks) ++ with_left l.value.records (drop at (es ++ e ∷ []))) (take_at es (e ∷ []) at (sym h.0))
      ∙ ap (λ z. noted es (reverse marks) ++ with_left l.value.records z) (drop_at es (e ∷ []) at (sym h.0))
      ∙ ap (λ z. noted es (reverse marks) ++ Made e z ∷ []) h.1,
  subst (stands_in (es ++ e ∷ [])) (sym (newest marks (Left at l))) (let k = length-append es (e ∷ []) in let a = h.0 in omega arith),
)
