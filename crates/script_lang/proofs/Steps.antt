-- The parser's steps, line by line.
use Rattle.std.proofs.Common.{◌≡◌, refl, ℕ, suc, ◌+◌, ◌≤◌, List, [], ◌∷◌, ◌++◌, length, Option, Some, None, subst, ap, sym, ◌∙◌, arith, append-nil, append_assoc, length-append, Bool, true, false}
use Rattle.script_lang.specs.Bodies.{Action}
use Rattle.script_lang.specs.Grammar.{Line, Reading, nothing_read, Leads, lines_of, after_line, IsLine, IsRefused, at_line, at_end, HasNoPlace, most_bytes}
use Rattle.script_lang.proofs.Meanings.{one_meaning}
use Rattle.script_lang.specs.Reading.{Goes}

-- one line more
pub leads_more : (before middle after : Reading) (lines : List (List ℕ)) (bytes : List ℕ) (line : Line) → Leads before lines middle → IsLine bytes line → after_line middle line ≡ Some after → Leads before (lines ++ bytes ∷ []) after
leads_more before middle after [] bytes line e is goes = (line, after, is, subst (λ (r : Reading). after_line r line ≡ Some after) (sym e) goes, refl)
leads_more before middle after (l ∷ lines) bytes line (first, next, means, step, rest) is goes =
    (first, next, means, step, leads_more next middle after lines bytes line rest is goes)

-- so many lines of the text were taken, and led to this reading; the rest is left
abbrev pub Taken : List ℕ → List ℕ → ℕ → Reading → Type 0
Taken bytes rest number reading = (front : List (List ℕ)) × (length front ≡ number) × (lines_of bytes ≡ front ++ lines_of rest) × Leads nothing_read front reading

-- the next line has no place
pub refused_at : (bytes rest line behind : List ℕ) (number : ℕ) (before : Reading) → length bytes ≤ most_bytes → Taken bytes rest number before → lines_of rest ≡ line ∷ lines_of behind → HasNoPlace before line → (n : ℕ) → n ≡ number + 1 → IsRefused bytes n
refused_at bytes rest line behind number before short (front, len, is, leads) cut none n same =
    let whole : lines_of bytes ≡ front ++ line ∷ lines_of behind = is ∙ ap (λ (ls : List (List ℕ)). front ++ ls) cut in
    let place : suc (length front) ≡ n = omega arith in
    subst (λ (m : ℕ). IsRefused bytes m) place (at_line front before line (lines_of behind) short whole leads none)

-- it has
pub taken_one : (bytes rest bs behind : List ℕ) (number : ℕ) (before after : Reading) (line : Line) → Taken bytes rest number before → lines_of rest ≡ bs ∷ lines_of behind → IsLine bs line → after_line before line ≡ Some after → Taken bytes behind (number + 1) after
taken_one bytes rest bs behind number before after line (front, len, is, leads) cut means goes =
    let whole : lines_of bytes ≡ (front ++ bs ∷ []) ++ lines_of behind = is ∙ ap (λ (ls : List (List ℕ)). front ++ ls) cut ∙ sym (append_assoc front (bs ∷ []) (lines_of behind)) in
    (front ++ bs ∷ [], omega (arith, length-append front (bs ∷ [])), whole, leads_more nothing_read before after front bs line leads means goes)

-- a line that says what it says has no place, if that has none
pub no_place_of : (before : Reading) (bs : List ℕ) → ((line : Line) → IsLine bs line → ⊥) → HasNoPlace before bs
no_place_of before bs none = λ line is. absurd (none line is)

-- a line whose one meaning has no place has none
pub no_place_by : (before : Reading) (bs : List ℕ) (line : Line) → IsLine bs line → after_line before line ≡ None → HasNoPlace before bs
no_place_by before bs line is none = λ other also. let same : line ≡ other = one_meaning bs line other is also in subst (λ (l : Line). after_line before l ≡ None) same none

-- what taking a line told
pub went_on : (went : Bool) (next : Option Reading) (now : Reading) → Goes went next now → went ≡ true → next ≡ Some now
went_on true next now goes e = goes
went_on false next now goes e = absurd (let no : ⊥ = cc in no)

pub went_not : (went : Bool) (next : Option Reading) (now : Reading) → Goes went next now → went ≡ false → next ≡ None
went_not false next now goes e = goes
went_not true next now goes e = absurd (let no : ⊥ = cc in no)

-- at the end nothing is left
all_lead : (bytes rest : List ℕ) (number : ℕ) (reading : Reading) → length rest ≡ 0 → Taken bytes rest number reading → (length (lines_of bytes) ≡ number) × Leads nothing_read (lines_of bytes) reading
all_lead bytes [] number reading empty (front, len, is, leads) =
    let e : front ≡ lines_of bytes = sym (is ∙ append-nil front) in
    (omega (arith, ap length e), subst (λ (ls : List (List ℕ)). Leads nothing_read ls reading) e leads)
all_lead bytes (x ∷ xs) number reading empty taken = absurd (let no : ⊥ = omega arith in no)

pub ends_open : (bytes rest : List ℕ) (number : ℕ) (reading : Reading) → length bytes ≤ most_bytes → length rest ≡ 0 → Taken bytes rest number reading → ((actions : List Action) × (reading.current ≡ Some actions)) → (n : ℕ) → n ≡ number + 1 → IsRefused bytes n
ends_open bytes rest number reading short empty taken (actions, open_) n same =
    let all = all_lead bytes rest number reading empty taken in
    let place : suc (length (lines_of bytes)) ≡ n = omega arith in
    subst (λ (m : ℕ). IsRefused bytes m) place (at_end reading actions short all.1 open_)
