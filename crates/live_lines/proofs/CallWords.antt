-- The words of a call are those of one line of a script, or `retry`.
use Rattle.std.proofs.Common.{◌≡◌, ℕ, ◌≤◌, List, ◌∷◌, ◌++◌, codes, refl, sym, subst, ◌∙◌, Option, Some, None, MatchOption, ◌⊎◌, inl, inr}
use Rattle.script_lang.specs.declared.lines.Line.{Line}
use Rattle.script_lang.specs.declared.lines.Line.TheVariants as script
use Rattle.script_lang.specs.declared.actions.Action.TheVariants.{Do, Move}
use Rattle.script_lang.specs.declared.actions.Action.TheVariants as action
use Rattle.script_lang.specs.declared.actions.Ending.TheVariants as ending
use Rattle.script_lang.specs.Grammar.{IsLine, IsNumber}
use Rattle.script_lang.specs.Reading.{Lacks}
use Rattle.script_lang.proofs.Laws.{one_meaning, number_has_no_space, parted_alike, number_once}
use Rattle.live_lines.specs.declared.calls.Call.{Call}
use Rattle.live_lines.specs.declared.calls.Call.TheVariants.{Begin, Retry, Operate, Save, Back, Commit, Abort}
use Rattle.live_lines.specs.Requests.{IsCall, IsHead, call_in}

-- a call other than `retry` is a line that spells it
pub line_for : (words : List ℕ) (call : Call) → IsCall words call → (words ≡ codes "retry") ⊎ ((line : Line) × IsLine words line × (call_in line ≡ Some call))
line_for words Begin is = inr (script.Begin, is, refl)
line_for words Retry is = inl is
line_for words (Operate op) is = inr (script.Act (Do op), is, refl)
line_for words Save is = inr (script.Act action.Save, is, refl)
line_for words (Back i) is = inr (script.Act (action.Back i), is, refl)
line_for words Commit is = inr (script.End ending.Commit, is, refl)
line_for words Abort is = inr (script.End ending.Abort, is, refl)

-- and a line that spells a call is its words
pub words_of : (words : List ℕ) (line : Line) (call : Call) → IsLine words line → call_in line ≡ Some call → IsCall words call
words_of words script.Blank call is e = absurd (cc)
words_of words script.Session call is e = absurd (cc)
words_of words script.Begin call is e = let same : Begin ≡ call = cc in subst (IsCall words) same is
words_of words (script.Act (Do op)) call is e = let same : Operate op ≡ call = cc in subst (IsCall words) same is
words_of words (script.Act (Move from to amount)) call is e = absurd (cc)
words_of words (script.Act action.Save) call is e = let same : Save ≡ call = cc in subst (IsCall words) same is
words_of words (script.Act (action.Back i)) call is e = let same : Back i ≡ call = cc in subst (IsCall words) same is
words_of words (script.End ending.Commit) call is e = let same : Commit ≡ call = cc in subst (IsCall words) same is
words_of words (script.End ending.Abort) call is e = let same : Abort ≡ call = cc in subst (IsCall words) same is

-- words that aren't `retry`, and that are no line which spells a call, are no call
pub no_call : (words : List ℕ) → (words ≡ codes "retry" → ⊥) → ((line : Line) (call : Call) → IsLine words line → call_in line ≡ Some call → ⊥) → (call : Call) → IsCall words call → ⊥
no_call words other none call is = elim (line_for words call is) as (λ d. ⊥) [
  | inl same ↦ other same
  | inr found ↦ none found.0 call found.1 found.2
]

-- a line that spells none leaves none
pub spells_none : (words : List ℕ) (line : Line) → IsLine words line → call_in line ≡ None → (other : Line) (call : Call) → IsLine words other → call_in other ≡ Some call → ⊥
spells_none words line is none other call also spells =
    let same : line ≡ other = one_meaning words line other is also in
    let e : call_in line ≡ Some call = subst (λ (l : Line). call_in l ≡ Some call) (sym same) spells in
    cc

-- the call of words that a line spells, if it spells one
pub called :
    (words : List ℕ) (line : Line) (o : Option Call) → (words ≡ codes "retry" → ⊥) → IsLine words line → o ≡ call_in line
    → MatchOption o ((call : Call) → IsCall words call → ⊥) (λ call. IsCall words call)
called words line (Some call) other is e = words_of words line call is (sym e)
called words line None other is e = no_call words other (spells_none words line is (sym e))

pub uncalled : (words : List ℕ) → (words ≡ codes "retry" → ⊥) → ((line : Line) → IsLine words line → ⊥) → (call : Call) → IsCall words call → ⊥
uncalled words other none = no_call words other (λ line call is spells. none line is)

-- the number that a line begins with is that of its first word
pub no_number :
    (sessions : ℕ) (bytes word rest : List ℕ) → bytes ≡ word ++ 32 ∷ rest → Lacks 32 word → (s : ℕ) (words : List ℕ) → IsHead sessions bytes s words → IsNumber word s
no_number sessions bytes word rest is none s words (first, same, number, low, high) =
    let e = parted_alike word rest first words none (number_has_no_space first s number) (sym is ∙ same) in
    subst (λ (w : List ℕ). IsNumber w s) (sym e.0) number

-- so it is one number, within its bounds
pub one_number :
    (sessions : ℕ) (bytes word rest : List ℕ) (n : ℕ) → bytes ≡ word ++ 32 ∷ rest → Lacks 32 word → IsNumber word n → (s : ℕ) (words : List ℕ) → IsHead sessions bytes s words
    → (n ≡ s) × (1 ≤ s) × (s ≤ sessions)
one_number sessions bytes word rest n is none number s words head =
    (number_once word n s number (no_number sessions bytes word rest is none s words head), head.3, head.4)
