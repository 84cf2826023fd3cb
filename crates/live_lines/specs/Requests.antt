-- The grammar of requests.
use Rattle.std.specs.Prelude.{◌≡◌, ◌⊎◌, ◌≤◌, ℕ, List, [], ◌∷◌, ◌++◌, codes, Option, Some, None}
use Rattle.script_lang.specs.declared.lines.Line.{Line}
use Rattle.script_lang.specs.declared.lines.Line.TheVariants as script
use Rattle.script_lang.specs.declared.actions.Action.TheVariants.{Do, Move}
use Rattle.script_lang.specs.declared.actions.Action.TheVariants as action
use Rattle.script_lang.specs.declared.actions.Ending.TheVariants as ending
use Rattle.script_lang.specs.Grammar.{IsNumber, IsAction, IsEnding, IsComment, PutsText}
use Rattle.live_lines.specs.declared.calls.Call.{Call}
use Rattle.live_lines.specs.declared.calls.Call.TheVariants.{Begin, Retry, Operate, Save, Back, Commit, Abort}
use Rattle.live_lines.specs.declared.calls.Asked.{Asked}
use Rattle.live_lines.specs.declared.calls.Asked.TheVariants as asks
use Rattle.live_lines.specs.declared.requests.Request.{Request}
use Rattle.live_lines.specs.declared.requests.Request.TheVariants.{Blank, Of, NoSession}

-- the words of a call: those of scripts, and `retry`
abbrev pub IsCall : List ℕ → Call → Type 0
IsCall words Begin = words ≡ codes "begin"
IsCall words Retry = words ≡ codes "retry"
IsCall words (Operate op) = IsAction words (Do op)
IsCall words Save = IsAction words action.Save
IsCall words (Back i) = IsAction words (action.Back i)
IsCall words Commit = IsEnding words ending.Commit
IsCall words Abort = IsEnding words ending.Abort

-- a line begins with the number of a session, from 1 up, and one space
abbrev pub IsHead : ℕ → List ℕ → ℕ → List ℕ → Type 0
IsHead sessions bytes s words = (word : List ℕ) × (bytes ≡ word ++ 32 ∷ words) × IsNumber word s × (1 ≤ s) × (s ≤ sessions)

-- an empty line, or a comment
abbrev pub IsBlank : List ℕ → Type 0
IsBlank bytes = (bytes ≡ []) ⊎ IsComment bytes

-- the words ask for this call, or for none; or they put a text for which there was no memory
abbrev pub Asks : List ℕ → Asked → Type 0
Asks words (asks.Call call) = IsCall words call
Asks words asks.Unknown = (call : Call) → IsCall words call → ⊥
Asks words asks.NoMemory = PutsText words

-- what a line of the input is
abbrev pub Reads : ℕ → List ℕ → Request → Type 0
Reads sessions bytes Blank = IsBlank bytes
Reads sessions bytes (Of s asked) = (IsBlank bytes → ⊥) × (words : List ℕ) × IsHead sessions bytes s words × Asks words asked
Reads sessions bytes NoSession = (IsBlank bytes → ⊥) × ((s : ℕ) (words : List ℕ) → IsHead sessions bytes s words → ⊥)

-- the call that a line of a script spells
abbrev pub call_in : Line → Option Call
call_in script.Begin = Some Begin
call_in (script.Act (Do op)) = Some (Operate op)
call_in (script.Act (Move from to amount)) = None
call_in (script.Act action.Save) = Some Save
call_in (script.Act (action.Back i)) = Some (Back i)
call_in (script.End ending.Commit) = Some Commit
call_in (script.End ending.Abort) = Some Abort
call_in script.Blank = None
call_in script.Session = None
