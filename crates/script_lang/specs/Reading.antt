-- Words of the parser's own clauses.
use Rattle.std.specs.Prelude.{◌≡◌, ◌≢◌, ◌<◌, ℕ, length, slice_index, Bool, true, false, List, Option, Some, None, codes}
use Rattle.script_lang.specs.Grammar.{Reading}
use Rattle.script_lang.specs.declared.lines.Verb.{Verb}
use Rattle.script_lang.specs.declared.lines.Verb.TheVariants.{Get, Put, Bytes, Del, Scan, Move, Add, Back}

-- the line was taken, and led to this; or it has no place
abbrev pub Goes : Bool → Option Reading → Reading → Type 0
Goes true next now = next ≡ Some now
Goes false next now = next ≡ None

-- no byte is this one
abbrev pub Lacks : ℕ → List ℕ → Type 0
Lacks byte bytes = (k : ℕ) → k < length bytes → slice_index bytes k ≢ byte

-- the word of a verb
abbrev pub verb_text : Verb → List ℕ
verb_text Get = codes "get"
verb_text Put = codes "put"
verb_text Bytes = codes "bytes"
verb_text Del = codes "del"
verb_text Scan = codes "scan"
verb_text Add = codes "add"
verb_text Move = codes "move"
verb_text Back = codes "back"
