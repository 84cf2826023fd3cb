-- The grammar of scripts: lines, what each means, and where it may stand.
use Rattle.std.specs.Prelude.{◌≡◌, ◌≢◌, ◌⊎◌, ℕ, suc, ◌<◌, ◌≤◌, ◌^◌, Bool, true, ◌||◌, ◌==◌, nat_lt, cond, List, [], ◌∷◌, ◌++◌, length, codes, slice_index, Option, Some, None, is_some, Ok}
use Rattle.std.specs.List.{list_all}
use Rattle.std.specs.Str.Parse.{IsNumeral, digits_value}
use Rattle.hex.specs.Hex.{decode_of}
use Rattle.clv_base.specs.declared.values.Value.TheVariants.{Num, Bytes}
use Rattle.clv_base.specs.declared.ops.Op.TheVariants.{Get, Put, Del, Scan, Add}
use Rattle.script_lang.specs.Bodies.{Action, Ending, Body}
use Rattle.script_lang.specs.Savepoints.{Savepoints, no_savepoints, keep, upto_of, back_to}
pub use Rattle.script_lang.specs.declared.actions.Action.TheVariants.{Do, Move, Save, Back}
pub use Rattle.script_lang.specs.declared.actions.Ending.TheVariants.{Commit, Abort}
pub use Rattle.script_lang.specs.declared.lines.Line.{Line}
pub use Rattle.script_lang.specs.declared.lines.Line.TheVariants.{Blank, Session, Begin, Act, End}

-- ---- lines: what stands between line feeds; the last line feed may be missing

abbrev pub before_line : ℕ → List (List ℕ) → List (List ℕ)
before_line b [] = (b ∷ []) ∷ []
before_line b (l ∷ ls) = (b ∷ l) ∷ ls

abbrev pub lines_of : List ℕ → List (List ℕ)
lines_of [] = []
lines_of (b ∷ bs) = cond (b == 10) ([] ∷ lines_of bs) (before_line b (lines_of bs))

-- ---- what a line means

-- a word is this number: decimal digits without a leading zero, below 2^64
pub record IsNumber (word : List ℕ) (n : ℕ) : Type 0 where
  pub digits : IsNumeral 10 word
  pub value : digits_value 10 word ≡ n
  pub no_leading_zero : (length word ≡ 1) ⊎ (slice_index word 0 ≢ 48)
  pub bounded : n < 2 ^ 64

-- an empty line, or a comment: `#` and ASCII text
abbrev pub is_ascii : List ℕ → Bool
is_ascii bytes = list_all (λ b. nat_lt b 128) bytes

abbrev pub IsComment : List ℕ → Type 0
IsComment bytes = (text : List ℕ) × (bytes ≡ 35 ∷ text) × (is_ascii text ≡ true)

-- words, parted by one space each, are these numbers
abbrev pub AreTwo : List ℕ → ℕ → ℕ → Type 0
AreTwo text m n = (first second : List ℕ) × (text ≡ first ++ 32 ∷ second) × IsNumber first m × IsNumber second n

abbrev pub AreThree : List ℕ → ℕ → ℕ → ℕ → Type 0
AreThree text k m n = (first others : List ℕ) × (text ≡ first ++ 32 ∷ others) × IsNumber first k × AreTwo others m n

-- a word spells these bytes, at most 200: two digits a byte, in lower case, or `-` for no byte
abbrev pub has_no_upper : List ℕ → Bool
has_no_upper word = list_all (λ b. nat_lt b 65 || nat_lt 70 b) word

pub record AreDigits (word bytes : List ℕ) : Type 0 where
  pub some : 0 < length word
  pub few : length word ≤ 400
  pub lower : has_no_upper word ≡ true
  pub decodes : decode_of word ≡ Ok bytes

abbrev pub IsText : List ℕ → List ℕ → Type 0
IsText word bytes = ((word ≡ codes "-") × (bytes ≡ [])) ⊎ AreDigits word bytes

abbrev pub AreKeyAndText : List ℕ → ℕ → List ℕ → Type 0
AreKeyAndText text k bytes = (first second : List ℕ) × (text ≡ first ++ 32 ∷ second) × IsNumber first k × IsText second bytes

-- the word that an action begins with
abbrev pub name_of : Action → List ℕ
name_of (Do (Get k)) = codes "get"
name_of (Do (Put k (Num v))) = codes "put"
name_of (Do (Put k (Bytes bytes))) = codes "bytes"
name_of (Do (Del k)) = codes "del"
name_of (Do (Scan lo hi)) = codes "scan"
name_of (Do (Add k by)) = codes "add"
name_of (Move from to amount) = codes "move"
name_of Save = codes "save"
name_of (Back i) = codes "back"

-- the words that follow it: a scan's bounds don't fall, and a move's keys differ; none follow `save`
abbrev pub HasOperands : List ℕ → Action → Type 0
HasOperands words (Do (Get k)) = IsNumber words k
HasOperands words (Do (Put k (Num v))) = AreTwo words k v
HasOperands words (Do (Put k (Bytes bytes))) = AreKeyAndText words k bytes
HasOperands words (Do (Del k)) = IsNumber words k
HasOperands words (Do (Scan lo hi)) = AreTwo words lo hi × (lo ≤ hi)
HasOperands words (Do (Add k by)) = AreTwo words k by
HasOperands words (Move from to amount) = AreThree words from to amount × (from ≢ to)
HasOperands words Save = ⊥
HasOperands words (Back i) = IsNumber words i

abbrev pub HasWords : List ℕ → Action → Type 0
HasWords bytes action = (words : List ℕ) × (bytes ≡ name_of action ++ 32 ∷ words) × HasOperands words action

abbrev pub IsAction : List ℕ → Action → Type 0
IsAction bytes (Do op) = HasWords bytes (Do op)
IsAction bytes (Move from to amount) = HasWords bytes (Move from to amount)
IsAction bytes Save = bytes ≡ name_of Save
IsAction bytes (Back i) = HasWords bytes (Back i)

-- a line that puts a text
abbrev pub PutsText : List ℕ → Type 0
PutsText line = (k : ℕ) × (text : List ℕ) × IsAction line (Do (Put k (Bytes text)))

abbrev pub IsEnding : List ℕ → Ending → Type 0
IsEnding bytes Commit = bytes ≡ codes "commit"
IsEnding bytes Abort = bytes ≡ codes "abort"

abbrev pub IsLine : List ℕ → Line → Type 0
IsLine bytes Blank = (bytes ≡ []) ⊎ IsComment bytes
IsLine bytes Session = bytes ≡ codes "session"
IsLine bytes Begin = bytes ≡ codes "begin"
IsLine bytes (Act action) = IsAction bytes action
IsLine bytes (End ending) = IsEnding bytes ending

-- ---- where a line may stand

-- the savepoints of a transaction after these lines, which alone don't tell where each leads
abbrev pub with_line : Action → Savepoints → Savepoints
with_line (Do op) s = s
with_line (Move from to amount) s = s
with_line Save s = keep 0 s
with_line (Back i) s = back_to i s

abbrev pub saves_from : Savepoints → List Action → Savepoints
saves_from s [] = s
saves_from s (action ∷ actions) = saves_from (with_line action s) actions

abbrev pub saves_in : List Action → Savepoints
saves_in actions = saves_from no_savepoints actions

-- an action may follow these: a going back, where its savepoint stands
abbrev pub may_follow : Savepoints → Action → Bool
may_follow s (Do op) = true
may_follow s (Move from to amount) = true
may_follow s Save = true
may_follow s (Back i) = is_some (upto_of i s.standing)

-- what the lines so far come to: the sessions that others follow, the last session, if any, and the lines of the open transaction, if any
pub record Reading : Type 0 where
  pub finished : List (List Body)
  pub session : Option (List Body)
  pub current : Option (List Action)

abbrev pub reading : List (List Body) → Option (List Body) → Option (List Action) → Reading
reading finished session current = record { finished = finished; session = session; current = current }

abbrev pub nothing_read : Reading
nothing_read = reading [] None None

-- all sessions so far
abbrev pub with_last : List (List Body) → Option (List Body) → List (List Body)
with_last finished None = finished
with_last finished (Some bodies) = finished ++ bodies ∷ []

abbrev pub body : List Action → Ending → Body
body actions ending = record { actions = actions; ending = ending }

-- the reading after a line, if the line may stand there: a session outside a transaction, and at most 64 of them; a transaction in a
-- session, and not in another; an action, or an ending, in a transaction, and a going back to a savepoint of it that stands
abbrev pub read_line : List (List Body) → Option (List Body) → Option (List Action) → Line → Option Reading
read_line finished session current Blank = Some (reading finished session current)
read_line finished session None Session = cond (nat_lt (length (with_last finished session)) 64) (Some (reading (with_last finished session) (Some []) None)) None
read_line finished session (Some actions) Session = None
read_line finished None None Begin = None
read_line finished (Some bodies) None Begin = Some (reading finished (Some bodies) (Some []))
read_line finished session (Some actions) Begin = None
read_line finished session None (Act action) = None
read_line finished session (Some actions) (Act action) = cond (may_follow (saves_in actions) action) (Some (reading finished session (Some (actions ++ action ∷ [])))) None
read_line finished session None (End ending) = None
read_line finished None (Some actions) (End ending) = None
read_line finished (Some bodies) (Some actions) (End ending) = Some (reading finished (Some (bodies ++ body actions ending ∷ [])) None)

abbrev pub after_line : Reading → Line → Option Reading
after_line r line = read_line r.finished r.session r.current line

-- lines, each in the grammar at its place, lead from a reading to another
abbrev pub Leads : Reading → List (List ℕ) → Reading → Type 0
Leads before [] after = before ≡ after
Leads before (bytes ∷ lines) after = (line : Line) × (next : Reading) × IsLine bytes line × (after_line before line ≡ Some next) × Leads next lines after

-- ---- scripts

-- a script has at most so many bytes
abbrev pub most_bytes : ℕ
most_bytes = 16777216

-- the bytes are a script of these sessions
abbrev pub IsScript : List ℕ → List (List Body) → Type 0
IsScript bytes sessions =
    (finished : List (List Body)) × (session : Option (List Body))
    × (length bytes ≤ most_bytes) × (sessions ≡ with_last finished session) × Leads nothing_read (lines_of bytes) (reading finished session None)

-- a line that is in the grammar in no way at its place
abbrev pub HasNoPlace : Reading → List ℕ → Type 0
HasNoPlace before bytes = (line : Line) → IsLine bytes line → after_line before line ≡ None

-- the first line outside the grammar at its place, counted from 1; where the lines end in a transaction, it is the line after the last; 0 where
-- there are too many bytes
pub data IsRefused (bytes : List ℕ) : ℕ → Type 0 where
  at_line :
      (front : List (List ℕ)) (before : Reading) (line : List ℕ) (behind : List (List ℕ))
      → length bytes ≤ most_bytes → lines_of bytes ≡ front ++ line ∷ behind → Leads nothing_read front before → HasNoPlace before line
      → IsRefused bytes (suc (length front))
  at_end :
      (before : Reading) (actions : List Action)
      → length bytes ≤ most_bytes → Leads nothing_read (lines_of bytes) before → before.current ≡ Some actions
      → IsRefused bytes (suc (length (lines_of bytes)))
  too_long : most_bytes < length bytes → IsRefused bytes 0
