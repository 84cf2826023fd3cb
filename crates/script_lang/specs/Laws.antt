-- What holds of every script.
use Rattle.std.specs.Prelude.{◌≡◌, ◌≤◌, ℕ, suc, ◌+◌, ◌^◌, Bool, true, not, nat_lt, nat_le, ◌==◌, ◌&&◌, List, [], ◌∷◌, length}
use Rattle.std.specs.List.{list_all}
use Rattle.clv_base.specs.Values.{fits_value}
use Rattle.clv_base.specs.declared.ops.Op.{Op}
use Rattle.clv_base.specs.declared.ops.Op.TheVariants.{Get, Put, Del, Scan, Add}
use Rattle.script_lang.specs.Bodies.{Action, Body}
use Rattle.script_lang.specs.Grammar.{Do, Move, Save, Back, IsScript, IsRefused}

-- ---- one meaning

-- a text is the script of one list of sessions alone
abbrev pub ScriptsHaveOneMeaning : Type 0
ScriptsHaveOneMeaning = (bytes : List ℕ) (sessions others : List (List Body)) → IsScript bytes sessions → IsScript bytes others → sessions ≡ others

-- no script is refused, and what is refused is refused at one line
abbrev pub ScriptsAreNotRefused : Type 0
ScriptsAreNotRefused = (bytes : List ℕ) (sessions : List (List Body)) (line : ℕ) → IsScript bytes sessions → IsRefused bytes line → ⊥

abbrev pub RefusalsHaveOneLine : Type 0
RefusalsHaveOneLine = (bytes : List ℕ) (line other : ℕ) → IsRefused bytes line → IsRefused bytes other → line ≡ other

-- ---- bounds

-- numbers below 2^64, and texts of at most 200 bytes; a scan's bounds don't fall, and a move's keys differ
abbrev pub is_word : ℕ → Bool
is_word n = nat_lt n (2 ^ 64)

abbrev pub is_narrow_op : Op → Bool
is_narrow_op (Get k) = is_word k
is_narrow_op (Put k v) = is_word k && fits_value v
is_narrow_op (Del k) = is_word k
is_narrow_op (Scan lo hi) = nat_le lo hi && is_word hi
is_narrow_op (Add k by) = is_word k && is_word by

abbrev pub is_narrow : Action → Bool
is_narrow (Do op) = is_narrow_op op
is_narrow (Move from to amount) = (is_word from && is_word to) && (is_word amount && not (from == to))
is_narrow Save = true
is_narrow (Back i) = is_word i

abbrev pub is_narrow_body : Body → Bool
is_narrow_body b = list_all is_narrow b.actions

-- how many transactions and lines of transactions there are
abbrev pub session_size : List Body → ℕ
session_size [] = 0
session_size (b ∷ bodies) = suc (length b.actions) + session_size bodies

abbrev pub script_size : List (List Body) → ℕ
script_size [] = 0
script_size (bodies ∷ sessions) = session_size bodies + script_size sessions

abbrev pub ScriptsAreNarrow : Type 0
ScriptsAreNarrow = (bytes : List ℕ) (sessions : List (List Body)) → IsScript bytes sessions → list_all (list_all is_narrow_body) sessions ≡ true

-- each of them stands on a line of its own
abbrev pub ScriptsAreShort : Type 0
ScriptsAreShort = (bytes : List ℕ) (sessions : List (List Body)) → IsScript bytes sessions → script_size sessions ≤ suc (length bytes)

abbrev pub ScriptsHaveFewSessions : Type 0
ScriptsHaveFewSessions = (bytes : List ℕ) (sessions : List (List Body)) → IsScript bytes sessions → length sessions ≤ 64
