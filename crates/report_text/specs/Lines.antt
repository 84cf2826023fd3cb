-- The line of a transaction.
use Rattle.std.specs.Prelude.{ℕ, List, [], ◌∷◌, ◌++◌, map, codes, Option, Some, None}
use Rattle.serde_json.specs.Data.{Data, null, boolean, number, unsigned, string, array, object, member, no_members}
use Rattle.serde_json.specs.View.{items_of}
use Rattle.serde_json.specs.Written.{compact_text}
use Rattle.hex.specs.Hex.{encode_lower}
use Rattle.clv_base.specs.declared.names.TxId.{TxId}
use Rattle.clv_base.specs.declared.values.Value.{Value as ValueType}
use Rattle.clv_base.specs.declared.values.Value.TheVariants.{Num, Bytes}
use Rattle.clv_base.specs.declared.ops.Op.{Op}
use Rattle.clv_base.specs.declared.ops.Op.TheVariants.{Get, Put, Del, Scan, Add}
use Rattle.clv_base.specs.declared.ops.Answer.{Answer}
use Rattle.clv_base.specs.declared.ops.Answer.TheVariants.{Value, Pairs, Added}
use Rattle.session_books.specs.Done.{Done, Did, WentBack}

-- a value as compact JSON, with a line feed
abbrev pub line : Data → List ℕ
line d = compact_text d ++ 10 ∷ []

abbrev pub num : ℕ → Data
num n = number (unsigned n)

abbrev pub list : List Data → Data
list ds = array (items_of ds)

-- a word, numbers, and a last value
abbrev pub row : List ℕ → List ℕ → Data → Data
row word numbers last = list (string word ∷ map num numbers ++ last ∷ [])

-- a number, or a text as two digits a byte
abbrev pub value_data : ValueType → Data
value_data (Num n) = num n
value_data (Bytes bytes) = string (encode_lower bytes)

-- a value, or null where there is none
abbrev pub optional : Option ValueType → Data
optional None = null
optional (Some v) = value_data v

abbrev pub pair : ℕ × ValueType → Data
pair p = list (num p.0 ∷ value_data p.1 ∷ [])

-- what was answered
abbrev pub answer : Answer → Data
answer (Value v) = optional v
answer (Pairs ps) = list (map pair ps)
answer (Added found) = boolean found

-- an operation, with what was answered
abbrev pub operation : Op → Data → Data
operation (Get k) d = row (codes "get") (k ∷ []) d
operation (Put k v) d = list (string (codes "put") ∷ num k ∷ value_data v ∷ d ∷ [])
operation (Del k) d = row (codes "del") (k ∷ []) d
operation (Scan lo hi) d = row (codes "scan") (lo ∷ hi ∷ []) d
operation (Add k by) d = row (codes "add") (k ∷ by ∷ []) d

-- an operation with its answer; or a going back, with the number of acts up to which it went
abbrev pub act : Done → Data
act (Did op a) = operation op (answer a)
act (WentBack upto) = list (string (codes "back") ∷ num upto ∷ [])

abbrev pub acts : List Done → List Data
acts ds = map act ds

-- {"ops":[..],"serial":..,"session":..}
abbrev pub transaction : TxId → List Done → Data
transaction tx ds =
    object (member (codes "ops") (list (acts ds)) (member (codes "serial") (num tx.serial) (member (codes "session") (num tx.session) no_members)))
