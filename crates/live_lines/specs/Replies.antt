-- The line of a reply.
use Rattle.std.specs.Prelude.{ℕ, List, [], ◌∷◌, ◌++◌, map, codes, Option, Some, None}
use Rattle.serde_json.specs.Data.{Data, null, boolean, number, unsigned, string, array}
use Rattle.serde_json.specs.View.{items_of}
use Rattle.serde_json.specs.Written.{compact_text}
use Rattle.hex.specs.Hex.{encode_lower}
use Rattle.clv_base.specs.declared.names.TxId.{TxId}
use Rattle.clv_base.specs.declared.values.Value.{Value as ValueType}
use Rattle.clv_base.specs.declared.values.Value.TheVariants.{Num, Bytes}
use Rattle.clv_base.specs.declared.ops.Op.{Op}
use Rattle.clv_base.specs.declared.ops.Op.TheVariants.{Get, Put, Del, Scan, Add}
use Rattle.clv_base.specs.declared.ops.Answer.{Answer}
use Rattle.clv_base.specs.declared.ops.Answer.TheVariants.{Value, Pairs, Added}
use Rattle.clv_base.specs.declared.causes.AbortCause.{AbortCause}
use Rattle.clv_base.specs.declared.causes.AbortCause.TheVariants as cause
use Rattle.clv_base.specs.declared.causes.NoWhy.{NoWhy}
use Rattle.clv_base.specs.declared.causes.NoWhy.TheVariants.{Doomed, Restarted}
use Rattle.live_lines.specs.declared.calls.Refusal.{Refusal}
use Rattle.live_lines.specs.declared.calls.Refusal.TheVariants as refusal
use Rattle.live_lines.specs.declared.calls.Reply.{Reply}
use Rattle.live_lines.specs.declared.calls.Reply.TheVariants.{Begun, Answered, Saved, WentBack, Committed, Empty, Aborted, Down, Unsettled, Worn, Memory, Refused}

-- a value as compact JSON, with a line feed
abbrev pub line : Data → List ℕ
line d = compact_text d ++ 10 ∷ []

abbrev pub num : ℕ → Data
num n = number (unsigned n)

abbrev pub list : List Data → Data
list ds = array (items_of ds)

-- a session, a word, and numbers
abbrev pub row : ℕ → List ℕ → List ℕ → List Data
row session word numbers = num session ∷ string word ∷ map num numbers

-- a number, or a text as two digits a byte
abbrev pub value_data : ValueType → Data
value_data (Num n) = num n
value_data (Bytes bytes) = string (encode_lower bytes)

-- a value, or null where there is none
abbrev pub optional : Option ValueType → Data
optional None = null
optional (Some v) = value_data v

abbrev pub pair : ℕ × ValueType → Data
pair p = list (num p.0 ∷ value_data p.1 ∷ [])

-- what was answered
abbrev pub answer : Answer → Data
answer (Value v) = optional v
answer (Pairs ps) = list (map pair ps)
answer (Added found) = boolean found

-- the run, the session and the serial of a transaction
abbrev pub name : TxId → Data
name tx = list (num tx.run ∷ num tx.session ∷ num tx.serial ∷ [])

-- a session's operation, without its answer
abbrev pub operation : ℕ → Op → List Data
operation session (Get k) = row session (codes "get") (k ∷ [])
operation session (Put k v) = row session (codes "put") (k ∷ []) ++ value_data v ∷ []
operation session (Del k) = row session (codes "del") (k ∷ [])
operation session (Scan lo hi) = row session (codes "scan") (lo ∷ hi ∷ [])
operation session (Add k by) = row session (codes "add") (k ∷ by ∷ [])

-- why a part votes no
abbrev pub why : NoWhy → List Data
why (Doomed tx) = string (codes "doomed") ∷ name tx ∷ []
why (Restarted seen now) = string (codes "restarted") ∷ num seen ∷ num now ∷ []

-- why a transaction was aborted
abbrev pub cause_of : AbortCause → List Data
cause_of cause.Asked = string (codes "asked") ∷ []
cause_of (cause.Died older) = string (codes "died") ∷ name older ∷ []
cause_of (cause.Predecessor tx) = string (codes "predecessor") ∷ name tx ∷ []
cause_of (cause.NoVote shard w) = string (codes "no vote") ∷ num shard ∷ why w
cause_of (cause.Restarted shard seen now) = string (codes "restarted") ∷ num shard ∷ num seen ∷ num now ∷ []

abbrev pub refusal_text : Refusal → List ℕ
refusal_text refusal.Unknown = codes "no request"
refusal_text refusal.NoSession = codes "no session"
refusal_text refusal.Active = codes "a transaction is active"
refusal_text refusal.NoTx = codes "no transaction is active"
refusal_text refusal.NoRetry = codes "nothing to try again"
refusal_text refusal.NoSavepoint = codes "no such savepoint"
refusal_text refusal.Ended = codes "the session has ended"
refusal_text refusal.TooLong = codes "the line is too long"
refusal_text refusal.NoMemory = codes "no memory for the text"

-- what a session's reply tells
abbrev pub told : ℕ → Reply → List Data
told session (Begun serial) = row session (codes "begin") (serial ∷ [])
told session (Answered op a) = operation session op ++ answer a ∷ []
told session (Saved n) = row session (codes "save") (n ∷ [])
told session (WentBack n) = row session (codes "back") (n ∷ [])
told session (Committed serial) = row session (codes "committed") (serial ∷ [])
told session (Empty serial) = row session (codes "empty") (serial ∷ [])
told session (Aborted why_) = row session (codes "aborted") [] ++ cause_of why_
told session (Down shard) = row session (codes "down") (shard ∷ [])
told session (Unsettled shard) = row session (codes "unsettled") (shard ∷ [])
told session (Worn at) = row session (codes "worn") (at ∷ [])
told session Memory = row session (codes "memory") []
told session (Refused why_) = row session (codes "refused") [] ++ string (refusal_text why_) ∷ []

abbrev pub reply_line : ℕ → Reply → List ℕ
reply_line session reply = line (list (told session reply))
