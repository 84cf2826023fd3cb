-- What a session's replies tell of its entries.
use Rattle.std.specs.Prelude.{◌≡◌, ◌≤◌, ℕ, true, false, List, [], ◌∷◌, ◌++◌, length, Option}
use Rattle.std.specs.List.{Contains}
use Rattle.clv_base.specs.declared.names.TxId.{TxId}
use Rattle.clv_base.specs.declared.names.Birth.{Birth}
use Rattle.clv_base.specs.declared.ops.Op.{Op}
use Rattle.clv_base.specs.declared.ops.Answer.{Answer}
use Rattle.clv_base.specs.declared.events.Outcome.TheVariants.{Asked as AskedOut, Acknowledged}
use Rattle.clv_base.specs.declared.events.Entry.{Entry}
use Rattle.clv_base.specs.Journals.{History}
use Rattle.clv_base.specs.History.{acknowledged_in}
use Rattle.live_lines.specs.declared.calls.Asked.{Asked}
use Rattle.live_lines.specs.declared.calls.Reply.{Reply}
use Rattle.live_lines.specs.declared.calls.Reply.TheVariants.{Begun, Answered, Saved, WentBack, Committed, Empty, Aborted, Down, Unsettled, Worn, Memory, Refused}
use Rattle.script_runs.specs.Operations.{IsOperation}
use Rattle.script_runs.specs.Acts.{AreRolled}
use Rattle.script_runs.specs.Tries.{IsRequest, IsLook}
use Rattle.script_runs.specs.Seen.{Seen, Going, GrowsIn}
use Rattle.live_sessions.specs.declared.answering.Course.{Course}
use Rattle.live_sessions.specs.Served.{Served, Closes}

-- these entries acknowledge nothing
abbrev pub AcknowledgeNone : History → Type 0
AcknowledgeNone es = (tx : TxId) → acknowledged_in es tx ≡ false

-- they are an operation of some transaction, with this answer: all its parts, whose answers make it up
abbrev pub Operated : List ℕ → Op → Answer → History → Type 0
Operated splits op answer es = (tx : TxId) × (birth : Birth) × (nth : ℕ) × IsOperation splits tx birth nth op answer es

-- they are one going back of some transaction; or there is none, as there was nothing to take back
abbrev pub GoneBack : History → Type 0
GoneBack es = (tx : TxId) × (nth : ℕ) × (upto : ℕ) × AreRolled tx nth upto es

-- they are the request of a transaction with this serial, and the look that acknowledged it
abbrev pub Acknowledges : ℕ → History → Type 0
Acknowledges serial es =
    (tx : TxId) × (home : ℕ) × (asked told : ℕ × Entry) × (tx.serial ≡ serial) × IsRequest tx home AskedOut asked × IsLook tx home Acknowledged told
    × (es ≡ asked ∷ told ∷ [])

-- what a reply tells of the entries that its line made
abbrev pub Made : List ℕ → Reply → History → Type 0
Made splits (Answered op answer) es = Operated splits op answer es
Made splits (Committed serial) es = Acknowledges serial es
Made splits (WentBack number) es = GoneBack es
Made splits (Begun serial) es = es ≡ []
Made splits (Saved number) es = es ≡ []
Made splits (Empty serial) es = es ≡ []
Made splits (Refused why) es = es ≡ []
Made splits (Aborted cause) es = AcknowledgeNone es
Made splits (Down n) es = AcknowledgeNone es
Made splits (Unsettled n) es = AcknowledgeNone es
Made splits (Worn at) es = AcknowledgeNone es
Made splits Memory es = AcknowledgeNone es

-- the entries are those that one line after another made, each as its reply tells
pub data InTurn (splits : List ℕ) : List Reply → History → Type 0 where
  no_reply : InTurn splits [] []
  reply :
      (replies : List Reply) (r : Reply) (es here : History) → InTurn splits replies es → Made splits r here → InTurn splits (replies ++ r ∷ []) (es ++ here)

-- ---- one reply

-- a reply "committed" is of a transaction with its serial that the entries acknowledge; and there are no others that they acknowledge
abbrev pub TellCommits : List Reply → History → Type 0
TellCommits replies es = (serial : ℕ) → Contains replies (Committed serial) → (tx : TxId) × (tx.serial ≡ serial) × (acknowledged_in es tx ≡ true)

abbrev pub TellAllCommits : List Reply → History → Type 0
TellAllCommits replies es = (tx : TxId) → acknowledged_in es tx ≡ true → Contains replies (Committed tx.serial)

-- among the entries, one behind another, are those of an operation with its answer
pub record HasOperated (splits : List ℕ) (op : Op) (answer : Answer) (es : History) : Type 0 where
  pub before : History
  pub here : History
  pub behind : History
  pub among : es ≡ before ++ (here ++ behind)
  pub operated : Operated splits op answer here

-- an answer is that of an operation of the entries
abbrev pub TellAnswers : List ℕ → List Reply → History → Type 0
TellAnswers splits replies es = (op : Op) (answer : Answer) → Contains replies (Answered op answer) → HasOperated splits op answer es

-- ---- laws

-- a session's entries are those of its lines, in order, each as its reply tells, and behind them those of its end, which acknowledge nothing. It began no more
-- tries than it had lines
pub record Tells (asked : List Asked) (replies : List Reply) (u w : Seen) : Type 0 where
  pub es : History
  pub end : History
  pub begun : ℕ
  pub few : begun ≤ length asked
  pub grows : GrowsIn begun (es ++ end) u w
  pub in_turn : InTurn u.splits replies es
  pub ended : AcknowledgeNone end

abbrev pub RepliesTellEntries : Type 0
RepliesTellEntries = (asked : List Asked) (replies : List Reply) (u v w : Seen) (course : Course) (over : Option Going) → Served asked replies u course v over → Closes course v w → Tells asked replies u w

-- so it is of each reply of a session that had no entries before
abbrev pub RepliesAreTrue : Type 0
RepliesAreTrue =
    (asked : List Asked) (replies : List Reply) (u w : Seen) → Tells asked replies u w → u.entries ≡ []
    → TellCommits replies w.entries × TellAllCommits replies w.entries × TellAnswers u.splits replies w.entries
