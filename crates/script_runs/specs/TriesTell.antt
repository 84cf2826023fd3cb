-- What the entries of a try tell that was acknowledged.
use Rattle.std.specs.Prelude.{◌≡◌, ℕ, suc, true, List, [], ◌∷◌, ◌++◌, None}
use Rattle.clv_base.specs.declared.names.TxId.{TxId}
use Rattle.clv_base.specs.declared.names.Birth.{Birth}
use Rattle.clv_base.specs.declared.ops.Op.{Op}
use Rattle.clv_base.specs.declared.ops.Answer.{Answer}
use Rattle.clv_base.specs.Maps.{GoesBack}
use Rattle.clv_base.specs.History.{DoneAct, answers_given, acknowledged_in, acts_in}
use Rattle.script_lang.specs.Bodies.{Body}
use Rattle.session_books.specs.Done.{Done, Did, WentBack}
use Rattle.script_runs.specs.declared.ends.TryEnd.TheVariants as end
use Rattle.script_runs.specs.Operations.{parts_of, answer_of}
use Rattle.script_runs.specs.Acts.{numbered, numbered_parts}
use Rattle.script_runs.specs.Tries.{Try, IsTry}

-- of what was done, numbered from nth on, the list has the parts, one act's after another's, and the answers of an operation's parts make up its own
pub data ArePartsOf (splits : List ℕ) : ℕ → List Done → List DoneAct → Type 0 where
  no_act : (nth : ℕ) → ArePartsOf splits nth [] []
  operation :
      (nth : ℕ) (op : Op) (answer : Answer) (ds : List Done) (here behind all : List DoneAct)
      → all ≡ here ++ behind → numbered here ≡ numbered_parts nth (parts_of splits op) → answer ≡ answer_of op (answers_given here)
      → ArePartsOf splits (suc nth) ds behind → ArePartsOf splits nth (Did op answer ∷ ds) all
  going_back :
      (nth upto : ℕ) (ds : List Done) (behind : List DoneAct)
      → ArePartsOf splits (suc nth) ds behind → ArePartsOf splits nth (WentBack upto ∷ ds) ((nth, GoesBack upto, None) ∷ behind)

-- its entries tell what it did, with the answers that the session was given
abbrev pub EntriesTellTheirAnswers : Type 0
EntriesTellTheirAnswers =
    (splits : List ℕ) (body : Body) (birth : Birth) (t : Try) → IsTry splits body birth t → t.end ≡ end.Acknowledged → ArePartsOf splits 1 t.acts (acts_in t.tx t.entries)

-- and a try whose entries tell that a transaction is acknowledged is that transaction's, and was acknowledged
abbrev pub AcknowledgedEndSo : Type 0
AcknowledgedEndSo =
    (splits : List ℕ) (body : Body) (birth : Birth) (t : Try) (tx : TxId) → IsTry splits body birth t → acknowledged_in t.entries tx ≡ true
    → (t.end ≡ end.Acknowledged) × (tx ≡ t.tx)
