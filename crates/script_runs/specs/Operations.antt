-- The entries of a transaction's operation.
use Rattle.std.specs.Prelude.{◌≡◌, ℕ, zero, suc, cond, max, min, nat_le, List, [], ◌∷◌, ◌++◌, Option, Some, None}
use Rattle.clv_base.specs.declared.values.Value.{Value as ValueType}
use Rattle.clv_base.specs.declared.names.TxId.{TxId}
use Rattle.clv_base.specs.declared.names.Birth.{Birth}
use Rattle.clv_base.specs.declared.causes.AbortCause.{AbortCause}
use Rattle.clv_base.specs.declared.ops.Op.{Op}
use Rattle.clv_base.specs.declared.ops.Op.TheVariants.{Get, Put, Del, Scan, Add}
use Rattle.clv_base.specs.declared.ops.Answer.{Answer}
use Rattle.clv_base.specs.declared.ops.Answer.TheVariants.{Value, Pairs, Added}
use Rattle.clv_base.specs.declared.events.Event.TheVariants.{Op as OpEvent}
use Rattle.clv_base.specs.declared.events.Outcome.{Outcome}
use Rattle.clv_base.specs.declared.events.Outcome.TheVariants.{Answered, Dead}
use Rattle.clv_base.specs.declared.events.Entry.{Entry}
use Rattle.clv_base.specs.Shards.{shard_of, shard_count, span}
use Rattle.clv_base.specs.Journals.{History}

-- ---- the parts of an operation

-- what of a range lies in a span, if anything
abbrev pub scan_within : ℕ → ℕ → Option (ℕ × ℕ) → Option Op
scan_within lo hi None = None
scan_within lo hi (Some s) = cond (nat_le (max lo s.0) (min hi s.1)) (Some (Scan (max lo s.0) (min hi s.1))) None

abbrev pub part_at : ℕ → Option Op → List (ℕ × Op)
part_at n None = []
part_at n (Some op) = (n, op) ∷ []

-- on so many shards from n on
abbrev pub scan_parts : List ℕ → ℕ → ℕ → ℕ → ℕ → List (ℕ × Op)
scan_parts splits lo hi n zero = []
scan_parts splits lo hi n (suc k) = part_at n (scan_within lo hi (span splits n)) ++ scan_parts splits lo hi (suc n) k

-- a key's operation is one event on the key's shard; a scan is one on each shard whose keys its range meets, in rising order
abbrev pub parts_of : List ℕ → Op → List (ℕ × Op)
parts_of splits (Get k) = (shard_of splits k, Get k) ∷ []
parts_of splits (Put k v) = (shard_of splits k, Put k v) ∷ []
parts_of splits (Del k) = (shard_of splits k, Del k) ∷ []
parts_of splits (Scan lo hi) = scan_parts splits lo hi 0 (shard_count splits)
parts_of splits (Add k by) = (shard_of splits k, Add k by) ∷ []

-- ---- their answers, put together

-- all pairs, one part's after another's
abbrev pub pairs_of : List Answer → List (ℕ × ValueType)
pairs_of [] = []
pairs_of (Value v ∷ answers) = pairs_of answers
pairs_of (Pairs ps ∷ answers) = ps ++ pairs_of answers
pairs_of (Added found ∷ answers) = pairs_of answers

abbrev pub first_answer : List Answer → Answer
first_answer [] = Value None
first_answer (answer ∷ answers) = answer

-- a key's answer is that of its one part
abbrev pub answer_of : Op → List Answer → Answer
answer_of (Get k) answers = first_answer answers
answer_of (Put k v) answers = first_answer answers
answer_of (Del k) answers = first_answer answers
answer_of (Scan lo hi) answers = Pairs (pairs_of answers)
answer_of (Add k by) answers = first_answer answers

-- ---- entries

-- an entry is this part of the transaction's operation number nth, with this outcome
pub record IsPart (tx : TxId) (birth : Birth) (nth : ℕ) (part : ℕ × Op) (o : Outcome) (e : ℕ × Entry) : Type 0 where
  pub shard : e.0 ≡ part.0
  pub seen : Option ℕ
  pub event : (e.1).event ≡ OpEvent tx birth nth seen part.1
  pub outcome : (e.1).outcome ≡ o

-- the entries are these parts, each answered so
pub data ArePartsAnswered (tx : TxId) (birth : Birth) (nth : ℕ) : List (ℕ × Op) → List Answer → History → Type 0 where
  no_part : ArePartsAnswered tx birth nth [] [] []
  part :
      (part : ℕ × Op) (answer : Answer) (epoch : ℕ) (e : ℕ × Entry) (parts : List (ℕ × Op)) (answers : List Answer) (es : History)
      → IsPart tx birth nth part (Answered answer epoch) e → ArePartsAnswered tx birth nth parts answers es
      → ArePartsAnswered tx birth nth (part ∷ parts) (answer ∷ answers) (e ∷ es)

-- the entries are this operation, answered so
pub record IsOperation (splits : List ℕ) (tx : TxId) (birth : Birth) (nth : ℕ) (op : Op) (answer : Answer) (es : History) : Type 0 where
  pub answers : List Answer
  pub parts : ArePartsAnswered tx birth nth (parts_of splits op) answers es
  pub whole : answer ≡ answer_of op answers

-- the entries are the parts of this operation up to one that wasn't answered
pub record IsBegun (splits : List ℕ) (tx : TxId) (birth : Birth) (nth : ℕ) (op : Op) (es : History) : Type 0 where
  pub done : List (ℕ × Op)
  pub next : ℕ × Op
  pub left : List (ℕ × Op)
  pub parts : parts_of splits op ≡ done ++ next ∷ left
  pub answers : List Answer
  pub answered : ArePartsAnswered tx birth nth done answers es

-- the entries are the parts of this operation up to the one on shard n, of which the transaction died
pub record IsDeath (splits : List ℕ) (tx : TxId) (birth : Birth) (nth : ℕ) (op : Op) (cause : AbortCause) (n : ℕ) (es : History) : Type 0 where
  pub done : List (ℕ × Op)
  pub next : ℕ × Op
  pub left : List (ℕ × Op)
  pub parts : parts_of splits op ≡ done ++ next ∷ left
  pub answers : List Answer
  pub before : History
  pub last : ℕ × Entry
  pub entries : es ≡ before ++ last ∷ []
  pub answered : ArePartsAnswered tx birth nth done answers before
  pub died : IsPart tx birth nth next (Dead cause) last
  pub shard : n ≡ last.0
