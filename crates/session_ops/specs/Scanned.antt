-- What a scan over several shards tells.
use Rattle.std.specs.Prelude.{◌≡◌, ◌⊎◌, ⊤, ℕ, zero, suc, ◌<◌, ◌+◌, max, min, nat_le, true, false, cond, is_some, List, [], ◌++◌, Option, Some, None, Result, Ok, Err}
use Rattle.std.specs.List.{AllByRecursion}
use Rattle.clv_base.specs.declared.values.Value.{Value as ValueType}
use Rattle.clv_base.specs.declared.names.TxId.{TxId}
use Rattle.clv_base.specs.declared.names.Birth.{Birth}
use Rattle.clv_base.specs.declared.causes.AbortCause.{AbortCause}
use Rattle.clv_base.specs.declared.ops.Op.TheVariants.{Scan}
use Rattle.clv_base.specs.declared.ops.Answer.{Answer}
use Rattle.clv_base.specs.declared.ops.Answer.TheVariants.{Value, Pairs, Added}
use Rattle.clv_base.specs.declared.events.Event.TheVariants.{Op as OpEvent, Drop}
use Rattle.clv_base.specs.declared.events.Outcome.TheVariants.{Answered, Dead, Wait, Crowded}
use Rattle.clv_base.specs.Shards.{span}
use Rattle.clv_base.specs.Sessions.{SessionState, is_of_session}
use Rattle.turn_lock.specs.declared.pass.Pass.{Pass}
use Rattle.machine_laws.specs.declared.notes.Note.{Note}
use Rattle.machine_laws.specs.declared.notes.Origin.{Origin}
use Rattle.cluster_turns.specs.CallTurns.{Turn, Took, AnyTurn, FoundDown, FoundWorn}
use Rattle.session_ops.specs.declared.operating.OpError.{OpError}
use Rattle.session_ops.specs.declared.operating.OpError.TheVariants.{Aborted, Down, Worn, Memory}
use Rattle.session_ops.specs.Decided.{DropsOthers}

-- the part of a range, both ends in, within a span
abbrev pub part_within : ℕ → ℕ → Option (ℕ × ℕ) → Option (ℕ × ℕ)
part_within lo hi None = None
part_within lo hi (Some s) = cond (nat_le (max lo s.0) (min hi s.1)) (Some (max lo s.0, min hi s.1)) None

-- and on a shard
abbrev pub part_on : List ℕ → ℕ → ℕ → ℕ → Option (ℕ × ℕ)
part_on splits n lo hi = part_within lo hi (span splits n)

-- a scan of a transaction: its name, its birth, the number of the operation, and the range
pub record Range : Type 0 where
  pub tx : TxId
  pub birth : Birth
  pub nth : ℕ
  pub lo : ℕ
  pub hi : ℕ

-- a turn is its part scan for shard n
pub record IsPartScan (splits : List ℕ) (x : Range) (n : ℕ) (t : Turn) : Type 0 where
  pub seen : Option ℕ
  pub part : ℕ × ℕ
  pub meets : part_on splits n x.lo x.hi ≡ Some part
  pub event : t.event ≡ OpEvent x.tx x.birth x.nth seen (Scan part.0 part.1)

-- and waits there, gives these pairs, or finds that the transaction dies
pub record IsScanWait (splits : List ℕ) (x : Range) (t : Turn) : Type 0 where
  pub at : ℕ
  pub scan : IsPartScan splits x at t
  pub waits : ((younger : TxId) × (t.answer ≡ Ok (Wait younger))) ⊎ ((count : ℕ) × (t.answer ≡ Ok (Crowded count)))

abbrev pub pairs_in : Answer → List (ℕ × ValueType)
pairs_in (Pairs pairs) = pairs
pairs_in (Value value) = []
pairs_in (Added found) = []

pub record GivesPairs (splits : List ℕ) (x : Range) (n : ℕ) (rs : List (ℕ × ValueType)) (t : Turn) : Type 0 where
  pub shard : t.shard ≡ n
  pub scan : IsPartScan splits x n t
  pub answer : Answer
  pub epoch : ℕ
  pub answered : t.answer ≡ Ok (Answered answer epoch)
  pub pairs : rs ≡ pairs_in answer

pub record DiesOfScan (splits : List ℕ) (x : Range) (n : ℕ) (cause : AbortCause) (t : Turn) : Type 0 where
  pub shard : t.shard ≡ n
  pub scan : IsPartScan splits x n t
  pub died : t.answer ≡ Ok (Dead cause)

-- the pairs of a shard: none where the range has no part there
abbrev pub PartGiven : List ℕ → Range → ℕ → Option (ℕ × ℕ) → List (ℕ × ValueType) → List Turn → Type 0
PartGiven splits x n None rs ts = rs ≡ []
PartGiven splits x n (Some part) rs ts = AnyTurn (GivesPairs splits x n rs) ts

-- the pairs of the first shards, one behind another
abbrev pub Gathered : List ℕ → Range → ℕ → List (ℕ × ValueType) → List Turn → Type 0
Gathered splits x zero ps ts = ps ≡ []
Gathered splits x (suc n) ps ts = (qs : List (ℕ × ValueType)) × ((rs : List (ℕ × ValueType)) × (ps ≡ qs ++ rs) × Gathered splits x n qs ts × PartGiven splits x n (part_on splits n x.lo x.hi) rs ts)

-- of a session's turns there are only its part scans, and drops
abbrev pub IsOfScan : List ℕ → Range → Turn → Type 0
IsOfScan splits x t = (is_of_session t.event ≡ false) ⊎ (((n : ℕ) × IsPartScan splits x n t) ⊎ (t.event ≡ Drop x.tx))

-- what an error tells of the turns: the transaction died of a part, and its other parts were dropped; a shard that the range meets, or after a wait any, was
-- found down; a stamp past the last was needed
abbrev pub ScanFailed : List ℕ → ℕ → Range → List (ℕ × ℕ) → OpError → List Turn → Type 0
ScanFailed splits count x touched (Aborted cause) ts = (n : ℕ) × (AnyTurn (DiesOfScan splits x n cause) ts × DropsOthers count x.tx touched n ts)
ScanFailed splits count x touched (Down m) ts = FoundDown m ts × ((is_some (part_on splits m x.lo x.hi) ≡ true) ⊎ AnyTurn (IsScanWait splits x) ts)
ScanFailed splits count x touched (Worn at) ts = FoundWorn at ts
ScanFailed splits count x touched Memory ts = ⊤

abbrev pub ScanTold : List ℕ → ℕ → Range → List (ℕ × ℕ) → Result (List (ℕ × ValueType)) OpError → List Turn → Type 0
ScanTold splits count x touched (Ok pairs) ts = Gathered splits x count pairs ts
ScanTold splits count x touched (Err e) ts = ScanFailed splits count x touched e ts

pub record Scanning {T : Type 0} (splits : List ℕ) (count w clock : ℕ) (before : List (Option (Pass T Note Origin))) (x : Range) (touched : List (ℕ × ℕ)) (r : Result (List (ℕ × ValueType)) OpError) (clock' : ℕ)
    (after : List (Option (Pass T Note Origin))) : Type 0 where
  pub turns : List Turn
  pub took : Took w clock before turns clock' after
  pub only : AllByRecursion (IsOfScan splits x) turns
  pub told : ScanTold splits count x touched r turns

-- a shard's part of it: the pairs before it, and those with its own
abbrev pub StepTold : List ℕ → ℕ → Range → ℕ → List (ℕ × ℕ) → List (ℕ × ValueType) → List (ℕ × ValueType) → Result Unit OpError → List Turn → Type 0
StepTold splits count x n touched ps qs (Ok u) ts = (rs : List (ℕ × ValueType)) × (qs ≡ ps ++ rs) × PartGiven splits x n (part_on splits n x.lo x.hi) rs ts
StepTold splits count x n touched ps qs (Err e) ts = ScanFailed splits count x touched e ts

pub record Stepping {T : Type 0} (splits : List ℕ) (count w clock : ℕ) (before : List (Option (Pass T Note Origin))) (x : Range) (n : ℕ) (touched : List (ℕ × ℕ)) (ps qs : List (ℕ × ValueType)) (r : Result Unit OpError) (clock' : ℕ)
    (after : List (Option (Pass T Note Origin))) : Type 0 where
  pub turns : List Turn
  pub took : Took w clock before turns clock' after
  pub only : AllByRecursion (IsOfScan splits x) turns
  pub told : StepTold splits count x n touched ps qs r turns

-- the operation's number is the next one, or that of the scan whose last part was on a shard below n
abbrev pub IsBelow : ℕ → Option ℕ → Type 0
IsBelow n None = ⊥
IsBelow n (Some a) = a < n

abbrev pub IsUnder : ℕ → ℕ → SessionState → Type 0
IsUnder n nth p = (nth ≡ p.nth + 1) ⊎ ((nth ≡ p.nth) × IsBelow n p.scanned)

-- the same transaction
abbrev pub IsSameTx : SessionState → SessionState → Type 0
IsSameTx p q = (q.tx ≡ p.tx) × (q.birth ≡ p.birth)

-- the pairs of an answer come behind the others, unless there is no memory
abbrev pub TakesPairs : List (ℕ × ValueType) → Result Answer OpError → Result Unit OpError → List (ℕ × ValueType) → Type 0
TakesPairs ps (Ok answer) (Ok u) qs = qs ≡ ps ++ pairs_in answer
TakesPairs ps (Ok answer) (Err e) qs = e ≡ Memory
TakesPairs ps (Err e) r qs = r ≡ Err e
