-- On which shards a walker knows that no transaction at all has an active part of a birth.
use Rattle.std.specs.Prelude.{◌≡◌, ◌⊎◌, ℕ, ◌<◌, ◌==◌, Bool, false, unwrap_or, List, [], ◌∷◌, Option, Some, None, Result, Ok, Err, slice_index_or}
use Rattle.std.specs.List.{AllByRecursion}
use Rattle.clv_base.specs.declared.names.TxId.{TxId}
use Rattle.clv_base.specs.declared.names.Birth.{Birth}
use Rattle.clv_base.specs.declared.causes.AbortCause.{AbortCause}
use Rattle.clv_base.specs.declared.ops.Op.{Op as Operation}
use Rattle.clv_base.specs.declared.ops.Answer.{Answer}
use Rattle.clv_base.specs.declared.events.Event.{Event}
use Rattle.clv_base.specs.declared.events.Event.TheVariants.{Op, RollTo, Request, Drop}
use Rattle.clv_base.specs.declared.events.Outcome.{Outcome}
use Rattle.clv_base.specs.declared.events.Outcome.TheVariants.{Answered, Dead, Asked}
use Rattle.clv_base.specs.State.{Shard}
use Rattle.turn_lock.specs.declared.pass.Pass.{Pass}
use Rattle.machine_calls.specs.declared.machine.StepError.{StepError}
use Rattle.machine_calls.specs.declared.machine.StepError.TheVariants.{Memory}
use Rattle.machine_laws.specs.declared.notes.Note.{Note}
use Rattle.machine_laws.specs.declared.notes.Origin.{Origin}
use Rattle.machine_laws.specs.Homes.{state_of}
use Rattle.turn_lock.specs.Passes.{seen, pass_origin}
use Rattle.clv_base.specs.Events.{epoch_in}
use Rattle.journal_laws.specs.Births.{LeavesBirth}
use Rattle.cluster_turns.specs.CallTurns.{Turn, Took}
use Rattle.cluster_turns.specs.Births.{IsFreeFor, SeesFree, AllSeeFree, AreInformed}

module _ {T : Type 0} where
  -- as the pass has seen its shard, this is down, or no transaction has an active part of the birth there
  abbrev pub SeesUnborn : Birth → Pass T Note Origin → Type 0
  SeesUnborn birth p = (tx : TxId) → SeesFree tx birth p

  abbrev pub UnbornAt : ℕ → Birth → List (Option (Pass T Note Origin)) → Type 0
  UnbornAt n birth passes = (p : Pass T Note Origin) → ((d : Option (Pass T Note Origin)) → slice_index_or passes n d ≡ Some p) → SeesUnborn birth p

  abbrev pub AllUnborn : Birth → List (Option (Pass T Note Origin)) → Type 0
  AllUnborn birth passes = (n : ℕ) → UnbornAt n birth passes

-- while the shard is up in another epoch than this, if any, no transaction has an active part of the birth
abbrev pub is_epoch_of : Option ℕ → ℕ → Bool
is_epoch_of None epoch = false
is_epoch_of (Some e) epoch = e == epoch

abbrev pub IsUnbornUnless : Option ℕ → Birth → Shard → Type 0
IsUnbornUnless part birth s = is_epoch_of part s.local.epoch ≡ false → (tx : TxId) → IsFreeFor tx birth s

module _ {T : Type 0} where
  -- so the pass has seen its shard
  abbrev pub SeesUnless : Option ℕ → Birth → Pass T Note Origin → Type 0
  SeesUnless part birth p = (o : Origin) → pass_origin p ≡ Some o → IsUnbornUnless part birth (state_of o (seen p))

  abbrev pub UnbornUnless : ℕ → Option ℕ → Birth → List (Option (Pass T Note Origin)) → Type 0
  UnbornUnless n part birth passes = (p : Pass T Note Origin) → ((d : Option (Pass T Note Origin)) → slice_index_or passes n d ≡ Some p) → SeesUnless part birth p

  -- the pass of shard n is one of that shard
  abbrev pub HasShard : ℕ → List (Option (Pass T Note Origin)) → Type 0
  HasShard n passes = (p : Pass T Note Origin) → ((d : Option (Pass T Note Origin)) → slice_index_or passes n d ≡ Some p) → (o : Origin) → pass_origin p ≡ Some o → o.shard ≡ n

-- a turn made no entry, or isn't an operation of the birth
abbrev pub LeavesUnborn : Birth → Turn → Type 0
LeavesUnborn birth t = (t.made ≡ None) ⊎ ((tx : TxId) → LeavesBirth tx birth t.event)

abbrev pub AllLeaveUnborn : ℕ → Birth → List Turn → Type 0
AllLeaveUnborn n birth ts = AllByRecursion (λ t. t.shard ≡ n → LeavesUnborn birth t) ts

-- what a turn was answered tells that the transaction has no active part on its shard: it died of its operation, its request stands, or it was dropped;
-- memory for a drop is wanting only where it was dropped before
abbrev pub EndsPart : TxId → Event → Result Outcome StepError → Type 0
EndsPart tx (Op u birth nth seen op) (Ok (Dead cause)) = u ≡ tx
EndsPart tx (Request u touched) (Ok Asked) = u ≡ tx
EndsPart tx (Drop u) (Ok o) = u ≡ tx
EndsPart tx (Drop u) (Err Memory) = u ≡ tx
EndsPart tx _ _ = ⊥

-- one of these turns tells it of shard n, and none behind it is an operation of the birth there
abbrev pub EndsThere : ℕ → TxId → Birth → List Turn → Type 0
EndsThere n tx birth [] = ⊥
EndsThere n tx birth (t ∷ ts) = ((t.shard ≡ n) × EndsPart tx t.event t.answer × AllLeaveUnborn n birth ts) ⊎ EndsThere n tx birth ts

-- ---- laws

-- unborn stays what no own operation bears
abbrev pub UnbornStays : Type 0 → Type 0
UnbornStays T =
    (n w c d : ℕ) (ps qs : List (Option (Pass T Note Origin))) (ts : List Turn) (birth : Birth) → Took w c ps ts d qs → birth.session ≡ w → AllLeaveUnborn n birth ts → UnbornAt n birth ps → UnbornAt n birth qs

-- where a birth is free for a transaction it is unborn after the end of this one's part
abbrev pub EndsUnbear : Type 0 → Type 0
EndsUnbear T =
    (n w c d : ℕ) (ps qs : List (Option (Pass T Note Origin))) (ts : List Turn) (tx : TxId) (birth : Birth) → Took w c ps ts d qs → birth.session ≡ w → AllByRecursion (λ t. LeavesBirth tx birth t.event) ts → AllSeeFree tx birth ps → EndsThere n tx birth ts
    → UnbornAt n birth qs

-- a birth past the clock is unborn everywhere
abbrev pub NewIsUnborn : Type 0 → Type 0
NewIsUnborn T = (w clock : ℕ) (ps : List (Option (Pass T Note Origin))) (birth : Birth) → AreInformed w clock ps → birth.session ≡ w → clock < birth.stamp → AllUnborn birth ps

-- what is unborn everywhere is free for each transaction
abbrev pub UnbornIsFree : Type 0 → Type 0
UnbornIsFree T = (ps : List (Option (Pass T Note Origin))) (tx : TxId) (birth : Birth) → AllUnborn birth ps → AllSeeFree tx birth ps

-- a shard that was unborn but for the part of an epoch stays so
abbrev pub UnlessStays : Type 0 → Type 0
UnlessStays T =
    (n w c d : ℕ) (ps qs : List (Option (Pass T Note Origin))) (ts : List Turn) (part : Option ℕ) (birth : Birth) → Took w c ps ts d qs → birth.session ≡ w → AllLeaveUnborn n birth ts → UnbornUnless n part birth ps
    → UnbornUnless n part birth qs

-- where an operation was answered, its shard is in the epoch of the answer, which is that of the first touch
abbrev pub AnsweredIsInEpoch : Type 0 → Type 0
AnsweredIsInEpoch T =
    (n w c d : ℕ) (ps qs : List (Option (Pass T Note Origin))) (t : Turn) (tx : TxId) (b birth : Birth) (nth : ℕ) (seen : Option ℕ) (op : Operation) (answer : Answer) (epoch : ℕ) → Took w c ps (t ∷ []) d qs → birth.session ≡ w → t.shard ≡ n
    → t.event ≡ Op tx b nth seen op → t.answer ≡ Ok (Answered answer epoch) → UnbornUnless n (Some (unwrap_or seen epoch)) birth qs

-- where a request died, its transaction has no active part on the shard but in the epoch that the request named
abbrev pub DiesAtRequest : Type 0 → Type 0
DiesAtRequest T =
    (n w c d : ℕ) (ps qs : List (Option (Pass T Note Origin))) (t : Turn) (tx : TxId) (birth : Birth) (touched : List (ℕ × ℕ)) (cause : AbortCause) → Took w c ps (t ∷ []) d qs → birth.session ≡ w → t.shard ≡ n
    → t.event ≡ Request tx touched → t.answer ≡ Ok (Dead cause) → HasShard n ps → AllSeeFree tx birth ps → UnbornUnless n (epoch_in n touched) birth ps → UnbornAt n birth qs

-- where a going back died, it has none but in the epoch that the going back named
abbrev pub DiesGoingBack : Type 0 → Type 0
DiesGoingBack T =
    (n w c d : ℕ) (ps qs : List (Option (Pass T Note Origin))) (t : Turn) (tx : TxId) (birth : Birth) (nth epoch upto : ℕ) (cause : AbortCause) → Took w c ps (t ∷ []) d qs → birth.session ≡ w → t.shard ≡ n
    → t.event ≡ RollTo tx nth epoch upto → t.answer ≡ Ok (Dead cause) → HasShard n ps → AllSeeFree tx birth ps → UnbornUnless n (Some epoch) birth ps → UnbornAt n birth qs

-- that is unborn with no epoch, and what is unborn is so with any
abbrev pub UnbornUnlessNone : Type 0 → Type 0
UnbornUnlessNone T = (n : ℕ) (birth : Birth) (ps : List (Option (Pass T Note Origin))) → UnbornUnless n None birth ps → UnbornAt n birth ps

abbrev pub UnbornUnlessAny : Type 0 → Type 0
UnbornUnlessAny T = (n : ℕ) (part : Option ℕ) (birth : Birth) (ps : List (Option (Pass T Note Origin))) → UnbornAt n birth ps → UnbornUnless n part birth ps
