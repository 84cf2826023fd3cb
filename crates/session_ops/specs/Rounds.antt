-- What a round, or a part of it, tells by its turns.
use Rattle.std.specs.Prelude.{◌≡◌, ◌⊎◌, ⊤, ℕ, ◌<◌, Bool, true, false, List, slice_get, Option, Some, None, Result, Ok, Err, OnOk, IfOk}
use Rattle.clv_base.specs.declared.events.Event.TheVariants.{FlushOut, Send}
use Rattle.clv_base.specs.declared.events.Outcome.TheVariants.{Nothing}
use Rattle.turn_lock.specs.declared.pass.Pass.{Pass}
use Rattle.turn_lock.specs.declared.gate.Batch.{Batch}
use Rattle.machine_laws.specs.declared.notes.Note.{Note}
use Rattle.machine_laws.specs.declared.notes.Origin.{Origin}
use Rattle.cluster_turns.specs.CallTurns.{Turn, Took, AreOthers, AnyTurn, FoundDown, FoundWorn}
use Rattle.cluster_turns.specs.declared.flushing.Flushed.{Flushed}
use Rattle.cluster_turns.specs.declared.flushing.Flushed.TheVariants.{Nothing as NothingBuffered}
use Rattle.cluster_turns.specs.declared.carrying.CarryError.{CarryError}
use Rattle.cluster_turns.specs.declared.carrying.CarryError.TheVariants.{Down as CarryDown, Worn as CarryWorn, Memory as NoMemory}
use Rattle.session_ops.specs.declared.parts.Met.{Met}
use Rattle.session_ops.specs.declared.parts.RoundError.{RoundError}
use Rattle.session_ops.specs.declared.parts.RoundError.TheVariants.{Down, Worn, Memory}

-- it ends early only where a turn of it found that shard down, or a stamp past the last, or there is no memory
abbrev pub EndedBy : {A : Type 0} → Result A RoundError → List Turn → Type 0
EndedBy (Ok a) ts = ⊤
EndedBy (Err (Down n)) ts = FoundDown n ts
EndedBy (Err (Worn at)) ts = FoundWorn at ts
EndedBy (Err Memory) ts = ⊤

-- no turn of it is a session's
pub record Rounded {T A : Type 0} (w clock : ℕ) (before : List (Option (Pass T Note Origin))) (r : Result A RoundError) (clock' : ℕ) (after : List (Option (Pass T Note Origin))) : Type 0 where
  pub turns : List Turn
  pub took : Took w clock before turns clock' after
  pub others : AreOthers turns
  pub ended : EndedBy r turns

-- a caller needs this shard
abbrev pub IsOwn : List Bool → ℕ → Type 0
IsOwn own n = slice_get own n ≡ Some true

-- a turn found nothing buffered on this shard, or no message in its outbox
abbrev pub FindsFlushed : ℕ → Turn → Type 0
FindsFlushed n t = (t.shard ≡ n) × (t.event ≡ FlushOut) × (t.answer ≡ Ok Nothing)

abbrev pub FindsCarried : ℕ → Turn → Type 0
FindsCarried n t = (t.shard ≡ n) × (t.event ≡ Send) × (t.answer ≡ Ok Nothing)

-- or a turn found it down
abbrev pub FoundFlushed : ℕ → List Turn → Type 0
FoundFlushed n ts = FoundDown n ts ⊎ AnyTurn (FindsFlushed n) ts

abbrev pub FoundCarried : ℕ → List Turn → Type 0
FoundCarried n ts = FoundDown n ts ⊎ AnyTurn (FindsCarried n) ts

-- turns found the shard down, or at rest: nothing was buffered, and there was no message
abbrev pub FoundAtRest : ℕ → List Turn → Type 0
FoundAtRest n ts = FoundDown n ts ⊎ (AnyTurn (FindsFlushed n) ts × AnyTurn (FindsCarried n) ts)

-- so on each of so many shards
abbrev pub AllFoundAtRest : ℕ → List Turn → Type 0
AllFoundAtRest count ts = (n : ℕ) → n < count → FoundAtRest n ts

-- a round ends at a shard that its caller needs, or each shard was found down or at rest
abbrev pub RestsBy : {A : Type 0} → ℕ → (ℕ → Type 0) → Result A RoundError → List Turn → Type 0
RestsBy count Needs (Ok a) ts = ⊤
RestsBy count Needs (Err (Down n)) ts = Needs n ⊎ AllFoundAtRest count ts
RestsBy count Needs (Err (Worn at)) ts = ⊤
RestsBy count Needs (Err Memory) ts = ⊤

pub record RoundRests {T A : Type 0} (count : ℕ) (Needs : ℕ → Type 0) (w clock : ℕ) (before : List (Option (Pass T Note Origin))) (r : Result A RoundError) (clock' : ℕ) (after : List (Option (Pass T Note Origin))) : Type 0 where
  pub round : Rounded w clock before r clock' after
  pub rests : RestsBy count Needs r round.turns

-- a turn tried to flush the shard
abbrev pub TriesFlush : ℕ → Turn → Type 0
TriesFlush n t = (t.shard ≡ n) × (t.event ≡ FlushOut)

-- each of so many shards was found with no message left, or down
abbrev pub AllCarried : ℕ → List Turn → Type 0
AllCarried count ts = (n : ℕ) → n < count → FoundCarried n ts

-- a flush of each of these was tried
abbrev pub AllTried : ℕ → (ℕ → Type 0) → List Turn → Type 0
AllTried count Flushes ts = (n : ℕ) → n < count → Flushes n → AnyTurn (TriesFlush n) ts

-- what a round that ends well did: it carried all messages, and tried to flush these shards, unless it tells of a batch that another walker writes
pub record RoundDone (count : ℕ) (Flushes : ℕ → Type 0) (ts : List Turn) (away : Option Batch) : Type 0 where
  pub carried : AllCarried count ts
  pub tried : away ≡ None → AllTried count Flushes ts

-- a round that is to flush these shards
pub record RoundTold {T : Type 0} (count : ℕ) (Needs Flushes : ℕ → Type 0) (w clock : ℕ) (before : List (Option (Pass T Note Origin))) (r : Result (Option Batch) RoundError) (clock' : ℕ) (after : List (Option (Pass T Note Origin))) : Type 0 where
  pub rests : RoundRests count Needs w clock before r clock' after
  pub done : IfOk r (RoundDone count Flushes rests.round.turns)

-- all shards, and none
abbrev pub Every : ℕ → Type 0
Every n = ⊤

abbrev pub NoShard : ℕ → Type 0
NoShard n = ⊥

-- ---- what a round has met

-- no other walker was found writing
abbrev pub IsAlone : Met → Type 0
IsAlone x = x.away ≡ None

-- and nothing has moved
abbrev pub IsQuiet : Met → Type 0
IsQuiet x = (x.moves ≡ false) × IsAlone x

-- what is so of it later was so before
abbrev pub Lasts : Met → Met → Type 0
Lasts x y = (IsQuiet y → IsQuiet x) × (IsAlone y → IsAlone x)

-- whoever writes or carries, and another that has the gate, makes it move
abbrev pub met_flush : Met → Flushed → Met
met_flush x NothingBuffered = x
met_flush x _ = record x { moves = true }

-- the first shard that is passed over stays noted
abbrev pub first_down : Option ℕ → ℕ → Option ℕ
first_down None n = Some n
first_down (Some m) n = Some m

-- a shard that was found down is passed over, or ends the round where the caller needs it
abbrev pub PassedOver : {A : Type 0} → List Bool → Met → ℕ → Result A RoundError → Met → Type 0
PassedOver own x n (Ok a) y = y ≡ record x { down = first_down x.down n }
PassedOver own x n (Err e) y = (e ≡ Down n) × (y ≡ x) × IsOwn own n

-- a shard that is noted as passed over was so before, or a turn of these found it down
abbrev pub Notes : Option ℕ → List Turn → Option ℕ → Type 0
Notes before ts after = (n : ℕ) → after ≡ Some n → (before ≡ Some n) ⊎ FoundDown n ts

-- a shard that ends a round in its midst is one that the caller needs
abbrev pub AtOwn : {A : Type 0} → List Bool → Result A RoundError → Type 0
AtOwn own (Ok a) = ⊤
AtOwn own (Err (Down n)) = IsOwn own n
AtOwn own (Err (Worn at)) = ⊤
AtOwn own (Err Memory) = ⊤

-- ---- what parts of a round tell, by what was met till then

-- of some no more is told
abbrev pub Whatever : Met → List Turn → Type 0
Whatever y ts = ⊤

-- a flush of a shard was tried, unless another walker writes; where all is quiet still, it was found flushed
abbrev pub FlushedOn : ℕ → Met → List Turn → Type 0
FlushedOn n y ts = (IsAlone y → AnyTurn (TriesFlush n) ts) × (IsQuiet y → FoundFlushed n ts)

abbrev pub CarriedOn : ℕ → Met → List Turn → Type 0
CarriedOn n y ts = FoundCarried n ts

-- what an answer to whether that was all tells
abbrev pub CarriedAs : ℕ → Result Bool RoundError → Met → List Turn → Type 0
CarriedAs n (Ok true) y ts = FoundCarried n ts
CarriedAs n (Ok false) y ts = ⊤
CarriedAs n (Err e) y ts = ⊤

pub record MovedOn (n : ℕ) (y : Met) (ts : List Turn) : Type 0 where
  pub tried : IsAlone y → AnyTurn (TriesFlush n) ts
  pub carried : FoundCarried n ts
  pub rests : IsQuiet y → FoundAtRest n ts

abbrev pub AllMoved : ℕ → Met → List Turn → Type 0
AllMoved count y ts = (n : ℕ) → n < count → MovedOn n y ts

-- where the caller needs the shard
abbrev pub TriedIfOwn : List Bool → ℕ → Met → List Turn → Type 0
TriedIfOwn own n y ts = IsOwn own n → IsAlone y → AnyTurn (TriesFlush n) ts

abbrev pub OwnTried : List Bool → ℕ → Met → List Turn → Type 0
OwnTried own count y ts = (n : ℕ) → n < count → TriedIfOwn own n y ts

abbrev pub EveryCarried : ℕ → Met → List Turn → Type 0
EveryCarried count y ts = AllCarried count ts

-- those of a request, its home last
abbrev pub IsEither : List Bool → List Bool → ℕ → Type 0
IsEither others home n = IsOwn others n ⊎ IsOwn home n

pub record BothTried (others home : List Bool) (count : ℕ) (y : Met) (ts : List Turn) : Type 0 where
  pub others_tried : OwnTried others count y ts
  pub home_tried : OwnTried home count y ts

abbrev pub OwnMoved : List Bool → List Bool → ℕ → Met → List Turn → Type 0
OwnMoved others home count y ts = BothTried others home count y ts × AllCarried count ts

-- a part of a round: what it has met before, and then, and what its turns tell
pub record Passed {T A : Type 0} (own : List Bool) (P : Met → List Turn → Type 0) (w clock : ℕ) (before : List (Option (Pass T Note Origin))) (x : Met) (r : Result A RoundError) (clock' : ℕ) (after : List (Option (Pass T Note Origin))) (y : Met)
    : Type 0 where
  pub round : Rounded w clock before r clock' after
  pub noted : Notes x.down round.turns y.down
  pub lasts : Lasts x y
  pub found : OnOk r (P y round.turns)
  pub at : AtOwn own r

-- where a round tells of no batch, it was alone
abbrev pub TellsAway : Met → Result (Option Batch) RoundError → Type 0
TellsAway y r = IfOk r (λ away. away ≡ None → IsAlone y)

-- a round that no turn ended ends well, or at the shard that it passed over, where all is quiet
abbrev pub EndsAt : Met → Result (Option Batch) RoundError → Type 0
EndsAt y (Ok away) = away ≡ None → IsAlone y
EndsAt y (Err e) = (n : ℕ) × (y.down ≡ Some n) × (e ≡ Down n) × IsQuiet y

-- why no message came, as a round tells it
abbrev pub refusal_of : CarryError → RoundError
refusal_of (CarryDown n) = Down n
refusal_of (CarryWorn at) = Worn at
refusal_of NoMemory = Memory
