-- What a going back tells, shard after shard.
use Rattle.std.specs.Prelude.{◌≡◌, ◌⊎◌, ⊤, ℕ, zero, suc, ◌<◌, ◌≤◌, ◌-◌, ◌^◌, ◌==◌, Bool, true, false, cond, List, [], ◌∷◌, ◌++◌, Option, Some, Result, Ok, Err, OnOk}
use Rattle.std.specs.List.{AllByRecursion}
use Rattle.std.specs.Map.{lookup}
use Rattle.clv_base.specs.declared.events.Event.TheVariants.{RollTo}
use Rattle.clv_base.specs.declared.events.Outcome.{Outcome}
use Rattle.clv_base.specs.declared.events.Outcome.TheVariants.{Rolled, Dead, Down as DownOut}
use Rattle.clv_base.specs.Backs.{stands_for_back}
use Rattle.clv_base.specs.Sessions.{SessionState, Ended, goes_on_back}
use Rattle.turn_lock.specs.declared.pass.Pass.{Pass}
use Rattle.machine_calls.specs.declared.machine.StepError.{StepError}
use Rattle.machine_calls.specs.declared.machine.StepError.TheVariants.{Worn as IsWorn, Memory as NoMemory}
use Rattle.machine_laws.specs.declared.notes.Note.{Note}
use Rattle.machine_laws.specs.declared.notes.Origin.{Origin}
use Rattle.cluster_turns.specs.declared.shards.Shards.{Shards}
use Rattle.cluster_turns.specs.declared.shards.Walker.{Walker}
use Rattle.cluster_turns.specs.Notes.{is_noted, notes_left, back_begun}
use Rattle.cluster_turns.specs.Epochs.{PastAt}
use Rattle.cluster_turns.specs.CallTurns.{Turn, Took}
use Rattle.session_ops.specs.declared.rolling.BackError.{BackError}
use Rattle.session_ops.specs.declared.rolling.BackError.TheVariants.{Aborted, Down, Worn}
use Rattle.session_ops.specs.Standing.{IsActive, IsOver, IsGoneAt}
use Rattle.session_ops.specs.Dropped.{Drops}
use Rattle.session_ops.specs.Decided.{DropsOthers}

-- ---- one turn

-- the number is the next one, or that of the going back to there whose last entry is on a lower shard; where it is the next one, what it leads to stands
pub record MayRoll (p : SessionState) (n nth upto : ℕ) : Type 0 where
  pub number : ((nth ≡ suc p.nth) × (upto < nth)) ⊎ ((nth ≡ p.nth) × (goes_on_back p.back n upto ≡ true))
  pub stands : nth ≡ suc p.nth → stands_for_back nth upto p.backs ≡ true
  pub seen : ℕ
  pub touched : lookup (◌==◌ n) p.touched ≡ Some seen

-- what it may come to
abbrev pub is_back_outcome : Outcome → Bool
is_back_outcome Rolled = true
is_back_outcome (Dead cause) = true
is_back_outcome DownOut = true
is_back_outcome _ = false

-- the place after its answer; quiet answers leave it
abbrev pub place_back : ℕ → ℕ → ℕ → SessionState → Result Outcome StepError → SessionState
place_back n nth upto p (Ok Rolled) = record (back_begun nth upto p) { back = Some (n, upto); written = notes_left n upto (back_begun nth upto p).written }
place_back n nth upto p (Ok (Dead cause)) = record (back_begun nth upto p) { back = Some (n, upto); phase = Ended }
place_back n nth upto p _ = p

-- a turn is p's going back on shard n, answered so
pub record IsRoll (p : SessionState) (nth upto n : ℕ) (r : Result Outcome StepError) (t : Turn) : Type 0 where
  pub seen : ℕ
  pub touched : lookup (◌==◌ n) p.touched ≡ Some seen
  pub shard : t.shard ≡ n
  pub event : t.event ≡ RollTo p.tx nth seen upto
  pub answer : t.answer ≡ r

-- one turn of the walker w
pub record RollAsked {T : Type 0} (w clock : ℕ) (before : List (Option (Pass T Note Origin))) (p : SessionState) (nth upto n : ℕ) (r : Result Outcome StepError) (clock' : ℕ) (after : List (Option (Pass T Note Origin))) : Type 0 where
  pub turn : Turn
  pub took : Took w clock before (turn ∷ []) clock' after
  pub is : IsRoll p nth upto n r turn

module _ {M S G : Type 0} where
  -- over, and gone on the shard, where the transaction died, else active
  abbrev pub StandsBack : ℕ → Shards M S G → Walker M S G → SessionState → Result Outcome StepError → Type 0
  StandsBack n sh w p (Ok (Dead cause)) = IsOver sh w p × IsGoneAt n w p
  StandsBack n sh w p _ = IsActive sh w p

-- ---- a shard's part, with the drops that follow a death

-- what the answer of its turn is to the going back
abbrev pub back_as : ℕ → Result Outcome StepError → Result (Unit {0}) BackError
back_as n (Ok Rolled) = Ok tt
back_as n (Ok (Dead cause)) = Err (Aborted cause)
back_as n (Ok _) = Err (Down n)
back_as n (Err (IsWorn at)) = Err (Worn n at)
back_as n (Err NoMemory) = Ok tt

abbrev pub has_died : {A : Type 0} → Result A BackError → Bool
has_died (Ok a) = false
has_died (Err (Aborted cause)) = true
has_died (Err (Down n)) = false
has_died (Err (Worn n at)) = false

-- the turns, by what they were answered, and the place after them, p before
abbrev pub RollTold : {A : Type 0} → ℕ → SessionState → ℕ → ℕ → ℕ → Result A BackError → List Turn → SessionState → Type 0
RollTold count p nth upto n (Ok a) ts q = (t : Turn) × (ts ≡ t ∷ []) × IsRoll p nth upto n (Ok Rolled) t × (q ≡ place_back n nth upto p (Ok Rolled))
RollTold count p nth upto n (Err (Aborted cause)) ts q =
    (t : Turn) × (ds : List Turn) × (ts ≡ t ∷ ds) × IsRoll p nth upto n (Ok (Dead cause)) t × AllByRecursion (Drops p.tx p.touched (Some n)) ds × DropsOthers count p.tx p.touched n ds
    × (q ≡ place_back n nth upto p (Ok (Dead cause)))
RollTold count p nth upto n (Err (Down m)) ts q = (m ≡ n) × ((t : Turn) × (ts ≡ t ∷ []) × IsRoll p nth upto n (Ok DownOut) t × (q ≡ p))
RollTold count p nth upto n (Err (Worn m at)) ts q = (m ≡ n) × ((t : Turn) × (ts ≡ t ∷ []) × IsRoll p nth upto n (Err (IsWorn at)) t × (q ≡ p))

pub record Rolling {T A : Type 0} (count w clock : ℕ) (before : List (Option (Pass T Note Origin))) (p : SessionState) (nth upto n : ℕ) (r : Result A BackError) (clock' : ℕ) (after : List (Option (Pass T Note Origin))) (q : SessionState) : Type 0 where
  pub turns : List Turn
  pub took : Took w clock before turns clock' after
  pub told : RollTold count p nth upto n r turns q
  pub stamped : OnOk r ((clock < clock') × (clock' < 2 ^ 48))

abbrev pub IsDone : {A : Type 0} → Result A BackError → Type 0
IsDone (Ok a) = ⊤
IsDone (Err e) = ⊥

module _ {M S G : Type 0} where
  -- where a later write is noted there; else nothing was done
  abbrev pub RollIf : {A : Type 0} → Bool → ℕ → Walker M S G → SessionState → ℕ → ℕ → ℕ → Result A BackError → Walker M S G → SessionState → Type 0
  RollIf true count w p nth upto n r v q = Rolling count w.number w.clock w.passes.items p nth upto n r v.clock v.passes.items q
  RollIf false count w p nth upto n r v q = IsDone r × (v ≡ w) × (q ≡ p)

  -- where its shard was down this is past the epoch of the first touch; where it was worn the clock is at its end
  abbrev pub PastBy : {A : Type 0} → ℕ → SessionState → Result A BackError → Walker M S G → Type 0
  PastBy n p (Ok a) v = ⊤
  PastBy n p (Err (Aborted cause)) v = ⊤
  PastBy n p (Err (Down m)) v = (seen : ℕ) → lookup (◌==◌ n) p.touched ≡ Some seen → PastAt n seen v.passes.items
  PastBy n p (Err (Worn m at)) v = 2 ^ 48 - 1 ≤ v.clock

-- ---- all shards

-- the place after the parts on the shards below n: where a write of a later operation is noted, it was taken away there
abbrev pub back_below : ℕ → ℕ → ℕ → SessionState → SessionState
back_below nth upto zero p = p
back_below nth upto (suc n) p = cond (is_noted n upto p.written) (place_back n nth upto (back_below nth upto n p) (Ok Rolled)) (back_below nth upto n p)

-- and their turns, shards rising
pub data RollsBelow (p : SessionState) (nth upto : ℕ) : ℕ → List Turn → Type 0 where
  no_shard : RollsBelow p nth upto 0 []
  passed_by : (n : ℕ) (ts : List Turn) → RollsBelow p nth upto n ts → is_noted n upto p.written ≡ false → RollsBelow p nth upto (suc n) ts
  rolled_on : (n : ℕ) (ts : List Turn) (t : Turn) → RollsBelow p nth upto n ts → is_noted n upto p.written ≡ true → IsRoll p nth upto n (Ok Rolled) t → RollsBelow p nth upto (suc n) (ts ++ t ∷ [])

-- it ended on a shard
pub record BackFailed (count : ℕ) (p : SessionState) (nth upto : ℕ) (e : BackError) (ts : List Turn) (q : SessionState) : Type 0 where
  pub shard : ℕ
  pub below : shard < count
  pub rolls : List Turn
  pub rest : List Turn
  pub turns_are : ts ≡ rolls ++ rest
  pub rolled : RollsBelow p nth upto shard rolls
  pub noted : is_noted shard upto p.written ≡ true
  pub failed : RollTold {A = Unit {0}} count (back_below nth upto shard p) nth upto shard (Err e) rest q

abbrev pub BackTold : {A : Type 0} → ℕ → SessionState → ℕ → ℕ → Result A BackError → List Turn → SessionState → Type 0
BackTold count p nth upto (Ok a) ts q = RollsBelow p nth upto count ts × (q ≡ back_below nth upto count p)
BackTold count p nth upto (Err e) ts q = BackFailed count p nth upto e ts q

-- p went back to where it was after its operations numbered up to upto
pub record GoingBack {T A : Type 0} (count w clock : ℕ) (before : List (Option (Pass T Note Origin))) (p : SessionState) (upto : ℕ) (r : Result A BackError) (clock' : ℕ) (after : List (Option (Pass T Note Origin))) (q : SessionState) : Type 0 where
  pub turns : List Turn
  pub took : Took w clock before turns clock' after
  pub told : BackTold count p (suc p.nth) upto r turns q
