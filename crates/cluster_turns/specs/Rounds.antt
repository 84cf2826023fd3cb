-- What a drain's rounds tell: which turns they made, and how they ended.
use Rattle.std.specs.Prelude.{◌≡◌, ℕ, ◌<◌, Bool, true, List, Option, Some, Result, Ok, Err, slice_index_or}
use Rattle.clv_base.specs.declared.events.Event.TheVariants.{Remind}
use Rattle.clv_base.specs.declared.events.Outcome.{Outcome}
use Rattle.clv_base.specs.State.{Shard}
use Rattle.turn_lock.specs.declared.pass.Pass.{Pass}
use Rattle.turn_lock.specs.Passes.{pass_origin, seen}
use Rattle.machine_calls.specs.declared.machine.StepError.{StepError}
use Rattle.machine_calls.specs.Settled.{is_settled}
use Rattle.machine_laws.specs.declared.notes.Note.{Note}
use Rattle.machine_laws.specs.declared.notes.Origin.{Origin}
use Rattle.machine_laws.specs.Homes.{IsLegal}
use Rattle.cluster_turns.specs.Turns.{EventTold, SettledTold}
use Rattle.cluster_turns.specs.Walkers.{Walked}
use Rattle.cluster_turns.specs.declared.flushing.Flushed.{Flushed}
use Rattle.cluster_turns.specs.declared.flushing.FlushError.{FlushError}
use Rattle.cluster_turns.specs.declared.flushing.FlushError.TheVariants.{Failed as FlushFailed, Down as FlushDown, Worn as FlushWorn, Memory as FlushMemory}
use Rattle.cluster_turns.specs.Told.{FlushTold}
use Rattle.cluster_turns.specs.declared.carrying.Carry.{Carry}
use Rattle.cluster_turns.specs.declared.carrying.CarryError.{CarryError}
use Rattle.cluster_turns.specs.declared.carrying.CarryError.TheVariants.{Down as CarryDown, Worn as CarryWorn, Memory as CarryMemory}
use Rattle.cluster_turns.specs.Carried.{CarryTold}
use Rattle.cluster_turns.specs.Reminded.{reminded_by}
use Rattle.cluster_turns.specs.declared.tending.DrainError.{DrainError}
use Rattle.cluster_turns.specs.declared.tending.DrainError.TheVariants.{Down, Worn, Memory}

abbrev pub flush_refusal : ℕ → FlushError → DrainError
flush_refusal n FlushFailed = Down n
flush_refusal n FlushDown = Down n
flush_refusal n (FlushWorn at) = Worn at
flush_refusal n FlushMemory = Memory

abbrev pub carry_refusal : CarryError → DrainError
carry_refusal (CarryDown n) = Down n
carry_refusal (CarryWorn at) = Worn at
carry_refusal CarryMemory = Memory

module _ {T : Type 0} where
  -- turns of the walker w, one after another, and nothing else: flushes, messages, reminders, and looks at whether a shard is settled
  pub data Rounds (count w clock : ℕ) (before : List (Option (Pass T Note Origin))) : ℕ → List (Option (Pass T Note Origin)) → Type 0 where
    no_turn : Rounds count w clock before clock before
    flushes :
        {c : ℕ} {between : List (Option (Pass T Note Origin))} (n : ℕ) (r : Result Flushed FlushError) (c' : ℕ) (after : List (Option (Pass T Note Origin)))
        → Rounds count w clock before c between → n < count → FlushTold n w c between r c' after → Rounds count w clock before c' after
    carries :
        {c : ℕ} {between : List (Option (Pass T Note Origin))} (n : ℕ) (r : Result Carry CarryError) (c' : ℕ) (after : List (Option (Pass T Note Origin)))
        → Rounds count w clock before c between → n < count → CarryTold count n w c between r c' after → Rounds count w clock before c' after
    reminds :
        {c : ℕ} {between : List (Option (Pass T Note Origin))} (n : ℕ) (r : Result Outcome StepError) (c' : ℕ) (after : List (Option (Pass T Note Origin)))
        → Rounds count w clock before c between → n < count → Walked (EventTold c w Remind r c') n w between after → Rounds count w clock before c' after
    looks :
        {c : ℕ} {between : List (Option (Pass T Note Origin))} (n : ℕ) (answer : Bool) (after : List (Option (Pass T Note Origin)))
        → Rounds count w clock before c between → n < count → Walked (SettledTold answer) n w between after → Rounds count w clock before c after

  -- the last of them was refused, and this is how
  pub data Refused (count w clock : ℕ) (before : List (Option (Pass T Note Origin))) : DrainError → ℕ → List (Option (Pass T Note Origin)) → Type 0 where
    no_flush :
        {c : ℕ} {between : List (Option (Pass T Note Origin))} (n : ℕ) (e : FlushError) (c' : ℕ) (after : List (Option (Pass T Note Origin)))
        → Rounds count w clock before c between → n < count → FlushTold n w c between (Err e) c' after → Refused count w clock before (flush_refusal n e) c' after
    no_message :
        {c : ℕ} {between : List (Option (Pass T Note Origin))} (n : ℕ) (e : CarryError) (c' : ℕ) (after : List (Option (Pass T Note Origin)))
        → Rounds count w clock before c between → n < count → CarryTold count n w c between (Err e) c' after → Refused count w clock before (carry_refusal e) c' after
    no_reminder :
        {c : ℕ} {between : List (Option (Pass T Note Origin))} (n : ℕ) (r : Result Outcome StepError) (e : CarryError) (c' : ℕ) (after : List (Option (Pass T Note Origin)))
        → Rounds count w clock before c between → n < count → Walked (EventTold c w Remind r c') n w between after → reminded_by n r ≡ Err e
        → Refused count w clock before (carry_refusal e) c' after

  -- the messages of one shard, carried
  abbrev pub CarriedAll : ℕ → ℕ → ℕ → ℕ → List (Option (Pass T Note Origin)) → Result Unit CarryError → ℕ → List (Option (Pass T Note Origin)) → Type 0
  CarriedAll count w n clock before (Ok _) clock' after = Rounds count w clock before clock' after
  CarriedAll count w n clock before (Err e) clock' after =
      (c : ℕ) × (between : List (Option (Pass T Note Origin))) × Rounds count w clock before c between × CarryTold count n w c between (Err e) clock' after

  -- a part of the rounds
  abbrev pub Tended : ℕ → ℕ → ℕ → List (Option (Pass T Note Origin)) → Result Unit DrainError → ℕ → List (Option (Pass T Note Origin)) → Type 0
  Tended count w clock before (Ok _) clock' after = Rounds count w clock before clock' after
  Tended count w clock before (Err e) clock' after = Refused count w clock before e clock' after

  -- in the state of the journal that its pass has seen shard n is settled
  pub record SettledAt (n : ℕ) (passes : List (Option (Pass T Note Origin))) : Type 0 where
    pub p : Pass T Note Origin
    pub had : (d : Option (Pass T Note Origin)) → slice_index_or passes n d ≡ Some p
    pub origin : Origin
    pub has_origin : pass_origin p ≡ Some origin
    pub s : Shard
    pub s_is : IsLegal origin (seen p) s
    pub settled : is_settled s ≡ true

  -- a drain: where it is well, each shard is settled as its pass has seen it
  abbrev pub DrainTold : ℕ → ℕ → ℕ → List (Option (Pass T Note Origin)) → Result Unit DrainError → ℕ → List (Option (Pass T Note Origin)) → Type 0
  DrainTold count w clock before (Ok _) clock' after = Rounds count w clock before clock' after × ((n : ℕ) → n < count → SettledAt n after)
  DrainTold count w clock before (Err e) clock' after = Refused count w clock before e clock' after
