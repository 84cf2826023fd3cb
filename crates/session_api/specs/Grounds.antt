-- What tells that a cause stops a session, and that a drop came to nothing.
use Rattle.std.specs.Prelude.{◌≡◌, ⊤, ℕ, ◌≤◌, ◌^◌, ◌-◌, false, Bool, true, List, ◌++◌, Option, Some, Result, Ok, Err, slice_index_or}
use Rattle.clv_base.specs.declared.names.TxId.{TxId}
use Rattle.clv_base.specs.declared.events.Event.TheVariants.{Drop}
use Rattle.clv_base.specs.declared.events.Outcome.{Outcome}
use Rattle.clv_base.specs.declared.events.Outcome.TheVariants.{Absent, Down as DownOut}
use Rattle.clv_base.specs.Journals.{History}
use Rattle.machine_calls.specs.declared.machine.StepError.{StepError}
use Rattle.machine_calls.specs.declared.machine.StepError.TheVariants.{Memory as NoMemory}
use Rattle.cluster_turns.specs.CallTurns.{Turn, Took, AnyTurn}
use Rattle.cluster_turns.specs.Walkers.{kept}
use Rattle.script_runs.specs.Sessions.{session_entries}
use Rattle.turn_lock.specs.declared.pass.Pass.{Pass}
use Rattle.turn_lock.specs.Passes.{seen, pass_origin}
use Rattle.machine_laws.specs.declared.notes.Note.{Note}
use Rattle.machine_laws.specs.declared.notes.Origin.{Origin}
use Rattle.machine_laws.specs.Homes.{state_of}
use Rattle.cluster_turns.specs.declared.shards.Walker.{Walker}
use Rattle.script_runs.specs.declared.ends.StopCause.{StopCause}
use Rattle.script_runs.specs.declared.ends.StopCause.TheVariants.{Down, Unsettled, Worn, Memory}

module _ {T : Type 0} where
  -- after the first of the notes that the pass has seen, the shard was down
  pub record HasSeenDown (p : Pass T Note Origin) : Type 0 where
    pub origin : Origin
    pub has_origin : pass_origin p ≡ Some origin
    pub first : List Note
    pub later : List Note
    pub seen_is : seen p ≡ first ++ later
    pub down : (state_of origin first).is_up ≡ false

  -- the pass of shard n has seen this shard down
  abbrev pub WasDown : ℕ → List (Option (Pass T Note Origin)) → Type 0
  WasDown n passes = (p : Pass T Note Origin) × ((d : Option (Pass T Note Origin)) → slice_index_or passes n d ≡ Some p) × HasSeenDown p

module _ {M S G : Type 0} where
  -- its walker has seen the shard down; its clock is at its end; memory may be wanting at any time
  abbrev pub Grounds : Walker M S G → StopCause → Type 0
  Grounds w (Down n) = WasDown n w.passes.items
  Grounds w (Unsettled n) = WasDown n w.passes.items
  Grounds w (Worn at) = (at ≡ 2 ^ 48) × (2 ^ 48 - 1 ≤ w.clock)
  Grounds w Memory = ⊤

-- ---- drops

-- a drop that makes no entry though stamps aren't wanting: the shard was down, or had nothing of the transaction; or memory was wanting, which it is only where
-- the transaction was dropped there before
abbrev pub is_vain_answer : Result Outcome StepError → Bool
is_vain_answer (Ok DownOut) = true
is_vain_answer (Ok Absent) = true
is_vain_answer (Ok _) = false
is_vain_answer (Err NoMemory) = true
is_vain_answer (Err _) = false

pub record IsVain (tx : TxId) (n : ℕ) (t : Turn) : Type 0 where
  pub event : t.event ≡ Drop tx
  pub shard : t.shard ≡ n
  pub answer : is_vain_answer t.answer ≡ true

module _ {T : Type 0} where
  -- what a walker has seen goes on by turns, whatever its clock
  pub data Leads (w : ℕ) (ps : List (Option (Pass T Note Origin))) : List (Option (Pass T Note Origin)) → Type 0 where
    here : Leads w ps ps
    further : (qs rs : List (Option (Pass T Note Origin))) (c d : ℕ) (ts : List Turn) → Leads w ps qs → Took w c qs ts d rs → Leads w ps rs

  -- when it had made these entries, of those that only sessions make, it took such a turn
  pub record HasMissedBy (w : ℕ) (passes : List (Option (Pass T Note Origin))) (tx : TxId) (n : ℕ) (es : History) : Type 0 where
    pub before : List (Option (Pass T Note Origin))
    pub after : List (Option (Pass T Note Origin))
    pub clock : ℕ
    pub clock_after : ℕ
    pub turns : List Turn
    pub entries : session_entries (kept before) ≡ es
    pub took : Took w clock before turns clock_after after
    pub vain : AnyTurn (IsVain tx n) turns
    pub later : Leads w after passes

module _ {M S G : Type 0} where
  abbrev pub HasMissed : Walker M S G → TxId → ℕ → History → Type 0
  HasMissed w tx n es = HasMissedBy w.number w.passes.items tx n es
