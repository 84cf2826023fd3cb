-- What holds of a walker while a session goes on by it.
use Rattle.std.specs.Prelude.{◌≡◌, ◌⊎◌, ⊤, ℕ, ◌<◌, ◌≤◌, ◌^◌, ◌==◌, Bool, true, false, List, [], ◌∷◌, Option, Some, None, Result, Ok, Err}
use Rattle.std.specs.Map.{lookup}
use Rattle.clv_base.specs.declared.names.Birth.{Birth}
use Rattle.clv_base.specs.declared.ops.Op.{Op}
use Rattle.clv_base.specs.declared.events.Event.{Event}
use Rattle.clv_base.specs.declared.events.Outcome.{Outcome}
use Rattle.clv_base.specs.declared.events.Outcome.TheVariants.{Answered, Dead, Wait, Crowded, Down}
use Rattle.clv_base.specs.FileRules.{tx_has_spelling}
use Rattle.clv_base.specs.Backs.{has_written}
use Rattle.clv_base.specs.Sessions.{SessionState, Ended, is_touching, is_session_number, scan_shard, touch, numbered, with_written}
use Rattle.turn_lock.specs.declared.pass.Pass.{Pass}
use Rattle.machine_calls.specs.declared.machine.StepError.{StepError}
use Rattle.machine_calls.specs.declared.machine.StepError.TheVariants.{Memory}
use Rattle.machine_laws.specs.declared.notes.Note.{Note}
use Rattle.machine_laws.specs.declared.notes.Origin.{Origin}
use Rattle.cluster_turns.specs.declared.shards.Shards.{Shards}
use Rattle.cluster_turns.specs.declared.shards.Walker.{Walker}
use Rattle.cluster_turns.specs.Walkers.{IsWalker, kept}
use Rattle.cluster_turns.specs.States.{session_of, GoesOnBy}
use Rattle.cluster_turns.specs.CallTurns.{Turn, Took}
use Rattle.cluster_turns.specs.Births.{AllSeeFree, AreInformed}
use Rattle.cluster_turns.specs.Unborn.{UnbornAt, UnbornUnless}
use Rattle.cluster_turns.specs.Epochs.{ReachedAt}

-- a birth, if any, with a stamp up to the clock
abbrev pub IsOld : ℕ → Option Birth → Type 0
IsOld clock None = ⊤
IsOld clock (Some b) = b.stamp ≤ clock

-- what an operation may come to
abbrev pub is_op_outcome : Outcome → Bool
is_op_outcome (Answered answer epoch) = true
is_op_outcome (Dead cause) = true
is_op_outcome (Wait younger) = true
is_op_outcome (Crowded count) = true
is_op_outcome Down = true
is_op_outcome _ = false

-- the place after an operation's answer; quiet answers leave it
abbrev pub place_after : ℕ → ℕ → Op → SessionState → Result Outcome StepError → SessionState
place_after n nth op p (Ok (Answered answer epoch)) =
    record (numbered nth p) { scanned = scan_shard n op; touched = touch n epoch p.touched; written = with_written n nth (has_written op answer) p.written }
place_after n nth op p (Ok (Dead cause)) = record p { nth = nth; scanned = scan_shard n op; phase = Ended }
place_after n nth op p _ = p

-- one turn of the walker w with this event on this shard, and what it was answered
pub record AskTold {T : Type 0} (w clock : ℕ) (before : List (Option (Pass T Note Origin))) (n : ℕ) (e : Event) (r : Result Outcome StepError) (clock' : ℕ) (after : List (Option (Pass T Note Origin))) : Type 0 where
  pub turn : Turn
  pub took : Took w clock before (turn ∷ []) clock' after
  pub shard_is : turn.shard ≡ n
  pub event_is : turn.event ≡ e
  pub answer_is : turn.answer ≡ r

-- one turn with this event and answer, or none for want of memory
abbrev pub IsTurnOf : ℕ → Event → Result Outcome StepError → List Turn → Type 0
IsTurnOf n e r ts = ((r ≡ Err Memory) × (ts ≡ [])) ⊎ ((t : Turn) × (ts ≡ t ∷ []) × (t.shard ≡ n) × (t.event ≡ e) × (t.answer ≡ r))

pub record TryTold {T : Type 0} (w clock : ℕ) (before : List (Option (Pass T Note Origin))) (n : ℕ) (e : Event) (r : Result Outcome StepError) (clock' : ℕ) (after : List (Option (Pass T Note Origin))) : Type 0 where
  pub turns : List Turn
  pub took : Took w clock before turns clock' after
  pub is : IsTurnOf n e r turns

module _ {M S G : Type 0} where
  -- the walker is a session's: its entries lead to the state t, whose transaction and birth are not past the walker's
  pub record IsReady (sh : Shards M S G) (w : Walker M S G) (t : SessionState) : Type 0 where
    pub walker : IsWalker sh w
    pub number : is_session_number w.number ≡ true
    pub state : session_of sh.splits sh.run w.number (kept w.passes.items) ≡ Some t
    pub serial : (t.tx).serial ≤ w.serial
    pub old : IsOld w.clock t.birth
    pub informed : AreInformed w.number w.clock w.passes.items

  -- the transaction has this birth, which is free for it on each shard; where it may have a part, that is of the epoch of its first touch, which the
  -- shard has reached
  pub record HasBirth (w : Walker M S G) (p : SessionState) : Type 0 where
    pub birth : Birth
    pub is : p.birth ≡ Some birth
    pub bears : birth.session ≡ w.number
    pub old : birth.stamp ≤ w.clock
    pub free : AllSeeFree p.tx birth w.passes.items
    pub parts : (n : ℕ) → UnbornUnless n (lookup (◌==◌ n) p.touched) birth w.passes.items
    pub reached : (n epoch : ℕ) → lookup (◌==◌ n) p.touched ≡ Some epoch → ReachedAt n epoch w.passes.items

  -- the session goes on by the transaction p, which may have operations
  pub record IsActive (sh : Shards M S G) (w : Walker M S G) (p : SessionState) : Type 0 where
    pub state : SessionState
    pub ready : IsReady sh w state
    pub goes : GoesOnBy state p
    pub touching : is_touching p.phase ≡ true
    pub born : HasBirth w p
    pub serial : (p.tx).serial ≤ w.serial
    pub spelled : tx_has_spelling p.tx ≡ true
    pub counted : p.nth ≤ w.clock
    pub few : p.nth < 2 ^ 48

  -- the session's last transaction p has ended
  pub record IsOver (sh : Shards M S G) (w : Walker M S G) (p : SessionState) : Type 0 where
    pub ready : IsReady sh w p
    pub born : HasBirth w p
    pub spelled : tx_has_spelling p.tx ≡ true

  -- on shard n it has no active part any more, and no transaction of its birth has one
  abbrev pub IsGoneAt : ℕ → Walker M S G → SessionState → Type 0
  IsGoneAt n w p = (birth : Birth) → p.birth ≡ Some birth → UnbornAt n birth w.passes.items

  -- after an answer on shard n: over, and gone there, where it died of it, else as active as before
  abbrev pub StandsAfter : ℕ → Shards M S G → Walker M S G → SessionState → Result Outcome StepError → Type 0
  StandsAfter n sh w p (Ok (Dead cause)) = IsOver sh w p × IsGoneAt n w p
  StandsAfter n sh w p _ = IsActive sh w p
