-- How examples are played: what walkers do, one after another, and all that they hear.
use Rattle.clv_base.specs.Core.{World, after_answer, live, logs_of, new_world as opened_world, step_answer}
use Rattle.clv_base.specs.declared.events.CoreStep.{CoreStep}
use Rattle.clv_base.specs.Events.{CallAnswer, Enters, Quiet, Worn, to_of}
use Rattle.clv_base.specs.History.{DoneAct}
use Rattle.clv_base.specs.Maps.{KeyMap, Operates}
use Rattle.clv_base.specs.Runs.{allows_answer}
use Rattle.clv_base.specs.State.{Shard}
use Rattle.clv_base.specs.declared.events.Entry.{Entry}
use Rattle.clv_base.specs.declared.events.Event.{Event}
use Rattle.clv_base.specs.declared.events.Event.TheVariants.{Deliver, FlushIn, FlushOut, Look, Op as OpEvent, Request, RollTo, Restart as RestartEvent, Send}
use Rattle.clv_base.specs.declared.events.Outcome.{Outcome}
use Rattle.clv_base.specs.declared.events.Outcome.TheVariants.{Sent}
use Rattle.clv_base.specs.declared.logs.LogRecord.{LogRecord}
use Rattle.clv_base.specs.declared.modes.Anchor.{Anchor}
use Rattle.clv_base.specs.declared.modes.Holder.{Holder}
use Rattle.clv_base.specs.declared.modes.Mode.{Mode}
use Rattle.clv_base.specs.declared.modes.Part.{Part}
use Rattle.clv_base.specs.declared.names.Birth.{Birth}
use Rattle.clv_base.specs.declared.names.TxId.{TxId}
use Rattle.clv_base.specs.declared.ops.Answer.{Answer}
use Rattle.clv_base.specs.declared.ops.Op.{Op}
use Rattle.std.specs.Prelude.{Bool, List, None, Option, Some, [], false, replicate, slice_get, suc, true, ℕ, ◌++◌, ◌∷◌, ◌≡◌}

-- what a walker does in an example: an event on a shard; the end of a flush, pushed or not; a restart that finds the records in flight
-- or not; a message carried from a shard to the one that it is for; the message that entry k of a shard sent, delivered again
pub data Act : Type 0 where
  Event_at : (walker shard : ℕ) → (event : Event) → Act
  Land_at : (walker shard : ℕ) → (pushed : Bool) → Act
  Restart_at : (walker shard : ℕ) → (found : Bool) → Act
  Carry_from : (walker shard : ℕ) → Act
  Redeliver : (walker shard k : ℕ) → Act

-- a world, with all answers, quiet ones too
pub record Played : Type 0 where
  pub world : World
  pub heard : List Outcome

abbrev pub new_world : ℕ → Played
new_world count = record { world = opened_world count; heard = [] }

abbrev pub core_step : ℕ → ℕ → Event → Bool → CoreStep
core_step walker n e kept = record { walker = walker; shard = n; event = e; kept = kept }

abbrev pub heard_of : CallAnswer → List Outcome
heard_of (Quiet o) = o ∷ []
heard_of Worn = []
heard_of (Enters o s) = o ∷ []

-- a step, of all that a shard can answer, or of those that are legal under these splits
abbrev pub permits : Option (List ℕ) → World → CoreStep → Shard → CallAnswer → Bool
permits None w c s a = true
permits (Some splits) w c s a = allows_answer splits w c s a

abbrev pub heard_step : Option (List ℕ) → Played → CoreStep → Shard → CallAnswer → Played
heard_step rule p c s a =
    elim (permits rule p.world c s a) [ true ↦ record { world = after_answer p.world c a; heard = p.heard ++ heard_of a } | false ↦ p ]

abbrev pub step_on : Option (List ℕ) → Played → CoreStep → Option Shard → Played
step_on rule p c None = p
step_on rule p c (Some s) = let a = step_answer p.world c s in heard_step rule p c s a

abbrev pub one_step : Option (List ℕ) → Played → CoreStep → Played
one_step rule p c = step_on rule p c (slice_get p.world.shards c.shard)

-- the message that a Send sent is delivered
abbrev pub carried : Option (List ℕ) → ℕ → Played → CallAnswer → Played
carried rule walker p (Enters (Sent m) t) = one_step rule p (core_step walker (to_of m) (Deliver m t.last) false)
carried rule walker p _ = p

abbrev pub carry_on : Option (List ℕ) → ℕ → ℕ → Played → Option Shard → Played
carry_on rule walker n p None = p
carry_on rule walker n p (Some s) = let a = step_answer p.world (core_step walker n Send false) s in carried rule walker (heard_step rule p (core_step walker n Send false) s a) a

abbrev pub sent_again : Option (List ℕ) → ℕ → Played → ℕ → Outcome → Played
sent_again rule walker p stamp (Sent m) = one_step rule p (core_step walker (to_of m) (Deliver m stamp) false)
sent_again rule walker p stamp _ = p

abbrev pub redeliver : Option (List ℕ) → ℕ → Played → Option Entry → Played
redeliver rule walker p None = p
redeliver rule walker p (Some e) = sent_again rule walker p e.stamp e.outcome

abbrev pub entry_at : ℕ → Option Shard → Option Entry
entry_at k None = None
entry_at k (Some s) = slice_get s.journal k

abbrev pub act_by : Option (List ℕ) → Played → Act → Played
act_by rule p (Event_at walker n e) = one_step rule p (core_step walker n e false)
act_by rule p (Land_at walker n pushed) = one_step rule p (core_step walker n FlushIn pushed)
act_by rule p (Restart_at walker n found) = one_step rule p (core_step walker n RestartEvent found)
act_by rule p (Carry_from walker n) = carry_on rule walker n p (slice_get p.world.shards n)
act_by rule p (Redeliver walker n k) = redeliver rule walker p (entry_at k (slice_get p.world.shards n))

abbrev pub play_by : Option (List ℕ) → List Act → Played → Played
play_by rule [] p = p
play_by rule (a ∷ rest) p = let q = act_by rule p a in play_by rule rest q

abbrev pub play : List Act → Played → Played
play acts p = play_by None acts p

abbrev pub play_legal : List ℕ → List Act → Played → Played
play_legal splits acts p = play_by (Some splits) acts p

-- transaction s, n of run 1, with a birth as old as told
abbrev pub tx : ℕ → ℕ → TxId
tx s n = record { run = 1; session = s; serial = n }

abbrev pub birth : ℕ → ℕ → Birth
birth s stamp = record { stamp = stamp; session = s; serial = 1 }

-- a first operation, and a later one that has seen an epoch
abbrev pub first : ℕ → ℕ → ℕ → ℕ → Op → Act
first s n shard age op = Event_at s shard (OpEvent (tx s n) (birth s age) 1 None op)

-- a later operation on a shard that was not touched before
abbrev pub next : ℕ → ℕ → ℕ → ℕ → ℕ → Op → Act
next s n shard age nth op = Event_at s shard (OpEvent (tx s n) (birth s age) nth None op)

abbrev pub again : ℕ → ℕ → ℕ → ℕ → ℕ → ℕ → Op → Act
again s n shard age nth seen op = Event_at s shard (OpEvent (tx s n) (birth s age) nth (Some seen) op)

-- a going back, under a number, to a number
abbrev pub go_back : ℕ → ℕ → ℕ → ℕ → ℕ → ℕ → Act
go_back s n shard nth seen upto = Event_at s shard (RollTo (tx s n) nth seen upto)

-- operations with their answers, numbered from this on, as acts
abbrev pub operated : ℕ → List (Op × Answer) → List DoneAct
operated n [] = []
operated n (p ∷ ps) = (n, Operates p.0, Some p.1) ∷ operated (suc n) ps

abbrev pub request : ℕ → ℕ → ℕ → List (ℕ × ℕ) → Act
request s n shard touched = Event_at s shard (Request (tx s n) touched)

abbrev pub look : ℕ → ℕ → ℕ → Act
look s n shard = Event_at s shard (Look (tx s n))

abbrev pub flush_out : ℕ → Act
flush_out shard = Event_at 0 shard FlushOut

abbrev pub row : Anchor → ℕ → ℕ → Mode → Bool → Anchor × Holder
row anchor s age mode closed = (anchor, record { tx = tx s 1; birth = birth s age; mode = mode; closed = closed })

abbrev pub mode : Part → Part → Mode
mode k g = record { key = k; gap = g }

-- keys 0 to 3 on shard 0, 4 to 6 on shard 1, 7 and up on shard 2
abbrev pub splits_at : List ℕ
splits_at = 4 ∷ 7 ∷ []

-- logs with nothing in them, of so many shards
abbrev pub empty_logs : ℕ → List (List LogRecord)
empty_logs count = replicate count []

-- what an example shows: all that was heard, in order, and then the records of each log and the live pairs of each shard
abbrev pub Shows : Played → List Outcome → List (List LogRecord) → List KeyMap → Type 0
Shows p heard logs pairs = (p.heard ≡ heard) × (logs_of p.world ≡ logs) × (live p.world ≡ pairs)
