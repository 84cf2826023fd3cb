-- What the answers of turns tell.
use Rattle.std.specs.Prelude.{◌≡◌, ℕ, ◌≤◌, ◌^◌, ◌-◌, Bool, true, false, not, List, ◌++◌, Option, is_some, Result, Ok, Err, IfOk, slice_index_or, Some}
use Rattle.std.specs.List.{AllByRecursion, filter}
use Rattle.clv_base.specs.declared.ops.Op.{Op}
use Rattle.clv_base.specs.declared.ops.Op.TheVariants.{Get, Put, Del, Scan, Add}
use Rattle.clv_base.specs.declared.ops.Answer.{Answer}
use Rattle.clv_base.specs.declared.ops.Answer.TheVariants.{Value, Pairs, Added}
use Rattle.clv_base.specs.declared.events.Event.{Event}
use Rattle.clv_base.specs.declared.events.Event.TheVariants.{Op as OpEvent, RollTo, Request, Look, Drop, Send, Deliver, Remind, FlushOut, FlushIn, Stop, Restart}
use Rattle.clv_base.specs.declared.events.Outcome.{Outcome}
use Rattle.clv_base.specs.declared.events.Outcome.TheVariants.{Answered, Rolled, Dead, Asked, Acknowledged, Aborted, Dropped, Sent, Taken, Reminded, Out, Durable, Failed, Wait, Crowded, NotYet, Nothing, Away, Absent, Stale, Down}
use Rattle.clv_base.specs.Journals.{History}
use Rattle.clv_base.specs.Sessions.{is_of_session}
use Rattle.turn_lock.specs.declared.pass.Pass.{Pass}
use Rattle.turn_lock.specs.Passes.{seen, pass_origin}
use Rattle.machine_calls.specs.declared.machine.StepError.{StepError}
use Rattle.machine_laws.specs.declared.notes.Note.{Note}
use Rattle.machine_laws.specs.declared.notes.Origin.{Origin}
use Rattle.machine_laws.specs.Homes.{state_of}
use Rattle.cluster_turns.specs.Walkers.{kept}
use Rattle.cluster_turns.specs.CallTurns.{Turn, Took, FoundDown, FoundWorn, entries_made}

-- ---- which answers come with an entry

-- a quiet outcome comes with none
abbrev pub is_quiet : Outcome → Bool
is_quiet (Wait younger) = true
is_quiet (Crowded count) = true
is_quiet NotYet = true
is_quiet Nothing = true
is_quiet Away = true
is_quiet Absent = true
is_quiet Stale = true
is_quiet Down = true
is_quiet _ = false

abbrev pub is_kept : Result Outcome StepError → Bool
is_kept (Ok o) = not (is_quiet o)
is_kept (Err e) = false

-- an entry was made exactly where the answer isn't quiet, and no error
abbrev pub HasItsEntry : Turn → Type 0
HasItsEntry t = is_some t.made ≡ is_kept t.answer

-- ---- what an event may come to

-- an operation at a key is answered a value, a part scan pairs, an addition whether there was a number
abbrev pub is_value : Answer → Bool
is_value (Value value) = true
is_value (Pairs pairs) = false
is_value (Added found) = false

abbrev pub are_pairs : Answer → Bool
are_pairs (Value value) = false
are_pairs (Pairs pairs) = true
are_pairs (Added found) = false

abbrev pub is_told : Answer → Bool
is_told (Value value) = false
is_told (Pairs pairs) = false
is_told (Added found) = true

abbrev pub may_answer : Op → Answer → Bool
may_answer (Get k) answer = is_value answer
may_answer (Put k v) answer = is_value answer
may_answer (Del k) answer = is_value answer
may_answer (Scan lo hi) answer = are_pairs answer
may_answer (Add k by) answer = is_told answer

abbrev pub ends_op : Op → Outcome → Bool
ends_op op (Answered answer epoch) = may_answer op answer
ends_op op (Dead cause) = true
ends_op op (Wait younger) = true
ends_op op (Crowded count) = true
ends_op op Down = true
ends_op op _ = false

abbrev pub ends_back : Outcome → Bool
ends_back Rolled = true
ends_back (Dead cause) = true
ends_back Down = true
ends_back _ = false

abbrev pub ends_request : Outcome → Bool
ends_request Asked = true
ends_request (Dead cause) = true
ends_request Down = true
ends_request _ = false

abbrev pub ends_look : Outcome → Bool
ends_look Acknowledged = true
ends_look (Aborted cause) = true
ends_look NotYet = true
ends_look Down = true
ends_look _ = false

abbrev pub ends_drop : Outcome → Bool
ends_drop Dropped = true
ends_drop Absent = true
ends_drop Down = true
ends_drop _ = false

abbrev pub ends_send : Outcome → Bool
ends_send (Sent message) = true
ends_send Nothing = true
ends_send Down = true
ends_send _ = false

abbrev pub ends_delivery : Outcome → Bool
ends_delivery Taken = true
ends_delivery Stale = true
ends_delivery Down = true
ends_delivery _ = false

abbrev pub ends_reminder : Outcome → Bool
ends_reminder (Reminded count) = true
ends_reminder Nothing = true
ends_reminder Down = true
ends_reminder _ = false

abbrev pub begins_flush : Outcome → Bool
begins_flush (Out upto) = true
begins_flush Nothing = true
begins_flush Away = true
begins_flush Down = true
begins_flush _ = false

abbrev pub ends_flush : Outcome → Bool
ends_flush (Durable upto) = true
ends_flush Failed = true
ends_flush _ = false

-- a turn stops no shard and restarts none
abbrev pub may_come_to : Event → Outcome → Bool
may_come_to (OpEvent tx birth nth seen op) o = ends_op op o
may_come_to (RollTo tx nth seen upto) o = ends_back o
may_come_to (Request tx touched) o = ends_request o
may_come_to (Look tx) o = ends_look o
may_come_to (Drop tx) o = ends_drop o
may_come_to Send o = ends_send o
may_come_to (Deliver message stamp) o = ends_delivery o
may_come_to Remind o = ends_reminder o
may_come_to FlushOut o = begins_flush o
may_come_to FlushIn o = ends_flush o
may_come_to Stop o = false
may_come_to Restart o = false

abbrev pub HasItsOutcome : Turn → Type 0
HasItsOutcome t = IfOk t.answer (λ o. may_come_to t.event o ≡ true)

-- ---- entries of sessions

abbrev pub entries_of_session : History → History
entries_of_session es = filter (λ f. is_of_session (f.1).event) es

abbrev pub turns_of_session : List Turn → List Turn
turns_of_session ts = filter (λ t. is_of_session t.event) ts

module _ {T : Type 0} where
  -- as the pass of shard n has seen it, the shard is down
  pub record SeesDown (n : ℕ) (passes : List (Option (Pass T Note Origin))) : Type 0 where
    pub p : Pass T Note Origin
    pub had : (d : Option (Pass T Note Origin)) → slice_index_or passes n d ≡ Some p
    pub origin : Origin
    pub has_origin : pass_origin p ≡ Some origin
    pub down : (state_of origin (seen p)).is_up ≡ false

  -- after the first of these turns it had seen shard n down
  pub record SawDown (n w c : ℕ) (ps : List (Option (Pass T Note Origin))) (ts : List Turn) (d : ℕ) (qs : List (Option (Pass T Note Origin))) : Type 0 where
    pub first : List Turn
    pub rest : List Turn
    pub turns_are : ts ≡ first ++ rest
    pub clock : ℕ
    pub passes : List (Option (Pass T Note Origin))
    pub took : Took w c ps first clock passes
    pub takes : Took w clock passes rest d qs
    pub sees : SeesDown n passes

-- ---- laws

abbrev pub AnswersHaveEntries : Type 0 → Type 0
AnswersHaveEntries T = (w c d : ℕ) (ps qs : List (Option (Pass T Note Origin))) (ts : List Turn) → Took w c ps ts d qs → AllByRecursion HasItsEntry ts

abbrev pub OutcomesFit : Type 0 → Type 0
OutcomesFit T = (w c d : ℕ) (ps qs : List (Option (Pass T Note Origin))) (ts : List Turn) → Took w c ps ts d qs → AllByRecursion HasItsOutcome ts

-- where a turn found a shard down, or put it down, the walker has then seen it down
abbrev pub DownIsSeen : Type 0 → Type 0
DownIsSeen T = (n w c d : ℕ) (ps qs : List (Option (Pass T Note Origin))) (ts : List Turn) → Took w c ps ts d qs → FoundDown n ts → SawDown n w c ps ts d qs

-- where an event of one would have had a stamp past the last, the clock is at its end
abbrev pub WornIsLast : Type 0 → Type 0
WornIsLast T = (at w c d : ℕ) (ps qs : List (Option (Pass T Note Origin))) (ts : List Turn) → Took w c ps ts d qs → FoundWorn at ts → (at ≡ 2 ^ 48) × (2 ^ 48 - 1 ≤ d)

-- what a walker keeps of its session grows by the entries of those turns that only sessions take
abbrev pub SessionsGrow : Type 0 → Type 0
SessionsGrow T =
    (w c d : ℕ) (ps qs : List (Option (Pass T Note Origin))) (ts : List Turn) → Took w c ps ts d qs → entries_of_session (kept qs) ≡ entries_of_session (kept ps) ++ entries_made (turns_of_session ts)
