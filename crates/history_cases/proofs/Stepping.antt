-- What an event may come to, case by case, and what is due, step by step: every law over events goes by these cases.
use Rattle.std.proofs.Common.{◌≡◌, ◌⊎◌, inl, inr, refl, sym, subst, ℕ, zero, suc, ◌+◌, true, false, cond, Bool, List, [], ◌∷◌, Option, Some, None, ◌==◌, length, eqb-true}
use Rattle.std.specs.Prelude.{drop}
use Rattle.clv_base.specs.declared.names.TxId.{TxId}
use Rattle.clv_base.specs.declared.names.Birth.{Birth}
use Rattle.clv_base.specs.declared.ops.Op.{Op}
use Rattle.clv_base.specs.declared.ops.Answer.{Answer}
use Rattle.clv_base.specs.declared.causes.AbortCause.{AbortCause}
use Rattle.clv_base.specs.declared.causes.AbortCause.TheVariants.{Asked as AskedCause, Restarted as RestartedCause}
use Rattle.clv_base.specs.declared.causes.Vote.{Vote}
use Rattle.clv_base.specs.declared.messages.Message.{Message}
use Rattle.clv_base.specs.declared.messages.Message.TheVariants.{Prepare, Vote as VoteMessage, Decide, Done, Ask}
use Rattle.clv_base.specs.declared.events.Event.{Event}
use Rattle.clv_base.specs.declared.events.Event.TheVariants.{Op as OpEvent, RollTo, Request as RequestEvent, Look, Drop, Send, Deliver, Remind, FlushOut, FlushIn, Stop, Restart}
use Rattle.clv_base.specs.declared.events.Outcome.{Outcome}
use Rattle.clv_base.specs.declared.events.Outcome.TheVariants.{Answered, Rolled, Dead, Asked, Acknowledged, Aborted, Dropped, Sent, Taken, Reminded, Out, Stopped, NotYet, Stale, Down}
use Rattle.clv_base.specs.Orders.{tx_get}
use Rattle.clv_base.specs.Logs.{committed_in, fitting}
use Rattle.clv_base.specs.State.{Shard, Local, with_local}
use Rattle.clv_base.specs.declared.state.Taken.{Taken as DecisionTaken}
use Rattle.clv_base.specs.declared.state.Taken.TheVariants.{Done as IsDone, Waiting as IsAwaited, Stale as IsStale}
use Rattle.clv_base.specs.declared.state.Stage.{Stage}
use Rattle.clv_base.specs.declared.state.Stage.TheVariants.{Active, Closed, Gone}
use Rattle.clv_base.specs.declared.state.Voter.{Voter}
use Rattle.clv_base.specs.declared.state.Request.{Request}
use Rattle.clv_base.specs.declared.state.RequestState.{RequestState}
use Rattle.clv_base.specs.declared.state.RequestState.TheVariants.{Undecided, Committed, Finished, Refused}
use Rattle.clv_base.specs.declared.state.Ruling.{Ruling}
use Rattle.clv_base.specs.Undo.{stage_of, roll_to}
use Rattle.clv_base.specs.Backs.{standing_numbers, count_after}
use Rattle.clv_base.specs.Facts.{facts_of, has_durable_commit}
use Rattle.clv_base.specs.Participant.{vote_by, taken_by}
use Rattle.clv_base.specs.Coordinator.{others, takes_vote, takes_done, ask_answer, doom_cause, ruling_by}
use Rattle.clv_base.specs.OneShard.{OpReply, OpWaits, OpCrowded, OpDies, OpAnswers, op_reply, seen_fits, close_part, drop_part}
use Rattle.clv_base.specs.Due.{send, or_else, with_commit_done, commit_due, with_vote, finish_reader, give_vote, vote_due, with_ruling, do_ruling, rule, request_due, due_of, first_due, known_txs, next_due, do_due, with_due_done, work}
use Rattle.clv_base.specs.Events.{Reply, QuietBeforeWorn, QuietAfterWorn, Does, finish, op_event, roll_by_stage, roll_event, is_alone, epoch_in, coordinate, request_by_stage, request_event, request_epoch, look_lost, look_state, look_known, drop_event, owe_vote, on_prepare, with_votes, on_vote, decided, on_decide, with_done, on_done, ask_messages, on_message, to_of, with_outbox, send_event, remind_with, reminders, taken, with_flight, out_event, put_down, happen_up, happen}
use Rattle.clv_base.proofs.Settling.{do_due_at}

-- ---- what is due

-- the state after one thing that is due, if any is
pub data Due (s : Shard) : Option Shard → Type 0 where
  nothing : Due s None
  commits : (tx : TxId) → stage_of s.local tx ≡ Some Closed → has_durable_commit (facts_of s tx) ≡ true → Due s (Some (with_commit_done s tx))
  votes : (tx : TxId) (v : Voter) (vote : Vote) → tx_get tx s.voters ≡ Some v → vote_by (facts_of s tx) v ≡ Some vote → Due s (Some (finish_reader tx vote (with_vote s tx v vote)))
  rules : (tx : TxId) (q : Request) (r : Ruling) → tx_get tx s.requests ≡ Some q → ruling_by s.shard tx q (facts_of s tx) ≡ Some r → Due s (Some (do_ruling tx r (with_ruling tx q r s)))

due_or : (s : Shard) (x y : Option Shard) → Due s x → Due s y → Due s (or_else x y)
due_or s None y p q = q
due_or s (Some t) y p q = p

due_commit_if : (s : Shard) (tx : TxId) (b : Bool) → has_durable_commit (facts_of s tx) ≡ b → stage_of s.local tx ≡ Some Closed → Due s (cond b (Some (with_commit_done s tx)) None)
due_commit_if s tx true e c = commits tx c e
due_commit_if s tx false e c = nothing

due_commit : (s : Shard) (tx : TxId) (st : Option Stage) → stage_of s.local tx ≡ st → Due s (commit_due s tx st)
due_commit s tx None e = nothing
due_commit s tx (Some Active) e = nothing
due_commit s tx (Some Closed) e = due_commit_if s tx (has_durable_commit (facts_of s tx)) refl e
due_commit s tx (Some (Gone d)) e = nothing

due_give : (s : Shard) (tx : TxId) (v : Voter) (o : Option Vote) → tx_get tx s.voters ≡ Some v → vote_by (facts_of s tx) v ≡ o → Due s (give_vote s tx v o)
due_give s tx v None e f = nothing
due_give s tx v (Some vote) e f = votes tx v vote e f

due_vote : (s : Shard) (tx : TxId) (o : Option Voter) → tx_get tx s.voters ≡ o → Due s (vote_due s tx o)
due_vote s tx None e = nothing
due_vote s tx (Some v) e = due_give s tx v (vote_by (facts_of s tx) v) e refl

due_rule : (s : Shard) (tx : TxId) (q : Request) (o : Option Ruling) → tx_get tx s.requests ≡ Some q → ruling_by s.shard tx q (facts_of s tx) ≡ o → Due s (rule s tx q o)
due_rule s tx q None e f = nothing
due_rule s tx q (Some r) e f = rules tx q r e f

due_request : (s : Shard) (tx : TxId) (o : Option Request) → tx_get tx s.requests ≡ o → Due s (request_due s tx o)
due_request s tx None e = nothing
due_request s tx (Some q) e = due_rule s tx q (ruling_by s.shard tx q (facts_of s tx)) e refl

due_one : (s : Shard) (tx : TxId) → Due s (due_of s tx)
due_one s tx =
    due_or s _ _ (due_commit s tx (stage_of s.local tx) refl) (due_or s _ _ (due_vote s tx (tx_get tx s.voters) refl) (due_request s tx (tx_get tx s.requests) refl))

due_found : (s : Shard) (o rest : Option Shard) → Due s o → Due s rest → Due s (elim o [ Some t ↦ Some t | None ↦ rest ])
due_found s None rest p q = q
due_found s (Some t) rest p q = p

due_first : (s : Shard) (txs : List TxId) → Due s (first_due s txs)
due_first s [] = nothing
due_first s (tx ∷ txs) = due_found s (due_of s tx) _ (due_one s tx) (due_first s txs)

pub due_next : (s : Shard) → Due s (next_due s)
due_next s = due_first s (known_txs s)

-- what each thing that is done keeps
abbrev pub KeptByDue : (Shard → Type 0) → Type 0
KeptByDue P = (s t : Shard) → Due s (Some t) → P s → P t

settle_at : (P : Shard → Type 0) (n : ℕ) (s : Shard) (o : Option Shard) → KeptByDue P → Due s o → P s → ((t : Shard) → P t → P (do_due n t)) → P (do_due_at n s o)
settle_at P n s None k d p h = p
settle_at P n s (Some t) k d p h = h t (k s t d p)

settle : (P : Shard → Type 0) (n : ℕ) (s : Shard) → KeptByDue P → P s → P (do_due n s)
settle P zero s k p = p
settle P (suc n) s k p = settle_at P n s (next_due s) k (due_next s) p (λ t q. settle P n t k q)

pub settled : (P : Shard → Type 0) (s : Shard) → KeptByDue P → P s → P (with_due_done s)
settled P s k p = settle P (work s) s k p

-- ---- what an event comes to, before what is due is done

abbrev pub with_work : Local → Shard → Shard
with_work l s = record s { local = l }

-- a look finds it acknowledged, or refused
abbrev pub FindsWell : Shard → TxId → Type 0
FindsWell s tx = (has_durable_commit (facts_of s tx) ≡ true) ⊎ ((q : Request) × (tx_get tx s.requests ≡ Some q) × (q.state ≡ Finished))

abbrev pub FindsLost : Shard → TxId → AbortCause → Type 0
FindsLost s tx cause =
    (e : ℕ) × (tx_get tx s.requests ≡ None) × (committed_in s.local.log tx ≡ false) × (request_epoch s.shard tx s.journal ≡ Some e) × ((e == s.local.epoch) ≡ false)
    × (cause ≡ RestartedCause s.shard e s.local.epoch)

abbrev pub FindsIll : Shard → TxId → AbortCause → Type 0
FindsIll s tx cause = ((q : Request) × (tx_get tx s.requests ≡ Some q) × (q.state ≡ Refused cause)) ⊎ FindsLost s tx cause

pub data Step (s : Shard) : Event → Outcome → Shard → Type 0 where
  op_dies :
      (tx : TxId) (birth : Birth) (nth : ℕ) (seen : Option ℕ) (op : Op) (cause : AbortCause) (l : Local) → op_reply s.shard s.local tx birth seen op ≡ OpDies cause l
      → Step s (OpEvent tx birth nth seen op) (Dead cause) (with_work l s)
  op_answers :
      (tx : TxId) (birth : Birth) (nth : ℕ) (seen : Option ℕ) (op : Op) (answer : Answer) (l : Local) → op_reply s.shard s.local tx birth seen op ≡ OpAnswers answer l
      → Step s (OpEvent tx birth nth seen op) (Answered answer s.local.epoch) (with_work l s)
  -- a going back of a transaction that another epoch knew, that an abort took away, that asked already, that isn't known here, or that goes on here
  roll_refused : (tx : TxId) (nth seen upto : ℕ) → (seen == s.local.epoch) ≡ false → Step s (RollTo tx nth seen upto) (Dead (RestartedCause s.shard seen s.local.epoch)) s
  roll_doomed :
      (tx : TxId) (nth seen upto : ℕ) (doom : TxId) → (seen == s.local.epoch) ≡ true → stage_of s.local tx ≡ Some (Gone (Some doom))
      → Step s (RollTo tx nth seen upto) (Dead (doom_cause tx doom)) s
  roll_late :
      (tx : TxId) (nth seen upto : ℕ) → (seen == s.local.epoch) ≡ true → (stage_of s.local tx ≡ Some (Gone None)) ⊎ (stage_of s.local tx ≡ Some Closed)
      → Step s (RollTo tx nth seen upto) (Dead AskedCause) s
  roll_unknown : (tx : TxId) (nth seen upto : ℕ) → (seen == s.local.epoch) ≡ true → stage_of s.local tx ≡ None → Step s (RollTo tx nth seen upto) Rolled s
  rolls_back :
      (tx : TxId) (nth seen upto : ℕ) → (seen == s.local.epoch) ≡ true → stage_of s.local tx ≡ Some Active
      → Step s (RollTo tx nth seen upto) Rolled (with_local (roll_to tx (count_after upto (standing_numbers tx s.journal))) s)
  request_refused :
      (tx : TxId) (touched : List (ℕ × ℕ)) (cause : AbortCause) → seen_fits s.local.epoch (epoch_in s.shard touched) ≡ false
      → Step s (RequestEvent tx touched) (Dead cause) s
  request_doomed :
      (tx : TxId) (touched : List (ℕ × ℕ)) (doom : TxId) → stage_of s.local tx ≡ Some (Gone (Some doom)) → Step s (RequestEvent tx touched) (Dead (doom_cause tx doom)) s
  request_again :
      (tx : TxId) (touched : List (ℕ × ℕ)) → seen_fits s.local.epoch (epoch_in s.shard touched) ≡ true → (stage_of s.local tx ≡ Some (Gone None)) ⊎ (stage_of s.local tx ≡ Some Closed)
      → Step s (RequestEvent tx touched) Asked s
  request_new :
      (tx : TxId) (touched : List (ℕ × ℕ)) → seen_fits s.local.epoch (epoch_in s.shard touched) ≡ true → stage_of s.local tx ≡ None
      → Step s (RequestEvent tx touched) Asked (coordinate tx touched s)
  request_closes :
      (tx : TxId) (touched : List (ℕ × ℕ)) → seen_fits s.local.epoch (epoch_in s.shard touched) ≡ true → stage_of s.local tx ≡ Some Active
      → Step s (RequestEvent tx touched) Asked (coordinate tx touched (with_local (close_part tx s.shard (is_alone (others s.shard touched))) s))
  looks_well : (tx : TxId) → FindsWell s tx → Step s (Look tx) Acknowledged s
  looks_ill : (tx : TxId) (cause : AbortCause) → has_durable_commit (facts_of s tx) ≡ false → FindsIll s tx cause → Step s (Look tx) (Aborted cause) s
  drops : (tx : TxId) (stage : Stage) → stage_of s.local tx ≡ Some stage → Step s (Drop tx) Dropped (with_local (drop_part tx) s)
  sends : (m : Message) (ms : List Message) → s.outbox ≡ m ∷ ms → Step s Send (Sent m) (with_outbox ms s)
  prepare_closes :
      (tx : TxId) (home seen stamp : ℕ) → stage_of s.local tx ≡ Some Active
      → Step s (Deliver (Prepare s.shard tx home seen) stamp) Taken (owe_vote tx home seen (with_local (close_part tx home false) s))
  prepare_again :
      (tx : TxId) (home seen stamp : ℕ) → (stage_of s.local tx ≡ Some Active → ⊥) → Step s (Deliver (Prepare s.shard tx home seen) stamp) Taken (owe_vote tx home seen s)
  vote_counts :
      (tx : TxId) (from : ℕ) (vote : Vote) (stamp : ℕ) (q : Request) → tx_get tx s.requests ≡ Some q → takes_vote s.shard from q ≡ true
      → Step s (Deliver (VoteMessage s.shard tx from vote) stamp) Taken (with_votes tx from vote q s)
  decision_comes :
      (tx : TxId) (home : ℕ) (commit : Bool) (stamp : ℕ) → taken_by (facts_of s tx) commit ≡ IsAwaited
      → Step s (Deliver (Decide s.shard tx home commit) stamp) Taken (decided s tx commit)
  decision_again :
      (tx : TxId) (home : ℕ) (commit : Bool) (stamp : ℕ) → taken_by (facts_of s tx) commit ≡ IsDone
      → Step s (Deliver (Decide s.shard tx home commit) stamp) Taken (send (Done home tx s.shard ∷ []) s)
  done_counts :
      (tx : TxId) (from stamp : ℕ) (q : Request) → tx_get tx s.requests ≡ Some q → takes_done from q ≡ true
      → Step s (Deliver (Done s.shard tx from) stamp) Taken (with_done tx from q s)
  asked :
      (tx : TxId) (from stamp : ℕ)
      → Step s (Deliver (Ask s.shard tx from) stamp) Taken (send (ask_messages s tx from (ask_answer (tx_get tx s.requests) (facts_of s tx))) s)
  reminds : (m : Message) (ms : List Message) → s.outbox ≡ [] → reminders s ≡ m ∷ ms → Step s Remind (Reminded (length (m ∷ ms))) (send (m ∷ ms) s)
  flushes :
      (k : ℕ) → s.flight ≡ None → fitting 1048576 (drop (taken s) s.local.log) ≡ suc k → Step s FlushOut (Out (s.durable + suc k)) (with_flight (s.durable + suc k) s)

-- the shard was up, and then what is due is done, or it is put down
pub data Happens (s : Shard) : Event → Outcome → Shard → Type 0 where
  finishes : {e : Event} {o : Outcome} {t : Shard} → s.is_up ≡ true → Step s e o t → Happens s e o (finish t)
  stops : s.is_up ≡ true → Happens s Stop Stopped (put_down s)

data HappensIn (s : Shard) (e : Event) : Reply → Type 0 where
  early : {o : Outcome} → HappensIn s e (QuietBeforeWorn o)
  late : {o : Outcome} → HappensIn s e (QuietAfterWorn o)
  does : {o : Outcome} {t : Shard} → Happens s e o t → HappensIn s e (Does o t)

operation : (s : Shard) (tx : TxId) (birth : Birth) (nth : ℕ) (seen : Option ℕ) (op : Op) (r : OpReply) → s.is_up ≡ true → op_reply s.shard s.local tx birth seen op ≡ r
    → HappensIn s (OpEvent tx birth nth seen op) (op_event s r)
operation s tx birth nth seen op (OpWaits y) u e = late
operation s tx birth nth seen op (OpCrowded n) u e = late
operation s tx birth nth seen op (OpDies c l) u e = does (finishes u (op_dies tx birth nth seen op c l e))
operation s tx birth nth seen op (OpAnswers a l) u e = does (finishes u (op_answers tx birth nth seen op a l e))

going_back : (s : Shard) (tx : TxId) (nth seen upto : ℕ) (st : Option Stage) → s.is_up ≡ true → (seen == s.local.epoch) ≡ true → stage_of s.local tx ≡ st
    → HappensIn s (RollTo tx nth seen upto) (roll_by_stage s tx (count_after upto (standing_numbers tx s.journal)) st)
going_back s tx nth seen upto None u f e = does (finishes u (roll_unknown tx nth seen upto f e))
going_back s tx nth seen upto (Some Active) u f e = does (finishes u (rolls_back tx nth seen upto f e))
going_back s tx nth seen upto (Some Closed) u f e = does (finishes u (roll_late tx nth seen upto f (inr e)))
going_back s tx nth seen upto (Some (Gone None)) u f e = does (finishes u (roll_late tx nth seen upto f (inl e)))
going_back s tx nth seen upto (Some (Gone (Some d))) u f e = does (finishes u (roll_doomed tx nth seen upto d f e))

rolling : (s : Shard) (tx : TxId) (nth seen upto : ℕ) (b : Bool) → s.is_up ≡ true → (seen == s.local.epoch) ≡ b → HappensIn s (RollTo tx nth seen upto) (roll_event s tx seen upto b)
rolling s tx nth seen upto false u e = does (finishes u (roll_refused tx nth seen upto e))
rolling s tx nth seen upto true u e = going_back s tx nth seen upto (stage_of s.local tx) u e refl

by_stage : (s : Shard) (tx : TxId) (ts : List (ℕ × ℕ)) (st : Option Stage) → s.is_up ≡ true → seen_fits s.local.epoch (epoch_in s.shard ts) ≡ true → stage_of s.local tx ≡ st → HappensIn s (RequestEvent tx ts) (request_by_stage s tx ts st)
by_stage s tx ts None u f e = does (finishes u (request_new tx ts f e))
by_stage s tx ts (Some Active) u f e = does (finishes u (request_closes tx ts f e))
by_stage s tx ts (Some Closed) u f e = does (finishes u (request_again tx ts f (inr e)))
by_stage s tx ts (Some (Gone None)) u f e = does (finishes u (request_again tx ts f (inl e)))
by_stage s tx ts (Some (Gone (Some d))) u f e = does (finishes u (request_doomed tx ts d e))

request : (s : Shard) (tx : TxId) (ts : List (ℕ × ℕ)) (b : Bool) → s.is_up ≡ true → seen_fits s.local.epoch (epoch_in s.shard ts) ≡ b → HappensIn s (RequestEvent tx ts) (request_event s tx ts b)
request s tx ts false u e = does (finishes u (request_refused tx ts _ e))
request s tx ts true u e = by_stage s tx ts (stage_of s.local tx) u e refl

look_at_lost : (s : Shard) (tx : TxId) (e : ℕ) (b : Bool) → s.is_up ≡ true → has_durable_commit (facts_of s tx) ≡ false → tx_get tx s.requests ≡ None → committed_in s.local.log tx ≡ false
    → request_epoch s.shard tx s.journal ≡ Some e → (e == s.local.epoch) ≡ b → HappensIn s (Look tx) (cond b (QuietBeforeWorn NotYet) (Does (Aborted (RestartedCause s.shard e s.local.epoch)) (finish s)))
look_at_lost s tx e true u d n c q f = early
look_at_lost s tx e false u d n c q f = does (finishes u (looks_ill tx _ d (inr (e, n, c, q, f, refl))))

lost : (s : Shard) (tx : TxId) (o : Option ℕ) → s.is_up ≡ true → has_durable_commit (facts_of s tx) ≡ false → tx_get tx s.requests ≡ None → committed_in s.local.log tx ≡ false
    → request_epoch s.shard tx s.journal ≡ o → HappensIn s (Look tx) (look_lost s tx o)
lost s tx None u d n c q = early
lost s tx (Some e) u d n c q = look_at_lost s tx e (e == s.local.epoch) u d n c q refl

unknown : (s : Shard) (tx : TxId) (b : Bool) → s.is_up ≡ true → has_durable_commit (facts_of s tx) ≡ false → tx_get tx s.requests ≡ None → committed_in s.local.log tx ≡ b
    → HappensIn s (Look tx) (cond b (QuietBeforeWorn NotYet) (look_lost s tx (request_epoch s.shard tx s.journal)))
unknown s tx true u d n c = early
unknown s tx false u d n c = lost s tx (request_epoch s.shard tx s.journal) u d n c refl

look_in : (s : Shard) (tx : TxId) (q : Request) (st : RequestState) → s.is_up ≡ true → has_durable_commit (facts_of s tx) ≡ false → tx_get tx s.requests ≡ Some q → q.state ≡ st
    → HappensIn s (Look tx) (look_state s st)
look_in s tx q Undecided u d g e = early
look_in s tx q (Committed parts) u d g e = early
look_in s tx q Finished u d g e = does (finishes u (looks_well tx (inr (q, g, e))))
look_in s tx q (Refused cause) u d g e = does (finishes u (looks_ill tx cause d (inl (q, g, e))))

known : (s : Shard) (tx : TxId) (o : Option Request) → s.is_up ≡ true → has_durable_commit (facts_of s tx) ≡ false → tx_get tx s.requests ≡ o → HappensIn s (Look tx) (look_known s tx o)
known s tx None u d e = unknown s tx (committed_in s.local.log tx) u d e refl
known s tx (Some q) u d e = look_in s tx q q.state u d e refl

look : (s : Shard) (tx : TxId) (b : Bool) → s.is_up ≡ true → has_durable_commit (facts_of s tx) ≡ b
    → HappensIn s (Look tx) (cond b (Does Acknowledged (finish s)) (look_known s tx (tx_get tx s.requests)))
look s tx true u e = does (finishes u (looks_well tx (inl e)))
look s tx false u e = known s tx (tx_get tx s.requests) u e refl

dropping : (s : Shard) (tx : TxId) (st : Option Stage) → s.is_up ≡ true → stage_of s.local tx ≡ st → HappensIn s (Drop tx) (drop_event s tx st)
dropping s tx None u e = early
dropping s tx (Some stage) u e = does (finishes u (drops tx stage e))

sending : (s : Shard) (ms : List Message) → s.is_up ≡ true → s.outbox ≡ ms → HappensIn s Send (send_event s ms)
sending s [] u e = early
sending s (m ∷ ms) u e = does (finishes u (sends m ms e))

prepare_if : (s : Shard) (tx : TxId) (home seen stamp : ℕ) (b : Bool) → s.is_up ≡ true → stage_of s.local tx ≡ None
    → HappensIn s (Deliver (Prepare s.shard tx home seen) stamp) (cond b (QuietBeforeWorn Stale) (Does Taken (finish (owe_vote tx home seen s))))
prepare_if s tx home seen stamp true u e = early
prepare_if s tx home seen stamp false u e = does (finishes u (prepare_again tx home seen stamp (λ f. differ e f)))
  where
    differ : {x : Option Stage} → x ≡ None → x ≡ Some Active → ⊥
    differ a b = absurd cc

is_closed : {x : Option Stage} → x ≡ Some Closed → x ≡ Some Active → ⊥
is_closed a b = absurd cc

is_gone : {x : Option Stage} (d : Option TxId) → x ≡ Some (Gone d) → x ≡ Some Active → ⊥
is_gone d a b = absurd cc

preparing : (s : Shard) (tx : TxId) (home seen stamp : ℕ) (st : Option Stage) → s.is_up ≡ true → stage_of s.local tx ≡ st
    → HappensIn s (Deliver (Prepare s.shard tx home seen) stamp) (on_prepare s tx home seen st)
preparing s tx home seen stamp None u e = prepare_if s tx home seen stamp (seen == s.local.epoch) u e
preparing s tx home seen stamp (Some Active) u e = does (finishes u (prepare_closes tx home seen stamp e))
preparing s tx home seen stamp (Some Closed) u e = does (finishes u (prepare_again tx home seen stamp (λ f. is_closed e f)))
preparing s tx home seen stamp (Some (Gone d)) u e = does (finishes u (prepare_again tx home seen stamp (λ f. is_gone d e f)))

vote_if : (s : Shard) (tx : TxId) (from : ℕ) (vote : Vote) (stamp : ℕ) (q : Request) (b : Bool) → s.is_up ≡ true → tx_get tx s.requests ≡ Some q → takes_vote s.shard from q ≡ b
    → HappensIn s (Deliver (VoteMessage s.shard tx from vote) stamp) (cond b (Does Taken (finish (with_votes tx from vote q s))) (QuietBeforeWorn Stale))
vote_if s tx from vote stamp q true u g e = does (finishes u (vote_counts tx from vote stamp q g e))
vote_if s tx from vote stamp q false u g e = early

voting : (s : Shard) (tx : TxId) (from : ℕ) (vote : Vote) (stamp : ℕ) (o : Option Request) → s.is_up ≡ true → tx_get tx s.requests ≡ o
    → HappensIn s (Deliver (VoteMessage s.shard tx from vote) stamp) (on_vote s tx from vote o)
voting s tx from vote stamp None u e = early
voting s tx from vote stamp (Some q) u e = vote_if s tx from vote stamp q (takes_vote s.shard from q) u e refl

deciding : (s : Shard) (tx : TxId) (home : ℕ) (commit : Bool) (stamp : ℕ) (d : DecisionTaken) → s.is_up ≡ true → taken_by (facts_of s tx) commit ≡ d
    → HappensIn s (Deliver (Decide s.shard tx home commit) stamp) (on_decide s tx home commit d)
deciding s tx home commit stamp IsAwaited u e = does (finishes u (decision_comes tx home commit stamp e))
deciding s tx home commit stamp IsDone u e = does (finishes u (decision_again tx home commit stamp e))
deciding s tx home commit stamp IsStale u e = early

done_if : (s : Shard) (tx : TxId) (from stamp : ℕ) (q : Request) (b : Bool) → s.is_up ≡ true → tx_get tx s.requests ≡ Some q → takes_done from q ≡ b
    → HappensIn s (Deliver (Done s.shard tx from) stamp) (cond b (Does Taken (finish (with_done tx from q s))) (QuietBeforeWorn Stale))
done_if s tx from stamp q true u g e = does (finishes u (done_counts tx from stamp q g e))
done_if s tx from stamp q false u g e = early

doing : (s : Shard) (tx : TxId) (from stamp : ℕ) (o : Option Request) → s.is_up ≡ true → tx_get tx s.requests ≡ o
    → HappensIn s (Deliver (Done s.shard tx from) stamp) (on_done s tx from o)
doing s tx from stamp None u e = early
doing s tx from stamp (Some q) u e = done_if s tx from stamp q (takes_done from q) u e refl

message : (s : Shard) (m : Message) (stamp : ℕ) (b : Bool) → s.is_up ≡ true → (to_of m == s.shard) ≡ b → HappensIn s (Deliver m stamp) (cond b (on_message s m) (QuietBeforeWorn Stale))
message s m stamp false u e = early
message s (Prepare to tx home seen) stamp true u e =
    subst (λ n. HappensIn s (Deliver (Prepare n tx home seen) stamp) (on_prepare s tx home seen (stage_of s.local tx))) (sym (eqb-true to s.shard e)) (preparing s tx home seen stamp (stage_of s.local tx) u refl)
message s (VoteMessage to tx from vote) stamp true u e =
    subst (λ n. HappensIn s (Deliver (VoteMessage n tx from vote) stamp) (on_vote s tx from vote (tx_get tx s.requests))) (sym (eqb-true to s.shard e)) (voting s tx from vote stamp (tx_get tx s.requests) u refl)
message s (Decide to tx home commit) stamp true u e =
    subst (λ n. HappensIn s (Deliver (Decide n tx home commit) stamp) (on_decide s tx home commit (taken_by (facts_of s tx) commit))) (sym (eqb-true to s.shard e))
    (deciding s tx home commit stamp (taken_by (facts_of s tx) commit) u refl)
message s (Done to tx from) stamp true u e =
    subst (λ n. HappensIn s (Deliver (Done n tx from) stamp) (on_done s tx from (tx_get tx s.requests))) (sym (eqb-true to s.shard e)) (doing s tx from stamp (tx_get tx s.requests) u refl)
message s (Ask to tx from) stamp true u e =
    subst (λ n. HappensIn s (Deliver (Ask n tx from) stamp) (Does Taken (finish (send (ask_messages s tx from (ask_answer (tx_get tx s.requests) (facts_of s tx))) s)))) (sym (eqb-true to s.shard e))
    (does (finishes u (asked tx from stamp)))

reminding : (s : Shard) (out ms : List Message) → s.is_up ≡ true → s.outbox ≡ out → reminders s ≡ ms → HappensIn s Remind (remind_with s out ms)
reminding s [] (m ∷ ms) u e f = does (finishes u (reminds m ms e f))
reminding s [] [] u e f = early
reminding s (o ∷ os) ms u e f = early

flushing : (s : Shard) (f : Option ℕ) (n : ℕ) → s.is_up ≡ true → s.flight ≡ f → fitting 1048576 (drop (taken s) s.local.log) ≡ n → HappensIn s FlushOut (out_event s f n)
flushing s f zero u e g = early
flushing s (Some n) (suc k) u e g = early
flushing s None (suc k) u e g = does (finishes u (flushes k e g))

up : (s : Shard) (e : Event) → s.is_up ≡ true → HappensIn s e (happen_up s e)
up s (OpEvent tx birth nth seen op) u = operation s tx birth nth seen op (op_reply s.shard s.local tx birth seen op) u refl
up s (RollTo tx nth seen upto) u = rolling s tx nth seen upto (seen == s.local.epoch) u refl
up s (RequestEvent tx ts) u = request s tx ts (seen_fits s.local.epoch (epoch_in s.shard ts)) u refl
up s (Look tx) u = look s tx (has_durable_commit (facts_of s tx)) u refl
up s (Drop tx) u = dropping s tx (stage_of s.local tx) u refl
up s Send u = sending s s.outbox u refl
up s (Deliver m stamp) u = message s m stamp (to_of m == s.shard) u refl
up s Remind u = reminding s s.outbox (reminders s) u refl refl
up s FlushOut u = flushing s s.flight (fitting 1048576 (drop (taken s) s.local.log)) u refl refl
up s FlushIn u = early
up s Stop u = does (stops u)
up s Restart u = early

by_up : (s : Shard) (e : Event) (b : Bool) → s.is_up ≡ b → HappensIn s e (elim b [ true ↦ happen_up s e | false ↦ QuietBeforeWorn Down ])
by_up s e true u = up s e u
by_up s e false u = early

of_does : (s : Shard) (e : Event) (o : Outcome) (t : Shard) → HappensIn s e (Does o t) → Happens s e o t
of_does s e o t (does h) = h

-- what an event that makes an entry came to
pub happened : (s t : Shard) (e : Event) (o : Outcome) → happen s e ≡ Does o t → Happens s e o t
happened s t e o h = of_does s e o t (subst (HappensIn s e) h (by_up s e s.is_up refl))
