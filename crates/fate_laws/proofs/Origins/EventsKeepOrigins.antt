-- Each event of a shard keeps where what it has comes from.
use Rattle.std.proofs.Common.{◌≡◌, inl, inr, ⊎_elim, refl, sym, ap, subst, ◌∙◌, ℕ, true, false, cond, not, Bool, List, [], ◌∷◌, ◌++◌, map, Option, Some, None, ◌&&◌, ◌==◌, is_some}
use Rattle.std.specs.Prelude.{⊤, take}
use Rattle.std.specs.List.{AllByRecursion, filter}
use Rattle.std.proofs.lemmas.Bool.{both_ways, and_parts, eq-eqb}
use Rattle.clv_base.specs.declared.names.TxId.{TxId}
use Rattle.clv_base.specs.declared.names.Birth.{Birth}
use Rattle.clv_base.specs.declared.ops.Op.{Op}
use Rattle.clv_base.specs.declared.ops.Answer.{Answer}
use Rattle.clv_base.specs.declared.causes.AbortCause.{AbortCause}
use Rattle.clv_base.specs.declared.logs.LogRecord.{LogRecord}
use Rattle.clv_base.specs.declared.logs.LogRecord.TheVariants.{Update, Clr, Prepare as PrepareRecord, Commit, Abort, End, Restart as RestartRecord, Add, Unadd, Forgotten, Check}
use Rattle.clv_base.specs.declared.messages.Message.{Message}
use Rattle.clv_base.specs.declared.messages.Message.TheVariants.{Prepare, Vote as VoteMessage, Decide, Done, Ask}
use Rattle.clv_base.specs.declared.state.Stage.{Stage}
use Rattle.clv_base.specs.declared.state.Stage.TheVariants.{Active, Closed, Gone}
use Rattle.clv_base.specs.declared.state.Held.{Held}
use Rattle.clv_base.specs.declared.state.Voter.{Voter}
use Rattle.clv_base.specs.declared.state.Request.{Request}
use Rattle.clv_base.specs.declared.state.RequestState.{RequestState}
use Rattle.clv_base.specs.declared.state.RequestState.TheVariants.{Undecided, Committed, Finished, Refused}
use Rattle.clv_base.specs.declared.events.Event.{Event}
use Rattle.clv_base.specs.declared.events.Event.TheVariants.{Op as OpEvent, Request as RequestEvent, Deliver}
use Rattle.clv_base.specs.declared.events.Outcome.{Outcome}
use Rattle.clv_base.specs.declared.events.Outcome.TheVariants.{Answered, Asked}
use Rattle.clv_base.specs.declared.state.Taken.TheVariants.{Waiting as IsAwaited}
use Rattle.clv_base.specs.Orders.{Table, tx_same, tx_in, tx_get, tx_put, tx_insert}
use Rattle.clv_base.specs.declared.changes.Change.{Change}
use Rattle.clv_base.specs.declared.changes.Change.TheVariants.{Sets, Adds}
use Rattle.clv_base.specs.Logs.{StandingUpdate, standing, has_standing, aborted_in, ended_in, prepare_of, in_doubt_from, doubt_by, in_doubt, writers, committed_in}
use Rattle.clv_base.specs.State.{Shard, Local, with_local, is_present}
use Rattle.clv_base.specs.Undo.{stage_of, is_of, clrs_of}
use Rattle.clv_base.specs.Backs.{standing_numbers, count_after}
use Rattle.clv_base.specs.Facts.{facts_of, is_waiting, undecided_of}
use Rattle.clv_base.specs.Needs.{writes_of, value_at, key_of}
use Rattle.clv_base.specs.Participant.{asked_voter, taken_if, ask_by, asks, restored_voter}
use Rattle.clv_base.specs.Coordinator.{new_request, others, vote_from, with_vote_of, with_done_of, ask_answer, prepare_for, prepares, missing_votes, missing_dones, each_request, home_reminders, restored_request}
use Rattle.clv_base.specs.OneShard.{OpDies, OpAnswers, active_part, new_part, written, locked, rolled_back_if, without_part, closing, closed_part, closed_in, close_part, dropped_part, marked_in, mark_dropped, drop_part}
use Rattle.clv_base.specs.Events.{finish, is_alone, coordinate, owe_vote, decided, ask_messages, durable_requests, waiting_voters, reminders, with_durable, put_down}
use Rattle.clv_base.specs.Restarts.{losers, undo_records, restart_records, log_after_restart, next_epoch, home_by, homes_of, restored_part, unended_with, unended_in, log_left, opened, revived, FailedRestarts, untouched, failed_first, Restarts}
use Rattle.clv_base.proofs.SameNames.{tx_true, in_insert}
use Rattle.law_base.proofs.Changed.{none_some}
use Rattle.law_base.proofs.Lists.{all_mono, all_append, all_kept, all_of, all_taken}
use Rattle.law_base.proofs.Rows.{rows_get, rows_put}
use Rattle.law_base.proofs.Tables.{get_changed, get_put}
use Rattle.law_base.proofs.Stages.{written_parts}
use Rattle.shard_laws.proofs.Events.DueKeeps.{waiting_here}
use Rattle.history_cases.proofs.Stepping.{with_work, Step, op_dies, op_answers, rolls_back, request_new, request_closes, drops, sends, prepare_closes, prepare_again, vote_counts, decision_comes, decision_again, done_counts, asked, reminds, flushes, Happens, finishes, stops}
use Rattle.history_cases.proofs.Telling.{all_map}
use Rattle.history_laws.proofs.Entries.WhatOperationsDo.{OpIs, dies, rolls, performs, reply_is}
use Rattle.fate_laws.proofs.Origins.DueKeepsOrigins.{SomeRequest, OwnRequest, AwayRequest, away_some, own_some, BirthFrom, StageFrom, PartFrom, CommitFrom, RecordFrom, StateFrom, RowFrom, MessageFrom, Origins, part_of, none_changed, AllFrom, push_records, clrs_all, standing_of, from_rolled, from_back, from_send, from_push, row_of, from_set, from_finish}
use Rattle.history_laws.proofs.Entries.AllFromEach.{all_in}

-- ---- what an entry owes: an operation that is answered, a request that is taken, a Prepare that comes

abbrev pub Owes : ℕ → (TxId → Birth → Type 0) → (TxId → ℕ → Type 0) → (TxId → Type 0) → Event → Outcome → Type 0
Owes n D Q O (OpEvent tx birth nth seen op) (Answered answer epoch) = D tx birth
Owes n D Q O (OpEvent tx birth nth seen op) _ = ⊤
Owes n D Q O (RequestEvent tx ts) Asked = Q tx n
Owes n D Q O (RequestEvent tx ts) _ = ⊤
Owes n D Q O (Deliver m stamp) o = MessageFrom Q O m
Owes n D Q O _ o = ⊤

-- ---- an operation

dies_from : (n ep : ℕ) (D : TxId → Birth → Type 0) (A : TxId → Type 0) (Q : TxId → ℕ → Type 0) (O K : TxId → Type 0) (s : Shard) (tx : TxId) (birth : Birth) (seen : Option ℕ) (op : Op) (c : AbortCause) (l : Local) → OpIs s.local tx birth seen op (OpDies c l) → Origins n ep D A Q O K s
    → Origins n ep D A Q O K (with_work l s)
dies_from n ep D A Q O K s tx birth seen op c _ dies p = record { shard = p.shard; epoch = p.epoch; out = p.out; voters = p.voters; parts = p.parts; known = p.known; log = p.log; requests = p.requests }
dies_from n ep D A Q O K s tx birth seen op c _ rolls p =
    let q = from_rolled n ep D A Q O K s tx p in record { shard = q.shard; epoch = q.epoch; out = q.out; voters = q.voters; parts = q.parts; known = q.known; log = q.log; requests = q.requests }

new_rows : (D : TxId → Birth → Type 0) (R : TxId → Type 0) (tx : TxId) (birth : Birth) (o : Option Held) (parts : Table Held) → D tx birth → AllByRecursion (λ r. PartFrom D R r.0 r.1) parts → AllByRecursion (λ r. PartFrom D R r.0 r.1) (new_part tx birth o parts)
new_rows D R tx birth None parts d a = rows_put (λ r. PartFrom D R r.0 r.1) tx (active_part birth) parts (d, refl) a
new_rows D R tx birth (Some h) parts d a = a

put_none : (t u : TxId) (h : Held) (parts : Table Held) → tx_get t (tx_put u h parts) ≡ None → tx_get t parts ≡ None
put_none t u h parts e = at (tx_same t u) (sym (get_put u t h parts) ∙ e)
  where
    at : (b : Bool) → ◌≡◌ {A = Option Held} (cond b (Some h) (tx_get t parts)) None → tx_get t parts ≡ None
    at true f = absurd (none_some h (sym f))
    at false f = f

pub new_known : (tx : TxId) (birth : Birth) (o : Option Held) (parts : Table Held) (t : TxId) → tx_get t (new_part tx birth o parts) ≡ None → tx_get t parts ≡ None
new_known tx birth None parts t e = put_none t tx (active_part birth) parts e
new_known tx birth (Some h) parts t e = e

written_epoch : (tx : TxId) (w : Option (ℕ × Change)) (l : Local) → (written tx w l).epoch ≡ l.epoch
written_epoch tx None l = refl
written_epoch tx (Some w) l = refl

written_log : (A : TxId → Type 0) (Q : TxId → ℕ → Type 0) (O : TxId → Type 0) (n : ℕ) (tx : TxId) (w : Option (ℕ × Change)) (l : Local) → A tx → AllFrom A Q O n l.log → AllFrom A Q O n (written tx w l).log
written_log A Q O n tx None l a b = b
written_log A Q O n tx (Some (key, Sets before after)) l a b = push_records A Q O n l.log (Update tx key before after ∷ []) b (a, tt)
written_log A Q O n tx (Some (key, Adds by)) l a b = push_records A Q O n l.log (Add tx key by ∷ []) b (a, tt)

answers_from : (n ep : ℕ) (D : TxId → Birth → Type 0) (A : TxId → Type 0) (Q : TxId → ℕ → Type 0) (O K : TxId → Type 0) → ((t : TxId) (b : Birth) → D t b → A t) → (s : Shard) (tx : TxId) (birth : Birth) (seen : Option ℕ) (op : Op) (a : Answer) (l : Local)
    → OpIs s.local tx birth seen op (OpAnswers a l) → D tx birth → Origins n ep D A Q O K s → Origins n ep D A Q O K (with_work l s)
answers_from n ep D A Q O K da s tx birth seen op _ _ (performs f e) d p =
    let w = writes_of op (value_at (key_of op) s.local.records) in
    let l = locked tx birth op s.local in
    let same = written_parts tx w l in
    let o = tx_get tx s.local.parts in
    record {
      shard = p.shard;
      epoch = written_epoch tx w l ∙ p.epoch;
      out = p.out;
      voters = p.voters;
      parts = subst (AllByRecursion (λ r. PartFrom D (SomeRequest Q O) r.0 r.1)) (sym same) (new_rows D (SomeRequest Q O) tx birth o s.local.parts d p.parts);
      known = λ t k e. p.known t k (new_known tx birth o s.local.parts t (ap (tx_get t) (sym same) ∙ e));
      log = written_log A Q O n tx w l (da tx birth d) p.log;
      requests = p.requests;
    }

-- ---- closing a part

closed_rows : (D : TxId → Birth → Type 0) (R : TxId → Type 0) (tx : TxId) (parts : Table Held) → R tx → AllByRecursion (λ r. PartFrom D R r.0 r.1) parts → AllByRecursion (λ r. PartFrom D R r.0 r.1) (closed_in tx parts)
closed_rows D R tx [] r a = tt
closed_rows D R tx (p ∷ ps) r a = (at (tx_same tx p.0) refl, closed_rows D R tx ps r a.1)
  where
    at : (b : Bool) → tx_same tx p.0 ≡ b → PartFrom D R p.0 (cond b (closed_part p.1) p.1)
    at true e = ((a.0).0, subst R (tx_true tx p.0 e) r)
    at false e = a.0

closed_known : (tx : TxId) (parts : Table Held) (t : TxId) → tx_get t (closed_in tx parts) ≡ None → tx_get t parts ≡ None
closed_known tx parts t e = none_changed (tx_get t parts) (λ h. cond (tx_same tx t) (closed_part h) h) (sym (get_changed (λ u. tx_same tx u) closed_part t parts) ∙ e)

closing_all : (A : TxId → Type 0) (Q : TxId → ℕ → Type 0) (O : TxId → Type 0) (n : ℕ) (b one : Bool) (tx : TxId) (home : ℕ) (us : List TxId) → A tx → OwnRequest Q O home tx → AllFrom A Q O n (closing b one tx home us)
closing_all A Q O n false one tx home us a r = tt
closing_all A Q O n true true tx home [] a r = (own_some Q O home tx r, tt)
closing_all A Q O n true true tx home (u ∷ us) a r = ((a, r), tt)
closing_all A Q O n true false tx home us a r = ((a, r), tt)

-- an active part was not restored
pub active_done : (D : TxId → Birth → Type 0) (restored : Bool) (t : TxId) (b : Birth) → BirthFrom D restored t b → restored ≡ false → D t b
active_done D true t b d e = absurd (both_ways true e refl)
active_done D false t b d e = d

from_close : (n ep : ℕ) (D : TxId → Birth → Type 0) (A : TxId → Type 0) (Q : TxId → ℕ → Type 0) (O K : TxId → Type 0) → ((t : TxId) (b : Birth) → D t b → A t) → (s : Shard) (tx : TxId) (home : ℕ) (one : Bool) → stage_of s.local tx ≡ Some Active → OwnRequest Q O home tx → Origins n ep D A Q O K s
    → Origins n ep D A Q O K (with_local (close_part tx home one) s)
from_close n ep D A Q O K da s tx home one a r p =
    let own = part_of n ep D A Q O K s tx Active p a in
    record {
      shard = p.shard;
      epoch = p.epoch;
      out = p.out;
      voters = p.voters;
      parts = closed_rows D (SomeRequest Q O) tx s.local.parts (own_some Q O home tx r) p.parts;
      known = λ t k e. p.known t k (closed_known tx s.local.parts t e);
      log = push_records A Q O n s.local.log (closing (has_standing s.local.log tx) one tx home (undecided_of s.local tx)) p.log
          (closing_all A Q O n (has_standing s.local.log tx) one tx home (undecided_of s.local tx) (da tx own.1 (active_done D own.0 tx own.1 own.2 own.3)) r);
      requests = p.requests;
    }

-- ---- a request

to_others : (Q : TxId → ℕ → Type 0) (O : TxId → Type 0) (shard : ℕ) (tx : TxId) (test : ℕ × ℕ → Bool) (ts : List (ℕ × ℕ)) → Q tx shard → ((t : ℕ × ℕ) → test t ≡ true → t.0 ≡ shard → ⊥) → AllByRecursion (MessageFrom Q O) (map (prepare_for shard tx) (filter test ts))
to_others Q O shard tx test [] q k = tt
to_others Q O shard tx test (t ∷ ts) q k = at (test t) refl (to_others Q O shard tx test ts q k)
  where
    at : (b : Bool) → test t ≡ b → AllByRecursion (MessageFrom Q O) (map (prepare_for shard tx) (filter test ts)) → AllByRecursion (MessageFrom Q O) (map (prepare_for shard tx) (cond b (t ∷ filter test ts) (filter test ts)))
    at true e a = ((q, k t e), a)
    at false e a = a

not_here : (shard : ℕ) (t : ℕ × ℕ) → not (t.0 == shard) ≡ true → t.0 ≡ shard → ⊥
not_here shard t e f = both_ways false refl (subst (λ b. not b ≡ true) (eq-eqb t.0 shard f) e)

not_here_too : (shard : ℕ) (t : ℕ × ℕ) (b : Bool) → (not (t.0 == shard) && b) ≡ true → t.0 ≡ shard → ⊥
not_here_too shard t b e = not_here shard t (and_parts (not (t.0 == shard)) b e).0

from_coordinate : (n ep : ℕ) (D : TxId → Birth → Type 0) (A : TxId → Type 0) (Q : TxId → ℕ → Type 0) (O K : TxId → Type 0) (s : Shard) (tx : TxId) (ts : List (ℕ × ℕ)) → Q tx n → Origins n ep D A Q O K s → Origins n ep D A Q O K (coordinate tx ts s)
from_coordinate n ep D A Q O K s tx ts q p = record {
  shard = p.shard;
  epoch = p.epoch;
  out = all_append (MessageFrom Q O) s.outbox (prepares s.shard tx ts) p.out (to_others Q O s.shard tx (λ t. not (t.0 == s.shard)) ts (subst (Q tx) (sym p.shard) q) (not_here s.shard));
  voters = p.voters;
  parts = p.parts;
  known = p.known;
  log = p.log;
  requests = rows_put (λ x. RowFrom Q O n x.0 x.1) tx (new_request ts Undecided) s.requests (inl q, q) p.requests;
}

-- ---- a drop

marked_rows : (D : TxId → Birth → Type 0) (R : TxId → Type 0) (tx : TxId) (parts : Table Held) → AllByRecursion (λ r. PartFrom D R r.0 r.1) parts → AllByRecursion (λ r. PartFrom D R r.0 r.1) (marked_in tx parts)
marked_rows D R tx [] a = tt
marked_rows D R tx (p ∷ ps) a = (at (tx_same tx p.0), marked_rows D R tx ps a.1)
  where
    at : (b : Bool) → PartFrom D R p.0 (cond b (dropped_part p.1) p.1)
    at true = a.0
    at false = a.0

marked_known : (tx : TxId) (parts : Table Held) (t : TxId) → tx_get t (marked_in tx parts) ≡ None → tx_get t parts ≡ None
marked_known tx parts t e = none_changed (tx_get t parts) (λ h. cond (tx_same tx t) (dropped_part h) h) (sym (get_changed (λ u. tx_same tx u) dropped_part t parts) ∙ e)

from_marked : (n ep : ℕ) (D : TxId → Birth → Type 0) (A : TxId → Type 0) (Q : TxId → ℕ → Type 0) (O K : TxId → Type 0) (s : Shard) (tx : TxId) → Origins n ep D A Q O K s → Origins n ep D A Q O K (with_local (mark_dropped tx) s)
from_marked n ep D A Q O K s tx p = record {
  shard = p.shard;
  epoch = p.epoch;
  out = p.out;
  voters = p.voters;
  parts = marked_rows D (SomeRequest Q O) tx s.local.parts p.parts;
  known = λ t k e. p.known t k (marked_known tx s.local.parts t e);
  log = p.log;
  requests = p.requests;
}

from_rolled_if : (n ep : ℕ) (D : TxId → Birth → Type 0) (A : TxId → Type 0) (Q : TxId → ℕ → Type 0) (O K : TxId → Type 0) (s : Shard) (tx : TxId) (b : Bool) → Origins n ep D A Q O K s → Origins n ep D A Q O K (with_local (rolled_back_if b tx) s)
from_rolled_if n ep D A Q O K s tx true p = from_rolled n ep D A Q O K s tx p
from_rolled_if n ep D A Q O K s tx false p = record { shard = p.shard; epoch = p.epoch; out = p.out; voters = p.voters; parts = p.parts; known = p.known; log = p.log; requests = p.requests }

from_drop : (n ep : ℕ) (D : TxId → Birth → Type 0) (A : TxId → Type 0) (Q : TxId → ℕ → Type 0) (O K : TxId → Type 0) (s : Shard) (tx : TxId) → Origins n ep D A Q O K s → Origins n ep D A Q O K (with_local (drop_part tx) s)
from_drop n ep D A Q O K s tx p = from_marked n ep D A Q O K (with_local (without_part tx) s) tx (from_rolled_if n ep D A Q O K s tx (is_present (stage_of s.local tx)) p)

-- ---- reminders

each_from : (Q : TxId → ℕ → Type 0) (O : TxId → Type 0) (f : TxId → Request → List Message) (rs : Table Request) → AllByRecursion (λ r. AllByRecursion (MessageFrom Q O) (f r.0 r.1)) rs → AllByRecursion (MessageFrom Q O) (each_request f rs)
each_from Q O f [] a = tt
each_from Q O f (r ∷ rs) a = all_append (MessageFrom Q O) (f r.0 r.1) _ a.0 (each_from Q O f rs a.1)

missing_from : (Q : TxId → ℕ → Type 0) (O : TxId → Type 0) (shard : ℕ) (tx : TxId) (q : Request) (st : RequestState) → StateFrom Q shard tx st → AllByRecursion (MessageFrom Q O) (missing_votes shard tx q st)
missing_from Q O shard tx q Undecided k = to_others Q O shard tx (λ t. not (t.0 == shard) && not (is_some (vote_from t.0 q.votes))) q.touched k (λ t. not_here_too shard t (not (is_some (vote_from t.0 q.votes))))
missing_from Q O shard tx q (Committed parts) k = tt
missing_from Q O shard tx q Finished k = tt
missing_from Q O shard tx q (Refused c) k = tt

dones_from : (Q : TxId → ℕ → Type 0) (O : TxId → Type 0) (shard : ℕ) (tx : TxId) (q : Request) (st : RequestState) → AllByRecursion (MessageFrom Q O) (missing_dones shard tx q st)
dones_from Q O shard tx q Undecided = tt
dones_from Q O shard tx q (Committed parts) = all_map (MessageFrom Q O) (λ p. Decide p tx shard true) _ (λ p. tt)
dones_from Q O shard tx q Finished = tt
dones_from Q O shard tx q (Refused c) = tt

dones_if : (Q : TxId → ℕ → Type 0) (O : TxId → Type 0) (shard : ℕ) (tx : TxId) (q : Request) (b : Bool) → AllByRecursion (MessageFrom Q O) (elim b [ true ↦ missing_dones shard tx q q.state | false ↦ [] ])
dones_if Q O shard tx q true = dones_from Q O shard tx q q.state
dones_if Q O shard tx q false = tt

ask_from : (Q : TxId → ℕ → Type 0) (O : TxId → Type 0) (shard : ℕ) (tx : TxId) (o : Option Voter) → ((v : Voter) → o ≡ Some v → AwayRequest Q O shard tx) → AllByRecursion (MessageFrom Q O) (ask_by shard tx o)
ask_from Q O shard tx None k = tt
ask_from Q O shard tx (Some v) k = (k v refl, tt)

asks_from : (Q : TxId → ℕ → Type 0) (O : TxId → Type 0) (shard : ℕ) (voters : Table Voter) (txs : List TxId) → AllByRecursion (λ r. AwayRequest Q O shard r.0) voters → AllByRecursion (MessageFrom Q O) (asks shard voters txs)
asks_from Q O shard voters [] a = tt
asks_from Q O shard voters (tx ∷ txs) a =
    all_append (MessageFrom Q O) (ask_by shard tx (tx_get tx voters)) _ (ask_from Q O shard tx (tx_get tx voters) (λ v g. rows_get (λ r. AwayRequest Q O shard r.0) tx v voters a g)) (asks_from Q O shard voters txs a)

reminders_from : (n ep : ℕ) (D : TxId → Birth → Type 0) (A : TxId → Type 0) (Q : TxId → ℕ → Type 0) (O K : TxId → Type 0) (s : Shard) → Origins n ep D A Q O K s → AllByRecursion (MessageFrom Q O) (reminders s)
reminders_from n ep D A Q O K s p =
    all_append (MessageFrom Q O) (home_reminders s.shard s.requests (durable_requests s)) (asks s.shard s.voters (waiting_voters s))
    (all_append (MessageFrom Q O) (each_request (λ tx q. missing_votes s.shard tx q q.state) s.requests) _
    (each_from Q O (λ tx q. missing_votes s.shard tx q q.state) s.requests
    (all_mono (λ r. RowFrom Q O n r.0 r.1) _ (λ r w. missing_from Q O s.shard r.0 r.1 (r.1).state (subst (λ z. StateFrom Q z r.0 (r.1).state) (sym p.shard) w.1)) s.requests p.requests))
    (each_from Q O (λ tx q. elim (tx_in tx (durable_requests s)) [ true ↦ missing_dones s.shard tx q q.state | false ↦ [] ]) s.requests
    (all_of _ (λ r. dones_if Q O s.shard r.0 r.1 (tx_in r.0 (durable_requests s))) s.requests)))
    (asks_from Q O s.shard s.voters (waiting_voters s) (subst (λ z. AllByRecursion (λ r. AwayRequest Q O z r.0) s.voters) (sym p.shard) p.voters))

-- ---- each step

answer_from : (Q : TxId → ℕ → Type 0) (O : TxId → Type 0) (s : Shard) (tx : TxId) (from : ℕ) (o : Option Bool) → AwayRequest Q O from tx → AllByRecursion (MessageFrom Q O) (ask_messages s tx from o)
answer_from Q O s tx from None a = tt
answer_from Q O s tx from (Some true) a = (tt, tt)
answer_from Q O s tx from (Some false) a = (a, tt)

waits_taken : (b d : Bool) → taken_if b d ≡ IsAwaited → b ≡ true
waits_taken true d e = refl
waits_taken false true e = absurd cc
waits_taken false false e = absurd cc

from_decided : (n ep : ℕ) (D : TxId → Birth → Type 0) (A : TxId → Type 0) (Q : TxId → ℕ → Type 0) (O K : TxId → Type 0) (s : Shard) (tx : TxId) (commit : Bool) → SomeRequest Q O tx → Origins n ep D A Q O K s → Origins n ep D A Q O K (decided s tx commit)
from_decided n ep D A Q O K s tx true r p = from_push n ep D A Q O K s (Commit tx []) r p
from_decided n ep D A Q O K s tx false r p = from_rolled n ep D A Q O K s tx p

from_owe : (n ep : ℕ) (D : TxId → Birth → Type 0) (A : TxId → Type 0) (Q : TxId → ℕ → Type 0) (O K : TxId → Type 0) (s : Shard) (tx : TxId) (home seen : ℕ) → AwayRequest Q O n tx → Origins n ep D A Q O K s → Origins n ep D A Q O K (owe_vote tx home seen s)
from_owe n ep D A Q O K s tx home seen r p =
    record { shard = p.shard; epoch = p.epoch; out = p.out; voters = rows_put (λ x. AwayRequest Q O n x.0) tx (asked_voter home seen (tx_get tx s.voters)) s.voters r p.voters; parts = p.parts; known = p.known; log = p.log; requests = p.requests }

-- a Prepare that came makes a voter
came_from : (Q : TxId → ℕ → Type 0) (O : TxId → Type 0) (n to home : ℕ) (tx : TxId) → to ≡ n → Q tx home × (to ≡ home → ⊥) → AwayRequest Q O n tx
came_from Q O n to home tx e w = inl (home, (λ f. w.1 (e ∙ sym f)), w.0)

pub from_step : (n ep : ℕ) (D : TxId → Birth → Type 0) (A : TxId → Type 0) (Q : TxId → ℕ → Type 0) (O K : TxId → Type 0) → ((t : TxId) (b : Birth) → D t b → A t) → (s t : Shard) {e : Event} {o : Outcome} → Step s e o t → Owes n D Q O e o → Origins n ep D A Q O K s → Origins n ep D A Q O K t
from_step n ep D A Q O K da s _ (op_dies tx birth nth seen op cause l g) w p = dies_from n ep D A Q O K s tx birth seen op cause l (reply_is s.shard s.local tx birth seen op (OpDies cause l) g) p
from_step n ep D A Q O K da s _ (op_answers tx birth nth seen op answer l g) w p = answers_from n ep D A Q O K da s tx birth seen op answer l (reply_is s.shard s.local tx birth seen op (OpAnswers answer l) g) w p
from_step n ep D A Q O K da s _ (rolls_back tx nth seen upto f g) w p = from_back n ep D A Q O K s tx (count_after upto (standing_numbers tx s.journal)) p
from_step n ep D A Q O K da s _ (request_new tx ts f g) w p = from_coordinate n ep D A Q O K s tx ts w p
from_step n ep D A Q O K da s _ (request_closes tx ts f g) w p =
    from_coordinate n ep D A Q O K (with_local (close_part tx s.shard (is_alone (others s.shard ts))) s) tx ts w (from_close n ep D A Q O K da s tx s.shard (is_alone (others s.shard ts)) g (inl (subst (Q tx) (sym p.shard) w)) p)
from_step n ep D A Q O K da s _ (drops tx stage g) w p = from_drop n ep D A Q O K s tx p
from_step n ep D A Q O K da s _ (sends m ms g) w p =
    record { shard = p.shard; epoch = p.epoch; out = (subst (AllByRecursion (MessageFrom Q O)) g p.out).1; voters = p.voters; parts = p.parts; known = p.known; log = p.log; requests = p.requests }
from_step n ep D A Q O K da s _ (prepare_closes tx home seen stamp g) w p =
    from_owe n ep D A Q O K (with_local (close_part tx home false) s) tx home seen (came_from Q O n s.shard home tx p.shard w) (from_close n ep D A Q O K da s tx home false g (inl w.0) p)
from_step n ep D A Q O K da s _ (prepare_again tx home seen stamp g) w p = from_owe n ep D A Q O K s tx home seen (came_from Q O n s.shard home tx p.shard w) p
from_step n ep D A Q O K da s _ (vote_counts tx from vote stamp q g c) w p =
    let row = row_of n ep D A Q O K s tx q g p in from_set n ep D A Q O K s tx (with_vote_of from vote q) (row.0, row.1) p
from_step n ep D A Q O K da s _ (decision_comes tx home commit stamp g) w p =
    let c = (waiting_here s tx (waits_taken (is_waiting (facts_of s tx)) _ g)).0 in
    from_decided n ep D A Q O K s tx commit (part_of n ep D A Q O K s tx Closed p c).3 p
from_step n ep D A Q O K da s _ (decision_again tx home commit stamp g) w p = from_send n ep D A Q O K s (Done home tx s.shard ∷ []) (tt, tt) p
from_step n ep D A Q O K da s _ (done_counts tx from stamp q g c) w p =
    let row = row_of n ep D A Q O K s tx q g p in from_set n ep D A Q O K s tx (with_done_of from q) (row.0, row.1) p
from_step n ep D A Q O K da s _ (asked tx from stamp) w p = from_send n ep D A Q O K s _ (answer_from Q O s tx from (ask_answer (tx_get tx s.requests) (facts_of s tx)) w) p
from_step n ep D A Q O K da s _ (reminds m ms g c) w p = from_send n ep D A Q O K s (m ∷ ms) (subst (AllByRecursion (MessageFrom Q O)) c (reminders_from n ep D A Q O K s p)) p
from_step n ep D A Q O K da s _ (flushes k g c) w p = record { shard = p.shard; epoch = p.epoch; out = p.out; voters = p.voters; parts = p.parts; known = p.known; log = p.log; requests = p.requests }
from_step n ep D A Q O K da s _ _ w p = p

pub from_happens : (n ep : ℕ) (D : TxId → Birth → Type 0) (A : TxId → Type 0) (Q : TxId → ℕ → Type 0) (O K : TxId → Type 0) → ((t : TxId) (b : Birth) → D t b → A t) → (s t : Shard) {e : Event} {o : Outcome} → Happens s e o t → Owes n D Q O e o → Origins n ep D A Q O K s → Origins n ep D A Q O K t
from_happens n ep D A Q O K da s _ (finishes {t = t} u g) w p = from_finish n ep D A Q O K t (from_step n ep D A Q O K da s t g w p)
from_happens n ep D A Q O K da s _ (stops u) w p = record { shard = p.shard; epoch = p.epoch; out = p.out; voters = p.voters; parts = p.parts; known = p.known; log = p.log; requests = p.requests }

pub from_flushed : (n ep : ℕ) (D : TxId → Birth → Type 0) (A : TxId → Type 0) (Q : TxId → ℕ → Type 0) (O K : TxId → Type 0) (s : Shard) (k : ℕ) → Origins n ep D A Q O K s → Origins n ep D A Q O K (finish (with_durable k s))
from_flushed n ep D A Q O K s k p =
    from_finish n ep D A Q O K (with_durable k s) (record { shard = p.shard; epoch = p.epoch; out = p.out; voters = p.voters; parts = p.parts; known = p.known; log = p.log; requests = p.requests })

pub from_down : (n ep : ℕ) (D : TxId → Birth → Type 0) (A : TxId → Type 0) (Q : TxId → ℕ → Type 0) (O K : TxId → Type 0) (s : Shard) → Origins n ep D A Q O K s → Origins n ep D A Q O K (put_down s)
from_down n ep D A Q O K s p = record { shard = p.shard; epoch = p.epoch; out = p.out; voters = p.voters; parts = p.parts; known = p.known; log = p.log; requests = p.requests }

-- ---- a restart

-- who is in doubt made its request
doubt_case : (R : TxId → Type 0) (b : Bool) (tx : TxId) (so_far : List TxId) → (b ≡ true → R tx) → ((t : TxId) → tx_in t so_far ≡ true → R t) → (t : TxId) → tx_in t (cond b (tx_insert tx so_far) so_far) ≡ true → R t
doubt_case R true tx so_far r k t i = ⊎_elim (λ e. subst R (sym e) (r refl)) (λ j. k t j) (in_insert tx t so_far i)
doubt_case R false tx so_far r k t i = k t i

not_home : (log : List LogRecord) (shard : ℕ) (tx : TxId) (home : ℕ) (ps so_far : List TxId) → doubt_by log shard tx home ps so_far ≡ true → home ≡ shard → ⊥
not_home log shard tx home ps sf e f =
    both_ways false refl (subst (λ b. not b ≡ true) (eq-eqb shard home (sym f)) (and_parts (not (shard == home)) (not (committed_in log tx)) (and_parts (not (shard == home) && not (committed_in log tx)) (not (aborted_in log tx)) (and_parts (not (shard == home) && not (committed_in log tx) && not (aborted_in log tx)) _ e).0).0).0)

away_home : (Q : TxId → ℕ → Type 0) (O : TxId → Type 0) (n home : ℕ) (tx : TxId) → OwnRequest Q O home tx → (home ≡ n → ⊥) → AwayRequest Q O n tx
away_home Q O n home tx (inl q) k = inl (home, k, q)
away_home Q O n home tx (inr o) k = inr o

doubts_from : (A : TxId → Type 0) (Q : TxId → ℕ → Type 0) (O : TxId → Type 0) (n : ℕ) (log : List LogRecord) (shard : ℕ) (rs : List LogRecord) (so_far : List TxId) → AllFrom A Q O n rs → ((t : TxId) → tx_in t so_far ≡ true → AwayRequest Q O shard t)
    → (t : TxId) → tx_in t (in_doubt_from log shard rs so_far) ≡ true → AwayRequest Q O shard t
doubts_from A Q O n log shard [] sf a k = k
doubts_from A Q O n log shard (PrepareRecord tx home ps ∷ rs) sf a k = doubts_from A Q O n log shard rs _ a.1 (doubt_case (AwayRequest Q O shard) (doubt_by log shard tx home ps sf) tx sf (λ b. away_home Q O shard home tx (a.0).1 (not_home log shard tx home ps sf b)) k)
doubts_from A Q O n log shard (Update tx key before after ∷ rs) sf a k = doubts_from A Q O n log shard rs sf a.1 k
doubts_from A Q O n log shard (Clr tx next key after ∷ rs) sf a k = doubts_from A Q O n log shard rs sf a.1 k
doubts_from A Q O n log shard (Commit tx parts ∷ rs) sf a k = doubts_from A Q O n log shard rs sf a.1 k
doubts_from A Q O n log shard (Abort tx ∷ rs) sf a k = doubts_from A Q O n log shard rs sf a.1 k
doubts_from A Q O n log shard (End tx ∷ rs) sf a k = doubts_from A Q O n log shard rs sf a.1 k
doubts_from A Q O n log shard (RestartRecord run epoch ∷ rs) sf a k = doubts_from A Q O n log shard rs sf a.1 k
doubts_from A Q O n log shard (Add tx key by ∷ rs) sf a k = doubts_from A Q O n log shard rs sf a.1 k
doubts_from A Q O n log shard (Unadd tx next key by ∷ rs) sf a k = doubts_from A Q O n log shard rs sf a.1 k
doubts_from A Q O n log shard (Forgotten ∷ rs) sf a k = doubts_from A Q O n log shard rs sf a.1 k
doubts_from A Q O n log shard (Check run' epoch' upto base ∷ rs) sf a k = doubts_from A Q O n log shard rs sf a.1 k

map_rows : {X : Type 0} {Y : Type 0} (P : X → Type 0) (S : Y → Type 0) (f : X → Y) (xs : List X) → ((x : X) → P x → S (f x)) → AllByRecursion P xs → AllByRecursion S (map f xs)
map_rows P S f [] k a = tt
map_rows P S f (x ∷ xs) k a = (k x a.0, map_rows P S f xs k a.1)

doubts_all : (A : TxId → Type 0) (Q : TxId → ℕ → Type 0) (O : TxId → Type 0) (n shard : ℕ) (log : List LogRecord) → AllFrom A Q O n log → AllByRecursion (AwayRequest Q O shard) (in_doubt shard log)
doubts_all A Q O n shard log a = all_in (AwayRequest Q O shard) (in_doubt shard log) (doubts_from A Q O n log shard log [] a (λ t i. absurd (both_ways false refl i)))

-- whose COMMIT has parts made its request here
unended_case : (Q : TxId → ℕ → Type 0) (O : TxId → Type 0) (n : ℕ) (log : List LogRecord) (tx : TxId) (parts : List ℕ) (rest : Table (List ℕ)) → CommitFrom Q O n tx parts → AllByRecursion (λ r. OwnRequest Q O n r.0) rest
    → AllByRecursion (λ r. OwnRequest Q O n r.0) (unended_with log tx parts rest)
unended_case Q O n log tx [] rest c a = a
unended_case Q O n log tx (p ∷ ps) rest c a = at (ended_in log tx)
  where
    at : (b : Bool) → AllByRecursion (λ r. OwnRequest Q O n r.0) (cond b rest (tx_put tx (p ∷ ps) rest))
    at true = a
    at false = rows_put (λ r. OwnRequest Q O n r.0) tx (p ∷ ps) rest c a

unended_all : (A : TxId → Type 0) (Q : TxId → ℕ → Type 0) (O : TxId → Type 0) (n : ℕ) (log rs : List LogRecord) → AllFrom A Q O n rs → AllByRecursion (λ r. OwnRequest Q O n r.0) (unended_in log rs)
unended_all A Q O n log [] a = tt
unended_all A Q O n log (Commit tx parts ∷ rs) a = unended_case Q O n log tx parts (unended_in log rs) a.0 (unended_all A Q O n log rs a.1)
unended_all A Q O n log (Update tx key before after ∷ rs) a = unended_all A Q O n log rs a.1
unended_all A Q O n log (Clr tx next key after ∷ rs) a = unended_all A Q O n log rs a.1
unended_all A Q O n log (PrepareRecord tx home ps ∷ rs) a = unended_all A Q O n log rs a.1
unended_all A Q O n log (Abort tx ∷ rs) a = unended_all A Q O n log rs a.1
unended_all A Q O n log (End tx ∷ rs) a = unended_all A Q O n log rs a.1
unended_all A Q O n log (RestartRecord run epoch ∷ rs) a = unended_all A Q O n log rs a.1
unended_all A Q O n log (Add tx key by ∷ rs) a = unended_all A Q O n log rs a.1
unended_all A Q O n log (Unadd tx next key by ∷ rs) a = unended_all A Q O n log rs a.1
unended_all A Q O n log (Forgotten ∷ rs) a = unended_all A Q O n log rs a.1
unended_all A Q O n log (Check run' epoch' upto base ∷ rs) a = unended_all A Q O n log rs a.1

in_writers : (A : TxId → Type 0) (ws : List StandingUpdate) → AllByRecursion (λ w. A w.tx) ws → (t : TxId) → tx_in t (writers ws) ≡ true → A t
in_writers A [] a t i = absurd (both_ways false refl i)
in_writers A (w ∷ ws) a t i = ⊎_elim (λ e. subst A (sym e) a.0) (λ j. in_writers A ws a.1 t j) (in_insert w.tx t (writers ws) i)

restart_all : (A : TxId → Type 0) (Q : TxId → ℕ → Type 0) (O : TxId → Type 0) (n shard : ℕ) (log : List LogRecord) (run epoch : ℕ) → AllFrom A Q O n log → AllFrom A Q O n (restart_records shard log run epoch)
restart_all A Q O n shard log run epoch a =
    let ls = all_kept A _ (writers (standing log)) (all_in A (writers (standing log)) (in_writers A (standing log) (standing_of A Q O n log a))) in
    push_records A Q O n (undo_records shard log) (RestartRecord run epoch ∷ [])
    (push_records A Q O n _ (clrs_of (losers shard log) (standing log)) (map_rows A (RecordFrom A Q O n) (λ t. Abort t) (filter (λ t. not (aborted_in log t)) (losers shard log)) (λ t x. x) (all_kept A (λ t. not (aborted_in log t)) (losers shard log) ls))
    (clrs_all A Q O n (is_of (losers shard log)) (standing log) (standing_of A Q O n log a)))
    (tt, tt)

pub opened_all : (A : TxId → Type 0) (Q : TxId → ℕ → Type 0) (O : TxId → Type 0) (n shard : ℕ) (log : List LogRecord) (run epoch : ℕ) → AllFrom A Q O n log → AllFrom A Q O n (log_after_restart shard log run epoch)
opened_all A Q O n shard log run epoch a = push_records A Q O n log (restart_records shard log run epoch) a (restart_all A Q O n shard log run epoch a)

failed_all : (A : TxId → Type 0) (Q : TxId → ℕ → Type 0) (O : TxId → Type 0) (n : ℕ) (s : Shard) (found left : List LogRecord) → FailedRestarts s found left → AllFrom A Q O n found → AllFrom A Q O n left
failed_all A Q O n s found _ untouched a = a
failed_all A Q O n s found left (failed_first k f) a =
    failed_all A Q O n s (found ++ take k (restart_records s.shard found s.run (next_epoch s found))) left f
    (push_records A Q O n found _ a (all_taken (RecordFrom A Q O n) k (restart_records s.shard found s.run (next_epoch s found)) (restart_all A Q O n s.shard found s.run (next_epoch s found) a)))

restarts_all : (A : TxId → Type 0) (Q : TxId → ℕ → Type 0) (O : TxId → Type 0) (n : ℕ) (s : Shard) (found : List LogRecord) (epoch : ℕ) (after : List LogRecord) → Restarts s found epoch after → AllFrom A Q O n found → AllFrom A Q O n after
restarts_all A Q O n s found epoch after (left, f, e, q) a = subst (AllFrom A Q O n) (sym q) (opened_all A Q O n s.shard left s.run epoch (failed_all A Q O n s found left f a))

-- the state that a log leaves
from_log : (n : ℕ) (D : TxId → Birth → Type 0) (A : TxId → Type 0) (Q : TxId → ℕ → Type 0) (O K : TxId → Type 0) (s : Shard) (epoch : ℕ) (log : List LogRecord) → s.shard ≡ n → ((t : TxId) → K t → ⊥) → AllFrom A Q O n log → Origins n epoch D A Q O K (revived s epoch log)
from_log n D A Q O K s epoch log e k a =
    let d = subst (λ z. AllByRecursion (AwayRequest Q O z) (in_doubt s.shard log)) e (doubts_all A Q O n s.shard log a) in
    record {
      shard = e;
      epoch = refl;
      out = tt;
      voters = map_rows (λ r. AwayRequest Q O n r.0) (λ r. AwayRequest Q O n r.0) (λ p. (p.0, restored_voter p.1)) (homes_of log (in_doubt s.shard log)) (λ r x. x)
          (map_rows (AwayRequest Q O n) (λ r. AwayRequest Q O n r.0) (λ t. (t, home_by (prepare_of log t))) (in_doubt s.shard log) (λ t x. x) d);
      parts = map_rows (AwayRequest Q O n) (λ r. PartFrom D (SomeRequest Q O) r.0 r.1) (λ t. (t, restored_part t)) (in_doubt s.shard log) (λ t x. (tt, away_some Q O n t x)) d;
      known = λ t i f. k t i;
      log = a;
      requests = map_rows (λ r. OwnRequest Q O n r.0) (λ r. RowFrom Q O n r.0 r.1) (λ p. (p.0, restored_request p.1)) (unended_in log log) (λ r x. (x, tt)) (unended_all A Q O n log log a);
    }

pub from_revived : (n ep : ℕ) (D D' : TxId → Birth → Type 0) (A : TxId → Type 0) (Q : TxId → ℕ → Type 0) (O K K' : TxId → Type 0) (s : Shard) (kept : Bool) (epoch : ℕ) (after : List LogRecord) → Restarts s (log_left s kept) epoch after → ((t : TxId) → K' t → ⊥)
    → Origins n ep D A Q O K s → Origins n epoch D' A Q O K' (revived s epoch after)
from_revived n ep D D' A Q O K K' s kept epoch after r k p = from_log n D' A Q O K' s epoch after p.shard k (restarts_all A Q O n s (log_left s kept) epoch after r (all_taken (RecordFrom A Q O n) _ s.local.log p.log))

pub from_opened : (n run : ℕ) (D : TxId → Birth → Type 0) (A : TxId → Type 0) (Q : TxId → ℕ → Type 0) (O K : TxId → Type 0) (log : List LogRecord) → ((t : TxId) → K t → ⊥) → AllFrom A Q O n log → Origins n 0 D A Q O K (opened n run log)
from_opened n run D A Q O K log k a =
    let s : Shard = opened n run log in
    let q = from_log n D A Q O K s 0 (log_after_restart n log run 0) refl k (opened_all A Q O n n log run 0 a) in
    record { shard = q.shard; epoch = q.epoch; out = q.out; voters = q.voters; parts = q.parts; known = q.known; log = q.log; requests = q.requests }

-- ---- what is told of more

pub from_more : (n ep : ℕ) (D D' : TxId → Birth → Type 0) (A A' : TxId → Type 0) (Q Q' : TxId → ℕ → Type 0) (O K : TxId → Type 0) (s : Shard) → ((t : TxId) (b : Birth) → D t b → D' t b) → ((t : TxId) → A t → A' t) → ((t : TxId) (m : ℕ) → Q t m → Q' t m) → Origins n ep D A Q O K s
    → Origins n ep D' A' Q' O K s
from_more n ep D D' A A' Q Q' O K s d a q p = record {
  shard = p.shard;
  epoch = p.epoch;
  out = all_mono (MessageFrom Q O) (MessageFrom Q' O) messages s.outbox p.out;
  voters = all_mono (λ r. AwayRequest Q O n r.0) (λ r. AwayRequest Q' O n r.0) (λ r x. away n r.0 x) s.voters p.voters;
  parts = all_mono (λ r. PartFrom D (SomeRequest Q O) r.0 r.1) (λ r. PartFrom D' (SomeRequest Q' O) r.0 r.1) (λ r x. (births (r.1).is_restored r.0 (r.1).birth x.0, stages (r.1).is_restored r.0 (r.1).stage x.1)) s.local.parts p.parts;
  known = p.known;
  log = all_mono (RecordFrom A Q O n) (RecordFrom A' Q' O n) records s.local.log p.log;
  requests = all_mono (λ r. RowFrom Q O n r.0 r.1) (λ r. RowFrom Q' O n r.0 r.1) (λ r x. (own r.0 x.0, states r.0 (r.1).state x.1)) s.requests p.requests;
}
  where
    own_at : (m : ℕ) (t : TxId) → OwnRequest Q O m t → OwnRequest Q' O m t
    own_at m t (inl x) = inl (q t m x)
    own_at m t (inr x) = inr x

    own : (t : TxId) → OwnRequest Q O n t → OwnRequest Q' O n t
    own t x = own_at n t x

    away : (m : ℕ) (t : TxId) → AwayRequest Q O m t → AwayRequest Q' O m t
    away m t (inl (j, k, x)) = inl (j, k, q t j x)
    away m t (inr x) = inr x

    some : (t : TxId) → SomeRequest Q O t → SomeRequest Q' O t
    some t (inl (m, x)) = inl (m, q t m x)
    some t (inr x) = inr x

    messages : (m : Message) → MessageFrom Q O m → MessageFrom Q' O m
    messages (Prepare to tx home seen) x = (q tx home x.0, x.1)
    messages (VoteMessage to tx from vote) x = tt
    messages (Decide to tx home true) x = tt
    messages (Decide to tx home false) x = away to tx x
    messages (Done to tx from) x = tt
    messages (Ask to tx from) x = away from tx x

    births : (b : Bool) (t : TxId) (w : Birth) → BirthFrom D b t w → BirthFrom D' b t w
    births true t w x = tt
    births false t w x = d t w x

    stages : (b : Bool) (t : TxId) (st : Stage) → StageFrom (SomeRequest Q O) b t st → StageFrom (SomeRequest Q' O) b t st
    stages b t Active x = x
    stages b t Closed x = some t x
    stages b t (Gone None) x = some t x
    stages b t (Gone (Some w)) x = tt

    commits : (t : TxId) (parts : List ℕ) → CommitFrom Q O n t parts → CommitFrom Q' O n t parts
    commits t [] x = some t x
    commits t (m ∷ ms) x = own t x

    records : (r : LogRecord) → RecordFrom A Q O n r → RecordFrom A' Q' O n r
    records (Update tx key before after) x = a tx x
    records (Clr tx next key after) x = a tx x
    records (PrepareRecord tx home ps) x = (a tx x.0, own_at home tx x.1)
    records (Commit tx parts) x = commits tx parts x
    records (Abort tx) x = a tx x
    records (End tx) x = own tx x
    records (RestartRecord run epoch) x = tt
    records (Add tx key by) x = a tx x
    records (Unadd tx next key by) x = a tx x
    records Forgotten x = tt
    records (Check run' epoch' upto base) x = tt

    states : (t : TxId) (st : RequestState) → StateFrom Q n t st → StateFrom Q' n t st
    states t Undecided x = q t n x
    states t (Committed parts) x = tt
    states t Finished x = tt
    states t (Refused c) x = tt

pub from_known : (n ep : ℕ) (D : TxId → Birth → Type 0) (A : TxId → Type 0) (Q : TxId → ℕ → Type 0) (O K K' : TxId → Type 0) (s : Shard) → ((t : TxId) → K' t → tx_get t s.local.parts ≡ None → ⊥) → Origins n ep D A Q O K s → Origins n ep D A Q O K' s
from_known n ep D A Q O K K' s k p = record { shard = p.shard; epoch = p.epoch; out = p.out; voters = p.voters; parts = p.parts; known = k; log = p.log; requests = p.requests }
