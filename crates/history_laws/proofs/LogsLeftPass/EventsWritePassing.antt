-- Each event of a shard writes only records that pass.
use Rattle.std.proofs.Common.{◌≡◌, refl, subst, ℕ, ◌<◌, nat_lt, true, false, cond, not, ◌&&◌, ◌==◌, Bool, List, [], ◌∷◌, map, Option, Some, None, is_some}
use Rattle.std.specs.Prelude.{⊤}
use Rattle.std.specs.List.{AllByRecursion, filter, list_all}
use Rattle.std.proofs.lemmas.Bool.{and_from, lt-ltb}
use Rattle.clv_base.specs.declared.names.TxId.{TxId}
use Rattle.clv_base.specs.declared.logs.LogRecord.{LogRecord}
use Rattle.clv_base.specs.declared.logs.LogRecord.TheVariants.{Commit, End}
use Rattle.clv_base.specs.declared.causes.AbortCause.{AbortCause}
use Rattle.clv_base.specs.declared.causes.Vote.{Vote}
use Rattle.clv_base.specs.declared.causes.Vote.TheVariants.{Yes, Read, No}
use Rattle.clv_base.specs.declared.messages.Message.{Message}
use Rattle.clv_base.specs.declared.messages.Message.TheVariants.{Prepare, Vote as VoteMessage, Decide, Done, Ask}
use Rattle.clv_base.specs.declared.parts.PartFacts.{PartFacts}
use Rattle.clv_base.specs.declared.state.Ruling.{Ruling}
use Rattle.clv_base.specs.declared.state.Ruling.TheVariants.{Commit as CommitVerdict, Acknowledge, Abort as AbortVerdict, End as EndVerdict}
use Rattle.clv_base.specs.declared.state.Voter.{Voter}
use Rattle.clv_base.specs.declared.state.Request.{Request}
use Rattle.clv_base.specs.declared.state.RequestState.{RequestState}
use Rattle.clv_base.specs.declared.state.RequestState.TheVariants.{Undecided, Committed, Finished, Refused}
use Rattle.clv_base.specs.declared.events.Event.{Event}
use Rattle.clv_base.specs.declared.events.Event.TheVariants.{Deliver}
use Rattle.clv_base.specs.declared.events.Outcome.{Outcome}
use Rattle.clv_base.specs.declared.events.Outcome.TheVariants.{Sent}
use Rattle.clv_base.specs.declared.events.Entry.{Entry}
use Rattle.clv_base.specs.Orders.{Table, tx_in, tx_get, tx_set}
use Rattle.clv_base.specs.Logs.{has_standing}
use Rattle.clv_base.specs.Shards.{shard_count}
use Rattle.clv_base.specs.State.{Shard, Local, with_local}
use Rattle.clv_base.specs.Undo.{roll_back, roll_to}
use Rattle.clv_base.specs.Facts.{facts_of, undecided_of, has_durable_predecessors}
use Rattle.clv_base.specs.Participant.{is_yes_vote, ask_by, asks}
use Rattle.clv_base.specs.Coordinator.{new_request, others, vote_from, with_vote_of, with_done_of, is_agreed, yes_shards, agreed_ruling, refusal, refused_ruling, end_ruling, undecided_ruling, ruling_in, ruled_request, ask_answer, prepare_for, prepares, missing_votes, missing_dones, each_request, home_reminders, restored_request}
use Rattle.clv_base.specs.OneShard.{close_part}
use Rattle.clv_base.specs.Due.{send, commit_messages, with_vote, finish_reader, with_ruling, do_ruling}
use Rattle.clv_base.specs.Events.{finish, is_alone, coordinate, decided, ask_messages, durable_requests, waiting_voters, reminders}
use Rattle.clv_base.specs.Restarts.{log_left, revived, opened, unended_in, Restarts}
use Rattle.clv_base.specs.Journals.{after_entry, event_state, up_to_restart, MayEnter}
use Rattle.clv_base.specs.Backs.{standing_numbers, count_after}
use Rattle.law_base.proofs.Rows.{rows_get, rows_set, rows_put}
use Rattle.law_base.proofs.Lists.{all_append, all_of, AreShards}
use Rattle.history_cases.proofs.Stepping.{commits, votes, rules, KeptByDue, settled, Step, op_dies, op_answers, request_new, request_closes, drops, sends, prepare_closes, prepare_again, vote_counts, decision_comes, decision_again, done_counts, asked, reminds, flushes, Happens, finishes, stops, rolls_back}
use Rattle.history_cases.proofs.Entering.{Makes, by_event, by_flush, by_failure, by_restart, makes}
use Rattle.history_cases.proofs.Telling.{all_map}
use Rattle.history_laws.proofs.LogsLeftPass.SessionsOfferOwnKeys.{OffersBy}
use Rattle.history_laws.proofs.LogsLeftPass.WhatPassingRecordsAre.{Passes, passes_more, passes_front, rolled_pass, dropped_pass, op_leaves, closed_pass, opened_pass, restarts_pass, taken_back_pass}

-- a Prepare names a home that there is
abbrev pub Names : List ℕ → Message → Type 0
Names splits (Prepare to tx home seen) = home < shard_count splits
Names splits (VoteMessage to tx from vote) = ⊤
Names splits (Decide to tx home commit) = ⊤
Names splits (Done to tx from) = ⊤
Names splits (Ask to tx from) = ⊤

pub record Filed (splits : List ℕ) (s : Shard) : Type 0 where
  pub here : s.shard < shard_count splits
  pub log : Passes splits s.shard s.local.log
  pub out : AllByRecursion (Names splits) s.outbox
  pub requests : AllByRecursion (λ r. AreShards splits (r.1).touched) s.requests

-- ---- messages

filed_send : (splits : List ℕ) (s : Shard) (ms : List Message) → AllByRecursion (Names splits) ms → Filed splits s → Filed splits (send ms s)
filed_send splits s ms a p = record { here = p.here; log = p.log; out = all_append _ s.outbox ms p.out a; requests = p.requests }

-- ---- changes of log and requests

filed_log : (splits : List ℕ) (s : Shard) (l : Local) → Passes splits s.shard l.log → Filed splits s → Filed splits (record s { local = l })
filed_log splits s l a p = record { here = p.here; log = a; out = p.out; requests = p.requests }

filed_set : (splits : List ℕ) (s : Shard) (tx : TxId) (w : Request) → AreShards splits w.touched → Filed splits s → Filed splits (record s { requests = tx_set tx w s.requests })
filed_set splits s tx w a p = record { here = p.here; log = p.log; out = p.out; requests = rows_set (λ r. AreShards splits (r.1).touched) tx w s.requests a p.requests }

touched_of : (splits : List ℕ) (s : Shard) (tx : TxId) (q : Request) → tx_get tx s.requests ≡ Some q → Filed splits s → AreShards splits q.touched
touched_of splits s tx q g p = rows_get (λ r. AreShards splits (r.1).touched) tx q s.requests p.requests g

-- ---- rulings

shards_pass : (splits : List ℕ) (test other : ℕ → Bool) (ts : List (ℕ × ℕ)) → AreShards splits ts → AllByRecursion (λ p. p < shard_count splits) (filter test (filter other (map (λ t. t.0) ts)))
shards_pass splits test other [] a = tt
shards_pass splits test other (t ∷ ts) a = at (other t.0) (shards_pass splits test other ts a.1)
  where
    in_ : (b : Bool) → AllByRecursion (λ p. p < shard_count splits) (filter test (filter other (map (λ t. t.0) ts)))
        → AllByRecursion (λ p. p < shard_count splits) (cond b (t.0 ∷ filter test (filter other (map (λ t. t.0) ts))) (filter test (filter other (map (λ t. t.0) ts))))
    in_ true k = (a.0, k)
    in_ false k = k

    at : (b : Bool) → AllByRecursion (λ p. p < shard_count splits) (filter test (filter other (map (λ t. t.0) ts)))
        → AllByRecursion (λ p. p < shard_count splits) (filter test (cond b (t.0 ∷ filter other (map (λ t. t.0) ts)) (filter other (map (λ t. t.0) ts))))
    at true k = in_ (test t.0) k
    at false k = k

all_below : (splits : List ℕ) (ps : List ℕ) → AllByRecursion (λ p. p < shard_count splits) ps → list_all (λ p. nat_lt p (shard_count splits)) ps ≡ true
all_below splits [] a = refl
all_below splits (p ∷ ps) a = and_from _ (list_all (λ p. nat_lt p (shard_count splits)) ps) (lt-ltb p (shard_count splits) a.0) (all_below splits ps a.1)

-- the parts of a ruled COMMIT are touched shards
abbrev RulingNames : List ℕ → Option Ruling → Type 0
RulingNames splits None = Unit {0}
RulingNames splits (Some (CommitVerdict parts)) = AllByRecursion (λ p. p < shard_count splits) parts
RulingNames splits (Some Acknowledge) = Unit {0}
RulingNames splits (Some (AbortVerdict cause to)) = Unit {0}
RulingNames splits (Some EndVerdict) = Unit {0}

agreed_names : (splits : List ℕ) (f : PartFacts) (u : Bool) (ps : List ℕ) → AllByRecursion (λ p. p < shard_count splits) ps → RulingNames splits (agreed_ruling f u ps)
agreed_names splits f u (p ∷ ps) a = a
agreed_names splits f true [] a = tt
agreed_names splits f false [] a = at (has_durable_predecessors f)
  where
    at : (b : Bool) → RulingNames splits (cond b (Some Acknowledge) None)
    at true = tt
    at false = tt

refused_names : (splits : List ℕ) (shard : ℕ) (q : Request) (o : Option AbortCause) → RulingNames splits (refused_ruling shard q o)
refused_names splits shard q None = tt
refused_names splits shard q (Some c) = tt

end_names : (splits : List ℕ) (q : Request) (ps : List ℕ) → RulingNames splits (end_ruling q ps)
end_names splits q [] = tt
end_names splits q (p ∷ ps) = at _
  where
    at : (b : Bool) → RulingNames splits (cond b (Some EndVerdict) None)
    at true = tt
    at false = tt

undecided_names : (splits : List ℕ) (shard : ℕ) (tx : TxId) (q : Request) (f : PartFacts) (b : Bool) → AreShards splits q.touched → RulingNames splits (undecided_ruling shard tx q f b)
undecided_names splits shard tx q f true a = agreed_names splits f f.updates (yes_shards shard q) (shards_pass splits (λ p. is_yes_vote (vote_from p q.votes)) (λ p. not (p == shard)) q.touched a)
undecided_names splits shard tx q f false a = refused_names splits shard q (refusal tx q f)

ruling_names : (splits : List ℕ) (shard : ℕ) (tx : TxId) (q : Request) (f : PartFacts) (st : RequestState) → AreShards splits q.touched → RulingNames splits (ruling_in shard tx q f st)
ruling_names splits shard tx q f Undecided a = undecided_names splits shard tx q f (is_agreed shard q f) a
ruling_names splits shard tx q f (Committed parts) a = end_names splits q parts
ruling_names splits shard tx q f Finished a = tt
ruling_names splits shard tx q f (Refused c) a = tt

ruled_touched : (splits : List ℕ) (r : Ruling) (q : Request) → AreShards splits q.touched → AreShards splits (ruled_request r q).touched
ruled_touched splits (CommitVerdict parts) q a = a
ruled_touched splits Acknowledge q a = a
ruled_touched splits (AbortVerdict cause to) q a = a
ruled_touched splits EndVerdict q a = a

filed_ruling : (splits : List ℕ) (s : Shard) (tx : TxId) (r : Ruling) → RulingNames splits (Some r) → Filed splits s → Filed splits (do_ruling tx r s)
filed_ruling splits s tx (CommitVerdict parts) k p =
    filed_log splits s _ (passes_more splits s.shard s.local.log (Commit tx parts ∷ []) p.log (all_below splits parts k, tt)) p
filed_ruling splits s tx Acknowledge k p = record { here = p.here; log = p.log; out = p.out; requests = p.requests }
filed_ruling splits s tx (AbortVerdict cause to) k p =
    filed_send splits (with_local (roll_back tx) s) (map (λ n. Decide n tx s.shard false) to) (all_map _ (λ n. Decide n tx s.shard false) to (λ n. tt)) (filed_log splits s (roll_back tx s.local) (rolled_pass splits s.shard tx s.local p.log) p)
filed_ruling splits s tx EndVerdict k p = filed_log splits s _ (passes_more splits s.shard s.local.log (End tx ∷ []) p.log (refl, tt)) p

-- ---- what is due

commit_names : (splits : List ℕ) (s : Shard) (tx : TxId) (st : RequestState)
    → AllByRecursion (Names splits) (elim st [ Committed parts ↦ map (λ p. Decide p tx s.shard true) parts | Undecided ↦ [] | Finished ↦ [] | Refused cause ↦ [] ])
commit_names splits s tx Undecided = tt
commit_names splits s tx (Committed parts) = all_map _ (λ p. Decide p tx s.shard true) parts (λ p. tt)
commit_names splits s tx Finished = tt
commit_names splits s tx (Refused cause) = tt

done_names : (splits : List ℕ) (s : Shard) (tx : TxId) (o : Option Request) (v : Option Voter) → AllByRecursion (Names splits) (commit_messages s tx o v)
done_names splits s tx (Some q) v = commit_names splits s tx q.state
done_names splits s tx None (Some v) = (tt, tt)
done_names splits s tx None None = tt

filed_reader : (splits : List ℕ) (s : Shard) (tx : TxId) (vote : Vote) → Filed splits s → Filed splits (finish_reader tx vote s)
filed_reader splits s tx Yes p = p
filed_reader splits s tx Read p = record { here = p.here; log = p.log; out = p.out; requests = p.requests }
filed_reader splits s tx (No why) p = p

filed_due : (splits : List ℕ) → KeptByDue (Filed splits)
filed_due splits s _ (commits tx c d) p =
    record { here = p.here; log = p.log; out = all_append _ s.outbox (commit_messages s tx (tx_get tx s.requests) (tx_get tx s.voters)) p.out (done_names splits s tx (tx_get tx s.requests) (tx_get tx s.voters)); requests = p.requests }
filed_due splits s _ (votes tx v vote g e) p =
    filed_reader splits (with_vote s tx v vote) tx vote (record { here = p.here; log = p.log; out = all_append _ s.outbox (VoteMessage v.home tx s.shard vote ∷ []) p.out (tt, tt); requests = p.requests })
filed_due splits s _ (rules tx q r g e) p =
    let a = touched_of splits s tx q g p in
    filed_ruling splits (with_ruling tx q r s) tx r (subst (RulingNames splits) e (ruling_names splits s.shard tx q (facts_of s tx) q.state a)) (filed_set splits s tx (ruled_request r q) (ruled_touched splits r q a) p)

filed_finish : (splits : List ℕ) (s : Shard) → Filed splits s → Filed splits (finish s)
filed_finish splits s p = let q = settled (Filed splits) s (filed_due splits) p in record { here = q.here; log = q.log; out = q.out; requests = q.requests }

-- ---- reminders

each_names : (splits : List ℕ) (f : TxId → Request → List Message) (rs : Table Request) → AllByRecursion (λ r. AllByRecursion (Names splits) (f r.0 r.1)) rs → AllByRecursion (Names splits) (each_request f rs)
each_names splits f [] a = tt
each_names splits f (r ∷ rs) a = all_append _ (f r.0 r.1) _ a.0 (each_names splits f rs a.1)

missing_names : (splits : List ℕ) (shard : ℕ) (tx : TxId) (q : Request) (st : RequestState) → shard < shard_count splits → AllByRecursion (Names splits) (missing_votes shard tx q st)
missing_names splits shard tx q Undecided l = all_map _ (prepare_for shard tx) (filter (λ t. not (t.0 == shard) && not (is_some (vote_from t.0 q.votes))) q.touched) (λ t. l)
missing_names splits shard tx q (Committed parts) l = tt
missing_names splits shard tx q Finished l = tt
missing_names splits shard tx q (Refused c) l = tt

dones_names : (splits : List ℕ) (shard : ℕ) (tx : TxId) (q : Request) (st : RequestState) → AllByRecursion (Names splits) (missing_dones shard tx q st)
dones_names splits shard tx q Undecided = tt
dones_names splits shard tx q (Committed parts) = all_map _ (λ p. Decide p tx shard true) _ (λ p. tt)
dones_names splits shard tx q Finished = tt
dones_names splits shard tx q (Refused c) = tt

dones_if : (splits : List ℕ) (shard : ℕ) (tx : TxId) (q : Request) (b : Bool) → AllByRecursion (Names splits) (elim b [ true ↦ missing_dones shard tx q q.state | false ↦ [] ])
dones_if splits shard tx q true = dones_names splits shard tx q q.state
dones_if splits shard tx q false = tt

ask_names : (splits : List ℕ) (shard : ℕ) (tx : TxId) (o : Option Voter) → AllByRecursion (Names splits) (ask_by shard tx o)
ask_names splits shard tx None = tt
ask_names splits shard tx (Some v) = (tt, tt)

asks_names : (splits : List ℕ) (shard : ℕ) (voters : Table Voter) (txs : List TxId) → AllByRecursion (Names splits) (asks shard voters txs)
asks_names splits shard voters [] = tt
asks_names splits shard voters (tx ∷ txs) = all_append _ (ask_by shard tx (tx_get tx voters)) _ (ask_names splits shard tx (tx_get tx voters)) (asks_names splits shard voters txs)

reminders_name : (splits : List ℕ) (s : Shard) → Filed splits s → AllByRecursion (Names splits) (reminders s)
reminders_name splits s p =
    all_append _ (home_reminders s.shard s.requests (durable_requests s)) (asks s.shard s.voters (waiting_voters s))
    (all_append _ (each_request (λ tx q. missing_votes s.shard tx q q.state) s.requests) _
    (each_names splits (λ tx q. missing_votes s.shard tx q q.state) s.requests (all_of _ (λ r. missing_names splits s.shard r.0 r.1 (r.1).state p.here) s.requests))
    (each_names splits (λ tx q. elim (tx_in tx (durable_requests s)) [ true ↦ missing_dones s.shard tx q q.state | false ↦ [] ]) s.requests
    (all_of _ (λ r. dones_if splits s.shard r.0 r.1 (tx_in r.0 (durable_requests s))) s.requests)))
    (asks_names splits s.shard s.voters (waiting_voters s))

-- ---- each step

-- a message that comes names what was
abbrev pub BringsNames : List ℕ → Event → Type 0
BringsNames splits (Deliver m stamp) = Names splits m
BringsNames splits _ = ⊤

answer_names : (splits : List ℕ) (s : Shard) (tx : TxId) (from : ℕ) (o : Option Bool) → AllByRecursion (Names splits) (ask_messages s tx from o)
answer_names splits s tx from None = tt
answer_names splits s tx from (Some b) = (tt, tt)

filed_coordinate : (splits : List ℕ) (s : Shard) (tx : TxId) (ts : List (ℕ × ℕ)) → AreShards splits ts → Filed splits s → Filed splits (coordinate tx ts s)
filed_coordinate splits s tx ts a p = record {
  here = p.here;
  log = p.log;
  out = all_append _ s.outbox (prepares s.shard tx ts) p.out (all_map _ (prepare_for s.shard tx) (filter (λ t. not (t.0 == s.shard)) ts) (λ t. p.here));
  requests = rows_put (λ r. AreShards splits (r.1).touched) tx (new_request ts Undecided) s.requests a p.requests;
}

filed_close : (splits : List ℕ) (s : Shard) (tx : TxId) (home : ℕ) (one : Bool) → home < shard_count splits → Filed splits s → Filed splits (with_local (close_part tx home one) s)
filed_close splits s tx home one l p = filed_log splits s (close_part tx home one s.local) (closed_pass splits s.shard s.local.log (has_standing s.local.log tx) one tx home (undecided_of s.local tx) l p.log) p

filed_decided : (splits : List ℕ) (s : Shard) (tx : TxId) (commit : Bool) → Filed splits s → Filed splits (decided s tx commit)
filed_decided splits s tx true p = filed_log splits s _ (passes_more splits s.shard s.local.log (Commit tx [] ∷ []) p.log (refl, tt)) p
filed_decided splits s tx false p = filed_log splits s _ (rolled_pass splits s.shard tx s.local p.log) p

filed_step : (splits : List ℕ) (s t : Shard) {e : Event} {o : Outcome} → Step s e o t → OffersBy splits s.shard e o → BringsNames splits e → Filed splits s → Filed splits t
filed_step splits s t (op_dies tx birth nth seen op cause l g) k b p = filed_log splits s l (op_leaves splits s.shard s.shard s.local tx birth seen op _ g p.log) p
filed_step splits s t (op_answers tx birth nth seen op answer l g) k b p = filed_log splits s l (op_leaves splits s.shard s.shard s.local tx birth seen op _ g p.log k) p
filed_step splits s t (rolls_back tx nth seen upto f g) k b p =
    let n = count_after upto (standing_numbers tx s.journal) in filed_log splits s (roll_to tx n s.local) (taken_back_pass splits s.shard tx n s.local p.log) p
filed_step splits s t (request_new tx ts f g) k b p = filed_coordinate splits s tx ts k p
filed_step splits s t (request_closes tx ts f g) k b p =
    filed_coordinate splits (with_local (close_part tx s.shard (is_alone (others s.shard ts))) s) tx ts k (filed_close splits s tx s.shard (is_alone (others s.shard ts)) p.here p)
filed_step splits s t (drops tx stage g) k b p = filed_log splits s _ (dropped_pass splits s.shard tx s.local p.log) p
filed_step splits s t (sends m ms g) k b p = record { here = p.here; log = p.log; out = (subst (AllByRecursion (Names splits)) g p.out).1; requests = p.requests }
filed_step splits s t (prepare_closes tx home seen stamp g) k b p =
    let q = filed_close splits s tx home false b p in record { here = q.here; log = q.log; out = q.out; requests = q.requests }
filed_step splits s t (prepare_again tx home seen stamp g) k b p = record { here = p.here; log = p.log; out = p.out; requests = p.requests }
filed_step splits s t (vote_counts tx from vote stamp q g c) k b p = filed_set splits s tx (with_vote_of from vote q) (touched_of splits s tx q g p) p
filed_step splits s t (decision_comes tx home commit stamp g) k b p = filed_decided splits s tx commit p
filed_step splits s t (decision_again tx home commit stamp g) k b p = filed_send splits s _ (tt, tt) p
filed_step splits s t (done_counts tx from stamp q g c) k b p = filed_set splits s tx (with_done_of from q) (touched_of splits s tx q g p) p
filed_step splits s t (asked tx from stamp) k b p = filed_send splits s _ (answer_names splits s tx from (ask_answer (tx_get tx s.requests) (facts_of s tx))) p
filed_step splits s t (reminds m ms g c) k b p = filed_send splits s (m ∷ ms) (subst (AllByRecursion (Names splits)) c (reminders_name splits s p)) p
filed_step splits s t (flushes n g c) k b p = record { here = p.here; log = p.log; out = p.out; requests = p.requests }
filed_step splits s t _ k b p = p

-- ---- each entry

filed_happens : (splits : List ℕ) (s t : Shard) {e : Event} {o : Outcome} → Happens s e o t → OffersBy splits s.shard e o → BringsNames splits e → Filed splits s → Filed splits t
filed_happens splits s _ (finishes {t = t} u g) k b p = filed_finish splits t (filed_step splits s t g k b p)
filed_happens splits s _ (stops u) k b p = record { here = p.here; log = p.log; out = p.out; requests = p.requests }

filed_revived : (splits : List ℕ) (s : Shard) (kept : Bool) (epoch : ℕ) (after : List LogRecord) → Restarts s (log_left s kept) epoch after → Filed splits s → Filed splits (revived s epoch after)
filed_revived splits s kept epoch after r p = record {
  here = p.here;
  log = restarts_pass splits s.shard s (log_left s kept) epoch after r (passes_front splits s.shard _ s.local.log p.log);
  out = tt;
  requests = all_map _ (λ n. (n.0, restored_request n.1)) (unended_in after after) (λ n. tt);
}

filed_made : (splits : List ℕ) (log : List LogRecord) (s t : Shard) {e : Event} {o : Outcome} → Makes log s e o t → OffersBy splits s.shard e o → BringsNames splits e → Filed splits s → Filed splits t
filed_made splits log s t (by_event g m) k b p = filed_happens splits s t m k b p
filed_made splits log s _ (by_flush n u f) k b p = filed_finish splits _ (record { here = p.here; log = p.log; out = p.out; requests = p.requests })
filed_made splits log s _ (by_failure n u f) k b p = record { here = p.here; log = p.log; out = p.out; requests = p.requests }
filed_made splits log s _ (by_restart epoch kept u r) k b p = filed_revived splits s kept epoch (up_to_restart s.run epoch log) r p

pub filed_entry : (splits : List ℕ) (log : List LogRecord) (s : Shard) (x : Entry) → MayEnter log s x → OffersBy splits s.shard x.event x.outcome → BringsNames splits x.event → Filed splits s → Filed splits (after_entry log s x)
filed_entry splits log s x m k b p =
    let q = filed_made splits log s (event_state log s x.event x.outcome) (makes log s x.event x.outcome m.event) k b p in record { here = q.here; log = q.log; out = q.out; requests = q.requests }

-- ---- what an entry sends

abbrev pub SendsNames : List ℕ → Outcome → Type 0
SendsNames splits (Sent m) = Names splits m
SendsNames splits _ = ⊤

sends_step : (splits : List ℕ) (s t : Shard) {e : Event} {o : Outcome} → Step s e o t → Filed splits s → SendsNames splits o
sends_step splits s t (sends m ms g) p = (subst (AllByRecursion (Names splits)) g p.out).0
sends_step splits s t _ p = tt

sends_happens : (splits : List ℕ) (s t : Shard) {e : Event} {o : Outcome} → Happens s e o t → Filed splits s → SendsNames splits o
sends_happens splits s _ (finishes {t = t} u g) p = sends_step splits s t g p
sends_happens splits s _ (stops u) p = tt

sends_made : (splits : List ℕ) (log : List LogRecord) (s t : Shard) {e : Event} {o : Outcome} → Makes log s e o t → Filed splits s → SendsNames splits o
sends_made splits log s t (by_event g m) p = sends_happens splits s t m p
sends_made splits log s _ (by_flush n u f) p = tt
sends_made splits log s _ (by_failure n u f) p = tt
sends_made splits log s _ (by_restart epoch kept u r) p = tt

pub sends_entry : (splits : List ℕ) (log : List LogRecord) (s : Shard) (x : Entry) → MayEnter log s x → Filed splits s → SendsNames splits x.outcome
sends_entry splits log s x m p = sends_made splits log s (event_state log s x.event x.outcome) (makes log s x.event x.outcome m.event) p

-- ---- a shard that opened

pub filed_opened : (splits : List ℕ) (shard run : ℕ) (log : List LogRecord) → shard < shard_count splits → Passes splits shard log → Filed splits (opened shard run log)
filed_opened splits shard run log l p =
    record { here = l; log = opened_pass splits shard shard log run 0 p; out = tt; requests = all_map _ (λ n. (n.0, restored_request n.1)) _ (λ n. tt) }
