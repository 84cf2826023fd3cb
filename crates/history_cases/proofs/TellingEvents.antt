-- Each entry of a history keeps what shards know, and what it tells tells what was.
use Rattle.std.proofs.Common.{◌≡◌, ◌⊎◌, inl, inr, refl, subst, ℕ, zero, suc, ◌<◌, ◌≤◌, true, false, cond, Bool, List, [], ◌∷◌, ◌++◌, Option, Some, None, is_some, not, ◌&&◌, ◌==◌, arith}
use Rattle.std.specs.List.{AllByRecursion, filter}
use Rattle.std.specs.Prelude.{⊤}
use Rattle.std.specs.Map.{keys_of}
use Rattle.std.proofs.lemmas.Bool.{both_ways, or_left, or_right, or_cases}
use Rattle.clv_base.specs.declared.names.TxId.{TxId}
use Rattle.clv_base.specs.declared.logs.LogRecord.{LogRecord}
use Rattle.clv_base.specs.declared.logs.LogRecord.TheVariants.{Prepare as PrepareRecord}
use Rattle.clv_base.specs.declared.causes.Vote.{Vote}
use Rattle.clv_base.specs.declared.messages.Message.{Message}
use Rattle.clv_base.specs.declared.messages.Message.TheVariants.{Prepare, Decide, Done}
use Rattle.clv_base.specs.declared.state.Voter.{Voter}
use Rattle.clv_base.specs.declared.state.Request.{Request}
use Rattle.clv_base.specs.declared.state.RequestState.{RequestState}
use Rattle.clv_base.specs.declared.state.RequestState.TheVariants.{Undecided, Committed, Finished, Refused}
use Rattle.clv_base.specs.declared.parts.PartFacts.{PartFacts}
use Rattle.clv_base.specs.declared.events.Event.{Event}
use Rattle.clv_base.specs.declared.events.Event.TheVariants.{Request as RequestEvent, Look, Deliver}
use Rattle.clv_base.specs.declared.events.Outcome.{Outcome}
use Rattle.clv_base.specs.declared.events.Outcome.TheVariants.{Asked, Acknowledged, Sent, Taken}
use Rattle.clv_base.specs.declared.events.Entry.{Entry}
use Rattle.clv_base.specs.Orders.{Table, tx_in, tx_get, tx_set, nat_in}
use Rattle.std.specs.Prelude.{take}
use Rattle.clv_base.specs.Logs.{committed_in, is_commit_of, has_standing}
use Rattle.clv_base.specs.State.{Shard, Local, with_local}
use Rattle.clv_base.specs.Undo.{roll_back, roll_to}
use Rattle.clv_base.specs.Backs.{standing_numbers, count_after}
use Rattle.clv_base.specs.Facts.{facts_of, has_durable_commit, undecided_of}
use Rattle.clv_base.specs.Participant.{asked_voter, ask_by, asks, restored_voter}
use Rattle.clv_base.specs.Coordinator.{new_request, others, vote_from, counts_vote, with_vote_of, with_done_of, ask_answer, prepare_for, prepares, missing_votes, missing_dones, each_request, home_reminders, restored_request}
use Rattle.clv_base.specs.OneShard.{closing, close_part, drop_part}
use Rattle.clv_base.specs.Events.{is_alone, coordinate, owe_vote, decided, ask_messages, with_outbox, durable_requests, waiting_voters, reminders, with_durable, message_stamp}
use Rattle.clv_base.specs.Restarts.{log_left, revived, opened, unended_in, Restarts}
use Rattle.clv_base.specs.Journals.{History, after_entry, event_state, up_to_restart, MayEnter}
use Rattle.law_base.proofs.Rows.{rows_get, rows_put}
use Rattle.law_base.proofs.Sets.{in_filter}
use Rattle.law_base.proofs.Lists.{all_mono, all_append, all_of}
use Rattle.history_cases.proofs.Stepping.{Step, op_dies, op_answers, rolls_back, request_new, request_closes, looks_well, drops, sends, prepare_closes, prepare_again, vote_counts, decision_comes, decision_again, done_counts, asked, reminds, flushes, Happens, finishes, stops, FindsWell}
use Rattle.history_cases.proofs.Entering.{Makes, by_event, by_flush, by_failure, by_restart, makes}
use Rattle.history_cases.proofs.Merging.{Among}
use Rattle.history_cases.proofs.Uncommitting.{NoMoreCommits, with_more, rolled, gone_back, dropped, op_dying, op_answering, restarts_add, opening_adds}
use Rattle.history_cases.proofs.Telling.{RequestedBelow, AskedAfter, Voted, Tells, tells_later, VoterIs, RequestIs, Told, all_map, told_send, request_set, votes_put, commit_more, durable_voted, told_finish}

-- ---- with a later bound

request_later : (h : History) (shard run a b : ℕ) (tx : TxId) (q : Request) (st : RequestState) → a ≤ b → RequestIs h shard run a tx q st → RequestIs h shard run b tx q st
request_later h shard run a b tx q Undecided l ((r, i, k, m), v) = ((r, i, k, omega arith), v)
request_later h shard run a b tx q (Committed parts) l r = tt
request_later h shard run a b tx q Finished l r = r
request_later h shard run a b tx q (Refused c) l r = tt

told_later : (h : History) (run a b : ℕ) (s : Shard) → a ≤ b → Told h run a s → Told h run b s
told_later h run a b s l p =
    record {
      out = all_mono (Tells h run a) (Tells h run b) (λ m. tells_later h run a b m l) s.outbox p.out;
      voters = p.voters;
      requests = all_mono (λ r. RequestIs h s.shard run a r.0 r.1 (r.1).state) (λ r. RequestIs h s.shard run b r.0 r.1 (r.1).state) (λ r. request_later h s.shard run a b r.0 r.1 (r.1).state l) s.requests p.requests;
      log = p.log;
    }

-- ---- one step

-- the entry, which stands in the history
pub record Here (h : History) (s : Shard) (x : Entry) (e : Event) (o : Outcome) : Type 0 where
  pub among : Among (s.shard, x) h
  pub event : x.event ≡ e
  pub outcome : x.outcome ≡ o
  pub later : s.last < x.stamp
  pub above : message_stamp e < x.stamp

-- a message that comes tells what was
abbrev pub Brings : History → ℕ → Event → Type 0
Brings h run (Deliver m stamp) = Tells h run stamp m
Brings h run _ = ⊤

here_below : (h : History) (s : Shard) (x : Entry) (tx : TxId) (ts : List (ℕ × ℕ)) → Here h s x (RequestEvent tx ts) Asked → RequestedBelow h tx (suc x.stamp)
here_below h s x tx ts k = ((s.shard, x), ts, k.among, (k.event, k.outcome), omega arith)

told_coordinate : (h : History) (run : ℕ) (s : Shard) (x : Entry) (tx : TxId) (ts : List (ℕ × ℕ)) → Here h s x (RequestEvent tx ts) Asked → Told h run (suc x.stamp) s → Told h run (suc x.stamp) (coordinate tx ts s)
told_coordinate h run s x tx ts k p =
    record {
      out = all_append _ s.outbox (prepares s.shard tx ts) p.out (all_map _ (prepare_for s.shard tx) (filter (λ t. not (t.0 == s.shard)) ts) (λ t. here_below h s x tx ts k));
      voters = p.voters;
      requests = rows_put (λ r. RequestIs h s.shard run (suc x.stamp) r.0 r.1 (r.1).state) tx (new_request ts Undecided) s.requests
          ((x, k.among, (k.event, k.outcome), omega arith), tt) p.requests;
      log = p.log;
    }

-- closing writes a COMMIT only of a transaction of this shard alone
close_log : (h : History) (run : ℕ) (log : List LogRecord) (tx : TxId) (home : ℕ) (b one : Bool) (us : List TxId) → (one ≡ true → Voted h tx) → ((u : TxId) → committed_in log u ≡ true → u.run ≡ run → Voted h u)
    → (u : TxId) → committed_in (log ++ closing b one tx home us) u ≡ true → u.run ≡ run → Voted h u
close_log h run log tx home false one us k p u c = p u (with_more log [] tt u c)
close_log h run log tx home true true [] k p u c = commit_more h run log tx [] (λ r. k refl) p u c
close_log h run log tx home true true (v ∷ vs) k p u c = p u (with_more log (PrepareRecord tx home (v ∷ vs) ∷ []) ((λ t. refl), tt) u c)
close_log h run log tx home true false us k p u c = p u (with_more log (PrepareRecord tx home us ∷ []) ((λ t. refl), tt) u c)

told_close : (h : History) (run bound : ℕ) (s : Shard) (tx : TxId) (home : ℕ) (one : Bool) → (one ≡ true → Voted h tx) → Told h run bound s → Told h run bound (with_local (close_part tx home one) s)
told_close h run bound s tx home one k p =
    record { out = p.out; voters = p.voters; requests = p.requests; log = close_log h run s.local.log tx home (has_standing s.local.log tx) one (undecided_of s.local tx) k p.log }

alone_voted : (h : History) (s : Shard) (x : Entry) (tx : TxId) (ts : List (ℕ × ℕ)) (os : List ℕ) → others s.shard ts ≡ os → Here h s x (RequestEvent tx ts) Asked → is_alone os ≡ true → Voted h tx
alone_voted h s x tx ts [] e k a = ((s.shard, x), ts, k.among, (k.event, k.outcome), (λ m i. absurd (both_ways false refl (subst (λ z. nat_in m z ≡ true) e i))))
alone_voted h s x tx ts (o ∷ os) e k a = absurd (both_ways false refl a)

told_owe : (h : History) (run bound : ℕ) (s : Shard) (tx : TxId) (home seen : ℕ) → AskedAfter h tx s.shard → Told h run bound s → Told h run bound (owe_vote tx home seen s)
told_owe h run bound s tx home seen a p =
    record {
      out = p.out;
      voters = rows_put (λ r. VoterIs h s.shard r.0 r.1) tx (asked_voter home seen (tx_get tx s.voters)) s.voters (inr a) p.voters;
      requests = p.requests;
      log = p.log;
    }

-- who is asked now was asked after the request
asked_now : (h : History) (run : ℕ) (s : Shard) (x : Entry) (tx : TxId) (home seen stamp : ℕ) → Here h s x (Deliver (Prepare s.shard tx home seen) stamp) Taken → RequestedBelow h tx stamp → AskedAfter h tx s.shard
asked_now h run s x tx home seen stamp k (r, ts, i, q, l) = (r, ts, x, i, q, k.among, (let a = k.above in omega (arith, a, l)))

-- a vote that counts is of a shard that was asked, for a request that is undecided
counted : (h : History) (run bound : ℕ) (s : Shard) (tx : TxId) (from : ℕ) (vote : Vote) (q : Request) (st : RequestState) → counts_vote s.shard from q st ≡ true → AskedAfter h tx from
    → RequestIs h s.shard run bound tx q st → RequestIs h s.shard run bound tx (with_vote_of from vote q) st
counted h run bound s tx from vote q Undecided c a (r, v) = (r, votes_put h tx q.votes from vote a v)
counted h run bound s tx from vote q (Committed parts) c a r = absurd (both_ways false refl c)
counted h run bound s tx from vote q Finished c a r = absurd (both_ways false refl c)
counted h run bound s tx from vote q (Refused cause) c a r = absurd (both_ways false refl c)

same_done : (h : History) (shard run bound from : ℕ) (tx : TxId) (q : Request) (st : RequestState) → RequestIs h shard run bound tx q st → RequestIs h shard run bound tx (with_done_of from q) st
same_done h shard run bound from tx q Undecided r = r
same_done h shard run bound from tx q (Committed parts) r = r
same_done h shard run bound from tx q Finished r = r
same_done h shard run bound from tx q (Refused c) r = r

told_set : (h : History) (run bound : ℕ) (s : Shard) (tx : TxId) (w : Request) → RequestIs h s.shard run bound tx w w.state → Told h run bound s → Told h run bound (record s { requests = tx_set tx w s.requests })
told_set h run bound s tx w k p = record { out = p.out; voters = p.voters; requests = request_set h run bound s tx w k p; log = p.log }

request_got : (h : History) (run bound : ℕ) (s : Shard) (tx : TxId) (q : Request) → tx_get tx s.requests ≡ Some q → Told h run bound s → RequestIs h s.shard run bound tx q q.state
request_got h run bound s tx q g p = rows_get (λ x. RequestIs h s.shard run bound x.0 x.1 (x.1).state) tx q s.requests p.requests g

-- an answer to a question tells of a commit only where that is durable
answer_told : (h : History) (run bound : ℕ) (s : Shard) (tx : TxId) (from : ℕ) (o : Option Request) (f : PartFacts) (b c : Bool) → has_durable_commit f ≡ b → (has_durable_commit f ≡ true → tx.run ≡ run → Voted h tx)
    → AllByRecursion (Tells h run bound) (ask_messages s tx from (cond b (Some true) (cond c None (Some false))))
answer_told h run bound s tx from o f true c e k = ((λ r. k e r), tt)
answer_told h run bound s tx from o f false true e k = tt
answer_told h run bound s tx from o f false false e k = (tt, tt)

-- ---- reminders

each_told : (h : History) (run bound : ℕ) (f : TxId → Request → List Message) (rs : Table Request) → AllByRecursion (λ r. AllByRecursion (Tells h run bound) (f r.0 r.1)) rs → AllByRecursion (Tells h run bound) (each_request f rs)
each_told h run bound f [] a = tt
each_told h run bound f (r ∷ rs) a = all_append _ (f r.0 r.1) _ a.0 (each_told h run bound f rs a.1)

missing_told : (h : History) (shard run bound : ℕ) (tx : TxId) (q : Request) (st : RequestState) → RequestIs h shard run bound tx q st → AllByRecursion (Tells h run bound) (missing_votes shard tx q st)
missing_told h shard run bound tx q Undecided ((r, i, k, l), v) =
    all_map _ (prepare_for shard tx) (filter (λ t. not (t.0 == shard) && not (is_some (vote_from t.0 q.votes))) q.touched) (λ t. ((shard, r), q.touched, i, k, l))
missing_told h shard run bound tx q (Committed parts) r = tt
missing_told h shard run bound tx q Finished r = tt
missing_told h shard run bound tx q (Refused c) r = tt

dones_told : (h : History) (shard run bound : ℕ) (tx : TxId) (q : Request) (st : RequestState) → (tx.run ≡ run → Voted h tx) → AllByRecursion (Tells h run bound) (missing_dones shard tx q st)
dones_told h shard run bound tx q Undecided k = tt
dones_told h shard run bound tx q (Committed parts) k = all_map _ (λ p. Decide p tx shard true) (filter (λ p. not (nat_in p q.acknowledged_by)) parts) (λ p. k)
dones_told h shard run bound tx q Finished k = tt
dones_told h shard run bound tx q (Refused c) k = tt

dones_if : (h : History) (shard run bound : ℕ) (tx : TxId) (q : Request) (b : Bool) → (b ≡ true → tx.run ≡ run → Voted h tx)
    → AllByRecursion (Tells h run bound) (elim b [ true ↦ missing_dones shard tx q q.state | false ↦ [] ])
dones_if h shard run bound tx q true k = dones_told h shard run bound tx q q.state (k refl)
dones_if h shard run bound tx q false k = tt

ask_told : (h : History) (run bound shard : ℕ) (tx : TxId) (o : Option Voter) → AllByRecursion (Tells h run bound) (ask_by shard tx o)
ask_told h run bound shard tx None = tt
ask_told h run bound shard tx (Some v) = (tt, tt)

asks_told : (h : History) (run bound shard : ℕ) (voters : Table Voter) (txs : List TxId) → AllByRecursion (Tells h run bound) (asks shard voters txs)
asks_told h run bound shard voters [] = tt
asks_told h run bound shard voters (tx ∷ txs) = all_append _ (ask_by shard tx (tx_get tx voters)) _ (ask_told h run bound shard tx (tx_get tx voters)) (asks_told h run bound shard voters txs)

pub reminders_told : (h : History) (run bound : ℕ) (s : Shard) → Told h run bound s → AllByRecursion (Tells h run bound) (reminders s)
reminders_told h run bound s p =
    all_append _ (home_reminders s.shard s.requests (durable_requests s)) (asks s.shard s.voters (waiting_voters s))
    (all_append _ (each_request (λ tx q. missing_votes s.shard tx q q.state) s.requests) _
    (each_told h run bound (λ tx q. missing_votes s.shard tx q q.state) s.requests
    (all_mono (λ r. RequestIs h s.shard run bound r.0 r.1 (r.1).state) _ (λ r. missing_told h s.shard run bound r.0 r.1 (r.1).state) s.requests p.requests))
    (each_told h run bound (λ tx q. elim (tx_in tx (durable_requests s)) [ true ↦ missing_dones s.shard tx q q.state | false ↦ [] ]) s.requests
    (all_of _
    (λ r. dones_if h s.shard run bound r.0 r.1 (tx_in r.0 (durable_requests s))
    (λ i. durable_voted h run bound s r.0 (in_filter (λ tx. has_durable_commit (facts_of s tx)) r.0 (keys_of s.requests) i).1 p))
    s.requests)))
    (asks_told h run bound s.shard s.voters (waiting_voters s))

-- ---- each step

told_log : (h : History) (run bound : ℕ) (s : Shard) (l : Local) → NoMoreCommits s.local.log l.log → Told h run bound s → Told h run bound (record s { local = l })
told_log h run bound s l k p = record { out = p.out; voters = p.voters; requests = p.requests; log = λ u c. p.log u (k u c) }

told_decided : (h : History) (run bound : ℕ) (s : Shard) (tx : TxId) (commit : Bool) (home : ℕ) → Tells h run bound (Decide s.shard tx home commit) → Told h run bound s → Told h run bound (decided s tx commit)
told_decided h run bound s tx true home k p = record { out = p.out; voters = p.voters; requests = p.requests; log = commit_more h run s.local.log tx [] k p.log }
told_decided h run bound s tx false home k p = told_log h run bound s (roll_back tx s.local) (rolled tx s.local) p

told_outbox : (h : History) (run bound : ℕ) (s : Shard) (m : Message) (ms : List Message) → s.outbox ≡ m ∷ ms → Told h run bound s → Told h run bound (with_outbox ms s)
told_outbox h run bound s m ms e p = record { out = (subst (AllByRecursion (Tells h run bound)) e p.out).1; voters = p.voters; requests = p.requests; log = p.log }

pub told_step : (h : History) (run : ℕ) (s t : Shard) (x : Entry) {e : Event} {o : Outcome} → Step s e o t → Here h s x e o → Brings h run e → Told h run (suc x.stamp) s → Told h run (suc x.stamp) t
told_step h run s t x (op_dies tx birth nth seen op cause l g) k b p = told_log h run _ s l (op_dying s.shard s.local l tx birth seen op cause g) p
told_step h run s t x (op_answers tx birth nth seen op answer l g) k b p = told_log h run _ s l (op_answering s.shard s.local l tx birth seen op answer g) p
told_step h run s t x (rolls_back tx nth seen upto f g) k b p =
    let n = count_after upto (standing_numbers tx s.journal) in told_log h run _ s (roll_to tx n s.local) (gone_back tx n s.local) p
told_step h run s t x (request_new tx ts f0 g) k b p = told_coordinate h run s x tx ts k p
told_step h run s t x (request_closes tx ts f0 g) k b p =
    let u = with_local (close_part tx s.shard (is_alone (others s.shard ts))) s in
    told_coordinate h run u x tx ts (record { among = k.among; event = k.event; outcome = k.outcome; later = k.later; above = k.above })
    (told_close h run (suc x.stamp) s tx s.shard (is_alone (others s.shard ts)) (alone_voted h s x tx ts (others s.shard ts) refl k) p)
told_step h run s t x (drops tx stage g) k b p = told_log h run _ s (drop_part tx s.local) (dropped tx s.local) p
told_step h run s t x (sends m ms g) k b p = told_outbox h run _ s m ms g p
told_step h run s t x (prepare_closes tx home seen stamp g) k b p =
    told_owe h run (suc x.stamp) (with_local (close_part tx home false) s) tx home seen (asked_now h run s x tx home seen stamp k b)
    (told_close h run (suc x.stamp) s tx home false (λ f. absurd (both_ways false refl f)) p)
told_step h run s t x (prepare_again tx home seen stamp g) k b p = told_owe h run (suc x.stamp) s tx home seen (asked_now h run s x tx home seen stamp k b) p
told_step h run s t x (vote_counts tx from vote stamp q g c) k b p =
    told_set h run (suc x.stamp) s tx (with_vote_of from vote q) (counted h run (suc x.stamp) s tx from vote q q.state c b (request_got h run (suc x.stamp) s tx q g p)) p
told_step h run s t x (decision_comes tx home commit stamp g) k b p = told_decided h run (suc x.stamp) s tx commit home (decision_told commit b) p
  where
    decision_told : (c : Bool) → Tells h run stamp (Decide s.shard tx home c) → Tells h run (suc x.stamp) (Decide s.shard tx home c)
    decision_told true z = z
    decision_told false z = tt
told_step h run s t x (decision_again tx home commit stamp g) k b p = told_send h run (suc x.stamp) s (Done home tx s.shard ∷ []) (tt, tt) p
told_step h run s t x (done_counts tx from stamp q g c) k b p =
    told_set h run (suc x.stamp) s tx (with_done_of from q) (same_done h s.shard run (suc x.stamp) from tx q q.state (request_got h run (suc x.stamp) s tx q g p)) p
told_step h run s t x (asked tx from stamp) k b p =
    told_send h run (suc x.stamp) s (ask_messages s tx from (ask_answer (tx_get tx s.requests) (facts_of s tx)))
    (answer_told h run (suc x.stamp) s tx from (tx_get tx s.requests) (facts_of s tx) (has_durable_commit (facts_of s tx)) _ refl (λ d. durable_voted h run (suc x.stamp) s tx d p)) p
told_step h run s t x (reminds m ms g c) k b p = told_send h run (suc x.stamp) s (m ∷ ms) (subst (AllByRecursion (Tells h run (suc x.stamp))) c (reminders_told h run (suc x.stamp) s p)) p
told_step h run s t x (flushes n g c) k b p = record { out = p.out; voters = p.voters; requests = p.requests; log = p.log }
told_step h run s t x _ k b p = p

-- ---- each entry

told_happens : (h : History) (run : ℕ) (s t : Shard) (x : Entry) {e : Event} {o : Outcome} → Happens s e o t → Here h s x e o → Brings h run e → Told h run (suc x.stamp) s → Told h run (suc x.stamp) t
told_happens h run s _ x (finishes {t = t} u g) k b p = told_finish h run (suc x.stamp) t (told_step h run s t x g k b p)
told_happens h run s _ x (stops u) k b p = record { out = p.out; voters = p.voters; requests = p.requests; log = p.log }

front_case : (r : LogRecord) (rs qs : List LogRecord) (t : TxId) → (committed_in qs t ≡ true → committed_in rs t ≡ true) → (is_commit_of t r ≡ true) ⊎ (committed_in qs t ≡ true) → committed_in (r ∷ rs) t ≡ true
front_case r rs qs t k (inl a) = or_left _ _ a
front_case r rs qs t k (inr a) = or_right (is_commit_of t r) _ (k a)

pub front_committed : (n : ℕ) (log : List LogRecord) → NoMoreCommits log (take n log)
front_committed zero log t c = absurd (both_ways false refl c)
front_committed (suc n) [] t c = c
front_committed (suc n) (r ∷ rs) t c = front_case r rs (take n rs) t (front_committed n rs t) (or_cases (is_commit_of t r) (committed_in (take n rs) t) c)

told_revived : (h : History) (run bound : ℕ) (s : Shard) (kept : Bool) (epoch : ℕ) (after : List LogRecord) → Restarts s (log_left s kept) epoch after → Told h run bound s → Told h run bound (revived s epoch after)
told_revived h run bound s kept epoch after r p =
    record {
      out = tt;
      voters = all_map _ (λ n. (n.0, restored_voter n.1)) _ (λ n. inl (refl, refl));
      requests = all_map _ (λ n. (n.0, restored_request n.1)) (unended_in after after) (λ n. tt);
      log = λ u c. p.log u (front_committed _ s.local.log u (restarts_add s (log_left s kept) epoch after r u c));
    }

told_made : (h : History) (run : ℕ) (log : List LogRecord) (s t : Shard) (x : Entry) {e : Event} {o : Outcome} → Makes log s e o t → Here h s x e o → Brings h run e → Told h run (suc x.stamp) s → Told h run (suc x.stamp) t
told_made h run log s t x (by_event g m) k b p = told_happens h run s t x m k b p
told_made h run log s _ x (by_flush n u f) k b p = told_finish h run (suc x.stamp) (with_durable n s) (record { out = p.out; voters = p.voters; requests = p.requests; log = p.log })
told_made h run log s _ x (by_failure n u f) k b p = record { out = p.out; voters = p.voters; requests = p.requests; log = p.log }
told_made h run log s _ x (by_restart epoch kept u r) k b p = told_revived h run (suc x.stamp) s kept epoch (up_to_restart s.run epoch log) r p

pub told_entry : (h : History) (run : ℕ) (log : List LogRecord) (s : Shard) (x : Entry) → Among (s.shard, x) h → MayEnter log s x → Brings h run x.event → Told h run (suc s.last) s
    → Told h run (suc x.stamp) (after_entry log s x)
told_entry h run log s x i m b p =
    let q = told_made h run log s (event_state log s x.event x.outcome) x (makes log s x.event x.outcome m.event) (record { among = i; event = refl; outcome = refl; later = m.rises; above = m.above_message }) b
    (told_later h run (suc s.last) (suc x.stamp) s (let r = m.rises in omega (arith, r)) p) in
    record { out = q.out; voters = q.voters; requests = q.requests; log = q.log }

-- ---- what an entry tells

-- a message sent tells what was, and an acknowledgement comes of the votes of all
abbrev pub SaysOut : History → ℕ → ℕ → Outcome → Type 0
SaysOut h run bound (Sent m) = Tells h run bound m
SaysOut h run bound _ = ⊤

abbrev pub SaysWell : History → ℕ → Event → Outcome → Type 0
SaysWell h run (Look tx) Acknowledged = tx.run ≡ run → Voted h tx
SaysWell h run _ _ = ⊤

pub record Says (h : History) (run bound : ℕ) (e : Event) (o : Outcome) : Type 0 where
  pub out : SaysOut h run bound o
  pub well : SaysWell h run e o

finds_voted : (h : History) (run bound : ℕ) (s : Shard) (tx : TxId) → FindsWell s tx → Told h run bound s → tx.run ≡ run → Voted h tx
finds_voted h run bound s tx (inl d) p r = durable_voted h run bound s tx d p r
finds_voted h run bound s tx (inr (q, g, f)) p r = subst (λ z. RequestIs h s.shard run bound tx q z) f (request_got h run bound s tx q g p)

says_step : (h : History) (run bound : ℕ) (s t : Shard) {e : Event} {o : Outcome} → Step s e o t → Told h run bound s → Says h run bound e o
says_step h run bound s t (sends m ms g) p = record { out = (subst (AllByRecursion (Tells h run bound)) g p.out).0; well = tt }
says_step h run bound s t (looks_well tx g) p = record { out = tt; well = finds_voted h run bound s tx g p }
says_step h run bound s t _ p = record { out = tt; well = tt }

says_happens : (h : History) (run bound : ℕ) (s t : Shard) {e : Event} {o : Outcome} → Happens s e o t → Told h run bound s → Says h run bound e o
says_happens h run bound s _ (finishes {t = t} u g) p = says_step h run bound s t g p
says_happens h run bound s _ (stops u) p = record { out = tt; well = tt }

says_made : (h : History) (run bound : ℕ) (log : List LogRecord) (s t : Shard) {e : Event} {o : Outcome} → Makes log s e o t → Told h run bound s → Says h run bound e o
says_made h run bound log s t (by_event g m) p = says_happens h run bound s t m p
says_made h run bound log s _ (by_flush n u f) p = record { out = tt; well = tt }
says_made h run bound log s _ (by_failure n u f) p = record { out = tt; well = tt }
says_made h run bound log s _ (by_restart epoch kept u r) p = record { out = tt; well = tt }

says_later : (h : History) (run a b : ℕ) (e : Event) (o : Outcome) → a ≤ b → Says h run a e o → Says h run b e o
says_later h run a b e o l p = record { out = at o p.out; well = p.well }
  where
    at : (o : Outcome) → SaysOut h run a o → SaysOut h run b o
    at (Sent m) t = tells_later h run a b m l t
    at _ t = tt

pub says_entry : (h : History) (run : ℕ) (log : List LogRecord) (s : Shard) (x : Entry) → MayEnter log s x → Told h run (suc s.last) s → Says h run x.stamp x.event x.outcome
says_entry h run log s x m p =
    says_later h run (suc s.last) x.stamp x.event x.outcome (let r = m.rises in omega (arith, r))
    (says_made h run (suc s.last) log s (event_state log s x.event x.outcome) (makes log s x.event x.outcome m.event) p)

-- ---- a shard that opened

pub told_opened : (h : History) (shard run bound : ℕ) (log : List LogRecord) → ((t : TxId) → committed_in log t ≡ true → t.run ≡ run → ⊥) → Told h run bound (opened shard run log)
told_opened h shard run bound log k =
    record {
      out = tt;
      voters = all_map _ (λ n. (n.0, restored_voter n.1)) _ (λ n. inl (refl, refl));
      requests = all_map _ (λ n. (n.0, restored_request n.1)) _ (λ n. tt);
      log = λ u c r. absurd (k u (opening_adds shard log run 0 u c) r);
    }
