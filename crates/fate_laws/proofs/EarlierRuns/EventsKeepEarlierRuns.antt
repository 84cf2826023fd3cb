-- Each entry keeps what a shard has and tells of transactions that are not of this run.
use Rattle.std.proofs.Common.{◌≡◌, inl, inr, ⊎_elim, refl, sym, subst, ◌∙◌, ℕ, true, false, cond, Bool, List, [], ◌∷◌, ◌++◌, Option, Some, None, is_some, not, ◌&&◌, ◌||◌, ◌==◌, append-nil}
use Rattle.std.specs.List.{AllByRecursion, filter}
use Rattle.std.specs.Map.{keys_of}
use Rattle.std.specs.Prelude.{⊤}
use Rattle.std.proofs.lemmas.Bool.{both_ways}
use Rattle.clv_base.specs.declared.names.TxId.{TxId}
use Rattle.clv_base.specs.declared.logs.LogRecord.{LogRecord}
use Rattle.clv_base.specs.declared.messages.Message.{Message}
use Rattle.clv_base.specs.declared.messages.Message.TheVariants.{Decide, Done}
use Rattle.clv_base.specs.declared.state.Voter.{Voter}
use Rattle.clv_base.specs.declared.state.Request.{Request}
use Rattle.clv_base.specs.declared.state.RequestState.{RequestState}
use Rattle.clv_base.specs.declared.state.RequestState.TheVariants.{Undecided, Committed, Finished, Refused}
use Rattle.clv_base.specs.declared.events.Event.{Event}
use Rattle.clv_base.specs.declared.events.Event.TheVariants.{Request as RequestEvent, Deliver}
use Rattle.clv_base.specs.declared.events.Outcome.{Outcome}
use Rattle.clv_base.specs.declared.events.Outcome.TheVariants.{Sent}
use Rattle.clv_base.specs.Orders.{Table, tx_in, tx_get, tx_put, nat_in}
use Rattle.clv_base.specs.Logs.{committed_in, commit_lsn, prepared_in, prepare_of, has_standing, in_doubt}
use Rattle.clv_base.specs.State.{Shard, Local, with_local}
use Rattle.clv_base.specs.Undo.{roll_back, roll_to}
use Rattle.clv_base.specs.Backs.{count_after, standing_numbers}
use Rattle.clv_base.specs.Facts.{facts_of, has_durable_commit, undecided_of}
use Rattle.clv_base.specs.Participant.{asked_voter, ask_by, asks, restored_voters}
use Rattle.clv_base.specs.Coordinator.{new_request, others, vote_from, with_vote_of, with_done_of, stands_open, ask_answer, prepare_for, prepares, missing_votes, missing_dones, each_request, home_reminders, restored_request}
use Rattle.clv_base.specs.OneShard.{closing, close_part, drop_part}
use Rattle.clv_base.specs.Events.{is_alone, coordinate, owe_vote, decided, ask_messages, with_outbox, durable_requests, waiting_voters, reminders, put_down, with_durable}
use Rattle.clv_base.specs.Restarts.{log_left, revived, home_by, homes_of, unended_in, opened, log_after_restart, Restarts}
use Rattle.clv_base.specs.Journals.{up_to_restart}
use Rattle.law_base.proofs.Rows.{rows_get, rows_put}
use Rattle.law_base.proofs.Lists.{all_mono, all_append, all_of}
use Rattle.law_base.proofs.Sets.{in_filter}
use Rattle.history_cases.proofs.Stepping.{Step, op_dies, op_answers, rolls_back, request_new, request_closes, drops, sends, prepare_closes, prepare_again, vote_counts, decision_comes, decision_again, done_counts, asked, reminds, flushes, Happens, finishes, stops}
use Rattle.history_cases.proofs.Entering.{Makes, by_event, by_flush, by_failure, by_restart}
use Rattle.history_cases.proofs.Uncommitting.{rolled, gone_back as back_commits, dropped, op_dying, op_answering, restarts_add, opening_adds}
use Rattle.history_cases.proofs.Telling.{all_map}
use Rattle.history_cases.proofs.TellingEvents.{front_committed}
use Rattle.fate_laws.proofs.Logs.WhatAddsNoPrepare.{front_prepare, gone_back as back_prepares, opening_adds as opening_prepares, rolled as rolled_prepares, dropped as dropped_prepares, op_dying as dying_prepares, op_answering as answering_prepares, restarts_add as restarts_prepare}
use Rattle.fate_laws.proofs.Homes.EventsKeepHomes.{none_committed}
use Rattle.fate_laws.proofs.EarlierRuns.TellsOnlyFoundCommits.{MayHave, MayAnswer, Tells, Opens, Elder, elder_log, elder_same, elder_commit, elder_prepare, elder_send, elder_set, opens_at, elder_durable, elder_finish}
use Rattle.history_laws.proofs.Logs.DoubtedAreUndecided.{doubt_prepared}
use Rattle.history_laws.proofs.Entries.AllFromEach.{all_in}
use Rattle.shard_laws.proofs.Order.ChangesKeepOrder.{prepare_some}

-- ---- what is owed

abbrev pub Owes : (R O : TxId → Type 0) → (ℕ → TxId → Type 0) → Event → Type 0
Owes R O H (RequestEvent tx ts) = R tx
Owes R O H (Deliver m stamp) = Tells R O H m
Owes R O H _ = ⊤

module _ (R O : TxId → Type 0) (H : ℕ → TxId → Type 0) where
  -- ---- closing a part

  elder_closing : (s : Shard) (l : Local) (tx : TxId) (home : ℕ) (b one : Bool) (us : List TxId) → l.log ≡ s.local.log ++ closing b one tx home us → R tx → Elder R O H s → Elder R O H (record s { local = l })
  elder_closing s l tx home false one us e a p = elder_same R O H s l (e ∙ append-nil s.local.log) p
  elder_closing s l tx home true true [] e a p = elder_commit R O H s l tx [] e (inl a) p
  elder_closing s l tx home true true (v ∷ vs) e a p = elder_prepare R O H s l tx home (v ∷ vs) e a p
  elder_closing s l tx home true false us e a p = elder_prepare R O H s l tx home us e a p

  elder_close : (s : Shard) (tx : TxId) (home : ℕ) (one : Bool) → R tx → Elder R O H s → Elder R O H (with_local (close_part tx home one) s)
  elder_close s tx home one a p = elder_closing s (close_part tx home one s.local) tx home (has_standing s.local.log tx) one (undecided_of s.local tx) refl a p

  elder_coordinate : (s : Shard) (tx : TxId) (ts : List (ℕ × ℕ)) → R tx → Elder R O H s → Elder R O H (coordinate tx ts s)
  elder_coordinate s tx ts a p =
      elder_send R O H (record s { requests = tx_put tx (new_request ts Undecided) s.requests }) (prepares s.shard tx ts) (all_map (Tells R O H) (prepare_for s.shard tx) (filter (λ x. not (x.0 == s.shard)) ts) (λ x. a))
      (record { log = p.log; prepares = p.prepares; voters = p.voters; rows = rows_put (λ r. Opens R r.0 (r.1).state) tx (new_request ts Undecided) s.requests a p.rows; out = p.out })

  home_of : (tx : TxId) (home seen : ℕ) (o : Option Voter) → R tx → ((v : Voter) → o ≡ Some v → MayAnswer R O H tx v.home) → MayAnswer R O H tx (asked_voter home seen o).home
  home_of tx home seen None a k = inl a
  home_of tx home seen (Some v) a k = k v refl

  elder_owe : (s : Shard) (tx : TxId) (home seen : ℕ) → R tx → Elder R O H s → Elder R O H (owe_vote tx home seen s)
  elder_owe s tx home seen a p = record {
    log = p.log;
    prepares = p.prepares;
    voters = rows_put (λ r. MayAnswer R O H r.0 (r.1).home) tx (asked_voter home seen (tx_get tx s.voters)) s.voters
        (home_of tx home seen (tx_get tx s.voters) a (λ v g. rows_get (λ r. MayAnswer R O H r.0 (r.1).home) tx v s.voters p.voters g)) p.voters;
    rows = p.rows;
    out = p.out;
  }

  -- ---- decisions, and questions

  elder_decided : (s : Shard) (tx : TxId) (to home : ℕ) (commit : Bool) → Tells R O H (Decide to tx home commit) → Elder R O H s → Elder R O H (decided s tx commit)
  elder_decided s tx to home true a p = elder_commit R O H s _ tx [] refl a p
  elder_decided s tx to home false a p = elder_log R O H s (roll_back tx s.local) (rolled tx s.local) (rolled_prepares tx s.local) p

  -- no abort is answered where the COMMIT stands
  answer_told : (s : Shard) (tx : TxId) (from : ℕ) (d c o : Bool) → is_some (commit_lsn s.local.log tx) ≡ c → (d ≡ true → MayHave R O tx) → MayAnswer R O H tx s.shard → (H s.shard tx → committed_in s.local.log tx ≡ true)
      → AllByRecursion (Tells R O H) (ask_messages s tx from (cond d (Some true) (cond (c || o) None (Some false))))
  answer_told s tx from true c o f k a found = (k refl, tt)
  answer_told s tx from false true o f k a found = tt
  answer_told s tx from false false true f k a found = tt
  answer_told s tx from false false false f k a found = (⊎_elim (λ r. inl r) (λ h. inr (λ z. both_ways _ (none_committed s tx f) (found (h z)))) a, tt)

  -- ---- reminders

  each_told : (f : TxId → Request → List Message) (rs : Table Request) → AllByRecursion (λ r. AllByRecursion (Tells R O H) (f r.0 r.1)) rs → AllByRecursion (Tells R O H) (each_request f rs)
  each_told f [] a = tt
  each_told f (r ∷ rs) a = all_append (Tells R O H) (f r.0 r.1) (each_request f rs) a.0 (each_told f rs a.1)

  missing_told : (shard : ℕ) (tx : TxId) (q : Request) (st : RequestState) → Opens R tx st → AllByRecursion (Tells R O H) (missing_votes shard tx q st)
  missing_told shard tx q Undecided k = all_map (Tells R O H) (prepare_for shard tx) (filter (λ t. not (t.0 == shard) && not (is_some (vote_from t.0 q.votes))) q.touched) (λ t. k)
  missing_told shard tx q (Committed parts) k = tt
  missing_told shard tx q Finished k = tt
  missing_told shard tx q (Refused c) k = tt

  dones_told : (shard : ℕ) (tx : TxId) (q : Request) (st : RequestState) → MayHave R O tx → AllByRecursion (Tells R O H) (missing_dones shard tx q st)
  dones_told shard tx q Undecided k = tt
  dones_told shard tx q (Committed parts) k = all_map (Tells R O H) (λ p. Decide p tx shard true) (filter (λ p. not (nat_in p q.acknowledged_by)) parts) (λ p. k)
  dones_told shard tx q Finished k = tt
  dones_told shard tx q (Refused c) k = tt

  dones_if : (shard : ℕ) (tx : TxId) (q : Request) (b : Bool) → (b ≡ true → MayHave R O tx) → AllByRecursion (Tells R O H) (elim b [ true ↦ missing_dones shard tx q q.state | false ↦ [] ])
  dones_if shard tx q true k = dones_told shard tx q q.state (k refl)
  dones_if shard tx q false k = tt

  ask_told : (shard : ℕ) (tx : TxId) (o : Option Voter) → ((v : Voter) → o ≡ Some v → MayAnswer R O H tx v.home) → AllByRecursion (Tells R O H) (ask_by shard tx o)
  ask_told shard tx None k = tt
  ask_told shard tx (Some v) k = (k v refl, tt)

  asks_told : (s : Shard) (txs : List TxId) → Elder R O H s → AllByRecursion (Tells R O H) (asks s.shard s.voters txs)
  asks_told s [] p = tt
  asks_told s (tx ∷ txs) p =
      all_append (Tells R O H) (ask_by s.shard tx (tx_get tx s.voters)) (asks s.shard s.voters txs) (ask_told s.shard tx (tx_get tx s.voters) (λ v g. rows_get (λ r. MayAnswer R O H r.0 (r.1).home) tx v s.voters p.voters g)) (asks_told s txs p)

  reminders_told : (s : Shard) → Elder R O H s → AllByRecursion (Tells R O H) (reminders s)
  reminders_told s p =
      all_append (Tells R O H) (home_reminders s.shard s.requests (durable_requests s)) (asks s.shard s.voters (waiting_voters s))
      (all_append (Tells R O H) (each_request (λ tx q. missing_votes s.shard tx q q.state) s.requests) _
      (each_told (λ tx q. missing_votes s.shard tx q q.state) s.requests (all_mono (λ r. Opens R r.0 (r.1).state) _ (λ r. missing_told s.shard r.0 r.1 (r.1).state) s.requests p.rows))
      (each_told (λ tx q. elim (tx_in tx (durable_requests s)) [ true ↦ missing_dones s.shard tx q q.state | false ↦ [] ]) s.requests
      (all_of _
      (λ r. dones_if s.shard r.0 r.1 (tx_in r.0 (durable_requests s)) (λ i. elder_durable R O H s r.0 (in_filter (λ tx. has_durable_commit (facts_of s tx)) r.0 (keys_of s.requests) i).1 p))
      s.requests)))
      (asks_told s (waiting_voters s) p)

  -- ---- each step

  elder_outbox : (s : Shard) (m : Message) (ms : List Message) → s.outbox ≡ m ∷ ms → Elder R O H s → Elder R O H (with_outbox ms s)
  elder_outbox s m ms e p = record { log = p.log; prepares = p.prepares; voters = p.voters; rows = p.rows; out = (subst (AllByRecursion (Tells R O H)) e p.out).1 }

  elder_step : (s t : Shard) {e : Event} {o : Outcome} → ((u : TxId) → H s.shard u → committed_in s.local.log u ≡ true) → Step s e o t → Owes R O H e → Elder R O H s → Elder R O H t
  elder_step s _ found (op_dies tx birth nth seen op cause l g) w p = elder_log R O H s l (op_dying s.shard s.local l tx birth seen op cause g) (dying_prepares s.shard s.local l tx birth seen op cause g) p
  elder_step s _ found (op_answers tx birth nth seen op answer l g) w p = elder_log R O H s l (op_answering s.shard s.local l tx birth seen op answer g) (answering_prepares s.shard s.local l tx birth seen op answer g) p
  elder_step s _ found (rolls_back tx nth seen upto f g) w p =
      let n = count_after upto (standing_numbers tx s.journal) in elder_log R O H s (roll_to tx n s.local) (back_commits tx n s.local) (back_prepares tx n s.local) p
  elder_step s _ found (request_new tx ts f0 g) w p = elder_coordinate s tx ts w p
  elder_step s _ found (request_closes tx ts f0 g) w p =
      let one = is_alone (others s.shard ts) in elder_coordinate (with_local (close_part tx s.shard one) s) tx ts w (elder_close s tx s.shard one w p)
  elder_step s _ found (drops tx stage g) w p = elder_log R O H s (drop_part tx s.local) (dropped tx s.local) (dropped_prepares tx s.local) p
  elder_step s _ found (sends m ms g) w p = elder_outbox s m ms g p
  elder_step s _ found (prepare_closes tx home seen stamp g) w p = elder_owe (with_local (close_part tx home false) s) tx home seen w (elder_close s tx home false w p)
  elder_step s _ found (prepare_again tx home seen stamp g) w p = elder_owe s tx home seen w p
  elder_step s _ found (vote_counts tx from vote stamp q g c) w p = elder_set R O H s tx (with_vote_of from vote q) (opens_at R O H s tx q g p) p
  elder_step s _ found (decision_comes tx home commit stamp g) w p = elder_decided s tx s.shard home commit w p
  elder_step s _ found (decision_again tx home commit stamp g) w p = elder_send R O H s (Done home tx s.shard ∷ []) (tt, tt) p
  elder_step s _ found (done_counts tx from stamp q g c) w p = elder_set R O H s tx (with_done_of from q) (opens_at R O H s tx q g p) p
  elder_step s _ found (asked tx from stamp) w p =
      elder_send R O H s (ask_messages s tx from (ask_answer (tx_get tx s.requests) (facts_of s tx)))
      (answer_told s tx from (has_durable_commit (facts_of s tx)) (is_some (commit_lsn s.local.log tx)) (stands_open (tx_get tx s.requests)) refl (λ d. elder_durable R O H s tx d p) w (found tx)) p
  elder_step s _ found (reminds m ms g c) w p = elder_send R O H s (m ∷ ms) (subst (AllByRecursion (Tells R O H)) c (reminders_told s p)) p
  elder_step s _ found (flushes n g c) w p = record { log = p.log; prepares = p.prepares; voters = p.voters; rows = p.rows; out = p.out }
  elder_step s _ found _ w p = p

  -- ---- a restart, and an opening

  voters_prepared : (log : List LogRecord) (ts : List TxId) → ((t : TxId) (p : ℕ × List TxId) → prepare_of log t ≡ Some p → MayAnswer R O H t p.0) → AllByRecursion (λ t. prepared_in log t ≡ true) ts
      → AllByRecursion (λ r. MayAnswer R O H r.0 (r.1).home) (restored_voters (homes_of log ts))
  voters_prepared log [] k a = tt
  voters_prepared log (t ∷ ts) k a = ((let q = prepare_some log t a.0 in subst (λ o. MayAnswer R O H t (home_by o)) (sym q.1) (k t q.0 q.1)), voters_prepared log ts k a.1)

  elder_revived : (s : Shard) (kept : Bool) (epoch : ℕ) (log : List LogRecord) → Restarts s (log_left s kept) epoch log → Elder R O H s → Elder R O H (revived s epoch log)
  elder_revived s kept epoch log g p =
      let f : (u : TxId) (x : ℕ × List TxId) → prepare_of log u ≡ Some x → MayAnswer R O H u x.0 = λ u x h. p.prepares u x (front_prepare _ s.local.log u x (restarts_prepare s (log_left s kept) epoch log g u x h)) in
      record {
        log = λ u h. p.log u (front_committed _ s.local.log u (restarts_add s (log_left s kept) epoch log g u h));
        prepares = f;
        voters = voters_prepared log (in_doubt s.shard log) f (all_in _ (in_doubt s.shard log) (λ t i. doubt_prepared s.shard log t i));
        rows = all_map _ (λ n. (n.0, restored_request n.1)) (unended_in log log) (λ n. tt);
        out = tt;
      }

  pub elder_opened : (shard run : ℕ) (log : List LogRecord) → ((t : TxId) → committed_in log t ≡ true → MayHave R O t) → ((t : TxId) (p : ℕ × List TxId) → prepare_of log t ≡ Some p → MayAnswer R O H t p.0) → Elder R O H (opened shard run log)
  elder_opened shard run log c f =
      let after = log_after_restart shard log run 0 in
      let g : (u : TxId) (x : ℕ × List TxId) → prepare_of after u ≡ Some x → MayAnswer R O H u x.0 = λ u x h. f u x (opening_prepares shard log run 0 u x h) in
      record {
        log = λ u h. c u (opening_adds shard log run 0 u h);
        prepares = g;
        voters = voters_prepared after (in_doubt shard after) g (all_in _ (in_doubt shard after) (λ t i. doubt_prepared shard after t i));
        rows = all_map _ (λ n. (n.0, restored_request n.1)) (unended_in after after) (λ n. tt);
        out = tt;
      }

  -- ---- each entry

  elder_down : (s : Shard) → Elder R O H s → Elder R O H (put_down s)
  elder_down s p = record { log = p.log; prepares = p.prepares; voters = p.voters; rows = p.rows; out = p.out }

  elder_flushed : (s : Shard) (n : ℕ) → Elder R O H s → Elder R O H (with_durable n s)
  elder_flushed s n p = record { log = p.log; prepares = p.prepares; voters = p.voters; rows = p.rows; out = p.out }

  elder_event : (s t : Shard) {e : Event} {o : Outcome} → ((u : TxId) → H s.shard u → committed_in s.local.log u ≡ true) → Happens s e o t → Owes R O H e → Elder R O H s → Elder R O H t
  elder_event s _ found (finishes {t = x} u h) w p = elder_finish R O H x (elder_step s x found h w p)
  elder_event s _ found (stops u) w p = elder_down s p

  pub elder_made : (log : List LogRecord) (s t : Shard) {e : Event} {o : Outcome} → ((u : TxId) → H s.shard u → committed_in s.local.log u ≡ true) → Makes log s e o t → Owes R O H e → Elder R O H s → Elder R O H t
  elder_made log s t found (by_event g h) w p = elder_event s t found h w p
  elder_made log s _ found (by_flush n u f) w p = elder_finish R O H (with_durable n s) (elder_flushed s n p)
  elder_made log s _ found (by_failure n u f) w p = elder_down s p
  elder_made log s _ found (by_restart epoch kept u r) w p = elder_revived s kept epoch (up_to_restart s.run epoch log) r p

  -- ---- what it sends

  abbrev pub SaysOut : Outcome → Type 0
  SaysOut (Sent m) = Tells R O H m
  SaysOut _ = ⊤

  says_step : (s t : Shard) {e : Event} {o : Outcome} → Step s e o t → Elder R O H s → SaysOut o
  says_step s t (sends m ms g) p = (subst (AllByRecursion (Tells R O H)) g p.out).0
  says_step s t _ p = tt

  says_event : (s t : Shard) {e : Event} {o : Outcome} → Happens s e o t → Elder R O H s → SaysOut o
  says_event s _ (finishes {t = x} u h) p = says_step s x h p
  says_event s _ (stops u) p = tt

  pub says_made : (log : List LogRecord) (s t : Shard) {e : Event} {o : Outcome} → Makes log s e o t → Elder R O H s → SaysOut o
  says_made log s t (by_event g h) p = says_event s t h p
  says_made log s _ (by_flush n u f) p = tt
  says_made log s _ (by_failure n u f) p = tt
  says_made log s _ (by_restart epoch kept u r) p = tt
