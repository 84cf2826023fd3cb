-- Each entry keeps what a home heard of the parts of its commits, and what it sends says it.
use Rattle.std.proofs.Common.{◌≡◌, ◌⊎◌, inl, inr, ⊎_elim, refl, sym, subst, ℕ, true, false, not, ◌&&◌, ◌==◌, Bool, List, [], ◌∷◌, Option, Some, None, is_some, arith}
use Rattle.std.specs.Prelude.{⊤}
use Rattle.std.specs.List.{AllByRecursion, filter}
use Rattle.std.specs.Ordering.{match_ordering}
use Rattle.std.specs.declared.cmp.Ordering.{Ordering}
use Rattle.std.specs.declared.cmp.Ordering.TheVariants.{Less, Equal, Greater}
use Rattle.std.proofs.lemmas.Bool.{both_ways, or_cases, or_left, or_right, eqb-true}
use Rattle.clv_base.specs.declared.names.TxId.{TxId}
use Rattle.clv_base.specs.declared.logs.LogRecord.{LogRecord}
use Rattle.clv_base.specs.declared.logs.LogRecord.TheVariants.{Commit}
use Rattle.clv_base.specs.declared.messages.Message.{Message}
use Rattle.clv_base.specs.declared.messages.Message.TheVariants.{Decide, Done}
use Rattle.clv_base.specs.declared.state.Voter.{Voter}
use Rattle.clv_base.specs.declared.state.Request.{Request}
use Rattle.clv_base.specs.declared.state.RequestState.{RequestState}
use Rattle.clv_base.specs.declared.state.RequestState.TheVariants.{Undecided, Committed, Finished, Refused}
use Rattle.clv_base.specs.declared.state.Taken.TheVariants.{Done as IsDone}
use Rattle.clv_base.specs.declared.events.Event.{Event}
use Rattle.clv_base.specs.declared.events.Event.TheVariants.{Deliver}
use Rattle.clv_base.specs.declared.events.Outcome.{Outcome}
use Rattle.clv_base.specs.declared.events.Outcome.TheVariants.{Sent}
use Rattle.clv_base.specs.declared.events.Entry.{Entry}
use Rattle.clv_base.specs.Orders.{Table, tx_in, tx_get, tx_put, nat_in}
use Rattle.clv_base.specs.State.{Shard, with_local}
use Rattle.clv_base.specs.Undo.{roll_back, roll_to}
use Rattle.clv_base.specs.Facts.{facts_of, has_durable_commit, is_waiting}
use Rattle.clv_base.specs.Participant.{ask_by, asks, taken_by, taken_if}
use Rattle.clv_base.specs.Coordinator.{new_request, others, vote_from, with_vote_of, with_done_of, ask_answer, prepare_for, prepares, missing_votes, missing_dones, each_request, home_reminders, restored_requests}
use Rattle.clv_base.specs.OneShard.{close_part, drop_part}
use Rattle.clv_base.specs.Events.{finish, is_alone, coordinate, decided, ask_messages, durable_requests, waiting_voters, reminders, with_durable}
use Rattle.clv_base.specs.Restarts.{log_left, revived, opened, unended_in, log_after_restart, Restarts}
use Rattle.clv_base.specs.Journals.{event_state, after_entry, up_to_restart}
use Rattle.clv_base.specs.Backs.{standing_numbers, count_after}
use Rattle.law_base.proofs.Lists.{all_mono, all_append, insert_in as in_inserted}
use Rattle.law_base.proofs.Commits.{commit_durable, durable_keeps}
use Rattle.protocol_laws.proofs.LogOnlyGrows.DueGrowsLogs.{grows_settled}
use Rattle.shard_laws.proofs.Restarts.RestoredRequestsAndPairs.{request_from}
use Rattle.history_cases.proofs.Stepping.{Step, op_dies, op_answers, request_new, request_closes, drops, sends, prepare_closes, prepare_again, vote_counts, decision_comes, decision_again, done_counts, asked, reminds, flushes, Happens, finishes, stops, rolls_back}
use Rattle.history_cases.proofs.Entering.{Makes, by_event, by_flush, by_failure, by_restart}
use Rattle.history_cases.proofs.Durability.{Counted, framed_finish}
use Rattle.history_cases.proofs.Telling.{all_map}
use Rattle.fate_laws.proofs.Logs.LogOnlyGrows.{inside_self, inside_step}
use Rattle.headline_laws.proofs.EndedAreCommitted.EndsStandBehindCommits.{on_more, on_rolled, on_dropped, on_closed, on_opened, on_restarted, step_on, Tell, tell_on, tell_front, tell_mono, on_back}
use Rattle.headline_laws.proofs.EndedAreCommitted.RestoredAreUnended.{unended}
use Rattle.headline_laws.proofs.EndedAreCommitted.DueKeepsTheHeard.{Says, Row, Hears, hears_local, hears_set, hears_put, hears_send, hears_finish}

-- ---- more is known

says_mono : (K L : ℕ → TxId → Type 0) → ((n : ℕ) (u : TxId) → K n u → L n u) → (m : Message) → Says K m → Says L m
says_mono K L k (Done to tx from) p = k from tx p
says_mono K L k _ p = tt

pub hears_mono : (K L : ℕ → TxId → Type 0) (s : Shard) → ((n : ℕ) (u : TxId) → K n u → L n u) → Hears K s → Hears L s
hears_mono K L s k p = record {
  log = tell_mono K L s.local.log k p.log;
  rows = λ tx q g. let r = p.rows tx q g in ((λ m i. k m tx (r.0 m i)), r.1);
  out = all_mono (Says K) (Says L) (says_mono K L k) s.outbox p.out;
}

-- ---- reminders say nothing of it

each_says : (K : ℕ → TxId → Type 0) (f : TxId → Request → List Message) (rs : Table Request) → ((tx : TxId) (q : Request) → AllByRecursion (Says K) (f tx q)) → AllByRecursion (Says K) (each_request f rs)
each_says K f [] k = tt
each_says K f (r ∷ rs) k = all_append (Says K) (f r.0 r.1) (each_request f rs) (k r.0 r.1) (each_says K f rs k)

votes_say : (K : ℕ → TxId → Type 0) (shard : ℕ) (tx : TxId) (q : Request) (st : RequestState) → AllByRecursion (Says K) (missing_votes shard tx q st)
votes_say K shard tx q Undecided = all_map (Says K) (prepare_for shard tx) (filter (λ t. not (t.0 == shard) && not (is_some (vote_from t.0 q.votes))) q.touched) (λ t. tt)
votes_say K shard tx q (Committed parts) = tt
votes_say K shard tx q Finished = tt
votes_say K shard tx q (Refused cause) = tt

dones_say : (K : ℕ → TxId → Type 0) (shard : ℕ) (tx : TxId) (q : Request) (st : RequestState) → AllByRecursion (Says K) (missing_dones shard tx q st)
dones_say K shard tx q Undecided = tt
dones_say K shard tx q (Committed parts) = all_map (Says K) (λ p. Decide p tx shard true) (filter (λ p. not (nat_in p q.acknowledged_by)) parts) (λ p. tt)
dones_say K shard tx q Finished = tt
dones_say K shard tx q (Refused cause) = tt

dones_if : (K : ℕ → TxId → Type 0) (shard : ℕ) (tx : TxId) (q : Request) (b : Bool) → AllByRecursion (Says K) (elim b [ true ↦ missing_dones shard tx q q.state | false ↦ [] ])
dones_if K shard tx q true = dones_say K shard tx q q.state
dones_if K shard tx q false = tt

ask_says : (K : ℕ → TxId → Type 0) (shard : ℕ) (tx : TxId) (o : Option Voter) → AllByRecursion (Says K) (ask_by shard tx o)
ask_says K shard tx None = tt
ask_says K shard tx (Some v) = (tt, tt)

asks_say : (K : ℕ → TxId → Type 0) (shard : ℕ) (voters : Table Voter) (txs : List TxId) → AllByRecursion (Says K) (asks shard voters txs)
asks_say K shard voters [] = tt
asks_say K shard voters (tx ∷ txs) = all_append (Says K) (ask_by shard tx (tx_get tx voters)) (asks shard voters txs) (ask_says K shard tx (tx_get tx voters)) (asks_say K shard voters txs)

reminders_say : (K : ℕ → TxId → Type 0) (s : Shard) → AllByRecursion (Says K) (reminders s)
reminders_say K s =
    all_append (Says K) (home_reminders s.shard s.requests (durable_requests s)) (asks s.shard s.voters (waiting_voters s))
    (all_append (Says K) (each_request (λ tx q. missing_votes s.shard tx q q.state) s.requests) _
    (each_says K (λ tx q. missing_votes s.shard tx q q.state) s.requests (λ tx q. votes_say K s.shard tx q q.state))
    (each_says K (λ tx q. elim (tx_in tx (durable_requests s)) [ true ↦ missing_dones s.shard tx q q.state | false ↦ [] ]) s.requests (λ tx q. dones_if K s.shard tx q (tx_in tx (durable_requests s)))))
    (asks_say K s.shard s.voters (waiting_voters s))

answer_says : (K : ℕ → TxId → Type 0) (s : Shard) (tx : TxId) (from : ℕ) (o : Option Bool) → AllByRecursion (Says K) (ask_messages s tx from o)
answer_says K s tx from None = tt
answer_says K s tx from (Some commit) = (tt, tt)

-- ---- each step

-- an acknowledgement that comes says what was
abbrev pub Brings : (ℕ → TxId → Type 0) → Event → Type 0
Brings K (Deliver m stamp) = Says K m
Brings K _ = ⊤

-- who acknowledged is among those who did, or is the one that does
insert_case : (o : Ordering) (n m x : ℕ) (xs ys : List ℕ) → (o ≡ Equal → n ≡ x) → nat_in m (match_ordering o (n ∷ x ∷ xs) (x ∷ xs) (x ∷ ys)) ≡ true → (nat_in m ys ≡ true → (m ≡ n) ⊎ (nat_in m xs ≡ true)) → (m ≡ n) ⊎ (nat_in m (x ∷ xs) ≡ true)
insert_case Less n m x xs ys q e k = ⊎_elim (λ a. inl (eqb-true m n a)) (λ a. inr a) (or_cases (m == n) (nat_in m (x ∷ xs)) e)
insert_case Equal n m x xs ys q e k = inr e
insert_case Greater n m x xs ys q e k = ⊎_elim (λ a. inr (or_left (m == x) (nat_in m xs) a)) (λ a. ⊎_elim (λ b. inl b) (λ b. inr (or_right (m == x) (nat_in m xs) b)) (k a)) (or_cases (m == x) (nat_in m ys) e)

done_row : (K : ℕ → TxId → Type 0) (log : List LogRecord) (tx : TxId) (from : ℕ) (q : Request) → K from tx → Row K log tx q → Row K log tx (with_done_of from q)
done_row K log tx from q d r = ((λ m i. ⊎_elim (λ e. subst (λ n. K n tx) (sym e) d) (λ j. r.0 m j) (in_inserted from m q.acknowledged_by i)), r.1)

-- a commit that is done already is durable here
done_case : (w c d : Bool) → taken_if w (c && d) ≡ IsDone → d ≡ true
done_case true c d e = absurd cc
done_case false true true e = refl
done_case false true false e = absurd cc
done_case false false d e = absurd cc

is_durable : (s : Shard) (tx : TxId) (commit : Bool) → taken_by (facts_of s tx) commit ≡ IsDone → has_durable_commit (facts_of s tx) ≡ true
is_durable s tx commit e = done_case (is_waiting (facts_of s tx)) commit (has_durable_commit (facts_of s tx)) e

hears_decided : (K : ℕ → TxId → Type 0) (s : Shard) (tx : TxId) (commit : Bool) → Hears K s → Hears K (decided s tx commit)
hears_decided K s tx true p = hears_local K s _ (on_more s.local.log (Commit tx [] ∷ []) ((λ u. refl), tt)) p
hears_decided K s tx false p = hears_local K s (roll_back tx s.local) (on_rolled tx s.local) p

hears_coordinate : (K : ℕ → TxId → Type 0) (s : Shard) (tx : TxId) (ts : List (ℕ × ℕ)) → Hears K s → Hears K (coordinate tx ts s)
hears_coordinate K s tx ts p =
    let t = record s { requests = tx_put tx (new_request ts Undecided) s.requests } in
    hears_send K t (prepares s.shard tx ts) (all_map (Says K) (prepare_for s.shard tx) (filter (λ t. not (t.0 == s.shard)) ts) (λ t. tt)) (hears_put K s tx (new_request ts Undecided) ((λ m i. absurd (both_ways false refl i)), tt) p)

hears_step : (K : ℕ → TxId → Type 0) (s t : Shard) {e : Event} {o : Outcome} → ((u : TxId) → commit_durable s.local.log s.durable u ≡ true → K s.shard u) → Step s e o t → Brings K e → Hears K s → Hears K t
hears_step K s _ now (op_dies tx birth nth seen op cause l g) b p = hears_local K s l (step_on s _ (op_dies tx birth nth seen op cause l g)) p
hears_step K s _ now (op_answers tx birth nth seen op answer l g) b p = hears_local K s l (step_on s _ (op_answers tx birth nth seen op answer l g)) p
hears_step K s _ now (rolls_back tx nth seen upto f g) b p =
    let i = count_after upto (standing_numbers tx s.journal) in hears_local K s (roll_to tx i s.local) (on_back tx i s.local) p
hears_step K s _ now (request_new tx ts f g) b p = hears_coordinate K s tx ts p
hears_step K s _ now (request_closes tx ts f g) b p =
    let one = is_alone (others s.shard ts) in
    hears_coordinate K (with_local (close_part tx s.shard one) s) tx ts (hears_local K s (close_part tx s.shard one s.local) (on_closed tx s.shard one s.local) p)
hears_step K s _ now (drops tx stage g) b p = hears_local K s (drop_part tx s.local) (on_dropped tx s.local) p
hears_step K s _ now (sends m ms g) b p = record { log = p.log; rows = p.rows; out = (subst (AllByRecursion (Says K)) g p.out).1 }
hears_step K s _ now (prepare_closes tx home seen stamp g) b p =
    let q = hears_local K s (close_part tx home false s.local) (on_closed tx home false s.local) p in record { log = q.log; rows = q.rows; out = q.out }
hears_step K s _ now (prepare_again tx home seen stamp g) b p = record { log = p.log; rows = p.rows; out = p.out }
hears_step K s _ now (vote_counts tx from vote stamp q g c) b p = hears_set K s tx (with_vote_of from vote q) (p.rows tx q g) p
hears_step K s _ now (decision_comes tx home commit stamp g) b p = hears_decided K s tx commit p
hears_step K s _ now (decision_again tx home commit stamp g) b p = hears_send K s (Done home tx s.shard ∷ []) (now tx (is_durable s tx commit g), tt) p
hears_step K s _ now (done_counts tx from stamp q g c) b p = hears_set K s tx (with_done_of from q) (done_row K s.local.log tx from q b (p.rows tx q g)) p
hears_step K s _ now (asked tx from stamp) b p = hears_send K s _ (answer_says K s tx from (ask_answer (tx_get tx s.requests) (facts_of s tx))) p
hears_step K s _ now (reminds m ms g c) b p = hears_send K s (m ∷ ms) (subst (AllByRecursion (Says K)) c (reminders_say K s)) p
hears_step K s _ now (flushes n g c) b p = record { log = p.log; rows = p.rows; out = p.out }
hears_step K s _ now _ b p = p

-- ---- a restart, and a shard that opened

restored_rows : (K : ℕ → TxId → Type 0) (log : List LogRecord) (tx : TxId) (q : Request) → tx_get tx (restored_requests (unended_in log log)) ≡ Some q → Row K log tx q
restored_rows K log tx q g =
    let (qs, e, f) = request_from tx (unended_in log log) q g in
    subst (Row K log tx) (sym f) ((λ m i. absurd (both_ways false refl i)), (unended log log tx qs e).1)

pub hears_opened : (K : ℕ → TxId → Type 0) (shard run : ℕ) (log : List LogRecord) → Tell K log → Hears K (opened shard run log)
hears_opened K shard run log p = record { log = tell_on K log (log_after_restart shard log run 0) (on_opened shard log run 0) p; rows = restored_rows K (log_after_restart shard log run 0); out = tt }

hears_revived : (K : ℕ → TxId → Type 0) (s : Shard) (kept : Bool) (epoch : ℕ) (log : List LogRecord) → Restarts s (log_left s kept) epoch log → Hears K s → Hears K (revived s epoch log)
hears_revived K s kept epoch log r p = record { log = tell_on K (log_left s kept) log (on_restarted s (log_left s kept) epoch log r) (tell_front K _ s.local.log p.log); rows = restored_rows K log; out = tt }

-- ---- each entry

-- what it needs. K: what is known after it
pub record Enters (K : ℕ → TxId → Type 0) (s t : Shard) (e : Event) : Type 0 where
  pub counted : Counted s
  pub now : (u : TxId) → commit_durable s.local.log s.durable u ≡ true → K s.shard u
  pub then_ : (u : TxId) → commit_durable t.local.log t.durable u ≡ true → K s.shard u
  pub brings : Brings K e

hears_event : (K : ℕ → TxId → Type 0) (s t : Shard) {e : Event} {o : Outcome} → Happens s e o t → Enters K s t e → Hears K s → Hears K t
hears_event K s _ (finishes {t = x} u h) w p =
    hears_finish K s x (record { counted = (w.counted).within; now = w.now }) (record { inside = inside_step s x h; hears = hears_step K s x w.now h w.brings p })
hears_event K s _ (stops u) w p = record { log = p.log; rows = p.rows; out = p.out }

hears_flush : (K : ℕ → TxId → Type 0) (s : Shard) (n : ℕ) {e : Event} → s.flight ≡ Some n → Enters K s (finish (with_durable n s)) e → Hears K s → Hears K (finish (with_durable n s))
hears_flush K s n f w p =
    let x = with_durable n s in
    let fr = framed_finish x in
    let g = grows_settled x in
    hears_finish K x x
    (record {
      counted = ((w.counted).flying n f).1;
      now = λ u h. w.then_ u (subst (λ l. commit_durable l (finish x).durable u ≡ true) g.1 (durable_keeps s.local.log g.0 n (finish x).durable u (let a = fr.durable in omega (arith, a)) h));
    })
    (record { inside = inside_self x; hears = record { log = p.log; rows = p.rows; out = p.out } })

pub hears_made : (K : ℕ → TxId → Type 0) (log : List LogRecord) (s t : Shard) {e : Event} {o : Outcome} → Makes log s e o t → Enters K s t e → Hears K s → Hears K t
hears_made K log s t (by_event g h) w p = hears_event K s t h w p
hears_made K log s _ (by_flush n u f) w p = hears_flush K s n f w p
hears_made K log s _ (by_failure n u f) w p = record { log = p.log; rows = p.rows; out = p.out }
hears_made K log s _ (by_restart epoch kept u r) w p = hears_revived K s kept epoch (up_to_restart s.run epoch log) r p

pub hears_noted : (K : ℕ → TxId → Type 0) (log : List LogRecord) (s : Shard) (x : Entry) → Hears K (event_state log s x.event x.outcome) → Hears K (after_entry log s x)
hears_noted K log s x p = record { log = p.log; rows = p.rows; out = p.out }

-- ---- what it sends

abbrev pub SaysOut : (ℕ → TxId → Type 0) → Outcome → Type 0
SaysOut K (Sent m) = Says K m
SaysOut K _ = ⊤

out_step : (K : ℕ → TxId → Type 0) (s t : Shard) {e : Event} {o : Outcome} → Step s e o t → Hears K s → SaysOut K o
out_step K s t (sends m ms g) p = (subst (AllByRecursion (Says K)) g p.out).0
out_step K s t _ p = tt

out_event : (K : ℕ → TxId → Type 0) (s t : Shard) {e : Event} {o : Outcome} → Happens s e o t → Hears K s → SaysOut K o
out_event K s _ (finishes {t = x} u h) p = out_step K s x h p
out_event K s _ (stops u) p = tt

pub out_made : (K : ℕ → TxId → Type 0) (log : List LogRecord) (s t : Shard) {e : Event} {o : Outcome} → Makes log s e o t → Hears K s → SaysOut K o
out_made K log s t (by_event g h) p = out_event K s t h p
out_made K log s _ (by_flush n u f) p = tt
out_made K log s _ (by_failure n u f) p = tt
out_made K log s _ (by_restart epoch kept u r) p = tt
