-- Each event keeps what a shard knows of parts.
use Rattle.std.proofs.Common.{◌≡◌, inl, inr, ⊎_elim, refl, sym, ap, subst, ◌∙◌, ℕ, true, false, cond, Bool, not, ◌&&◌, ◌||◌, ◌==◌, List, [], ◌∷◌, ◌++◌, map, Option, Some, None, is_some}
use Rattle.std.specs.Prelude.{⊤}
use Rattle.std.specs.List.{AllByRecursion, filter}
use Rattle.std.specs.Map.{keys_of}
use Rattle.std.proofs.lemmas.Bool.{both_ways, and_parts, not-true, or_left, false_from_ne_true}
use Rattle.clv_base.specs.declared.names.TxId.{TxId}
use Rattle.clv_base.specs.declared.names.Birth.{Birth}
use Rattle.clv_base.specs.declared.ops.Op.{Op}
use Rattle.clv_base.specs.declared.logs.LogRecord.TheVariants.{End}
use Rattle.clv_base.specs.declared.causes.Vote.{Vote}
use Rattle.clv_base.specs.declared.causes.Vote.TheVariants.{Yes, Read, No}
use Rattle.clv_base.specs.declared.messages.Message.{Message}
use Rattle.clv_base.specs.declared.messages.Message.TheVariants.{Prepare, Vote as VoteMessage, Decide, Done}
use Rattle.clv_base.specs.declared.state.Stage.TheVariants.{Active, Closed, Gone}
use Rattle.clv_base.specs.declared.state.Voter.{Voter}
use Rattle.clv_base.specs.declared.state.Request.{Request}
use Rattle.clv_base.specs.declared.state.RequestState.{RequestState}
use Rattle.clv_base.specs.declared.state.RequestState.TheVariants.{Undecided, Committed, Finished, Refused}
use Rattle.clv_base.specs.declared.state.Ruling.TheVariants.{Commit as CommitVerdict, Acknowledge, Abort as AbortVerdict, End as EndVerdict}
use Rattle.clv_base.specs.declared.parts.PartFacts.{PartFacts}
use Rattle.clv_base.specs.declared.events.Event.{Event}
use Rattle.clv_base.specs.declared.events.Event.TheVariants.{Op as OpEvent, Request as RequestEvent, Deliver}
use Rattle.clv_base.specs.declared.events.Outcome.{Outcome}
use Rattle.clv_base.specs.declared.events.Outcome.TheVariants.{Asked, Taken}
use Rattle.clv_base.specs.Orders.{Table, tx_same, tx_in, tx_get, tx_put, tx_set, nat_in}
use Rattle.clv_base.specs.Logs.{committed_in, prepared_in, has_standing, prepare_of, commit_lsn}
use Rattle.clv_base.specs.State.{Shard}
use Rattle.clv_base.specs.Undo.{stage_of}
use Rattle.clv_base.specs.Facts.{facts_of, has_durable_commit}
use Rattle.clv_base.specs.Participant.{asked_voter, ask_by, asks, voted}
use Rattle.clv_base.specs.Coordinator.{new_request, others, takes_vote, with_vote_of, takes_done, with_done_of, ask_answer, stands_open, prepare_for, prepares, missing_votes, missing_dones, each_request, home_reminders, vote_from, ruled_request, is_agreed}
use Rattle.clv_base.specs.Due.{commit_messages, finish_reader, with_vote, with_due_done}
use Rattle.clv_base.specs.Events.{is_alone, ask_messages, durable_requests, waiting_voters, reminders, finish}
use Rattle.clv_base.proofs.SameNames.{tx_self}
use Rattle.law_base.proofs.Rows.{rows_get, rows_set, rows_put}
use Rattle.law_base.proofs.Commits.{durable_committed}
use Rattle.law_base.proofs.Tables.{is_pair, stage_in}
use Rattle.law_base.proofs.Lists.{all_mono, all_append, all_of}
use Rattle.law_base.proofs.Stages.{stage_own, gone_by}
use Rattle.law_base.proofs.Sets.{in_filter}
use Rattle.history_cases.proofs.Stepping.{Due, commits, votes, rules, KeptByDue, settled, Step, request_new, request_closes, sends, prepare_closes, prepare_again, vote_counts, decision_comes, decision_again, done_counts, asked, reminds as reminds_step}
use Rattle.history_cases.proofs.Telling.{all_map}
use Rattle.protocol_laws.proofs.LogOnlyGrows.DueGrowsLogs.{same as same_log}
use Rattle.history_cases.proofs.Uncommitting.{with_more, rolled}
use Rattle.fate_laws.proofs.Logs.LogOnlyGrows.{Inside, inside_self, inside_step, inside_due}
use Rattle.fate_laws.proofs.Parts.OthersCloseOrGo.{Calm, calm_same, calm_step, step_keeps, calm_one, due_closed, due_prepares, there_closed}
use Rattle.fate_laws.proofs.Logs.WhatPreparesOrCommits.{step_prepares, Closes, by_request, by_prepare, step_closed, Commits, alone, decided, step_commits}
use Rattle.fate_laws.proofs.Parts.YesVotesArePrepared.{VoteIs, kept, yes, read, no, vote_is, yes_binds}
use Rattle.fate_laws.proofs.Parts.CommittedAreVotedFor.{Touched, HomeOr, Good, Base, base_next, VotedIs, VoterIs, VoteTells, RowIs, Tells, Parted, voted_calm, voters_calm, tells_calm, agreed_good, commit_agreed, abort_undecided, others_all}
use Rattle.fate_laws.proofs.Parts.ClosedPartsKeepWrites.{GrowsFirmly, nothing, step_firmly, step_stands, due_firmly, due_stands}
use Rattle.fate_laws.proofs.Parts.PutVotesAreHeld.{votes_put}
use Rattle.fate_laws.proofs.Homes.ShardKnowsHomes.{new_commit}

-- ---- what is owed

-- an operation is of a transaction that did not ask; a request and what is delivered tell what was
abbrev pub Owes : ℕ → (TxId → ℕ → List (ℕ × ℕ) → Type 0) → (TxId → Type 0) → (ℕ → TxId → Type 0) → Shard → Event → Outcome → Type 0
Owes run W S F s (OpEvent tx birth nth seen op) o = (S tx → ⊥) × (prepared_in s.local.log tx ≡ false)
Owes run W S F s (RequestEvent tx ts) Asked = W tx s.shard ts
Owes run W S F s (Deliver (Prepare to tx home seen) stamp) o = S tx × (tx.run ≡ run → Touched W to tx)
Owes run W S F s (Deliver (VoteMessage to tx from vote) stamp) o = VoteTells F from tx vote
Owes run W S F s (Deliver (Decide to tx home true) stamp) o = Good run W F tx
Owes run W S F s _ _ = ⊤

-- a transaction asks once, and is of this run
pub record Once (run : ℕ) (W : TxId → ℕ → List (ℕ × ℕ) → Type 0) : Type 0 where
  pub one : (tx : TxId) (m n : ℕ) (ts us : List (ℕ × ℕ)) → W tx m ts → W tx n us → (m ≡ n) × (ts ≡ us)
  pub mine : (tx : TxId) (m : ℕ) (ts : List (ℕ × ℕ)) → W tx m ts → tx.run ≡ run

not_own : (run : ℕ) (W : TxId → ℕ → List (ℕ × ℕ) → Type 0) (S : TxId → Type 0) (F : ℕ → TxId → Type 0) (s : Shard) (e : Event) (o : Outcome) (tx : TxId) → Owes run W S F s e o → S tx → (birth : Birth) (nth : ℕ) (seen : Option ℕ) (op : Op)
    → e ≡ OpEvent tx birth nth seen op → ⊥
not_own run W S F s e o tx w a birth nth seen op q = (subst (λ x. Owes run W S F s x o) q w).0 a

-- ---- the base

closes_owed : (run : ℕ) (W : TxId → ℕ → List (ℕ × ℕ) → Type 0) (S : TxId → Type 0) (F : ℕ → TxId → Type 0) (s : Shard) {e : Event} {o : Outcome} (tx : TxId) → Closes s tx e o → Owes run W S F s e o
    → (stage_of s.local tx ≡ Some Active) × (tx.run ≡ run → HomeOr W s.shard tx)
closes_owed run W S F s tx (by_request ts a) w = (a, λ r. inl (ts, w))
closes_owed run W S F s tx (by_prepare home seen stamp a) w = (a, λ r. inr (w.1 r))

-- whose part is active after a step has no PREPARE: it was active, or operates
active_step : (run : ℕ) (W : TxId → ℕ → List (ℕ × ℕ) → Type 0) (S : TxId → Type 0) (F : ℕ → TxId → Type 0) (s t : Shard) {e : Event} {o : Outcome} (tx : TxId) → Step s e o t → Owes run W S F s e o → Base run W s → stage_of t.local tx ≡ Some Active → prepared_in s.local.log tx ≡ false
active_step run W S F s t {e} {o} tx h w b a = at (prepared_in s.local.log tx) refl
  where
    at : (c : Bool) → prepared_in s.local.log tx ≡ c → c ≡ false
    at false q = refl
    at true q = absurd (both_ways _ (b.unprepared tx ((calm_step s t tx h (λ birth nth seen op f. both_ways _ (subst (λ x. Owes run W S F s x o) f w).1 q)).active a)) q)

base_step : (run : ℕ) (W : TxId → ℕ → List (ℕ × ℕ) → Type 0) (S : TxId → Type 0) (F : ℕ → TxId → Type 0) (s t : Shard) {e : Event} {o : Outcome} → Step s e o t → Owes run W S F s e o → Base run W s → Base run W t
base_step run W S F s t h w b =
    base_next run W s t (inside_step s t h) (λ tx p. step_prepares s t tx p h)
    (λ tx c. ⊎_elim (λ x. inl x) (λ x. inr (closes_owed run W S F s tx x w)) (step_closed s t tx h c))
    (λ tx q c i. step_keeps s t tx q h (there_closed (stage_of t.local tx) c) i)
    (λ tx a. active_step run W S F s t tx h w b a) (step_firmly s t h b.unprepared) (λ tx c n k. step_stands s t tx h n k) b

base_due : (run : ℕ) (W : TxId → ℕ → List (ℕ × ℕ) → Type 0) (s t : Shard) → Due s (Some t) → Base run W s → Base run W t
base_due run W s t d b =
    base_next run W s t (inside_due s s t d (inside_self s)) (λ tx p h. inl (due_prepares s t d tx p h)) (λ tx c. inl (due_closed s t tx d c))
    (λ tx q c i. (calm_one s t tx d).keeps q (there_closed (stage_of t.local tx) c) i) (λ tx a. b.unprepared tx ((calm_one s t tx d).active a)) (due_firmly s t d) (λ tx c n k. due_stands s t tx d n k) b

-- ---- what a step does to the tables

pub data Tables (s t : Shard) : Event → Outcome → Type 0 where
  same : {e : Event} {o : Outcome} → t.requests ≡ s.requests → t.voters ≡ s.voters → t.outbox ≡ s.outbox → Tables s t e o
  coordinates : (tx : TxId) (ts : List (ℕ × ℕ)) → t.requests ≡ tx_put tx (new_request ts Undecided) s.requests → t.voters ≡ s.voters → t.outbox ≡ s.outbox ++ prepares s.shard tx ts → Tables s t (RequestEvent tx ts) Asked
  owes : (tx : TxId) (home seen stamp : ℕ) → t.requests ≡ s.requests → t.voters ≡ tx_put tx (asked_voter home seen (tx_get tx s.voters)) s.voters → t.outbox ≡ s.outbox → Tables s t (Deliver (Prepare s.shard tx home seen) stamp) Taken
  counts : (tx : TxId) (from : ℕ) (vote : Vote) (stamp : ℕ) (q : Request) → tx_get tx s.requests ≡ Some q → takes_vote s.shard from q ≡ true → t.requests ≡ tx_set tx (with_vote_of from vote q) s.requests → t.voters ≡ s.voters → t.outbox ≡ s.outbox
      → Tables s t (Deliver (VoteMessage s.shard tx from vote) stamp) Taken
  done : {e : Event} {o : Outcome} (tx : TxId) (from : ℕ) (q : Request) → tx_get tx s.requests ≡ Some q → takes_done from q ≡ true → t.requests ≡ tx_set tx (with_done_of from q) s.requests → t.voters ≡ s.voters → t.outbox ≡ s.outbox → Tables s t e o
  sent : {e : Event} {o : Outcome} (m : Message) (ms : List Message) → s.outbox ≡ m ∷ ms → t.requests ≡ s.requests → t.voters ≡ s.voters → t.outbox ≡ ms → Tables s t e o
  again : {e : Event} {o : Outcome} (home : ℕ) (tx : TxId) → t.requests ≡ s.requests → t.voters ≡ s.voters → t.outbox ≡ s.outbox ++ Done home tx s.shard ∷ [] → Tables s t e o
  answers : {e : Event} {o : Outcome} (tx : TxId) (from : ℕ) → t.requests ≡ s.requests → t.voters ≡ s.voters → t.outbox ≡ s.outbox ++ ask_messages s tx from (ask_answer (tx_get tx s.requests) (facts_of s tx)) → Tables s t e o
  reminds : {e : Event} {o : Outcome} → t.requests ≡ s.requests → t.voters ≡ s.voters → t.outbox ≡ s.outbox ++ reminders s → Tables s t e o

pub step_tables : (s t : Shard) {e : Event} {o : Outcome} → Step s e o t → Tables s t e o
step_tables s _ (request_new u ts f0 g) = coordinates u ts refl refl refl
step_tables s _ (request_closes u ts f0 g) = coordinates u ts refl refl refl
step_tables s _ (sends m ms g) = sent m ms g refl refl refl
step_tables s _ (prepare_closes u home seen stamp g) = owes u home seen stamp refl refl refl
step_tables s _ (prepare_again u home seen stamp g) = owes u home seen stamp refl refl refl
step_tables s _ (vote_counts u from vote stamp q g c) = counts u from vote stamp q g c refl refl refl
step_tables s _ (decision_comes u home true stamp g) = same refl refl refl
step_tables s _ (decision_comes u home false stamp g) = same refl refl refl
step_tables s _ (decision_again u home commit stamp g) = again home u refl refl refl
step_tables s _ (done_counts u from stamp q g c) = done u from q g c refl refl refl
step_tables s _ (asked u from stamp) = answers u from refl refl refl
step_tables s _ (reminds_step m ms g c) = reminds refl refl (ap (λ l. s.outbox ++ l) (sym c))
step_tables s _ _ = same refl refl refl

-- ---- the tables of requests and voters

voted_row : (W : TxId → ℕ → List (ℕ × ℕ) → Type 0) (F : ℕ → TxId → Type 0) (shard : ℕ) (tx : TxId) (q : Request) (from : ℕ) (vote : Vote) (st : RequestState) → VoteTells F from tx vote → RowIs W F shard tx q st → RowIs W F shard tx (with_vote_of from vote q) st
voted_row W F shard tx q from vote Undecided v p = (p.0, votes_put (λ n w. VoteTells F n tx w) q.votes from vote v p.1)
voted_row W F shard tx q from vote (Committed parts) v p = tt
voted_row W F shard tx q from vote Finished v p = tt
voted_row W F shard tx q from vote (Refused cause) v p = p

done_row : (W : TxId → ℕ → List (ℕ × ℕ) → Type 0) (F : ℕ → TxId → Type 0) (shard : ℕ) (tx : TxId) (q : Request) (from : ℕ) (st : RequestState) → RowIs W F shard tx q st → RowIs W F shard tx (with_done_of from q) st
done_row W F shard tx q from Undecided p = p
done_row W F shard tx q from (Committed parts) p = tt
done_row W F shard tx q from Finished p = tt
done_row W F shard tx q from (Refused cause) p = p

abbrev RowsAre : (TxId → ℕ → List (ℕ × ℕ) → Type 0) → (ℕ → TxId → Type 0) → ℕ → Table Request → Type 0
RowsAre W F shard rs = AllByRecursion (λ r. RowIs W F shard r.0 r.1 (r.1).state) rs

rows_step : (run : ℕ) (W : TxId → ℕ → List (ℕ × ℕ) → Type 0) (S : TxId → Type 0) (F : ℕ → TxId → Type 0) (s t : Shard) {e : Event} {o : Outcome} → Tables s t e o → Owes run W S F s e o → RowsAre W F s.shard s.requests → RowsAre W F s.shard t.requests
rows_step run W S F s t (same a b c) w p = subst (RowsAre W F s.shard) (sym a) p
rows_step run W S F s t (coordinates tx ts a b c) w p = subst (RowsAre W F s.shard) (sym a) (rows_put (λ r. RowIs W F s.shard r.0 r.1 (r.1).state) tx (new_request ts Undecided) s.requests (w, tt) p)
rows_step run W S F s t (owes tx home seen stamp a b c) w p = subst (RowsAre W F s.shard) (sym a) p
rows_step run W S F s t (counts tx from vote stamp q g k a b c) w p =
    subst (RowsAre W F s.shard) (sym a)
    (rows_set (λ r. RowIs W F s.shard r.0 r.1 (r.1).state) tx (with_vote_of from vote q) s.requests (voted_row W F s.shard tx q from vote q.state w (rows_get (λ r. RowIs W F s.shard r.0 r.1 (r.1).state) tx q s.requests p g)) p)
rows_step run W S F s t (done tx from q g k a b c) w p =
    subst (RowsAre W F s.shard) (sym a)
    (rows_set (λ r. RowIs W F s.shard r.0 r.1 (r.1).state) tx (with_done_of from q) s.requests (done_row W F s.shard tx q from q.state (rows_get (λ r. RowIs W F s.shard r.0 r.1 (r.1).state) tx q s.requests p g)) p)
rows_step run W S F s t (sent m ms g a b c) w p = subst (RowsAre W F s.shard) (sym a) p
rows_step run W S F s t (again home tx a b c) w p = subst (RowsAre W F s.shard) (sym a) p
rows_step run W S F s t (answers tx from a b c) w p = subst (RowsAre W F s.shard) (sym a) p
rows_step run W S F s t (reminds a b c) w p = subst (RowsAre W F s.shard) (sym a) p

abbrev VotersAre : (TxId → Type 0) → Shard → Table Voter → Type 0
VotersAre S s vs = AllByRecursion (λ r. VoterIs S s r.0 r.1) vs

asked_is : (S : TxId → Type 0) (s : Shard) (tx : TxId) (home seen : ℕ) (o : Option Voter) → S tx → ((v : Voter) → o ≡ Some v → VoterIs S s tx v) → VoterIs S s tx (asked_voter home seen o)
asked_is S s tx home seen None a k = inr (a, tt)
asked_is S s tx home seen (Some v) a k = at (k v refl)
  where
    at : VoterIs S s tx v → VoterIs S s tx (asked_voter home seen (Some v))
    at (inl p) = inr (a, subst (VotedIs S s tx) (sym p.1) tt)
    at (inr p) = inr p

voters_step : (run : ℕ) (W : TxId → ℕ → List (ℕ × ℕ) → Type 0) (S : TxId → Type 0) (F : ℕ → TxId → Type 0) (s t : Shard) {e : Event} {o : Outcome} → Tables s t e o → Owes run W S F s e o → VotersAre S t s.voters → VotersAre S t t.voters
voters_step run W S F s t (same a b c) w p = subst (VotersAre S t) (sym b) p
voters_step run W S F s t (coordinates tx ts a b c) w p = subst (VotersAre S t) (sym b) p
voters_step run W S F s t (owes tx home seen stamp a b c) w p =
    subst (VotersAre S t) (sym b)
    (rows_put (λ r. VoterIs S t r.0 r.1) tx (asked_voter home seen (tx_get tx s.voters)) s.voters (asked_is S t tx home seen (tx_get tx s.voters) w.0 (λ v g. rows_get (λ r. VoterIs S t r.0 r.1) tx v s.voters p g)) p)
voters_step run W S F s t (counts tx from vote stamp q g k a b c) w p = subst (VotersAre S t) (sym b) p
voters_step run W S F s t (done tx from q g k a b c) w p = subst (VotersAre S t) (sym b) p
voters_step run W S F s t (sent m ms g a b c) w p = subst (VotersAre S t) (sym b) p
voters_step run W S F s t (again home tx a b c) w p = subst (VotersAre S t) (sym b) p
voters_step run W S F s t (answers tx from a b c) w p = subst (VotersAre S t) (sym b) p
voters_step run W S F s t (reminds a b c) w p = subst (VotersAre S t) (sym b) p

-- ---- what it sends

pub durable_good : (run : ℕ) (W : TxId → ℕ → List (ℕ × ℕ) → Type 0) (S : TxId → Type 0) (F : ℕ → TxId → Type 0) (s : Shard) (tx : TxId) → Parted run W S F s → has_durable_commit (facts_of s tx) ≡ true → Good run W F tx
durable_good run W S F s tx p d = p.log tx (durable_committed s.local.log s.durable tx d)

not_here : (shard : ℕ) (f : ℕ × ℕ → Bool) (t : ℕ × ℕ) → (not (t.0 == shard) && f t) ≡ true → (t.0 == shard) ≡ false
not_here shard f t e = not-true _ (and_parts (not (t.0 == shard)) (f t) e).0

prepares_told : (run : ℕ) (W : TxId → ℕ → List (ℕ × ℕ) → Type 0) (S : TxId → Type 0) (F : ℕ → TxId → Type 0) (s : Shard) (tx : TxId) (ts xs : List (ℕ × ℕ)) (home : ℕ) → W tx home ts → AllByRecursion (λ t. nat_in t.0 (others home ts) ≡ true) xs
    → AllByRecursion (Tells run W S F s) (map (prepare_for home tx) xs)
prepares_told run W S F s tx ts [] home w a = tt
prepares_told run W S F s tx ts (x ∷ xs) home w a = ((λ r. (home, ts, w, a.0)), prepares_told run W S F s tx ts xs home w a.1)

missing_told : (run : ℕ) (W : TxId → ℕ → List (ℕ × ℕ) → Type 0) (S : TxId → Type 0) (F : ℕ → TxId → Type 0) (s : Shard) (tx : TxId) (q : Request) (st : RequestState) → RowIs W F s.shard tx q st → AllByRecursion (Tells run W S F s) (missing_votes s.shard tx q st)
missing_told run W S F s tx q Undecided p =
    prepares_told run W S F s tx q.touched (filter (λ t. not (t.0 == s.shard) && not (is_some (vote_from t.0 q.votes))) q.touched) s.shard p.0
    (others_all s.shard (λ t. not (t.0 == s.shard) && not (is_some (vote_from t.0 q.votes))) q.touched (λ t e. not_here s.shard (λ u. not (is_some (vote_from u.0 q.votes))) t e))
missing_told run W S F s tx q (Committed parts) p = tt
missing_told run W S F s tx q Finished p = tt
missing_told run W S F s tx q (Refused c) p = tt

dones_told : (run : ℕ) (W : TxId → ℕ → List (ℕ × ℕ) → Type 0) (S : TxId → Type 0) (F : ℕ → TxId → Type 0) (s : Shard) (tx : TxId) (q : Request) (st : RequestState) → Good run W F tx → AllByRecursion (Tells run W S F s) (missing_dones s.shard tx q st)
dones_told run W S F s tx q Undecided k = tt
dones_told run W S F s tx q (Committed parts) k = all_map _ (λ p. Decide p tx s.shard true) (filter (λ p. not (nat_in p q.acknowledged_by)) parts) (λ p. k)
dones_told run W S F s tx q Finished k = tt
dones_told run W S F s tx q (Refused c) k = tt

dones_if : (run : ℕ) (W : TxId → ℕ → List (ℕ × ℕ) → Type 0) (S : TxId → Type 0) (F : ℕ → TxId → Type 0) (s : Shard) (tx : TxId) (q : Request) (b : Bool) → (b ≡ true → Good run W F tx)
    → AllByRecursion (Tells run W S F s) (elim b [ true ↦ missing_dones s.shard tx q q.state | false ↦ [] ])
dones_if run W S F s tx q true k = dones_told run W S F s tx q q.state (k refl)
dones_if run W S F s tx q false k = tt

each_told : (run : ℕ) (W : TxId → ℕ → List (ℕ × ℕ) → Type 0) (S : TxId → Type 0) (F : ℕ → TxId → Type 0) (s : Shard) (f : TxId → Request → List Message) (rs : Table Request) → AllByRecursion (λ r. AllByRecursion (Tells run W S F s) (f r.0 r.1)) rs → AllByRecursion (Tells run W S F s) (each_request f rs)
each_told run W S F s f [] a = tt
each_told run W S F s f (r ∷ rs) a = all_append _ (f r.0 r.1) _ a.0 (each_told run W S F s f rs a.1)

ask_told : (run : ℕ) (W : TxId → ℕ → List (ℕ × ℕ) → Type 0) (S : TxId → Type 0) (F : ℕ → TxId → Type 0) (s : Shard) (tx : TxId) (o : Option Voter) → AllByRecursion (Tells run W S F s) (ask_by s.shard tx o)
ask_told run W S F s tx None = tt
ask_told run W S F s tx (Some v) = (tt, tt)

asks_told : (run : ℕ) (W : TxId → ℕ → List (ℕ × ℕ) → Type 0) (S : TxId → Type 0) (F : ℕ → TxId → Type 0) (s : Shard) (txs : List TxId) → AllByRecursion (Tells run W S F s) (asks s.shard s.voters txs)
asks_told run W S F s [] = tt
asks_told run W S F s (tx ∷ txs) = all_append _ (ask_by s.shard tx (tx_get tx s.voters)) _ (ask_told run W S F s tx (tx_get tx s.voters)) (asks_told run W S F s txs)

reminders_told : (run : ℕ) (W : TxId → ℕ → List (ℕ × ℕ) → Type 0) (S : TxId → Type 0) (F : ℕ → TxId → Type 0) (s : Shard) → Parted run W S F s → AllByRecursion (Tells run W S F s) (reminders s)
reminders_told run W S F s p =
    all_append _ (home_reminders s.shard s.requests (durable_requests s)) (asks s.shard s.voters (waiting_voters s))
    (all_append _ (each_request (λ tx q. missing_votes s.shard tx q q.state) s.requests) _
    (each_told run W S F s (λ tx q. missing_votes s.shard tx q q.state) s.requests
    (all_mono (λ r. RowIs W F s.shard r.0 r.1 (r.1).state) _ (λ r. missing_told run W S F s r.0 r.1 (r.1).state) s.requests p.rows))
    (each_told run W S F s (λ tx q. elim (tx_in tx (durable_requests s)) [ true ↦ missing_dones s.shard tx q q.state | false ↦ [] ]) s.requests
    (all_of _ (λ r. dones_if run W S F s r.0 r.1 (tx_in r.0 (durable_requests s)) (λ i. durable_good run W S F s r.0 p (in_filter (λ tx. has_durable_commit (facts_of s tx)) r.0 (keys_of s.requests) i).1)) s.requests)))
    (asks_told run W S F s (waiting_voters s))

answer_told : (run : ℕ) (W : TxId → ℕ → List (ℕ × ℕ) → Type 0) (S : TxId → Type 0) (F : ℕ → TxId → Type 0) (s : Shard) (tx : TxId) (from : ℕ) (d c : Bool) → (d ≡ true → Good run W F tx) → AllByRecursion (Tells run W S F s) (ask_messages s tx from (cond d (Some true) (cond c None (Some false))))
answer_told run W S F s tx from true c k = (k refl, tt)
answer_told run W S F s tx from false true k = tt
answer_told run W S F s tx from false false k = (tt, tt)

out_step : (run : ℕ) (W : TxId → ℕ → List (ℕ × ℕ) → Type 0) (S : TxId → Type 0) (F : ℕ → TxId → Type 0) (s t : Shard) {e : Event} {o : Outcome} → Tables s t e o → Owes run W S F s e o → Parted run W S F s
    → ((ms : List Message) → AllByRecursion (Tells run W S F s) ms → AllByRecursion (Tells run W S F t) ms) → AllByRecursion (Tells run W S F t) t.outbox
out_step run W S F s t (same a b c) w p k = subst (AllByRecursion (Tells run W S F t)) (sym c) (k s.outbox p.out)
out_step run W S F s t (coordinates tx ts a b c) w p k =
    subst (AllByRecursion (Tells run W S F t)) (sym c)
    (k (s.outbox ++ prepares s.shard tx ts)
    (all_append _ s.outbox (prepares s.shard tx ts) p.out
    (prepares_told run W S F s tx ts (filter (λ t. not (t.0 == s.shard)) ts) s.shard w (others_all s.shard (λ t. not (t.0 == s.shard)) ts (λ t e. not-true _ e)))))
out_step run W S F s t (owes tx home seen stamp a b c) w p k = subst (AllByRecursion (Tells run W S F t)) (sym c) (k s.outbox p.out)
out_step run W S F s t (counts tx from vote stamp q g i a b c) w p k = subst (AllByRecursion (Tells run W S F t)) (sym c) (k s.outbox p.out)
out_step run W S F s t (done tx from q g i a b c) w p k = subst (AllByRecursion (Tells run W S F t)) (sym c) (k s.outbox p.out)
out_step run W S F s t (sent m ms g a b c) w p k = subst (AllByRecursion (Tells run W S F t)) (sym c) (k ms (subst (AllByRecursion (Tells run W S F s)) g p.out).1)
out_step run W S F s t (again home tx a b c) w p k =
    subst (AllByRecursion (Tells run W S F t)) (sym c) (k (s.outbox ++ Done home tx s.shard ∷ []) (all_append _ s.outbox (Done home tx s.shard ∷ []) p.out (tt, tt)))
out_step run W S F s t (answers tx from a b c) w p k =
    let ms = ask_messages s tx from (ask_answer (tx_get tx s.requests) (facts_of s tx)) in
    subst (AllByRecursion (Tells run W S F t)) (sym c)
    (k (s.outbox ++ ms)
    (all_append _ s.outbox ms p.out
    (answer_told run W S F s tx from (has_durable_commit (facts_of s tx)) (is_some (commit_lsn s.local.log tx) || stands_open (tx_get tx s.requests)) (λ d. durable_good run W S F s tx p d))))
out_step run W S F s t (reminds a b c) w p k =
    subst (AllByRecursion (Tells run W S F t)) (sym c) (k (s.outbox ++ reminders s) (all_append _ s.outbox (reminders s) p.out (reminders_told run W S F s p)))

-- ---- each step

alone_good : (run : ℕ) (W : TxId → ℕ → List (ℕ × ℕ) → Type 0) (F : ℕ → TxId → Type 0) (tx : TxId) (home : ℕ) (ts : List (ℕ × ℕ)) → Once run W → W tx home ts → is_alone (others home ts) ≡ true → Good run W F tx
alone_good run W F tx home ts u w a = λ m k.
    let c = k (u.mine tx home ts w) in
    let e = u.one tx c.0 home c.1 ts c.2 w in
    absurd (at m (others home ts) a (subst (λ n. nat_in m (others n ts) ≡ true) e.0 (subst (λ l. nat_in m (others c.0 l) ≡ true) e.1 c.3)))
  where
    at : (m : ℕ) (os : List ℕ) → is_alone os ≡ true → nat_in m os ≡ true → ⊥
    at m [] a i = both_ways false refl i
    at m (o ∷ os) a i = both_ways false refl a

commits_owed : (run : ℕ) (W : TxId → ℕ → List (ℕ × ℕ) → Type 0) (S : TxId → Type 0) (F : ℕ → TxId → Type 0) (s : Shard) {e : Event} {o : Outcome} (tx : TxId) → Once run W → Commits s tx e o → Owes run W S F s e o → Good run W F tx
commits_owed run W S F s tx u (alone ts a n) w = alone_good run W F tx s.shard ts u w a
commits_owed run W S F s tx u (decided home stamp) w = w

pub parted_step : (run : ℕ) (W : TxId → ℕ → List (ℕ × ℕ) → Type 0) (S : TxId → Type 0) (F : ℕ → TxId → Type 0) (s t : Shard) {e : Event} {o : Outcome} → Once run W → Step s e o t → Owes run W S F s e o → Parted run W S F s → Parted run W S F t
parted_step run W S F s t {e} {o} u h w p =
    let i = inside_step s t h in
    let b = step_tables s t h in
    let c : (tx : TxId) → S tx → Calm s t tx = λ tx a. calm_step s t tx h (not_own run W S F s e o tx w a) in
    let l = (p.base).counted in
    record {
      base = base_step run W S F s t h w p.base;
      log = λ tx k. ⊎_elim (λ x. p.log tx x) (λ x. commits_owed run W S F s tx u x w) (step_commits s t tx h k);
      rows = subst (λ n. RowsAre W F n t.requests) (sym i.shard) (rows_step run W S F s t b w p.rows);
      voters = voters_step run W S F s t b w (voters_calm S s t s.voters c l p.voters);
      out = out_step run W S F s t b w p (λ ms a. tells_calm run W S F s t ms i.shard c l a);
    }

-- ---- what is due

commit_told : (run : ℕ) (W : TxId → ℕ → List (ℕ × ℕ) → Type 0) (S : TxId → Type 0) (F : ℕ → TxId → Type 0) (s : Shard) (tx : TxId) (o : Option Request) (v : Option Voter) → Good run W F tx → AllByRecursion (Tells run W S F s) (commit_messages s tx o v)
commit_told run W S F s tx (Some q) v k = at q.state
  where
    at : (st : RequestState) → AllByRecursion (Tells run W S F s) (elim st [ Committed parts ↦ map (λ p. Decide p tx s.shard true) parts | Undecided ↦ [] | Finished ↦ [] | Refused cause ↦ [] ])
    at Undecided = tt
    at (Committed parts) = all_map _ (λ p. Decide p tx s.shard true) parts (λ p. k)
    at Finished = tt
    at (Refused cause) = tt
commit_told run W S F s tx None (Some v) k = (tt, tt)
commit_told run W S F s tx None None k = tt

-- the vote that is given binds what it tells
vote_binds : (run : ℕ) (W : TxId → ℕ → List (ℕ × ℕ) → Type 0) (S : TxId → Type 0) (F : ℕ → TxId → Type 0) (s : Shard) (tx : TxId) (v : Voter) (vote : Vote) → Calm s (finish_reader tx vote (with_vote s tx v vote)) tx → S tx → VotedIs S s tx v.vote → VoteIs s tx v vote → Base run W s
    → VotedIs S (finish_reader tx vote (with_vote s tx v vote)) tx (Some vote)
vote_binds run W S F s tx v vote c a k (kept e) b = voted_calm S s (finish_reader tx vote (with_vote s tx v vote)) tx (Some vote) (λ z. c) b.counted (subst (VotedIs S s tx) e k)
vote_binds run W S F s tx v _ c a k (yes st d e) b = voted_calm S s (finish_reader tx Yes (with_vote s tx v Yes)) tx (Some Yes) (λ z. c) b.counted (a, yes_binds s tx (b.listed tx) st d e)
vote_binds run W S F s tx v _ c a k (read st f g) b =
    let gone : stage_in (finish_reader tx Read (with_vote s tx v Read)).local.parts tx ≡ Some (Gone None) = stage_own (tx ∷ []) None tx s.local.parts (or_left (tx_same tx tx) false (tx_self tx)) ∙ ap (gone_by None) st in (
      a,
      record {
        unprepared = false_from_ne_true _ (λ h. both_ways _ f (b.stands tx h st));
        inactive = λ h. differ (sym gone ∙ h);
        unclosed = λ h. differs (sym gone ∙ h);
      },
    )
  where
    differ : Some (Gone None) ≡ Some Active → ⊥
    differ z = absurd cc

    differs : Some (Gone None) ≡ Some Closed → ⊥
    differs z = absurd cc
vote_binds run W S F s tx v Yes c a k (no x y) b = absurd (x refl)
vote_binds run W S F s tx v Read c a k (no x y) b = absurd (y refl)
vote_binds run W S F s tx v (No why) c a k (no x y) b = tt

voter_asked : (S : TxId → Type 0) (s : Shard) (tx : TxId) (v : Voter) → (v.owed == 0) ≡ false → VoterIs S s tx v → S tx × VotedIs S s tx v.vote
voter_asked S s tx v e (inl p) = absurd (both_ways _ e p.0)
voter_asked S s tx v e (inr p) = p

pub reader_tables : (s : Shard) (tx : TxId) (v : Voter) (vote : Vote)
    → ((finish_reader tx vote (with_vote s tx v vote)).voters ≡ tx_set tx (voted vote v) s.voters) × ((finish_reader tx vote (with_vote s tx v vote)).outbox ≡ s.outbox ++ VoteMessage v.home tx s.shard vote ∷ [])
    × ((finish_reader tx vote (with_vote s tx v vote)).requests ≡ s.requests) × ((finish_reader tx vote (with_vote s tx v vote)).local.log ≡ s.local.log)
reader_tables s tx v Yes = (refl, refl, refl, refl)
reader_tables s tx v Read = (refl, refl, refl, refl)
reader_tables s tx v (No why) = (refl, refl, refl, refl)

-- what is known after something that is due, but for what it adds
parted_votes : (run : ℕ) (W : TxId → ℕ → List (ℕ × ℕ) → Type 0) (S : TxId → Type 0) (F : ℕ → TxId → Type 0) (s t : Shard) (tx : TxId) (v : Voter) (vote : Vote) → t ≡ finish_reader tx vote (with_vote s tx v vote) → Due s (Some t) → tx_get tx s.voters ≡ Some v → VoteIs s tx v vote × ((v.owed == 0) ≡ false)
    → Parted run W S F s → Parted run W S F t
parted_votes run W S F s t tx v vote eq d g f p =
    let i = inside_due s s t d (inside_self s) in
    let c : (u : TxId) → S u → Calm s t u = λ u a. calm_one s t u d in
    let l = (p.base).counted in
    let q = voter_asked S s tx v f.1 (rows_get (λ r. VoterIs S s r.0 r.1) tx v s.voters p.voters g) in
    let new : VotedIs S t tx (Some vote) = subst (λ z. VotedIs S z tx (Some vote)) (sym eq) (vote_binds run W S F s tx v vote (subst (λ z. Calm s z tx) eq (calm_one s t tx d)) q.0 q.1 f.0 p.base) in
    let r = reader_tables s tx v vote in
    record {
      base = base_due run W s t d p.base;
      log = λ u k. p.log u (subst (λ z. committed_in z u ≡ true) (ap (λ z. z.local.log) eq ∙ r.3) k);
      rows = subst (λ n. RowsAre W F n t.requests) (sym i.shard) (subst (RowsAre W F s.shard) (sym (ap (λ z. z.requests) eq ∙ r.2)) p.rows);
      voters = subst (VotersAre S t) (sym (ap (λ z. z.voters) eq ∙ r.0)) (rows_set (λ x. VoterIs S t x.0 x.1) tx (voted vote v) s.voters (inr (q.0, new)) (voters_calm S s t s.voters c l p.voters));
      out = subst (AllByRecursion (Tells run W S F t)) (sym (ap (λ z. z.outbox) eq ∙ r.1))
          (all_append _ s.outbox (VoteMessage v.home tx s.shard vote ∷ []) (tells_calm run W S F s t s.outbox i.shard c l p.out) ((sym i.shard, new), tt));
    }

-- a COMMIT that is ruled is of one whose votes are all good
agreed_all : (run : ℕ) (W : TxId → ℕ → List (ℕ × ℕ) → Type 0) (F : ℕ → TxId → Type 0) (s : Shard) (tx : TxId) (q : Request) (f : PartFacts) (parts : List ℕ) → Once run W → (q.state ≡ Undecided) × (is_agreed s.shard q f ≡ true) → RowIs W F s.shard tx q q.state → Good run W F tx
agreed_all run W F s tx q f parts u e p = λ m k.
    let r = subst (RowIs W F s.shard tx q) e.0 p in
    let c = k (u.mine tx s.shard q.touched r.0) in
    let o = u.one tx c.0 s.shard c.1 q.touched c.2 r.0 in
    agreed_good F tx s.shard q f m e.1 (subst (λ n. nat_in m (others n q.touched) ≡ true) o.0 (subst (λ l. nat_in m (others c.0 l) ≡ true) o.1 c.3)) r.1

ended_row : (W : TxId → ℕ → List (ℕ × ℕ) → Type 0) (F : ℕ → TxId → Type 0) (shard : ℕ) (tx : TxId) (q : Request) (st : RequestState) → RowIs W F shard tx q st → RowIs W F shard tx (record q { is_ended = true }) st
ended_row W F shard tx q Undecided p = p
ended_row W F shard tx q (Committed parts) p = tt
ended_row W F shard tx q Finished p = tt
ended_row W F shard tx q (Refused cause) p = p

parted_rules : (run : ℕ) (W : TxId → ℕ → List (ℕ × ℕ) → Type 0) (S : TxId → Type 0) (F : ℕ → TxId → Type 0) (s t : Shard) → Due s (Some t) → t.voters ≡ s.voters → RowsAre W F s.shard t.requests
    → ((u : TxId) → committed_in t.local.log u ≡ true → Good run W F u) → AllByRecursion (Tells run W S F s) t.outbox → Parted run W S F s → Parted run W S F t
parted_rules run W S F s t d v r k a p =
    let i = inside_due s s t d (inside_self s) in
    let c : (u : TxId) → S u → Calm s t u = λ u x. calm_one s t u d in
    let l = (p.base).counted in
    record {
      base = base_due run W s t d p.base;
      log = k;
      rows = subst (λ n. RowsAre W F n t.requests) (sym i.shard) r;
      voters = subst (VotersAre S t) (sym v) (voters_calm S s t s.voters c l p.voters);
      out = tells_calm run W S F s t t.outbox i.shard c l a;
    }

row_set : (W : TxId → ℕ → List (ℕ × ℕ) → Type 0) (F : ℕ → TxId → Type 0) (s : Shard) (tx : TxId) (w : Request) → RowIs W F s.shard tx w w.state → RowsAre W F s.shard s.requests → RowsAre W F s.shard (tx_set tx w s.requests)
row_set W F s tx w k p = rows_set (λ r. RowIs W F s.shard r.0 r.1 (r.1).state) tx w s.requests k p

parted_due : (run : ℕ) (W : TxId → ℕ → List (ℕ × ℕ) → Type 0) (S : TxId → Type 0) (F : ℕ → TxId → Type 0) → Once run W → KeptByDue (Parted run W S F)
parted_due run W S F u s _ (commits tx a d) p =
    parted_rules run W S F s _ (commits tx a d) refl p.rows (λ v k. p.log v k)
    (all_append _ s.outbox (commit_messages s tx (tx_get tx s.requests) (tx_get tx s.voters)) p.out (commit_told run W S F s tx (tx_get tx s.requests) (tx_get tx s.voters) (durable_good run W S F s tx p d))) p
parted_due run W S F u s _ (votes tx v vote g e) p = parted_votes run W S F s _ tx v vote refl (votes tx v vote g e) g (vote_is s tx v vote e) p
parted_due run W S F u s _ (rules tx q (CommitVerdict parts) g e) p =
    parted_rules run W S F s _ (rules tx q (CommitVerdict parts) g e) refl (row_set W F s tx (ruled_request (CommitVerdict parts) q) tt p.rows)
    (λ v k. ⊎_elim (λ x. p.log v x)
    (λ x. subst (Good run W F) (sym x) (agreed_all run W F s tx q (facts_of s tx) parts u (commit_agreed s.shard tx q (facts_of s tx) parts e) (rows_get (λ r. RowIs W F s.shard r.0 r.1 (r.1).state) tx q s.requests p.rows g)))
    (new_commit s.local.log tx parts v k)) p.out p
parted_due run W S F u s _ (rules tx q Acknowledge g e) p =
    parted_rules run W S F s _ (rules tx q Acknowledge g e) refl (row_set W F s tx (ruled_request Acknowledge q) tt p.rows) (λ v k. p.log v k) p.out p
parted_due run W S F u s _ (rules tx q (AbortVerdict cause to) g e) p =
    parted_rules run W S F s _ (rules tx q (AbortVerdict cause to) g e) refl (row_set W F s tx (ruled_request (AbortVerdict cause to) q) (subst (RowIs W F s.shard tx q) (abort_undecided s.shard tx q (facts_of s tx) cause to e) (rows_get (λ r. RowIs W F s.shard r.0 r.1 (r.1).state) tx q s.requests p.rows g)).0 p.rows) (λ v k. p.log v (rolled tx s.local v k))
    (all_append _ s.outbox (map (λ n. Decide n tx s.shard false) to) p.out (all_map _ (λ n. Decide n tx s.shard false) to (λ n. tt))) p
parted_due run W S F u s _ (rules tx q EndVerdict g e) p =
    parted_rules run W S F s _ (rules tx q EndVerdict g e) refl
    (row_set W F s tx (ruled_request EndVerdict q) (ended_row W F s.shard tx q q.state (rows_get (λ r. RowIs W F s.shard r.0 r.1 (r.1).state) tx q s.requests p.rows g)) p.rows)
    (λ v k. p.log v (with_more s.local.log (End tx ∷ []) ((λ t. refl), tt) v k)) p.out p

pub parted_same : (run : ℕ) (W : TxId → ℕ → List (ℕ × ℕ) → Type 0) (S : TxId → Type 0) (F : ℕ → TxId → Type 0) (s t : Shard) → ((tx : TxId) → Calm s t tx) → Inside s t → t.local.log ≡ s.local.log → t.local.parts ≡ s.local.parts → t.local.pairs ≡ s.local.pairs → t.requests ≡ s.requests → t.voters ≡ s.voters
    → t.outbox ≡ s.outbox → Parted run W S F s → Parted run W S F t
parted_same run W S F s t c i e f g a v o p =
    let l = (p.base).counted in
    record {
      base = base_next run W s t i (λ tx q h. inl (subst (λ z. prepare_of z tx ≡ Some q) e h)) (λ tx h. inl (subst (λ z. stage_in z tx ≡ Some Closed) f h)) (λ tx q h j. subst (λ z. is_pair z tx q ≡ true) (sym g) j)
          (λ tx h. (p.base).unprepared tx (subst (λ z. stage_in z tx ≡ Some Active) f h))
          (subst (GrowsFirmly s.local.log) (sym e) (nothing s.local.log)) (λ tx d n h. subst (λ z. has_standing z tx ≡ true) (sym e) h) p.base;
      log = λ tx h. p.log tx (subst (λ z. committed_in z tx ≡ true) e h);
      rows = subst (λ n. RowsAre W F n t.requests) (sym i.shard) (subst (RowsAre W F s.shard) (sym a) p.rows);
      voters = subst (VotersAre S t) (sym v) (voters_calm S s t s.voters (λ tx z. c tx) l p.voters);
      out = subst (AllByRecursion (Tells run W S F t)) (sym o) (tells_calm run W S F s t s.outbox i.shard (λ tx z. c tx) l p.out);
    }

pub parted_finish : (run : ℕ) (W : TxId → ℕ → List (ℕ × ℕ) → Type 0) (S : TxId → Type 0) (F : ℕ → TxId → Type 0) (s : Shard) → Once run W → Parted run W S F s → Parted run W S F (finish s)
parted_finish run W S F s u p =
    let x = with_due_done s in
    parted_same run W S F x (finish s) (λ tx. calm_same x (finish s) tx (record { shard = refl; durable = refl; log = same_log x.local.log }) refl refl (λ t q h. h)) (record { shard = refl; durable = refl; log = same_log x.local.log }) refl refl refl refl refl refl (settled (Parted run W S F) s (parted_due run W S F u) p)
