-- Each event keeps that whose part was taken away by an abort has no COMMIT.
use Rattle.std.proofs.Common.{◌≡◌, ◌⊎◌, inl, inr, ⊎_elim, refl, sym, ap, subst, ◌∙◌, ℕ, true, false, cond, Bool, ◌&&◌, List, [], Option, Some, None}
use Rattle.std.specs.Prelude.{⊤}
use Rattle.std.proofs.lemmas.Bool.{both_ways, false_from_ne_true}
use Rattle.clv_base.specs.declared.names.TxId.{TxId}
use Rattle.clv_base.specs.declared.names.Birth.{Birth}
use Rattle.clv_base.specs.declared.ops.Op.{Op}
use Rattle.clv_base.specs.declared.ops.Answer.{Answer}
use Rattle.clv_base.specs.declared.causes.AbortCause.{AbortCause}
use Rattle.clv_base.specs.declared.causes.Vote.{Vote}
use Rattle.clv_base.specs.declared.logs.LogRecord.{LogRecord}
use Rattle.clv_base.specs.declared.messages.Message.TheVariants.{Vote as VoteMessage, Decide}
use Rattle.clv_base.specs.declared.state.Stage.{Stage}
use Rattle.clv_base.specs.declared.state.Stage.TheVariants.{Active, Closed, Gone}
use Rattle.clv_base.specs.declared.state.Request.{Request}
use Rattle.clv_base.specs.declared.state.RequestState.{RequestState}
use Rattle.clv_base.specs.declared.state.RequestState.TheVariants.{Undecided, Committed, Finished, Refused}
use Rattle.clv_base.specs.declared.events.Event.{Event}
use Rattle.clv_base.specs.declared.events.Event.TheVariants.{Op as OpEvent, Request as RequestEvent, Drop, Deliver}
use Rattle.clv_base.specs.declared.events.Entry.{Entry}
use Rattle.clv_base.specs.declared.events.Outcome.{Outcome}
use Rattle.clv_base.specs.Orders.{Table, tx_same, tx_get, tx_put, tx_set}
use Rattle.clv_base.specs.Logs.{committed_in, in_doubt}
use Rattle.history_laws.proofs.NeverTakenBack.LaterHistoriesHoldMembers.{committed_front}
use Rattle.protocol_laws.proofs.LogOnlyGrows.DueGrowsLogs.{more_twice}
use Rattle.law_base.proofs.Rows.{rows_get}
use Rattle.history_cases.proofs.Telling.{all_map}
use Rattle.clv_base.specs.Needs.{writes_of, value_at, key_of}
use Rattle.clv_base.specs.State.{Shard, Local, is_present}
use Rattle.clv_base.specs.Undo.{stage_of, roll_back}
use Rattle.clv_base.specs.Facts.{facts_of, has_durable_commit, is_waiting}
use Rattle.clv_base.specs.Coordinator.{new_request, takes_vote, with_vote_of, with_done_of, restored_request, restored_requests}
use Rattle.clv_base.specs.OneShard.{OpDies, OpAnswers, new_part, locked, performed, rolled_back_if, closed_in}
use Rattle.clv_base.specs.Events.{finish, with_durable}
use Rattle.clv_base.specs.Restarts.{state_after, unended_in}
use Rattle.clv_base.specs.Journals.{up_to_restart}
use Rattle.clv_base.proofs.SameNames.{tx_true, tx_self}
use Rattle.law_base.proofs.Changed.{some_same, get_set}
use Rattle.law_base.proofs.Tables.{stage_by, stage_in, get_put}
use Rattle.law_base.proofs.Stages.{stage_closed, closed_other, written_parts, stage_marked, other_part}
use Rattle.shard_laws.proofs.Restarts.RestoredLocksAndParts.{restored_stage}
use Rattle.history_laws.proofs.Entries.WhatOperationsDo.{OpIs, dies, rolls, performs, reply_is}
use Rattle.history_cases.proofs.Stepping.{settled, Step, op_dies, op_answers, request_new, request_closes, drops, prepare_closes, vote_counts, decision_comes, done_counts, Happens, finishes, stops, rolls_back}
use Rattle.history_cases.proofs.Entering.{Makes, by_event, by_flush, by_failure, by_restart}
use Rattle.fate_laws.proofs.Homes.EventsKeepHomes.{awaits, put_get, counts_undecided}
use Rattle.fate_laws.proofs.Logs.WhatPreparesOrCommits.{Commits, alone, decided, step_commits, new_active}
use Rattle.fate_laws.proofs.CommitsGoDownwards.{down_step, down_state, Owes as OwesDown}
use Rattle.fate_laws.proofs.Parts.CommitsHaveTheirParts.{taken_closed}
use Rattle.fate_laws.proofs.AbortedAreCommittedNowhere.DueKeepsDoomedUncommitted.{RowKeeps, Kept, row_log, gone_rolled, kept_due}
use Rattle.fate_laws.proofs.Homes.ShardKnowsHomes.{new_commit}

-- a request that may not get a COMMIT from elsewhere
abbrev pub NotPending : RequestState → Type 0
NotPending Undecided = ⊥
NotPending (Committed parts) = ⊤
NotPending Finished = ⊤
NotPending (Refused cause) = ⊥

-- a drop is of one that isn't committed; a commit that comes is of no request here; a vote that counts is of one that isn't committed
abbrev pub Owes : Shard → Event → Type 0
Owes s (OpEvent tx birth nth seen op) = committed_in s.local.log tx ≡ false
Owes s (Drop tx) = committed_in s.local.log tx ≡ false
Owes s (Deliver (VoteMessage to tx from vote) stamp) = (q : Request) → tx_get tx s.requests ≡ Some q → takes_vote s.shard from q ≡ true → committed_in s.local.log tx ≡ false
Owes s (Deliver (Decide to tx home true) stamp) = committed_in s.local.log tx ≡ false → (q : Request) → tx_get tx s.requests ≡ Some q → NotPending q.state
Owes s _ = ⊤

-- ---- who is gone after a step was gone, or is rolled back

-- whose part is gone by an abort after the step has no COMMIT before it, and isn't closed
abbrev GoneSafe : Shard → Shard → Type 0
GoneSafe s t = (v d : TxId) → stage_of t.local v ≡ Some (Gone (Some d)) → committed_in s.local.log v ≡ false

performed_gone : (s : Shard) (u v d : TxId) (birth : Birth) (op : Op) → (stage_of s.local u ≡ None) ⊎ (stage_of s.local u ≡ Some Active) → stage_of (performed u birth op s.local) v ≡ Some (Gone (Some d)) → stage_of s.local v ≡ Some (Gone (Some d))
performed_gone s u v d birth op k h = at (tx_same v u) refl
  where
    st : stage_in (new_part u birth (tx_get u s.local.parts) s.local.parts) v ≡ Some (Gone (Some d))
    st = ap (λ l. stage_in l v) (sym (written_parts u (writes_of op (value_at (key_of op) s.local.records)) (locked u birth op s.local))) ∙ h

    differ : Some Active ≡ Some (Gone (Some d)) → ⊥
    differ z = absurd cc

    at : (b : Bool) → tx_same v u ≡ b → stage_of s.local v ≡ Some (Gone (Some d))
    at true e =
        let q : v ≡ u = tx_true v u e in
        absurd (differ (sym (new_active u birth s.local.parts (tx_get u s.local.parts) refl k) ∙ subst (λ w. stage_in (new_part u birth (tx_get u s.local.parts) s.local.parts) w ≡ Some (Gone (Some d))) q st))
    at false e = sym (ap stage_by (other_part u birth s.local.parts v (tx_get u s.local.parts) e)) ∙ st

answers_gone : (s : Shard) (u : TxId) (birth : Birth) (seen : Option ℕ) (op : Op) (a : Answer) (l : Local) → OpIs s.local u birth seen op (OpAnswers a l) → Kept s → (v d : TxId) → stage_of l v ≡ Some (Gone (Some d)) → committed_in s.local.log v ≡ false
answers_gone s u birth seen op _ _ (performs f e) p v d h = p.gone v d (performed_gone s u v d birth op e h)

rolled_safe : (s : Shard) (u v d : TxId) → committed_in s.local.log u ≡ false → Kept s → stage_of (roll_back u s.local) v ≡ Some (Gone (Some d)) → committed_in s.local.log v ≡ false
rolled_safe s u v d o p h = before (gone_rolled s u v d o p h)
  where
    before : committed_in (roll_back u s.local).log v ≡ false → committed_in s.local.log v ≡ false
    before n = false_from_ne_true _ (λ c. both_ways _ n (committed_front s.local.log (roll_back u s.local).log v (more_twice s.local.log _ _) c))

dies_gone : (s : Shard) (u : TxId) (birth : Birth) (seen : Option ℕ) (op : Op) (c : AbortCause) (l : Local) → OpIs s.local u birth seen op (OpDies c l) → committed_in s.local.log u ≡ false → Kept s → (v d : TxId) → stage_of l v ≡ Some (Gone (Some d)) → committed_in s.local.log v ≡ false
dies_gone s u birth seen op c _ dies o p v d h = p.gone v d h
dies_gone s u birth seen op c _ rolls o p v d h = rolled_safe s u v d o p h

without_gone : (s : Shard) (u v d : TxId) (b : Bool) → committed_in s.local.log u ≡ false → Kept s → stage_of (rolled_back_if b u s.local) v ≡ Some (Gone (Some d)) → committed_in s.local.log v ≡ false
without_gone s u v d true o p h = rolled_safe s u v d o p h
without_gone s u v d false o p h = p.gone v d h

close_gone : (s : Shard) (u v d : TxId) → stage_of s.local u ≡ Some Active → Kept s → stage_in (closed_in u s.local.parts) v ≡ Some (Gone (Some d)) → committed_in s.local.log v ≡ false
close_gone s u v d a p h = at (tx_same u v) refl
  where
    differ : Some Closed ≡ Some (Gone (Some d)) → ⊥
    differ z = absurd cc

    at : (b : Bool) → tx_same u v ≡ b → committed_in s.local.log v ≡ false
    at true e = absurd (differ (sym (stage_closed s.local.parts u a) ∙ subst (λ w. stage_in (closed_in u s.local.parts) w ≡ Some (Gone (Some d))) (sym (tx_true u v e)) h))
    at false e = p.gone v d (sym (closed_other s.local.parts u v e) ∙ h)

safe_step : (s t : Shard) {e : Event} {o : Outcome} → Step s e o t → Owes s e → Kept s → GoneSafe s t
safe_step s _ (op_dies u birth nth seen op cause l g) w p v d h = dies_gone s u birth seen op cause l (reply_is s.shard s.local u birth seen op _ g) w p v d h
safe_step s _ (op_answers u birth nth seen op answer l g) w p v d h = answers_gone s u birth seen op answer l (reply_is s.shard s.local u birth seen op _ g) p v d h
safe_step s _ (request_closes u ts f0 g) w p v d h = close_gone s u v d g p h
safe_step s _ (drops u stage g) w p v d h = without_gone s u v d (is_present (stage_of s.local u)) w p (sym (stage_marked u v (rolled_back_if (is_present (stage_of s.local u)) u s.local).parts) ∙ h)
safe_step s _ (prepare_closes u home seen stamp g) w p v d h = close_gone s u v d g p h
safe_step s _ (decision_comes u home false stamp g) w p v d h = rolled_safe s u v d (awaits s u false g) p h
safe_step s _ _ w p v d h = p.gone v d h

-- a request, or word of a commit
abbrev commit_kind : Event → Bool
commit_kind (RequestEvent tx ts) = true
commit_kind (Deliver (Decide to tx home true) stamp) = true
commit_kind _ = false

kind : (s : Shard) {e : Event} {o : Outcome} (v : TxId) → Commits s v e o → commit_kind e ≡ true
kind s v (alone ts k n) = refl
kind s v (decided home stamp) = refl

no_commits : (s : Shard) {e : Event} {o : Outcome} → commit_kind e ≡ false → (v : TxId) → Commits s v e o → ⊥
no_commits s f v z = both_ways _ f (kind s v z)

-- whose the COMMIT is
pub whose_request : (s : Shard) {e : Event} {o : Outcome} (v u : TxId) (ts : List (ℕ × ℕ)) → Commits s v e o → e ≡ RequestEvent u ts → v ≡ u
whose_request s v u ts (alone xs k n) z = cc
whose_request s v u ts (decided home stamp) z = absurd cc

whose_decision : (s : Shard) {e : Event} {o : Outcome} (v u : TxId) (to home stamp : ℕ) → Commits s v e o → e ≡ Deliver (Decide to u home true) stamp → v ≡ u
whose_decision s v u to home stamp (alone xs k n) z = absurd cc
whose_decision s v u to home stamp (decided home' stamp') z = cc

closed_not_gone : (o : Option Stage) (d : TxId) → o ≡ Some Closed → o ≡ Some (Gone (Some d)) → ⊥
closed_not_gone o d e f = differ (sym e ∙ f)
  where
    differ : Some Closed ≡ Some (Gone (Some d)) → ⊥
    differ z = absurd cc

-- a COMMIT comes only to a part that is closed by it, or was
commit_stage : (s t : Shard) {e : Event} {o : Outcome} (v d : TxId) → Step s e o t → Commits s v e o → stage_of t.local v ≡ Some (Gone (Some d)) → committed_in s.local.log v ≡ false → committed_in t.local.log v ≡ true → ⊥
commit_stage s t v d (op_dies tx birth nth seen op cause l g) z h o c = no_commits s refl v z
commit_stage s t v d (op_answers tx birth nth seen op answer l g) z h o c = no_commits s refl v z
commit_stage s t v d (request_closes u ts f0 g) z h o c =
    closed_not_gone (stage_in (closed_in u s.local.parts) u) d (stage_closed s.local.parts u g) (subst (λ x. stage_in (closed_in u s.local.parts) x ≡ Some (Gone (Some d))) (whose_request s v u ts z refl) h)
commit_stage s t v d (rolls_back tx nth seen upto f g) z h o c = no_commits s refl v z
commit_stage s t v d (drops tx stage g) z h o c = no_commits s refl v z
commit_stage s t v d (prepare_closes tx home seen stamp g) z h o c = no_commits s refl v z
commit_stage s t v d (decision_comes u home true stamp g) z h o c =
    closed_not_gone (stage_of s.local u) d (taken_closed s u (is_waiting (facts_of s u)) (true && has_durable_commit (facts_of s u)) refl g)
    (subst (λ x. stage_of s.local x ≡ Some (Gone (Some d))) (whose_decision s v u s.shard home stamp z refl) h)
commit_stage s t v d (decision_comes u home false stamp g) z h o c = no_commits s refl v z
commit_stage s t v d _ z h o c = both_ways _ o c

gone_step : (s t : Shard) {e : Event} {o : Outcome} → Step s e o t → Owes s e → Kept s → (v d : TxId) → stage_of t.local v ≡ Some (Gone (Some d)) → committed_in t.local.log v ≡ false
gone_step s t h w p v d g =
    let o = safe_step s t h w p v d g in
    false_from_ne_true _ (λ c. ⊎_elim (λ z. both_ways _ o z) (λ z. commit_stage s t v d h z g o c) (step_commits s t v h c))

-- ---- requests

voted_keeps : (s : Shard) (tx : TxId) (q : Request) (from : ℕ) (vote : Vote) → q.state ≡ Undecided → committed_in s.local.log tx ≡ false → RowKeeps s.local.log tx (with_vote_of from vote q) q.state
voted_keeps s tx q from vote e o = subst (RowKeeps s.local.log tx (with_vote_of from vote q)) (sym e) (λ c. absurd (both_ways _ o c))

done_keeps : (log : List LogRecord) (tx : TxId) (q : Request) (from : ℕ) (st : RequestState) → RowKeeps log tx q st → RowKeeps log tx (with_done_of from q) st
done_keeps log tx q from Undecided p = p
done_keeps log tx q from (Committed parts) p = tt
done_keeps log tx q from Finished p = tt
done_keeps log tx q from (Refused cause) p = p

pending_keeps : (log log' : List LogRecord) (tx : TxId) (q : Request) (st : RequestState) → NotPending st → RowKeeps log' tx q st
pending_keeps log log' tx q Undecided n = absurd n
pending_keeps log log' tx q (Committed parts) n = tt
pending_keeps log log' tx q Finished n = tt
pending_keeps log log' tx q (Refused cause) n = absurd n

abbrev Rows : Shard → Table Request → List LogRecord → Type 0
Rows s rs log = (u : TxId) (q : Request) → tx_get u rs ≡ Some q → RowKeeps log u q q.state

put_rows : (s t : Shard) (u : TxId) (ts : List (ℕ × ℕ)) → ((v : TxId) → committed_in t.local.log v ≡ true → (committed_in s.local.log v ≡ true) ⊎ (v ≡ u)) → Kept s → Rows s (tx_put u (new_request ts Undecided) s.requests) t.local.log
put_rows s t u ts k p v q g =
    ⊎_elim (λ a. subst (λ z. RowKeeps t.local.log v z z.state) (sym a.1) (λ c. refl))
    (λ b. by_name (tx_same v u) refl b)
    (put_get u v (new_request ts Undecided) q s.requests (tx_same v u) refl (sym (get_put u v (new_request ts Undecided) s.requests) ∙ g))
  where
    by_name : (b : Bool) → tx_same v u ≡ b → tx_get v s.requests ≡ Some q → RowKeeps t.local.log v q q.state
    by_name true e f = subst (λ z. RowKeeps t.local.log v z z.state) (some_same (new_request ts Undecided) q (mine (tx_same v u) e (sym (get_put u v (new_request ts Undecided) s.requests) ∙ g))) (λ c. refl)
      where
        mine : (b : Bool) → b ≡ true → cond b (Some (new_request ts Undecided)) (tx_get v s.requests) ≡ Some q → Some (new_request ts Undecided) ≡ Some q
        mine true e f = f
        mine false e f = absurd (both_ways false refl e)
    by_name false e f = row_log s.local.log t.local.log v q q.state (λ c. ⊎_elim (λ a. a) (λ a. absurd (both_ways _ e (subst (λ z. tx_same v z ≡ true) a (tx_self v)))) (k v c)) (p.rows v q f)

set_row : (s : Shard) (u : TxId) (w : Request) → RowKeeps s.local.log u w w.state → Kept s → Rows s (tx_set u w s.requests) s.local.log
set_row s u w k p v q g =
    ⊎_elim (λ a. subst (λ z. RowKeeps s.local.log v z z.state) (sym a.1) (subst (λ x. RowKeeps s.local.log x w w.state) (sym a.0) k)) (λ b. p.rows v q b.1) (get_set u v w q s.requests g)

-- the requests are as they were, and no COMMITs came
plain_rows : (s t : Shard) {e : Event} {o : Outcome} → Step s e o t → ((v : TxId) → Commits s v e o → ⊥) → Kept s → Rows s s.requests t.local.log
plain_rows s t h n p v q g = row_log s.local.log t.local.log v q q.state (λ c. ⊎_elim (λ a. a) (λ a. absurd (n v a)) (step_commits s t v h c)) (p.rows v q g)

request_commits : (s t : Shard) {e : Event} {o : Outcome} (u v : TxId) (ts : List (ℕ × ℕ)) → Step s e o t → e ≡ RequestEvent u ts → committed_in t.local.log v ≡ true → (committed_in s.local.log v ≡ true) ⊎ (v ≡ u)
request_commits s t u v ts h q c = ⊎_elim (λ a. inl a) (λ a. inr (whose a q)) (step_commits s t v h c)
  where
    whose : {e : Event} {o : Outcome} → Commits s v e o → e ≡ RequestEvent u ts → v ≡ u
    whose (alone xs k n) z = cc
    whose (decided home stamp) z = absurd cc

decided_rows : (s t : Shard) (u : TxId) → ((v : TxId) → committed_in t.local.log v ≡ true → (committed_in s.local.log v ≡ true) ⊎ (v ≡ u)) → ((q : Request) → tx_get u s.requests ≡ Some q → NotPending q.state) → Kept s → Rows s s.requests t.local.log
decided_rows s t u k n p v q g = by_name (tx_same v u) refl
  where
    by_name : (b : Bool) → tx_same v u ≡ b → RowKeeps t.local.log v q q.state
    by_name true e = pending_keeps s.local.log t.local.log v q q.state (n q (subst (λ z. tx_get z s.requests ≡ Some q) (tx_true v u e) g))
    by_name false e = row_log s.local.log t.local.log v q q.state (λ c. ⊎_elim (λ a. a) (λ a. absurd (both_ways _ e (subst (λ z. tx_same v z ≡ true) a (tx_self v)))) (k v c)) (p.rows v q g)

rows_step : (s t : Shard) {e : Event} {o : Outcome} → Step s e o t → Owes s e → Kept s → Rows s t.requests t.local.log
rows_step s t (op_dies u birth nth seen op cause l g) w p = plain_rows s t (op_dies u birth nth seen op cause l g) (no_commits s refl) p
rows_step s t (op_answers u birth nth seen op answer l g) w p = plain_rows s t (op_answers u birth nth seen op answer l g) (no_commits s refl) p
rows_step s t (request_new u ts f0 g) w p = put_rows s t u ts (λ v c. inl c) p
rows_step s t (request_closes u ts f0 g) w p = put_rows s t u ts (λ v c. request_commits s t u v ts (request_closes u ts f0 g) refl c) p
rows_step s t (rolls_back u nth seen upto f g) w p = plain_rows s t (rolls_back u nth seen upto f g) (no_commits s refl) p
rows_step s t (drops u stage g) w p = plain_rows s t (drops u stage g) (no_commits s refl) p
rows_step s t (prepare_closes u home seen stamp g) w p = plain_rows s t (prepare_closes u home seen stamp g) (no_commits s refl) p
rows_step s t (vote_counts u from vote stamp q g c) w p = set_row s u (with_vote_of from vote q) (voted_keeps s u q from vote (counts_undecided s.shard from q q.state c) (w q g c)) p
rows_step s t (decision_comes u home true stamp g) w p = decided_rows s t u (λ v c. new_commit s.local.log u [] v c) (w (awaits s u true g)) p
rows_step s t (decision_comes u home false stamp g) w p = plain_rows s t (decision_comes u home false stamp g) (no_commits s refl) p
rows_step s t (done_counts u from stamp q g c) w p = set_row s u (with_done_of from q) (done_keeps s.local.log u q from q.state (p.rows u q g)) p
rows_step s t _ w p = p.rows

-- ---- each entry

pub kept_step : (s t : Shard) {e : Event} {o : Outcome} → Step s e o t → OwesDown s e → Owes s e → Kept s → Kept t
kept_step s t h d w p = record { down = down_step s t h d p.down; gone = gone_step s t h w p; rows = rows_step s t h w p }

kept_finish : (s : Shard) → Kept s → Kept (finish s)
kept_finish s p = let q = settled Kept s kept_due p in record { down = q.down; gone = q.gone; rows = q.rows }

pub kept_state : (shard own epoch : ℕ) (log : List LogRecord) (last : ℕ) (journal : List Entry) → Kept (state_after shard own epoch log last journal)
kept_state shard own epoch log last journal = record {
  down = down_state shard own epoch log last journal;
  gone = λ v d h. absurd (differ d (restored_stage (in_doubt shard log) v (Gone (Some d)) h).0);
  rows = λ v q g. rows_get (λ r. RowKeeps log r.0 r.1 (r.1).state) v q (restored_requests (unended_in log log)) (all_map _ (λ n. (n.0, restored_request n.1)) (unended_in log log) (λ n. tt)) g;
}
  where
    differ : (d : TxId) → Gone (Some d) ≡ Closed → ⊥
    differ d z = absurd cc

kept_event : (s t : Shard) {e : Event} {o : Outcome} → Happens s e o t → OwesDown s e → Owes s e → Kept s → Kept t
kept_event s _ (finishes {t = x} u h) d w p = kept_finish x (kept_step s x h d w p)
kept_event s _ (stops u) d w p = record { down = p.down; gone = p.gone; rows = p.rows }

pub kept_made : (log : List LogRecord) (s t : Shard) {e : Event} {o : Outcome} → Makes log s e o t → OwesDown s e → Owes s e → Kept s → Kept t
kept_made log s t (by_event g h) d w p = kept_event s t h d w p
kept_made log s _ (by_flush n u f) d w p = kept_finish (with_durable n s) (record { down = p.down; gone = p.gone; rows = p.rows })
kept_made log s _ (by_failure n u f) d w p = record { down = p.down; gone = p.gone; rows = p.rows }
kept_made log s _ (by_restart epoch kept u r) d w p = kept_state s.shard s.run epoch (up_to_restart s.run epoch log) s.last s.journal
