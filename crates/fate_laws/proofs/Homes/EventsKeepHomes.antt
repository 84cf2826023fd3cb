-- Each entry keeps what a shard knows of homes.
use Rattle.std.proofs.Common.{◌≡◌, ◌⊎◌, inl, inr, ⊎_elim, refl, sym, subst, ◌∙◌, ℕ, true, false, cond, Bool, List, [], ◌∷◌, ◌++◌, Option, Some, None, is_some, not, ◌&&◌, ◌||◌, ◌==◌, append-nil}
use Rattle.std.specs.List.{AllByRecursion, filter}
use Rattle.std.specs.Prelude.{⊤}
use Rattle.std.specs.Map.{keys_of}
use Rattle.std.proofs.lemmas.Bool.{both_ways, false_from_ne_true}
use Rattle.clv_base.specs.declared.names.TxId.{TxId}
use Rattle.clv_base.specs.declared.logs.LogRecord.{LogRecord}
use Rattle.clv_base.specs.declared.logs.LogRecord.TheVariants.{Prepare as PrepareRecord}
use Rattle.clv_base.specs.declared.causes.Vote.{Vote}
use Rattle.clv_base.specs.declared.messages.Message.{Message}
use Rattle.clv_base.specs.declared.messages.Message.TheVariants.{Prepare, Decide, Done, Ask}
use Rattle.clv_base.specs.declared.state.Voter.{Voter}
use Rattle.clv_base.specs.declared.state.Request.{Request}
use Rattle.clv_base.specs.declared.state.RequestState.{RequestState}
use Rattle.clv_base.specs.declared.state.RequestState.TheVariants.{Undecided, Committed, Finished, Refused}
use Rattle.clv_base.specs.declared.events.Event.{Event}
use Rattle.clv_base.specs.declared.events.Event.TheVariants.{Request as RequestEvent, Deliver}
use Rattle.clv_base.specs.declared.events.Outcome.{Outcome}
use Rattle.clv_base.specs.declared.events.Outcome.TheVariants.{Asked, Taken}
use Rattle.clv_base.specs.Orders.{Table, tx_same, tx_in, tx_get, tx_put, nat_in}
use Rattle.clv_base.specs.Logs.{committed_in, commit_lsn, prepared_in, prepare_of, is_commit_of, in_doubt, has_standing}
use Rattle.clv_base.specs.State.{Shard, Local, with_local}
use Rattle.clv_base.specs.declared.state.Taken.TheVariants.{Waiting as IsAwaited}
use Rattle.clv_base.specs.Undo.{roll_back, roll_to}
use Rattle.clv_base.specs.Facts.{facts_of, has_durable_commit, undecided_of, is_waiting}
use Rattle.clv_base.specs.Participant.{asked_voter, ask_by, asks, restored_voters, taken_by, taken_if}
use Rattle.clv_base.specs.Coordinator.{new_request, others, vote_from, counts_vote, with_vote_of, counts_done, with_done_of, stands_open, ask_answer, prepare_for, prepares, missing_votes, missing_dones, each_request, home_reminders, restored_request, restored_requests}
use Rattle.clv_base.specs.OneShard.{closing, close_part, drop_part}
use Rattle.clv_base.specs.Events.{is_alone, coordinate, owe_vote, decided, ask_messages, with_outbox, durable_requests, waiting_voters, reminders}
use Rattle.clv_base.specs.Restarts.{log_left, revived, home_by, homes_of, unended_in, opened, log_after_restart, Restarts}
use Rattle.clv_base.proofs.SameNames.{tx_true}
use Rattle.clv_base.specs.Backs.{count_after, standing_numbers}
use Rattle.law_base.proofs.Changed.{none_some, some_same}
use Rattle.law_base.proofs.Rows.{rows_get, rows_put}
use Rattle.law_base.proofs.Tables.{get_put}
use Rattle.law_base.proofs.Commits.{commit_durable, place_some}
use Rattle.law_base.proofs.Lists.{all_mono, all_append, all_of}
use Rattle.shard_laws.proofs.Events.DueKeeps.{waiting_here}
use Rattle.shard_laws.proofs.Order.ChangesKeepOrder.{prepare_some}
use Rattle.law_base.proofs.Sets.{in_filter}
use Rattle.history_cases.proofs.Stepping.{Step, op_dies, op_answers, request_new, request_closes, drops, sends, prepare_closes, prepare_again, vote_counts, decision_comes, decision_again, done_counts, asked, reminds, flushes, rolls_back}
use Rattle.history_cases.proofs.Uncommitting.{with_more, rolled, dropped, op_dying, op_answering, restarts_add, opening_adds, gone_back}
use Rattle.history_cases.proofs.Telling.{all_map}
use Rattle.history_cases.proofs.TellingEvents.{front_committed}
use Rattle.fate_laws.proofs.Logs.WhatAddsNoPrepare.{prepare_new, front_prepare, opening_adds as opening_prepares, rolled as rolled_prepares, dropped as dropped_prepares, op_dying as dying_prepares, op_answering as answering_prepares, restarts_add as restarts_prepare, gone_back as back_prepares}
use Rattle.fate_laws.proofs.Logs.RestoredRequestsAreCommitted.{unended_committed, restored_committed}
use Rattle.fate_laws.proofs.Homes.ShardKnowsHomes.{Known, Tells, Alone, Opens, Homed, tells_on, words_on, MayCommit, homed_log, homed_same, homed_commit, homed_send, homed_set, durable_known, alone_log, still_not, open_undecided, open_committed}
use Rattle.history_laws.proofs.Logs.DoubtedAreUndecided.{doubt_prepared}
use Rattle.history_laws.proofs.Entries.AllFromEach.{all_in}
use Rattle.protocol_laws.proofs.LogsInOrder.OneRecordMore.{prepared_there}

-- ---- what is owed

-- a request is the first of its transaction, which has no COMMIT here and of which no abort is told
pub record Fresh (A Z : TxId → ℕ → Type 0) (s : Shard) (tx : TxId) : Type 0 where
  pub here : A tx s.shard
  pub uncommitted : committed_in s.local.log tx ≡ false
  pub untold : Z tx s.shard → ⊥
  pub no_request : (q : Request) → tx_get tx s.requests ≡ Some q → MayCommit s q q.state

abbrev pub Owes : ℕ → (TxId → ℕ → Type 0) → (TxId → ℕ → Type 0) → (ℕ → TxId → Type 0) → Shard → Event → Outcome → Type 0
Owes run A Z K s (RequestEvent tx ts) Asked = tx.run ≡ run → Fresh A Z s tx
Owes run A Z K s (Deliver (Prepare to tx home seen) stamp) o = tx.run ≡ run → A tx home
Owes run A Z K s (Deliver (Decide to tx home true) stamp) o = tx.run ≡ run → Known A K tx × (A tx s.shard → committed_in s.local.log tx ≡ true)
Owes run A Z K s (Deliver (Ask to tx from) stamp) o = tx.run ≡ run → Z tx to
Owes run A Z K s _ _ = ⊤

-- ---- closing a part

homed_prepare : (run : ℕ) (A Z : TxId → ℕ → Type 0) (K : ℕ → TxId → Type 0) (D : TxId → Type 0) (s : Shard) (l : Local) (tx : TxId) (home : ℕ) (us : List TxId) → l.log ≡ s.local.log ++ PrepareRecord tx home us ∷ []
    → (tx.run ≡ run → A tx home) → Homed run A Z K D s → Homed run A Z K D (record s { local = l })
homed_prepare run A Z K D s l tx home us e a p =
    let c : (u : TxId) → committed_in l.log u ≡ true → committed_in s.local.log u ≡ true = λ u h. with_more s.local.log (PrepareRecord tx home us ∷ []) ((λ t. refl), tt) u (subst (λ x. committed_in x u ≡ true) e h) in
    record {
      log = λ u h r. p.log u (c u h) r;
      prepares = λ u x h r. ⊎_elim (λ b. p.prepares u x b r) (λ b. subst (λ n. A u n) (sym b.1) (subst (λ v. A v home) (sym b.0) (a (subst (λ v. v.run ≡ run) b.0 r))))
          (prepare_new s.local.log tx home us u x (subst (λ z. prepare_of z u ≡ Some x) e h));
      voters = p.voters;
      requests = λ u x g r. alone_log A s l u x x.state (c u) (p.requests u x g r);
      rows = p.rows;
      words = words_on run A Z K D s (record s { local = l }) refl refl (λ u r z d. (still_not (committed_in s.local.log u) (committed_in l.log u) (c u) d.0, d.1)) p.words;
    }

homed_closing : (run : ℕ) (A Z : TxId → ℕ → Type 0) (K : ℕ → TxId → Type 0) (D : TxId → Type 0) (s : Shard) (l : Local) (tx : TxId) (home : ℕ) (b one : Bool) (us : List TxId) → l.log ≡ s.local.log ++ closing b one tx home us
    → (tx.run ≡ run → A tx home) → (one ≡ true → tx.run ≡ run → Fresh A Z s tx) → Homed run A Z K D s → Homed run A Z K D (record s { local = l })
homed_closing run A Z K D s l tx home false one us e a k p = homed_same run A Z K D s l (e ∙ append-nil s.local.log) p
homed_closing run A Z K D s l tx home true true [] e a k p =
    homed_commit run A Z K D s l tx [] e (λ r. inl (k refl r).here) (λ q g r. (k refl r).no_request q g) (λ r z d. (k refl r).untold z) p
homed_closing run A Z K D s l tx home true true (v ∷ vs) e a k p = homed_prepare run A Z K D s l tx home (v ∷ vs) e a p
homed_closing run A Z K D s l tx home true false us e a k p = homed_prepare run A Z K D s l tx home us e a p

homed_close : (run : ℕ) (A Z : TxId → ℕ → Type 0) (K : ℕ → TxId → Type 0) (D : TxId → Type 0) (s : Shard) (tx : TxId) (home : ℕ) (one : Bool)
    → (tx.run ≡ run → A tx home) → (one ≡ true → tx.run ≡ run → Fresh A Z s tx) → Homed run A Z K D s → Homed run A Z K D (with_local (close_part tx home one) s)
homed_close run A Z K D s tx home one a k p = homed_closing run A Z K D s (close_part tx home one s.local) tx home (has_standing s.local.log tx) one (undecided_of s.local tx) refl a k p

-- a COMMIT that closes a part is of one that touched no other shard
closing_commit : (log : List LogRecord) (b one : Bool) (tx : TxId) (home : ℕ) (us : List TxId) → committed_in log tx ≡ false → committed_in (log ++ closing b one tx home us) tx ≡ true → one ≡ true
closing_commit log false one tx home us n c = absurd (both_ways _ n (with_more log [] tt tx c))
closing_commit log true true tx home us n c = refl
closing_commit log true false tx home us n c = absurd (both_ways _ n (with_more log (PrepareRecord tx home us ∷ []) ((λ t. refl), tt) tx c))

alone_none : (os : List ℕ) → is_alone os ≡ true → os ≡ []
alone_none [] e = refl
alone_none (o ∷ os) e = absurd (both_ways false refl e)

-- ---- a request

pub put_get : (tx u : TxId) (w q : Request) (rs : Table Request) (b : Bool) → tx_same u tx ≡ b → cond b (Some w) (tx_get u rs) ≡ Some q → ((u ≡ tx) × (q ≡ w)) ⊎ (tx_get u rs ≡ Some q)
put_get tx u w q rs true e g = inl (tx_true u tx e, some_same q w (sym g))
put_get tx u w q rs false e g = inr g

put_open : (tx u : TxId) (w : Request) (rs : Table Request) → (u ≡ tx → ⊥) → stands_open (tx_get u rs) ≡ false → stands_open (tx_get u (tx_put tx w rs)) ≡ false
put_open tx u w rs k n = subst (λ x. stands_open x ≡ false) (sym (get_put tx u w rs)) (at (tx_same u tx) refl)
  where
    at : (b : Bool) → tx_same u tx ≡ b → stands_open (cond b (Some w) (tx_get u rs)) ≡ false
    at true e = absurd (k (tx_true u tx e))
    at false e = n

homed_coordinate : (run : ℕ) (A Z : TxId → ℕ → Type 0) (K : ℕ → TxId → Type 0) (D : TxId → Type 0) (s : Shard) (tx : TxId) (ts : List (ℕ × ℕ)) → (tx.run ≡ run → A tx s.shard)
    → (tx.run ≡ run → committed_in s.local.log tx ≡ true → others s.shard ts ≡ []) → (tx.run ≡ run → Z tx s.shard → ⊥) → Homed run A Z K D s → Homed run A Z K D (coordinate tx ts s)
homed_coordinate run A Z K D s tx ts a c z p =
    let w = new_request ts Undecided in
    let t = record s { requests = tx_put tx w s.requests } in
    homed_send run A Z K D t (prepares s.shard tx ts) (all_map _ (prepare_for s.shard tx) (filter (λ x. not (x.0 == s.shard)) ts) (λ x. a))
    (record {
      log = p.log;
      prepares = p.prepares;
      voters = p.voters;
      requests = λ u q g r.
          ⊎_elim
          (λ b. subst (λ x. Alone A s u x x.state) (sym b.1) (subst (λ v. Alone A s v w Undecided) (sym b.0) (let k = subst (λ v. v.run ≡ run) b.0 r in (a k, c k))))
          (λ b. p.requests u q b r)
          (put_get tx u w q s.requests (tx_same u tx) refl (sym (get_put tx u w s.requests) ∙ g));
      rows = rows_put (λ r. (r.0).run ≡ run → Opens A s.shard r.0 (r.1).state) tx w s.requests a p.rows;
      words = words_on run A Z K D s t refl refl (λ u r y d. (d.0, put_open tx u w s.requests (λ q. z (subst (λ v. v.run ≡ run) q r) (subst (λ v. Z v s.shard) q y)) d.1)) p.words;
    })

-- ---- voters, votes and acknowledgements

home_of : (run : ℕ) (A : TxId → ℕ → Type 0) (tx : TxId) (home seen : ℕ) (o : Option Voter) → (tx.run ≡ run → A tx home) → ((v : Voter) → o ≡ Some v → tx.run ≡ run → A tx v.home) → tx.run ≡ run → A tx (asked_voter home seen o).home
home_of run A tx home seen None a k r = a r
home_of run A tx home seen (Some v) a k r = k v refl r

homed_owe : (run : ℕ) (A Z : TxId → ℕ → Type 0) (K : ℕ → TxId → Type 0) (D : TxId → Type 0) (s : Shard) (tx : TxId) (home seen : ℕ) → (tx.run ≡ run → A tx home) → Homed run A Z K D s → Homed run A Z K D (owe_vote tx home seen s)
homed_owe run A Z K D s tx home seen a p = record {
  log = p.log;
  prepares = p.prepares;
  voters = rows_put (λ r. (r.0).run ≡ run → A r.0 (r.1).home) tx (asked_voter home seen (tx_get tx s.voters)) s.voters
      (home_of run A tx home seen (tx_get tx s.voters) a (λ v g. rows_get (λ r. (r.0).run ≡ run → A r.0 (r.1).home) tx v s.voters p.voters g)) p.voters;
  requests = p.requests;
  rows = p.rows;
  words = words_on run A Z K D s _ refl refl (λ u r z d. d) p.words;
}

pub counts_undecided : (shard from : ℕ) (q : Request) (st : RequestState) → counts_vote shard from q st ≡ true → st ≡ Undecided
counts_undecided shard from q Undecided c = refl
counts_undecided shard from q (Committed parts) c = absurd (both_ways false refl c)
counts_undecided shard from q Finished c = absurd (both_ways false refl c)
counts_undecided shard from q (Refused cause) c = absurd (both_ways false refl c)

counts_committed : (from : ℕ) (q : Request) (st : RequestState) → counts_done from q st ≡ true → (parts : List ℕ) × (st ≡ Committed parts)
counts_committed from q Undecided c = absurd (both_ways false refl c)
counts_committed from q (Committed parts) c = (parts, refl)
counts_committed from q Finished c = absurd (both_ways false refl c)
counts_committed from q (Refused cause) c = absurd (both_ways false refl c)

with_vote_alone : (A : TxId → ℕ → Type 0) (s : Shard) (tx : TxId) (q : Request) (from : ℕ) (vote : Vote) (st : RequestState) → Alone A s tx q st → Alone A s tx (with_vote_of from vote q) st
with_vote_alone A s tx q from vote Undecided p = p
with_vote_alone A s tx q from vote (Committed parts) p = tt
with_vote_alone A s tx q from vote Finished p = tt
with_vote_alone A s tx q from vote (Refused cause) p = p

with_done_alone : (A : TxId → ℕ → Type 0) (s : Shard) (tx : TxId) (q : Request) (from : ℕ) (st : RequestState) → Alone A s tx q st → Alone A s tx (with_done_of from q) st
with_done_alone A s tx q from Undecided p = p
with_done_alone A s tx q from (Committed parts) p = tt
with_done_alone A s tx q from Finished p = tt
with_done_alone A s tx q from (Refused cause) p = p

-- ---- decisions

awaited : (s : Shard) (tx : TxId) (c : Bool) (w d : Bool) → is_waiting (facts_of s tx) ≡ w → taken_if w d ≡ IsAwaited → committed_in s.local.log tx ≡ false
awaited s tx c true d e f = (waiting_here s tx e).1
awaited s tx c false true e f = absurd cc
awaited s tx c false false e f = absurd cc

pub awaits : (s : Shard) (tx : TxId) (commit : Bool) → taken_by (facts_of s tx) commit ≡ IsAwaited → committed_in s.local.log tx ≡ false
awaits s tx commit f = awaited s tx commit (is_waiting (facts_of s tx)) (commit && has_durable_commit (facts_of s tx)) refl f

may_commit : (A : TxId → ℕ → Type 0) (s : Shard) (tx : TxId) (q : Request) (st : RequestState) → committed_in s.local.log tx ≡ false → (A tx s.shard → committed_in s.local.log tx ≡ true) → Alone A s tx q st → MayCommit s q st
may_commit A s tx q Undecided n k p = absurd (both_ways _ n (k p.0))
may_commit A s tx q (Committed parts) n k p = tt
may_commit A s tx q Finished n k p = tt
may_commit A s tx q (Refused cause) n k p = absurd (both_ways _ n (k p.0))

homed_decided : (run : ℕ) (A Z : TxId → ℕ → Type 0) (K : ℕ → TxId → Type 0) (D : TxId → Type 0) (s : Shard) (tx : TxId) (home stamp : ℕ) (commit : Bool) → ((u : TxId) (n : ℕ) → Z u n → A u n) → taken_by (facts_of s tx) commit ≡ IsAwaited
    → Owes run A Z K s (Deliver (Decide s.shard tx home commit) stamp) Taken → Homed run A Z K D s → Homed run A Z K D (decided s tx commit)
homed_decided run A Z K D s tx home stamp true za g o p =
    let n = awaits s tx true g in
    homed_commit run A Z K D s _ tx [] refl (λ r. inr (o r).0) (λ q f r. may_commit A s tx q q.state n (o r).1 (p.requests tx q f r)) (λ r z d. both_ways _ n ((o r).1 (za tx s.shard z))) p
homed_decided run A Z K D s tx home stamp false za g o p = homed_log run A Z K D s (roll_back tx s.local) (rolled tx s.local) (rolled_prepares tx s.local) p

-- ---- questions

pub none_committed : (s : Shard) (tx : TxId) → is_some (commit_lsn s.local.log tx) ≡ false → committed_in s.local.log tx ≡ false
none_committed s tx e = false_from_ne_true _ (λ c. at (commit_lsn s.local.log tx) refl c e)
  where
    at : (o : Option ℕ) → commit_lsn s.local.log tx ≡ o → committed_in s.local.log tx ≡ true → is_some o ≡ false → ⊥
    at None f c g = let k = place_some 0 (is_commit_of tx) s.local.log c in none_some k.0 (sym f ∙ k.1)
    at (Some n) f c g = both_ways _ g refl

answer_told : (run : ℕ) (A Z : TxId → ℕ → Type 0) (K : ℕ → TxId → Type 0) (s : Shard) (tx : TxId) (from : ℕ) (d c o : Bool) → has_durable_commit (facts_of s tx) ≡ d → is_some (commit_lsn s.local.log tx) ≡ c → stands_open (tx_get tx s.requests) ≡ o
    → (d ≡ true → tx.run ≡ run → Known A K tx) → (tx.run ≡ run → Z tx s.shard) → AllByRecursion (Tells run A Z K s) (ask_messages s tx from (cond d (Some true) (cond (c || o) None (Some false))))
answer_told run A Z K s tx from true c o e f g k z = (k refl, tt)
answer_told run A Z K s tx from false true o e f g k z = tt
answer_told run A Z K s tx from false false true e f g k z = tt
answer_told run A Z K s tx from false false false e f g k z = ((λ r. (refl, z r, (none_committed s tx f, g))), tt)

-- ---- reminders

each_told : (run : ℕ) (A Z : TxId → ℕ → Type 0) (K : ℕ → TxId → Type 0) (s : Shard) (f : TxId → Request → List Message) (rs : Table Request) → AllByRecursion (λ r. AllByRecursion (Tells run A Z K s) (f r.0 r.1)) rs → AllByRecursion (Tells run A Z K s) (each_request f rs)
each_told run A Z K s f [] a = tt
each_told run A Z K s f (r ∷ rs) a = all_append _ (f r.0 r.1) _ a.0 (each_told run A Z K s f rs a.1)

missing_told : (run : ℕ) (A Z : TxId → ℕ → Type 0) (K : ℕ → TxId → Type 0) (s : Shard) (tx : TxId) (q : Request) (st : RequestState) → (tx.run ≡ run → Opens A s.shard tx st) → AllByRecursion (Tells run A Z K s) (missing_votes s.shard tx q st)
missing_told run A Z K s tx q Undecided k = all_map _ (prepare_for s.shard tx) (filter (λ t. not (t.0 == s.shard) && not (is_some (vote_from t.0 q.votes))) q.touched) (λ t. k)
missing_told run A Z K s tx q (Committed parts) k = tt
missing_told run A Z K s tx q Finished k = tt
missing_told run A Z K s tx q (Refused c) k = tt

dones_told : (run : ℕ) (A Z : TxId → ℕ → Type 0) (K : ℕ → TxId → Type 0) (s : Shard) (tx : TxId) (q : Request) (st : RequestState) → (tx.run ≡ run → Known A K tx) → AllByRecursion (Tells run A Z K s) (missing_dones s.shard tx q st)
dones_told run A Z K s tx q Undecided k = tt
dones_told run A Z K s tx q (Committed parts) k = all_map _ (λ p. Decide p tx s.shard true) (filter (λ p. not (nat_in p q.acknowledged_by)) parts) (λ p. k)
dones_told run A Z K s tx q Finished k = tt
dones_told run A Z K s tx q (Refused c) k = tt

dones_if : (run : ℕ) (A Z : TxId → ℕ → Type 0) (K : ℕ → TxId → Type 0) (s : Shard) (tx : TxId) (q : Request) (b : Bool) → (b ≡ true → tx.run ≡ run → Known A K tx)
    → AllByRecursion (Tells run A Z K s) (elim b [ true ↦ missing_dones s.shard tx q q.state | false ↦ [] ])
dones_if run A Z K s tx q true k = dones_told run A Z K s tx q q.state (k refl)
dones_if run A Z K s tx q false k = tt

ask_told : (run : ℕ) (A Z : TxId → ℕ → Type 0) (K : ℕ → TxId → Type 0) (s : Shard) (tx : TxId) (o : Option Voter) → ((v : Voter) → o ≡ Some v → tx.run ≡ run → A tx v.home) → AllByRecursion (Tells run A Z K s) (ask_by s.shard tx o)
ask_told run A Z K s tx None k = tt
ask_told run A Z K s tx (Some v) k = (k v refl, tt)

asks_told : (run : ℕ) (A Z : TxId → ℕ → Type 0) (K : ℕ → TxId → Type 0) (s : Shard) (txs : List TxId) → AllByRecursion (λ r. (r.0).run ≡ run → A r.0 (r.1).home) s.voters → AllByRecursion (Tells run A Z K s) (asks s.shard s.voters txs)
asks_told run A Z K s [] a = tt
asks_told run A Z K s (tx ∷ txs) a =
    all_append _ (ask_by s.shard tx (tx_get tx s.voters)) _ (ask_told run A Z K s tx (tx_get tx s.voters) (λ v g. rows_get (λ r. (r.0).run ≡ run → A r.0 (r.1).home) tx v s.voters a g)) (asks_told run A Z K s txs a)

-- what is durable now is known to be
abbrev pub Now : (ℕ → TxId → Type 0) → Shard → Type 0
Now K s = (u : TxId) → commit_durable s.local.log s.durable u ≡ true → (committed_in s.local.log u ≡ true) × K s.shard u

reminders_told : (run : ℕ) (A Z : TxId → ℕ → Type 0) (K : ℕ → TxId → Type 0) (D : TxId → Type 0) (s : Shard) → Now K s → Homed run A Z K D s → AllByRecursion (Tells run A Z K s) (reminders s)
reminders_told run A Z K D s now p =
    all_append _ (home_reminders s.shard s.requests (durable_requests s)) (asks s.shard s.voters (waiting_voters s))
    (all_append _ (each_request (λ tx q. missing_votes s.shard tx q q.state) s.requests) _
    (each_told run A Z K s (λ tx q. missing_votes s.shard tx q q.state) s.requests
    (all_mono (λ r. (r.0).run ≡ run → Opens A s.shard r.0 (r.1).state) _ (λ r. missing_told run A Z K s r.0 r.1 (r.1).state) s.requests p.rows))
    (each_told run A Z K s (λ tx q. elim (tx_in tx (durable_requests s)) [ true ↦ missing_dones s.shard tx q q.state | false ↦ [] ]) s.requests
    (all_of _
    (λ r. dones_if run A Z K s r.0 r.1 (tx_in r.0 (durable_requests s))
    (λ i. durable_known run A Z K D s r.0 now (in_filter (λ tx. has_durable_commit (facts_of s tx)) r.0 (keys_of s.requests) i).1 p))
    s.requests)))
    (asks_told run A Z K s (waiting_voters s) p.voters)

-- ---- each step

homed_outbox : (run : ℕ) (A Z : TxId → ℕ → Type 0) (K : ℕ → TxId → Type 0) (D : TxId → Type 0) (s : Shard) (m : Message) (ms : List Message) → s.outbox ≡ m ∷ ms → Homed run A Z K D s → Homed run A Z K D (with_outbox ms s)
homed_outbox run A Z K D s m ms e p = record {
  log = p.log;
  prepares = p.prepares;
  voters = p.voters;
  requests = p.requests;
  rows = p.rows;
  words = record { out = tells_on run A Z K s (with_outbox ms s) refl (λ u r z d. d) ms (subst (AllByRecursion (Tells run A Z K s)) e (p.words).out).1; dead = (p.words).dead };
}

pub homed_step : (run : ℕ) (A Z : TxId → ℕ → Type 0) (K : ℕ → TxId → Type 0) (D : TxId → Type 0) (s t : Shard) {e : Event} {o : Outcome} → ((u : TxId) (n : ℕ) → Z u n → A u n) → Now K s → Step s e o t → Owes run A Z K s e o → Homed run A Z K D s → Homed run A Z K D t
homed_step run A Z K D s _ za now (op_dies tx birth nth seen op cause l g) w p = homed_log run A Z K D s l (op_dying s.shard s.local l tx birth seen op cause g) (dying_prepares s.shard s.local l tx birth seen op cause g) p
homed_step run A Z K D s _ za now (op_answers tx birth nth seen op answer l g) w p = homed_log run A Z K D s l (op_answering s.shard s.local l tx birth seen op answer g) (answering_prepares s.shard s.local l tx birth seen op answer g) p
homed_step run A Z K D s _ za now (request_new tx ts f0 g) w p = homed_coordinate run A Z K D s tx ts (λ r. (w r).here) (λ r c. absurd (both_ways _ (w r).uncommitted c)) (λ r. (w r).untold) p
homed_step run A Z K D s _ za now (request_closes tx ts f0 g) w p =
    let one = is_alone (others s.shard ts) in
    homed_coordinate run A Z K D (with_local (close_part tx s.shard one) s) tx ts (λ r. (w r).here)
    (λ r c. alone_none (others s.shard ts) (closing_commit s.local.log (has_standing s.local.log tx) one tx s.shard (undecided_of s.local tx) (w r).uncommitted c)) (λ r. (w r).untold)
    (homed_close run A Z K D s tx s.shard one (λ r. (w r).here) (λ q. w) p)
homed_step run A Z K D s _ za now (rolls_back tx nth seen upto f g) w p =
    let n = count_after upto (standing_numbers tx s.journal) in homed_log run A Z K D s (roll_to tx n s.local) (gone_back tx n s.local) (back_prepares tx n s.local) p
homed_step run A Z K D s _ za now (drops tx stage g) w p = homed_log run A Z K D s (drop_part tx s.local) (dropped tx s.local) (dropped_prepares tx s.local) p
homed_step run A Z K D s _ za now (sends m ms g) w p = homed_outbox run A Z K D s m ms g p
homed_step run A Z K D s _ za now (prepare_closes tx home seen stamp g) w p =
    homed_owe run A Z K D (with_local (close_part tx home false) s) tx home seen w (homed_close run A Z K D s tx home false w (λ f. absurd (both_ways false refl f)) p)
homed_step run A Z K D s _ za now (prepare_again tx home seen stamp g) w p = homed_owe run A Z K D s tx home seen w p
homed_step run A Z K D s _ za now (vote_counts tx from vote stamp q g c) w p =
    let e = counts_undecided s.shard from q q.state c in
    homed_set run A Z K D s tx (with_vote_of from vote q) (subst (λ x. stands_open x ≡ true) (sym g) (open_undecided q e)) (λ r. with_vote_alone A s tx q from vote q.state (p.requests tx q g r)) p
homed_step run A Z K D s _ za now (decision_comes tx home commit stamp g) w p = homed_decided run A Z K D s tx home stamp commit za g w p
homed_step run A Z K D s _ za now (decision_again tx home commit stamp g) w p = homed_send run A Z K D s (Done home tx s.shard ∷ []) (tt, tt) p
homed_step run A Z K D s _ za now (done_counts tx from stamp q g c) w p =
    let e = counts_committed from q q.state c in
    homed_set run A Z K D s tx (with_done_of from q) (subst (λ x. stands_open x ≡ true) (sym g) (open_committed q e.0 e.1)) (λ r. with_done_alone A s tx q from q.state (p.requests tx q g r)) p
homed_step run A Z K D s _ za now (asked tx from stamp) w p =
    homed_send run A Z K D s (ask_messages s tx from (ask_answer (tx_get tx s.requests) (facts_of s tx)))
    (answer_told run A Z K s tx from (has_durable_commit (facts_of s tx)) (is_some (commit_lsn s.local.log tx)) (stands_open (tx_get tx s.requests)) refl refl refl (λ d. durable_known run A Z K D s tx now d p) w) p
homed_step run A Z K D s _ za now (reminds m ms g c) w p = homed_send run A Z K D s (m ∷ ms) (subst (AllByRecursion (Tells run A Z K s)) c (reminders_told run A Z K D s now p)) p
homed_step run A Z K D s _ za now (flushes n g c) w p =
    record { log = p.log; prepares = p.prepares; voters = p.voters; requests = p.requests; rows = p.rows; words = words_on run A Z K D s _ refl refl (λ u r z d. d) p.words }
homed_step run A Z K D s _ za now _ w p = p

-- ---- a restart

rows_prepared : (run : ℕ) (A : TxId → ℕ → Type 0) (log : List LogRecord) (ts : List TxId) → ((t : TxId) (p : ℕ × List TxId) → prepare_of log t ≡ Some p → t.run ≡ run → A t p.0) → AllByRecursion (λ t. prepared_in log t ≡ true) ts
    → AllByRecursion (λ r. (r.0).run ≡ run → A r.0 (r.1).home) (restored_voters (homes_of log ts))
rows_prepared run A log [] k a = tt
rows_prepared run A log (t ∷ ts) k a =
    ((λ r. let q = prepare_some log t a.0 in subst (λ o. A t (home_by o)) (sym q.1) (k t q.0 q.1 r)), rows_prepared run A log ts k a.1)

over_restored : (log : List LogRecord) (tx : TxId) → committed_in log tx ≡ false → stands_open (tx_get tx (restored_requests (unended_in log log))) ≡ false
over_restored log tx n = at (tx_get tx (restored_requests (unended_in log log))) refl
  where
    at : (o : Option Request) → tx_get tx (restored_requests (unended_in log log)) ≡ o → stands_open o ≡ false
    at None e = refl
    at (Some q) e = let r = restored_committed (unended_in log log) tx q e in absurd (both_ways _ n (unended_committed log log tx r.0 r.1))

pub homed_revived : (run : ℕ) (A Z : TxId → ℕ → Type 0) (K : ℕ → TxId → Type 0) (D : TxId → Type 0) (s : Shard) (kept : Bool) (epoch : ℕ) (log : List LogRecord) → Restarts s (log_left s kept) epoch log → Homed run A Z K D s
    → Homed run A Z K D (revived s epoch log)
homed_revived run A Z K D s kept epoch log g p =
    let c : (u : TxId) → committed_in log u ≡ true → committed_in s.local.log u ≡ true = λ u h. front_committed _ s.local.log u (restarts_add s (log_left s kept) epoch log g u h) in
    let f : (u : TxId) (x : ℕ × List TxId) → prepare_of log u ≡ Some x → u.run ≡ run → A u x.0 = λ u x h r. p.prepares u x (front_prepare _ s.local.log u x (restarts_prepare s (log_left s kept) epoch log g u x h)) r in
    record {
      log = λ u h r. p.log u (c u h) r;
      prepares = f;
      voters = rows_prepared run A log (in_doubt s.shard log) f (all_in _ (in_doubt s.shard log) (λ t i. doubt_prepared s.shard log t i));
      requests = λ u q h r. rows_get (λ x. Alone A (revived s epoch log) x.0 x.1 (x.1).state) u q (restored_requests (unended_in log log)) (all_map _ (λ n. (n.0, restored_request n.1)) (unended_in log log) (λ n. tt)) h;
      rows = all_map _ (λ n. (n.0, restored_request n.1)) (unended_in log log) (λ n r. tt);
      words = record {
        out = tt;
        dead = λ tx d. let q = (p.words).dead tx d in let n = still_not (committed_in s.local.log tx) (committed_in log tx) (c tx) (q.2).0 in (q.0, q.1, (n, over_restored log tx n));
      };
    }

-- ---- a shard that opened

pub homed_opened : (run : ℕ) (A Z : TxId → ℕ → Type 0) (K : ℕ → TxId → Type 0) (shard : ℕ) (log : List LogRecord) → ((t : TxId) → committed_in log t ≡ true → t.run ≡ run → ⊥) → ((t : TxId) → prepared_in log t ≡ true → t.run ≡ run → ⊥)
    → Homed run A Z K (λ tx. ⊥) (opened shard run log)
homed_opened run A Z K shard log c f =
    let after = log_after_restart shard log run 0 in
    let g : (u : TxId) (x : ℕ × List TxId) → prepare_of after u ≡ Some x → u.run ≡ run → A u x.0 = λ u x h r. absurd (f u (prepared_there log u x (opening_prepares shard log run 0 u x h)) r) in
    record {
      log = λ u h r. absurd (c u (opening_adds shard log run 0 u h) r);
      prepares = g;
      voters = rows_prepared run A after (in_doubt shard after) g (all_in _ (in_doubt shard after) (λ t i. doubt_prepared shard after t i));
      requests = λ u q h r. rows_get (λ x. Alone A (opened shard run log) x.0 x.1 (x.1).state) u q (restored_requests (unended_in after after)) (all_map _ (λ n. (n.0, restored_request n.1)) (unended_in after after) (λ n. tt)) h;
      rows = all_map _ (λ n. (n.0, restored_request n.1)) (unended_in after after) (λ n r. tt);
      words = record { out = tt; dead = λ tx d. absurd d };
    }
