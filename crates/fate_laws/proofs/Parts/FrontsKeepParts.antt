-- What is known of parts after each entry of a legal history.
use Rattle.std.proofs.Common.{◌≡◌, ◌⊎◌, inl, inr, ⊎_elim, refl, sym, ap, subst, ◌∙◌, ℕ, zero, suc, ◌≤◌, ◌<◌, true, false, cond, Bool, ◌==◌, List, [], ◌∷◌, ◌++◌, Option, Some, None, length, arith, eqb-true}
use Rattle.std.specs.Prelude.{⊤, unwrap_or}
use Rattle.std.specs.List.{AllByRecursion}
use Rattle.std.proofs.lemmas.Bool.{both_ways, eq-eqb, false_from_ne_true}
use Rattle.std.proofs.lemmas.List.{take_all}
use Rattle.clv_base.specs.declared.names.TxId.{TxId}
use Rattle.clv_base.specs.declared.names.Birth.{Birth}
use Rattle.clv_base.specs.declared.ops.Op.{Op}
use Rattle.clv_base.specs.declared.logs.LogRecord.{LogRecord}
use Rattle.clv_base.specs.declared.causes.Vote.{Vote}
use Rattle.clv_base.specs.declared.causes.Vote.TheVariants.{Yes, Read, No}
use Rattle.clv_base.specs.declared.messages.Message.{Message}
use Rattle.clv_base.specs.declared.messages.Message.TheVariants.{Prepare, Vote as VoteMessage, Decide, Done, Ask}
use Rattle.clv_base.specs.declared.state.Voter.{Voter}
use Rattle.clv_base.specs.declared.state.Request.{Request}
use Rattle.clv_base.specs.declared.state.RequestState.{RequestState}
use Rattle.clv_base.specs.declared.state.RequestState.TheVariants.{Undecided, Committed, Finished, Refused}
use Rattle.clv_base.specs.declared.events.Event.{Event}
use Rattle.clv_base.specs.declared.events.Event.TheVariants.{Op as OpEvent, Request as RequestEvent, Deliver}
use Rattle.clv_base.specs.declared.events.Outcome.{Outcome}
use Rattle.clv_base.specs.declared.events.Outcome.TheVariants.{Asked, Sent}
use Rattle.clv_base.specs.declared.events.Entry.{Entry}
use Rattle.clv_base.specs.Shards.{shard_count}
use Rattle.clv_base.specs.FileRules.{may_open}
use Rattle.clv_base.specs.Logs.{committed_in, prepared_in, prepare_of}
use Rattle.clv_base.specs.Orders.{tx_in}
use Rattle.clv_base.specs.LogRules.{log_of}
use Rattle.clv_base.specs.State.{Shard}
use Rattle.clv_base.specs.Events.{put_down, with_durable}
use Rattle.clv_base.specs.Restarts.{run_after, log_left, log_after_restart}
use Rattle.clv_base.specs.Journals.{History, own, event_state, after_entry, up_to_restart}
use Rattle.clv_base.specs.History.{Legal, WasSent}
use Rattle.law_base.proofs.Commits.{committed_keeps, durable_further}
use Rattle.law_base.proofs.Lists.{all_mono}
use Rattle.protocol_laws.specs.SessionLaws.{tx_of, works_on, ended_by}
use Rattle.protocol_laws.proofs.SessionsKeepOrder.{sessions_keep_order}
use Rattle.protocol_laws.proofs.LogOnlyGrows.DueGrowsLogs.{same as same_log}
use Rattle.history_cases.proofs.Stepping.{Step, sends, Happens, finishes, stops}
use Rattle.history_cases.proofs.Entering.{Makes, by_event, by_flush, by_failure, by_restart, makes}
use Rattle.history_cases.proofs.Durability.{Counted}
use Rattle.history_cases.proofs.Merging.{Placed, in_order, not_before_itself, before_then, Among, among_append, is_among, in_turn, precedes_before, own_in_order}
use Rattle.history_laws.specs.Openings.{LegalFrom}
use Rattle.history_laws.proofs.Logs.FoundLogsInOrder.{found_in_order, log_found}
use Rattle.history_laws.proofs.Entries.NothingFollowsRequests.{nothing_follows}
use Rattle.history_cases.proofs.Telling.{IsRequest}
use Rattle.history_cases.proofs.OldRuns.{none_of_this_run}
use Rattle.history_cases.proofs.Uncommitting.{opening_adds}
use Rattle.history_cases.proofs.Worlds.{state_at}
use Rattle.history_laws.proofs.NeverTakenBack.{walker_of, together, one_request}
use Rattle.fate_laws.proofs.Logs.LogOnlyGrows.{Inside}
use Rattle.fate_laws.proofs.Logs.WhatAddsNoPrepare.{prepare_more, opening_adds as opening_prepares}
use Rattle.fate_laws.proofs.History.EntryByEntry.{Next, walk_front, each_shard, stays_as_it_was, AskedIn, asked_later, DurableIn, durable_later}
use Rattle.fate_laws.proofs.Homes.FrontsKeepHomes.{Fated, fated_next, fated_start, delivered, none_prepared}
use Rattle.fate_laws.proofs.Parts.OthersCloseOrGo.{calm_same}
use Rattle.fate_laws.proofs.Parts.YesVotesArePrepared.{Bound, Reads}
use Rattle.fate_laws.proofs.Parts.CommittedAreVotedFor.{Touched, Good, VotedIs, VoterIs, VoteTells, RowIs, Tells, Parted}
use Rattle.fate_laws.proofs.Parts.EventsKeepParts.{Owes, Once, parted_step, parted_same, parted_finish}
use Rattle.fate_laws.proofs.Parts.RestartsKeepParts.{parted_state, parted_revived, bound_state, reads_state}
use Rattle.fate_laws.proofs.Parts.FoundCommitsAreBound.{opening_settled}
use Rattle.fate_laws.proofs.Logs.PreparedWritesStand.{firm_opened, firmly_later}
use Rattle.fate_laws.proofs.Parts.BoundStaysBound.{NotOwn, bound_flushed, bound_made, reads_made}
use Rattle.protocol_laws.proofs.LogsInOrder.OneRecordMore.{prepared_there}
use Rattle.shard_laws.proofs.Order.ChangesKeepOrder.{prepare_some}

-- ---- more is known

abbrev VotedOn : (S S' : TxId → Type 0) → Shard → Shard → Type 0
VotedOn S S' s t = (tx : TxId) (o : Option Vote) → VotedIs S s tx o → VotedIs S' t tx o

voter_on : (S S' : TxId → Type 0) (s t : Shard) (tx : TxId) (v : Voter) → ((u : TxId) → S u → S' u) → VotedOn S S' s t → VoterIs S s tx v → VoterIs S' t tx v
voter_on S S' s t tx v a k (inl p) = inl p
voter_on S S' s t tx v a k (inr p) = inr (a tx p.0, k tx v.vote p.1)

vote_mono : (F F' : ℕ → TxId → Type 0) (n : ℕ) (tx : TxId) (v : Vote) → ((m : ℕ) (u : TxId) → F m u → F' m u) → VoteTells F n tx v → VoteTells F' n tx v
vote_mono F F' n tx Yes k p = k n tx p
vote_mono F F' n tx Read k p = k n tx p
vote_mono F F' n tx (No why) k p = tt

row_mono : (W : TxId → ℕ → List (ℕ × ℕ) → Type 0) (F F' : ℕ → TxId → Type 0) (shard : ℕ) (tx : TxId) (q : Request) (st : RequestState) → ((m : ℕ) (u : TxId) → F m u → F' m u) → RowIs W F shard tx q st → RowIs W F' shard tx q st
row_mono W F F' shard tx q Undecided k p = (p.0, all_mono (λ v. VoteTells F v.0 tx v.1) (λ v. VoteTells F' v.0 tx v.1) (λ v. vote_mono F F' v.0 tx v.1 k) q.votes p.1)
row_mono W F F' shard tx q (Committed parts) k p = tt
row_mono W F F' shard tx q Finished k p = tt
row_mono W F F' shard tx q (Refused cause) k p = p

tells_on : (run : ℕ) (W : TxId → ℕ → List (ℕ × ℕ) → Type 0) (S S' : TxId → Type 0) (F F' : ℕ → TxId → Type 0) (s t : Shard) (m : Message) → t.shard ≡ s.shard → VotedOn S S' s t → ((n : ℕ) (u : TxId) → F n u → F' n u) → Tells run W S F s m → Tells run W S' F' t m
tells_on run W S S' F F' s t (Prepare to tx home seen) e k f p = p
tells_on run W S S' F F' s t (VoteMessage to tx from vote) e k f p = (p.0 ∙ sym e, k tx (Some vote) p.1)
tells_on run W S S' F F' s t (Decide to tx home true) e k f p = λ m c. f m tx (p m c)
tells_on run W S S' F F' s t (Decide to tx home false) e k f p = tt
tells_on run W S S' F F' s t (Done to tx from) e k f p = tt
tells_on run W S S' F F' s t (Ask to tx from) e k f p = tt

voted_mono : (S S' : TxId → Type 0) (s : Shard) → ((u : TxId) → S u → S' u) → VotedOn S S' s s
voted_mono S S' s a tx None p = tt
voted_mono S S' s a tx (Some Yes) p = (a tx p.0, p.1)
voted_mono S S' s a tx (Some Read) p = (a tx p.0, p.1)
voted_mono S S' s a tx (Some (No why)) p = tt

pub parted_mono : (run : ℕ) (W : TxId → ℕ → List (ℕ × ℕ) → Type 0) (S S' : TxId → Type 0) (F F' : ℕ → TxId → Type 0) (s : Shard) → ((u : TxId) → S u → S' u) → ((n : ℕ) (u : TxId) → F n u → F' n u) → Parted run W S F s → Parted run W S' F' s
parted_mono run W S S' F F' s a f p =
    let k = voted_mono S S' s a in
    record {
      base = p.base;
      log = λ tx c m d. f m tx (p.log tx c m d);
      rows = all_mono (λ r. RowIs W F s.shard r.0 r.1 (r.1).state) (λ r. RowIs W F' s.shard r.0 r.1 (r.1).state) (λ r. row_mono W F F' s.shard r.0 r.1 (r.1).state f) s.requests p.rows;
      voters = all_mono (λ r. VoterIs S s r.0 r.1) (λ r. VoterIs S' s r.0 r.1) (λ r. voter_on S S' s s r.0 r.1 a k) s.voters p.voters;
      out = all_mono (Tells run W S F s) (Tells run W S' F' s) (λ m. tells_on run W S S' F F' s s m refl k f) s.outbox p.out;
    }

-- ---- one entry

voted_flushed : (S : TxId → Type 0) (s : Shard) (n : ℕ) → s.durable ≤ n → VotedOn S S s (with_durable n s)
voted_flushed S s n l tx None p = tt
voted_flushed S s n l tx (Some Yes) p = (p.0, bound_flushed s n tx l p.1)
voted_flushed S s n l tx (Some Read) p = (p.0, record { unprepared = (p.1).unprepared; inactive = (p.1).inactive; unclosed = (p.1).unclosed })
voted_flushed S s n l tx (Some (No why)) p = tt

parted_flushed : (run : ℕ) (W : TxId → ℕ → List (ℕ × ℕ) → Type 0) (S : TxId → Type 0) (F : ℕ → TxId → Type 0) (s : Shard) (n : ℕ) → s.durable ≤ n → n ≤ length s.local.log → Parted run W S F s → Parted run W S F (with_durable n s)
parted_flushed run W S F s n l m p =
    let k = voted_flushed S s n l in
    let b = p.base in
    record {
      base = record {
        counted = m;
        firm = firmly_later s.local.log s.durable n l b.firm;
        stands = b.stands;
        listed = λ tx x q c e i. ⊎_elim (λ d. inl (durable_further s.local.log s.durable n q l d)) (λ r. inr r) (b.listed tx x q c e i);
        unprepared = b.unprepared;
        seen = b.seen;
        closed = b.closed;
      };
      log = p.log;
      rows = p.rows;
      voters = all_mono (λ r. VoterIs S s r.0 r.1) (λ r. VoterIs S (with_durable n s) r.0 r.1) (λ r. voter_on S S s (with_durable n s) r.0 r.1 (λ u z. z) k) s.voters p.voters;
      out = all_mono (Tells run W S F s) (Tells run W S F (with_durable n s)) (λ x. tells_on run W S S F F s (with_durable n s) x refl k (λ y u z. z)) s.outbox p.out;
    }

parted_down : (run : ℕ) (W : TxId → ℕ → List (ℕ × ℕ) → Type 0) (S : TxId → Type 0) (F : ℕ → TxId → Type 0) (s : Shard) → Parted run W S F s → Parted run W S F (put_down s)
parted_down run W S F s p =
    let i : Inside s (put_down s) = record { shard = refl; durable = refl; log = same_log s.local.log } in
    parted_same run W S F s (put_down s) (λ tx. calm_same s (put_down s) tx i refl refl (λ t q h. h)) i refl refl refl refl refl refl p

parted_event : (run : ℕ) (W : TxId → ℕ → List (ℕ × ℕ) → Type 0) (S : TxId → Type 0) (F : ℕ → TxId → Type 0) (s t : Shard) {e : Event} {o : Outcome} → Once run W → Happens s e o t → Owes run W S F s e o → Parted run W S F s → Parted run W S F t
parted_event run W S F s _ u (finishes {t = x} v h) w p = parted_finish run W S F x u (parted_step run W S F s x u h w p)
parted_event run W S F s _ u (stops v) w p = parted_down run W S F s p

pub parted_made : (run : ℕ) (W : TxId → ℕ → List (ℕ × ℕ) → Type 0) (S : TxId → Type 0) (F : ℕ → TxId → Type 0) (log : List LogRecord) (s t : Shard) {e : Event} {o : Outcome} → Once run W → Makes log s e o t → Owes run W S F s e o → Counted s → Parted run W S F s
    → Parted run W S F t
parted_made run W S F log s t u (by_event g h) w c p = parted_event run W S F s t u h w p
parted_made run W S F log s _ u (by_flush n v f) w c p = let q = c.flying n f in parted_finish run W S F (with_durable n s) u (parted_flushed run W S F s n q.0 q.1 p)
parted_made run W S F log s _ u (by_failure n v f) w c p = parted_down run W S F s p
parted_made run W S F log s _ u (by_restart epoch kept v r) w c p = parted_revived run W S F s kept epoch (up_to_restart s.run epoch log) r (cut_at kept s.flight c.flying) p
  where
    flown : (f : Option ℕ) → ((n : ℕ) → f ≡ Some n → (s.durable ≤ n) × (n ≤ length s.local.log)) → s.durable ≤ unwrap_or f s.durable
    flown None k = omega arith
    flown (Some n) k = (k n refl).0

    cut_at : (b : Bool) (f : Option ℕ) → ((n : ℕ) → f ≡ Some n → (s.durable ≤ n) × (n ≤ length s.local.log)) → s.durable ≤ cond b (unwrap_or f s.durable) s.durable
    cut_at true f k = flown f k
    cut_at false f k = omega arith

-- ---- what it sends

abbrev pub SaysOut : ℕ → (TxId → ℕ → List (ℕ × ℕ) → Type 0) → (TxId → Type 0) → (ℕ → TxId → Type 0) → Shard → Outcome → Type 0
SaysOut run W S F s (Sent m) = Tells run W S F s m
SaysOut run W S F s _ = ⊤

says_step : (run : ℕ) (W : TxId → ℕ → List (ℕ × ℕ) → Type 0) (S : TxId → Type 0) (F : ℕ → TxId → Type 0) (s t : Shard) {e : Event} {o : Outcome} → Step s e o t → Parted run W S F s → SaysOut run W S F s o
says_step run W S F s t (sends m ms g) p = (subst (AllByRecursion (Tells run W S F s)) g p.out).0
says_step run W S F s t _ p = tt

says_event : (run : ℕ) (W : TxId → ℕ → List (ℕ × ℕ) → Type 0) (S : TxId → Type 0) (F : ℕ → TxId → Type 0) (s t : Shard) {e : Event} {o : Outcome} → Happens s e o t → Parted run W S F s → SaysOut run W S F s o
says_event run W S F s _ (finishes {t = x} u h) p = says_step run W S F s x h p
says_event run W S F s _ (stops u) p = tt

pub says_made : (run : ℕ) (W : TxId → ℕ → List (ℕ × ℕ) → Type 0) (S : TxId → Type 0) (F : ℕ → TxId → Type 0) (log : List LogRecord) (s t : Shard) {e : Event} {o : Outcome} → Makes log s e o t → Parted run W S F s → SaysOut run W S F s o
says_made run W S F log s t (by_event g h) p = says_event run W S F s t h p
says_made run W S F log s _ (by_flush n u f) p = tt
says_made run W S F log s _ (by_failure n u f) p = tt
says_made run W S F log s _ (by_restart epoch kept u r) p = tt

-- ---- what is known after a front of the history

abbrev pub WasTaken : History → TxId → ℕ → List (ℕ × ℕ) → Type 0
WasTaken h tx n ts = (r : Entry) × Among (n, r) h × IsRequest tx ts (n, r)

-- of this run: it asked so far
abbrev pub Sought : List (List LogRecord) → History → TxId → Type 0
Sought before pre tx = tx.run ≡ run_after before → (n : ℕ) × AskedIn pre tx n

-- its part on the shard is bound, or has read, or its COMMIT is durable there
abbrev pub FineAt : List (List LogRecord) → List (List LogRecord) → History → ℕ → TxId → Type 0
FineAt before after pre n tx = Sought before pre tx × (Bound (state_at before after n pre) tx ⊎ (Reads (state_at before after n pre) tx ⊎ DurableIn before after pre n tx))

abbrev pub PartedAt : List (List LogRecord) → List (List LogRecord) → History → History → Shard → Type 0
PartedAt before after h pre s = Parted (run_after before) (WasTaken h) (Sought before pre) (FineAt before after pre) s

abbrev pub Binds : List (List LogRecord) → List (List LogRecord) → History → History → Message → Type 0
Binds before after h pre (Prepare to tx home seen) = tx.run ≡ run_after before → Touched (WasTaken h) to tx
Binds before after h pre (VoteMessage to tx from vote) = VoteTells (FineAt before after pre) from tx vote
Binds before after h pre (Decide to tx home true) = Good (run_after before) (WasTaken h) (FineAt before after pre) tx
Binds before after h pre (Decide to tx home false) = ⊤
Binds before after h pre (Done to tx from) = ⊤
Binds before after h pre (Ask to tx from) = ⊤

abbrev pub Said : List (List LogRecord) → List (List LogRecord) → History → History → Outcome → Type 0
Said before after h pre (Sent m) = Binds before after h pre m
Said before after h pre _ = ⊤

pub record Bindings (splits : List ℕ) (before after : List (List LogRecord)) (h pre : History) : Type 0 where
  pub fated : Fated splits before after pre
  pub parted : (n : ℕ) → n < shard_count splits → PartedAt before after h pre (state_at before after n pre)
  pub said : (x : Placed) → Among x pre → Said before after h pre (x.1).outcome

pub once : (splits : List ℕ) (before after : List (List LogRecord)) (h : History) → Legal splits before h after → Once (run_after before) (WasTaken h)
once splits before after h l = record {
  one = λ tx m n ts us a b.
      let e = one_request splits before after h (m, a.0) (n, b.0) tx ts us l a.1 b.1 a.2 b.2 in
      (ap (λ z. z.0) e, names (sym (a.2).0 ∙ ap (λ z. (z.1).event) e ∙ (b.2).0));
  mine = λ tx m ts a. (walker_of splits before after h (m, a.0) tx l a.1 (ap tx_of (a.2).0)).0;
}
  where
    names : {tx : TxId} {ts us : List (ℕ × ℕ)} → RequestEvent tx ts ≡ RequestEvent tx us → ts ≡ us
    names q = cc

-- ---- an operation is of a transaction that has not asked

pub asked_not_own : (splits : List ℕ) (before after : List (List LogRecord)) (h pre : History) (e : Placed) (tx : TxId) (birth : Birth) (nth : ℕ) (seen : Option ℕ) (op : Op) (n : ℕ) → Next splits before after h pre e → (e.1).event ≡ OpEvent tx birth nth seen op → AskedIn pre tx n → ⊥
asked_not_own splits before after h pre e tx birth nth seen op n w q (r, ts, i, a) =
    let k = w.earlier (n, r) i in
    let p = together splits before after h (n, r) e tx w.legal k.0 w.among (ap tx_of a.0) (ap tx_of q) in
    let v = own r.walker h in
    let o = own_in_order r.walker h (in_order h (w.legal).ordered) in
    let s = (sessions_keep_order splits (run_after before) r.walker v p.session).2 in
    ⊎_elim (λ z. not_before_itself (n, r) e z k.1)
    (λ z. ⊎_elim
    (λ b. both_ways _ (nothing_follows v (n, r) e tx.serial s b (ap (λ y. ended_by y r.outcome) a.0 ∙ ap (ended_by (RequestEvent tx ts)) a.1)) (subst (λ y. works_on tx.serial y ≡ true) (sym q) (eq-eqb tx.serial tx.serial refl)))
    (λ b. not_before_itself (n, r) (n, r) refl (before_then (n, r) e (n, r) k.1 (precedes_before e (n, r) v o b))) z)
    (in_turn (n, r) e v p.first p.second)

-- nor asks with it, and is not prepared
pub op_asks_none : (splits : List ℕ) (before after : List (List LogRecord)) (h pre : History) (e : Placed) (tx : TxId) (birth : Birth) (nth : ℕ) (seen : Option ℕ) (op : Op) (n : ℕ) → Next splits before after h pre e → (e.1).event ≡ OpEvent tx birth nth seen op → AskedIn (pre ++ e ∷ []) tx n → ⊥
op_asks_none splits before after h pre e tx birth nth seen op n w a z =
    ⊎_elim (λ j. asked_not_own splits before after h pre e tx birth nth seen op n w a (z.0, z.1, j, z.3)) (λ j. not_last j) (among_append (n, z.0) pre (e ∷ []) z.2)
  where
    differ : OpEvent tx birth nth seen op ≡ RequestEvent tx z.1 → ⊥
    differ y = absurd cc

    not_last : Among (n, z.0) (e ∷ []) → ⊥
    not_last (inl q) = differ (sym a ∙ ap (λ y. (y.1).event) q ∙ (z.3).0)
    not_last (inr q) = elim q [ ]

pub op_unprepared : (splits : List ℕ) (before after : List (List LogRecord)) (h pre : History) (e : Placed) (tx : TxId) (birth : Birth) (nth : ℕ) (seen : Option ℕ) (op : Op) → Next splits before after h pre e → Fated splits before after pre → tx.run ≡ run_after before
    → (e.1).event ≡ OpEvent tx birth nth seen op → prepared_in (state_at before after e.0 pre).local.log tx ≡ false
op_unprepared splits before after h pre e tx birth nth seen op w f r a =
    false_from_ne_true _
    (λ h0. let x = prepare_some (state_at before after e.0 pre).local.log tx h0 in asked_not_own splits before after h pre e tx birth nth seen op (x.0).0 w a ((f.homed e.0 w.inside).prepares tx x.0 x.1 r))

pub sought_not_own : (splits : List ℕ) (before after : List (List LogRecord)) (h pre : History) (e : Placed) (tx : TxId) → Next splits before after h pre e → Sought before pre tx → NotOwn tx (e.1).event
sought_not_own splits before after h pre e tx w a birth nth seen op q =
    let r = (walker_of splits before after h e tx w.legal w.among (ap tx_of q)).0 in
    let k = a r in asked_not_own splits before after h pre e tx birth nth seen op k.0 w q k.1

-- ---- what is fine stays so

pub sought_later : (before : List (List LogRecord)) (pre : History) (e : Placed) (tx : TxId) → Sought before pre tx → Sought before (pre ++ e ∷ []) tx
sought_later before pre e tx a r = let k = a r in (k.0, asked_later pre e tx k.0 k.1)

pub noted_bound : (s : Shard) (log : List LogRecord) (x : Entry) (tx : TxId) → Bound (event_state log s x.event x.outcome) tx → Bound (after_entry log s x) tx
noted_bound s log x tx b = record { listed = b.listed; prepare = b.prepare; durable = b.durable; pairs = b.pairs }

pub noted_reads : (s : Shard) (log : List LogRecord) (x : Entry) (tx : TxId) → Reads (event_state log s x.event x.outcome) tx → Reads (after_entry log s x) tx
noted_reads s log x tx b = record { unprepared = b.unprepared; inactive = b.inactive; unclosed = b.unclosed }

pub fine_later : (splits : List ℕ) (before after : List (List LogRecord)) (h pre : History) (e : Placed) → Next splits before after h pre e → Fated splits before after pre → (n : ℕ) (tx : TxId) → FineAt before after pre n tx → FineAt before after (pre ++ e ∷ []) n tx
fine_later splits before after h pre e w f n tx p = (sought_later before pre e tx p.0, at (e.0 == n) refl p.1)
  where
    s : Shard
    s = state_at before after e.0 pre

    m : Makes (log_of after e.0) (state_at before after e.0 pre) (e.1).event (e.1).outcome (event_state (log_of after e.0) (state_at before after e.0 pre) (e.1).event (e.1).outcome)
    m = makes (log_of after e.0) (state_at before after e.0 pre) (e.1).event (e.1).outcome ((w.split).enters).event

    here : Bound (state_at before after e.0 pre) tx ⊎ (Reads (state_at before after e.0 pre) tx ⊎ DurableIn before after pre e.0 tx)
        → Bound (state_at before after e.0 (pre ++ e ∷ [])) tx ⊎ (Reads (state_at before after e.0 (pre ++ e ∷ [])) tx ⊎ DurableIn before after (pre ++ e ∷ []) e.0 tx)
    here (inl b) =
        inl (subst (λ z. Bound z tx) (sym (w.split).next)
        (noted_bound (state_at before after e.0 pre) (log_of after e.0) e.1 tx
        (bound_made (log_of after e.0) (state_at before after e.0 pre) _ tx m (sought_not_own splits before after h pre e tx w p.0) ((f.counts).counted e.0 w.inside) b)))
    here (inr (inl b)) =
        inr (inl (subst (λ z. Reads z tx) (sym (w.split).next)
        (noted_reads (state_at before after e.0 pre) (log_of after e.0) e.1 tx (reads_made (log_of after e.0) (state_at before after e.0 pre) _ tx m (sought_not_own splits before after h pre e tx w p.0) b))))
    here (inr (inr d)) = inr (inr (durable_later splits before after h pre e w f.counts e.0 tx d))

    at : (b : Bool) → (e.0 == n) ≡ b → Bound (state_at before after n pre) tx ⊎ (Reads (state_at before after n pre) tx ⊎ DurableIn before after pre n tx)
        → Bound (state_at before after n (pre ++ e ∷ [])) tx ⊎ (Reads (state_at before after n (pre ++ e ∷ [])) tx ⊎ DurableIn before after (pre ++ e ∷ []) n tx)
    at true q b =
        let k = eqb-true e.0 n q in
        subst (λ z. Bound (state_at before after z (pre ++ e ∷ [])) tx ⊎ (Reads (state_at before after z (pre ++ e ∷ [])) tx ⊎ DurableIn before after (pre ++ e ∷ []) z tx)) k
        (here (subst (λ z. Bound (state_at before after z pre) tx ⊎ (Reads (state_at before after z pre) tx ⊎ DurableIn before after pre z tx)) (sym k) b))
    at false q b =
        subst (λ z. Bound z tx ⊎ (Reads z tx ⊎ (committed_in (log_left z false) tx ≡ true))) (sym (stays_as_it_was before after n e pre q)) b

-- ---- what the next entry owes

pub bound_message : (splits : List ℕ) (before after : List (List LogRecord)) (h pre : History) (m : Message) (stamp : ℕ) → Bindings splits before after h pre → WasSent pre (Deliver m stamp) → Binds before after h pre m
bound_message splits before after h pre m stamp b (n, x, i, s, o) = subst (Said before after h pre) o (b.said (n, x) (is_among n x pre i))

good_later : (splits : List ℕ) (before after : List (List LogRecord)) (h pre : History) (e : Placed) (tx : TxId) → Next splits before after h pre e → Fated splits before after pre → Good (run_after before) (WasTaken h) (FineAt before after pre) tx
    → Good (run_after before) (WasTaken h) (FineAt before after (pre ++ e ∷ [])) tx
good_later splits before after h pre e tx w f g m c = fine_later splits before after h pre e w f m tx (g m c)

owed : (splits : List ℕ) (before after : List (List LogRecord)) (h pre : History) (e : Placed) (ev : Event) (o : Outcome) → (e.1).event ≡ ev → (e.1).outcome ≡ o → Next splits before after h pre e → Bindings splits before after h pre → WasSent pre ev
    → Owes (run_after before) (WasTaken h) (Sought before (pre ++ e ∷ [])) (FineAt before after (pre ++ e ∷ [])) (state_at before after e.0 pre) ev o
owed splits before after h pre e (OpEvent tx birth nth seen op) o a b w k s =
    let r = (walker_of splits before after h e tx w.legal w.among (ap tx_of a)).0 in
    ((λ q. let z = q r in op_asks_none splits before after h pre e tx birth nth seen op z.0 w a z.1), op_unprepared splits before after h pre e tx birth nth seen op w k.fated r a)
owed splits before after h pre e (RequestEvent tx ts) Asked a b w k s = subst (λ n. WasTaken h tx n ts) (sym (w.split).shard) (e.1, w.among, (a, b))
owed splits before after h pre e (Deliver (Prepare to tx home seen) stamp) o a b w k s =
    ((λ r. (home, asked_later pre e tx home (delivered splits before after pre (Prepare to tx home seen) stamp k.fated s r))), bound_message splits before after h pre (Prepare to tx home seen) stamp k s)
owed splits before after h pre e (Deliver (VoteMessage to tx from vote) stamp) o a b w k s =
    vote_mono (FineAt before after pre) (FineAt before after (pre ++ e ∷ [])) from tx vote (fine_later splits before after h pre e w k.fated) (bound_message splits before after h pre (VoteMessage to tx from vote) stamp k s)
owed splits before after h pre e (Deliver (Decide to tx home true) stamp) o a b w k s = good_later splits before after h pre e tx w k.fated (bound_message splits before after h pre (Decide to tx home true) stamp k s)
owed splits before after h pre e _ o a b w k s = tt

-- ---- one entry more

pub noted : (run : ℕ) (W : TxId → ℕ → List (ℕ × ℕ) → Type 0) (S : TxId → Type 0) (F : ℕ → TxId → Type 0) (log : List LogRecord) (s : Shard) (x : Entry) → Parted run W S F (event_state log s x.event x.outcome) → Parted run W S F (after_entry log s x)
noted run W S F log s x p =
    let t = event_state log s x.event x.outcome in
    let u = after_entry log s x in
    let i : Inside t u = record { shard = refl; durable = refl; log = same_log t.local.log } in
    parted_same run W S F t u (λ tx. calm_same t u tx i refl refl (λ v q h. h)) i refl refl refl refl refl refl p

parted_here : (splits : List ℕ) (before after : List (List LogRecord)) (h pre : History) (e : Placed) → Next splits before after h pre e → Bindings splits before after h pre → PartedAt before after h (pre ++ e ∷ []) (state_at before after e.0 (pre ++ e ∷ []))
parted_here splits before after h pre e w k =
    let s = state_at before after e.0 pre in
    let new = pre ++ e ∷ [] in
    subst (PartedAt before after h new) (sym (w.split).next)
    (noted (run_after before) (WasTaken h) (Sought before new) (FineAt before after new) (log_of after e.0) s e.1
    (parted_made (run_after before) (WasTaken h) (Sought before new) (FineAt before after new) (log_of after e.0) s _ (once splits before after h w.legal)
    (makes (log_of after e.0) s (e.1).event (e.1).outcome ((w.split).enters).event) (owed splits before after h pre e (e.1).event (e.1).outcome refl refl w k w.sent) (((k.fated).counts).counted e.0 w.inside)
    (parted_mono (run_after before) (WasTaken h) (Sought before pre) (Sought before new) (FineAt before after pre) (FineAt before after new) s (sought_later before pre e) (fine_later splits before after h pre e w k.fated) (k.parted e.0 w.inside))))

binds_later : (splits : List ℕ) (before after : List (List LogRecord)) (h pre : History) (e : Placed) (m : Message) → Next splits before after h pre e → Fated splits before after pre → Binds before after h pre m → Binds before after h (pre ++ e ∷ []) m
binds_later splits before after h pre e (Prepare to tx home seen) w f t = t
binds_later splits before after h pre e (VoteMessage to tx from vote) w f t = vote_mono (FineAt before after pre) (FineAt before after (pre ++ e ∷ [])) from tx vote (fine_later splits before after h pre e w f) t
binds_later splits before after h pre e (Decide to tx home true) w f t = good_later splits before after h pre e tx w f t
binds_later splits before after h pre e (Decide to tx home false) w f t = tt
binds_later splits before after h pre e (Done to tx from) w f t = tt
binds_later splits before after h pre e (Ask to tx from) w f t = tt

said_later : (splits : List ℕ) (before after : List (List LogRecord)) (h pre : History) (e : Placed) (o : Outcome) → Next splits before after h pre e → Fated splits before after pre → Said before after h pre o → Said before after h (pre ++ e ∷ []) o
said_later splits before after h pre e (Sent m) w f t = binds_later splits before after h pre e m w f t
said_later splits before after h pre e _ w f t = tt

vote_said : (before after : List (List LogRecord)) (pre : History) (n from : ℕ) (tx : TxId) (vote : Vote) → (state_at before after n pre).shard ≡ n → from ≡ (state_at before after n pre).shard → VotedIs (Sought before pre) (state_at before after n pre) tx (Some vote)
    → VoteTells (FineAt before after pre) from tx vote
vote_said before after pre n from tx Yes e q p = subst (λ k. FineAt before after pre k tx) (sym (q ∙ e)) (p.0, inl p.1)
vote_said before after pre n from tx Read e q p = subst (λ k. FineAt before after pre k tx) (sym (q ∙ e)) (p.0, inr (inl p.1))
vote_said before after pre n from tx (No why) e q p = tt

tells_binds : (before after : List (List LogRecord)) (h pre : History) (n : ℕ) (m : Message) → (state_at before after n pre).shard ≡ n → Tells (run_after before) (WasTaken h) (Sought before pre) (FineAt before after pre) (state_at before after n pre) m → Binds before after h pre m
tells_binds before after h pre n (Prepare to tx home seen) e t = t
tells_binds before after h pre n (VoteMessage to tx from vote) e t = vote_said before after pre n from tx vote e t.0 t.1
tells_binds before after h pre n (Decide to tx home true) e t = t
tells_binds before after h pre n (Decide to tx home false) e t = tt
tells_binds before after h pre n (Done to tx from) e t = tt
tells_binds before after h pre n (Ask to tx from) e t = tt

out_said : (before after : List (List LogRecord)) (h pre : History) (n : ℕ) (o : Outcome) → (state_at before after n pre).shard ≡ n → SaysOut (run_after before) (WasTaken h) (Sought before pre) (FineAt before after pre) (state_at before after n pre) o → Said before after h pre o
out_said before after h pre n (Sent m) e t = tells_binds before after h pre n m e t
out_said before after h pre n _ e t = tt

pub bindings_next : (splits : List ℕ) (before after : List (List LogRecord)) (h pre : History) (e : Placed) → Next splits before after h pre e → Bindings splits before after h pre → Bindings splits before after h (pre ++ e ∷ [])
bindings_next splits before after h pre e w k =
    let new = pre ++ e ∷ [] in
    record {
      fated = fated_next splits before after h pre e w k.fated;
      parted = λ n i.
          each_shard (λ m s. PartedAt before after h new s) before after e pre (parted_here splits before after h pre e w k) n
          (parted_mono (run_after before) (WasTaken h) (Sought before pre) (Sought before new) (FineAt before after pre) (FineAt before after new) _ (sought_later before pre e) (fine_later splits before after h pre e w k.fated) (k.parted n i));
      said = λ x i. ⊎_elim (λ j. said_later splits before after h pre e (x.1).outcome w k.fated (k.said x j)) (λ j. last x j) (among_append x pre (e ∷ []) i);
    }
  where
    last : (x : Placed) → Among x (e ∷ []) → Said before after h (pre ++ e ∷ []) (x.1).outcome
    last x (inl q) =
        subst (λ z. Said before after h (pre ++ e ∷ []) (z.1).outcome) q
        (said_later splits before after h pre e (e.1).outcome w k.fated
        (out_said before after h pre e.0 (e.1).outcome (w.split).shard
        (says_made (run_after before) (WasTaken h) (Sought before pre) (FineAt before after pre) (log_of after e.0) (state_at before after e.0 pre) _
        (makes (log_of after e.0) (state_at before after e.0 pre) (e.1).event (e.1).outcome ((w.split).enters).event) (k.parted e.0 w.inside))))
    last x (inr q) = elim q [ ]

-- ---- when the shards open

log_beyond : (logs : List (List LogRecord)) (m : ℕ) (t : TxId) → prepared_in (log_of logs m) t ≡ true → m < length logs
log_beyond [] m t p = absurd (both_ways false refl p)
log_beyond (log ∷ logs) zero t p = omega arith
log_beyond (log ∷ logs) (suc m) t p = let k = log_beyond logs m t p in omega (arith, k)

opening_fine : (splits : List ℕ) (before after : List (List LogRecord)) (n m : ℕ) (tx : TxId) → may_open splits before ≡ true → committed_in (log_of before n) tx ≡ true → (tx.run ≡ run_after before → ⊥) → FineAt before after [] m tx
opening_fine splits before after n m tx o c r = ((λ q. absurd (r q)), at (prepared_in (log_of before m) tx) refl)
  where
    run : ℕ
    run = run_after before

    listed_keeps : (log : List LogRecord) (q : TxId) → committed_in log q ≡ true → committed_in (log_after_restart m log (run_after before) 0) q ≡ true
    listed_keeps log q h = committed_keeps log _ q h

    settled : (p : ℕ × List TxId) → prepare_of (log_of before m) tx ≡ Some p → (committed_in (log_of before m) tx ≡ true) ⊎ ((q : TxId) → tx_in q p.1 ≡ true → committed_in (log_of before m) q ≡ true)
        → Bound (state_at before after m []) tx ⊎ (Reads (state_at before after m []) tx ⊎ DurableIn before after [] m tx)
    settled p e (inl d) =
        let log = log_after_restart m (log_of before m) (run_after before) 0 in
        inr (inr (subst (λ l. committed_in l tx ≡ true) (sym (take_all (length log) log (omega arith))) (listed_keeps (log_of before m) tx d)))
    settled p e (inr k) =
        inl (bound_state m (run_after before) 0 (log_after_restart m (log_of before m) (run_after before) 0) 0 [] tx p (prepare_more (log_of before m) _ tx p e) (λ q i. listed_keeps (log_of before m) q (k q i)))

    at : (b : Bool) → prepared_in (log_of before m) tx ≡ b → Bound (state_at before after m []) tx ⊎ (Reads (state_at before after m []) tx ⊎ DurableIn before after [] m tx)
    at true p = let x = prepare_some (log_of before m) tx p in settled x.0 x.1 (opening_settled splits before tx n m x.0 o c (log_beyond before m tx p) x.1)
    at false p =
        inr (inl (reads_state m (run_after before) 0 (log_after_restart m (log_of before m) (run_after before) 0) 0 [] tx
        (false_from_ne_true _ (λ h. let x = prepare_some (log_after_restart m (log_of before m) (run_after before) 0) tx h in both_ways _ p (prepared_there (log_of before m) tx x.0 (opening_prepares m (log_of before m) (run_after before) 0 tx x.0 x.1))))))

module _ {splits : List ℕ} {before after : List (List LogRecord)} {h : History} (l : LegalFrom splits before h after) where
  pub bindings_start : Bindings splits before after h []
  bindings_start = record {
    fated = fated_start l;
    parted = λ n i.
        let log = log_of before n in
        let run = run_after before in
        parted_state run (WasTaken h) (Sought before []) (FineAt before after []) n run 0 (log_after_restart n log run 0) 0 []
        (firm_opened n log run 0 (found_in_order splits before n l.opens (log_found l n i)))
        (λ tx p r. let x = prepare_some (log_after_restart n log run 0) tx p in absurd (none_prepared splits before n tx l.opens (log_found l n i) (prepared_there log tx x.0 (opening_prepares n log run 0 tx x.0 x.1)) r))
        (λ tx c m d. let b = opening_adds n log run 0 tx c in opening_fine splits before after n m tx l.opens b (λ r. none_of_this_run splits before n tx l.opens (log_found l n i) b r));
    said = λ x i. elim i [ ];
  }

  -- after each front of a legal history
  pub bindings_front : (pre post : History) → pre ++ post ≡ h → Bindings splits before after h pre
  bindings_front pre post q = walk_front (Bindings splits before after h) splits before after h [] pre post l.legal q (bindings_next splits before after h) bindings_start
