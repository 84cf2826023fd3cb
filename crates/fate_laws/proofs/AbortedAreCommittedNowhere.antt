-- Whose part was taken away by an abort, and who was told of one, is committed nowhere.
pub mod DueKeepsDoomedUncommitted
pub mod EventsKeepDoomedUncommitted
use Rattle.std.proofs.Common.{◌≡◌, inl, inr, ⊎_elim, refl, sym, ap, subst, ◌∙◌, ℕ, ◌<◌, true, false, cond, Bool, ◌==◌, List, [], ◌∷◌, ◌++◌, Option, Some, None, append-nil, eqb-true}
use Rattle.std.proofs.lemmas.Bool.{both_ways, false_from_ne_true, eq-eqb, and_parts, or_right}
use Rattle.clv_base.specs.declared.names.TxId.{TxId}
use Rattle.clv_base.specs.declared.logs.LogRecord.{LogRecord}
use Rattle.clv_base.specs.declared.causes.AbortCause.{AbortCause}
use Rattle.clv_base.specs.declared.messages.Message.TheVariants.{Vote as VoteMessage, Decide}
use Rattle.clv_base.specs.declared.state.Request.{Request}
use Rattle.clv_base.specs.declared.state.RequestState.{RequestState}
use Rattle.clv_base.specs.declared.state.RequestState.TheVariants.{Undecided, Committed, Finished, Refused}
use Rattle.clv_base.specs.declared.events.Event.{Event}
use Rattle.clv_base.specs.declared.events.Event.TheVariants.{Op as OpEvent, Request as RequestEvent, Look, Drop, Deliver, RollTo}
use Rattle.clv_base.specs.declared.events.Outcome.{Outcome}
use Rattle.clv_base.specs.declared.events.Outcome.TheVariants.{Asked, Aborted, Dead as DeadOutcome, Dropped}
use Rattle.clv_base.specs.declared.events.Entry.{Entry}
use Rattle.clv_base.specs.Shards.{shard_count}
use Rattle.clv_base.specs.Orders.{tx_same, tx_get, nat_in}
use Rattle.clv_base.specs.Logs.{committed_in}
use Rattle.clv_base.specs.LogRules.{log_of}
use Rattle.clv_base.specs.State.{Shard}
use Rattle.clv_base.specs.Coordinator.{others, counts_vote, stands_open}
use Rattle.clv_base.specs.Events.{is_asked_outcome, entry_request, request_epoch, epoch_in, with_durable}
use Rattle.clv_base.specs.Restarts.{run_after, log_after_restart}
use Rattle.clv_base.specs.Sessions.{no_session}
use Rattle.clv_base.specs.Journals.{History, own, journal_of}
use Rattle.clv_base.specs.History.{Legal, WasSent, is_acknowledgement}
use Rattle.clv_base.proofs.SameNames.{tx_true, tx_self}
use Rattle.law_base.proofs.Changed.{none_some}
use Rattle.protocol_laws.specs.SessionLaws.{tx_of, works_on, ended_by}
use Rattle.history_cases.proofs.Stepping.{FindsIll}
use Rattle.history_cases.proofs.Entering.{Makes, by_event, by_flush, by_failure, by_restart, makes}
use Rattle.history_cases.proofs.Durability.{framed_finish, happens_steps}
use Rattle.history_cases.proofs.Merging.{Placed, in_order, not_before_itself, before_then, Among, among_append, from_journal, in_turn, precedes_before, own_in_order, is_among}
use Rattle.history_cases.proofs.TellingEvents.{front_committed}
use Rattle.history_laws.specs.Openings.{LegalFrom}
use Rattle.history_laws.specs.Outcomes.{is_abort}
use Rattle.history_laws.proofs.Entries.NothingFollowsRequests.{nothing_follows}
use Rattle.history_laws.proofs.SessionsKeepTheirOrder.NothingFollowsTheEnd.{names, nothing_after_end}
use Rattle.history_laws.proofs.NeverTakenBack.LaterHistoriesHoldMembers.{any_among}
use Rattle.protocol_laws.proofs.SessionsKeepOrder.{sessions_keep_order}
use Rattle.clv_base.specs.declared.names.Birth.{Birth}
use Rattle.clv_base.specs.declared.ops.Op.{Op}
use Rattle.history_cases.proofs.Worlds.{state_at, journal_append, other_journal}
use Rattle.history_laws.proofs.NeverTakenBack.{walker_of, together}
use Rattle.history_laws.proofs.RequestsNameWhatAnswered.DropsAfterRequests.{drop_after_request}
use Rattle.history_laws.proofs.Entries.WhatLooksFind.{IllOf, ill, ill_happens}
use Rattle.fate_laws.specs.Aborts.{DoomedAreUncommitted, AbortedAreCommittedNowhere}
use Rattle.fate_laws.specs.Decisions.{is_left}
use Rattle.fate_laws.proofs.Homes.ShardKnowsHomes.{Alone}
use Rattle.fate_laws.proofs.History.EntryByEntry.{Next, walk_front, each_shard, stays_as_it_was, AskedIn, one_home}
use Rattle.fate_laws.proofs.Homes.FrontsKeepHomes.{DeadIn, delivered, dead_later}
use Rattle.fate_laws.proofs.Homes.DecidedStaysDecided.{left_committed, commits_stand_at_home}
use Rattle.fate_laws.proofs.Homes.EventsKeepHomes.{counts_undecided}
use Rattle.fate_laws.proofs.Parts.CommittedAreVotedFor.{RowIs}
use Rattle.fate_laws.proofs.Parts.FrontsKeepParts.{WasTaken, FineAt, asked_not_own}
use Rattle.law_base.proofs.Rows.{rows_get}
use Rattle.fate_laws.proofs.Parts.CommitsHaveTheirParts.{home_committed}
use Rattle.fate_laws.proofs.CommitsGoDownwards.{Lowered, lowered_next, lowered_front, owed as owed_down}
use Rattle.fate_laws.proofs.AbortedAreCommittedNowhere.DueKeepsDoomedUncommitted.{Kept, RowKeeps}
use Rattle.fate_laws.proofs.AbortedAreCommittedNowhere.EventsKeepDoomedUncommitted.{Owes, NotPending, kept_made, kept_state}
use Rattle.history_laws.proofs.Entries.WalkedEntryByEntry.{from_own, first_among}

-- ---- journals

own_journal : (e : Placed) (pre : History) → journal_of e.0 (pre ++ e ∷ []) ≡ journal_of e.0 pre ++ e.1 ∷ []
own_journal e pre = journal_append e.0 pre (e ∷ []) ∙ ap (λ l. journal_of e.0 pre ++ l) (at (e.0 == e.0) (eq-eqb e.0 e.0 refl))
  where
    at : (c : Bool) → c ≡ true → cond c (e.1 ∷ []) [] ≡ e.1 ∷ []
    at true d = refl
    at false d = absurd (both_ways false refl d)

made_journal : (log : List LogRecord) (s t : Shard) {e : Event} {o : Outcome} → Makes log s e o t → t.journal ≡ s.journal
made_journal log s t (by_event g h) = (happens_steps s t h).journal
made_journal log s _ (by_flush n u f) = (framed_finish (with_durable n s)).journal
made_journal log s _ (by_failure n u f) = refl
made_journal log s _ (by_restart epoch kept u r) = refl

-- ---- what is known

pub record Spared (splits : List ℕ) (before after : List (List LogRecord)) (h pre : History) : Type 0 where
  pub lowered : Lowered splits before after h pre
  pub kept : (n : ℕ) → n < shard_count splits → Kept (state_at before after n pre)
  pub journal : (n : ℕ) → n < shard_count splits → (state_at before after n pre).journal ≡ journal_of n pre
  pub looks : (x : Placed) (tx : TxId) (c : AbortCause) → Among x pre → (x.1).event ≡ Look tx → (x.1).outcome ≡ Aborted c → tx.run ≡ run_after before → DeadIn before after pre x.0 tx

-- who is committed on a shard asked, and is not dead at its home
committed_asked : (splits : List ℕ) (before after : List (List LogRecord)) (h pre : History) (n : ℕ) (tx : TxId) → n < shard_count splits → Spared splits before after h pre → tx.run ≡ run_after before → committed_in (state_at before after n pre).local.log tx ≡ true
    → (k : ℕ) × AskedIn pre tx k × (committed_in (state_at before after k pre).local.log tx ≡ true)
committed_asked splits before after h pre n tx i k r c =
    let f = ((k.lowered).bindings).fated in
    ⊎_elim (λ a. (n, subst (AskedIn pre tx) ((f.counts).shard n i) a, c)) (λ z. (z.0, z.1, front_committed (state_at before after z.0 pre).durable (state_at before after z.0 pre).local.log tx z.2)) ((f.homed n i).log tx c r)

-- a drop of one that asked comes after a look that found it aborted
pub dropped_dead : (splits : List ℕ) (before after : List (List LogRecord)) (h pre : History) (e : Placed) (tx : TxId) (n : ℕ) → Next splits before after h pre e → Spared splits before after h pre → (e.1).event ≡ Drop tx → tx.run ≡ run_after before → AskedIn pre tx n
    → (m : ℕ) × DeadIn before after pre m tx
dropped_dead splits before after h pre e tx n w k q run (r, ts, i, a) =
    let j = w.earlier (n, r) i in
    let p = together splits before after h (n, r) e tx w.legal j.0 w.among (ap tx_of a.0) (ap tx_of q) in
    let v = own r.walker h in
    let o = own_in_order r.walker h (in_order h (w.legal).ordered) in
    ⊎_elim (λ z. absurd (not_before_itself (n, r) e z j.1))
    (λ z. ⊎_elim
    (λ b.
    let y = drop_after_request splits v (no_session (run_after before) r.walker) (n, r) e tx ts p.session b a.0 a.1 q in
    let front = w.front y.0 (from_own r.walker y.0 h (first_among y.0 e v y.2)) (precedes_before y.0 e v o y.2) in
    ((y.0).0, k.looks y.0 tx y.1 front y.3 y.4 run))
    (λ b. absurd (not_before_itself (n, r) (n, r) refl (before_then (n, r) e (n, r) j.1 (precedes_before e (n, r) v o b)))) z)
    (in_turn (n, r) e v p.first p.second)

pub same_home : (splits : List ℕ) (before after : List (List LogRecord)) (h pre : History) (e : Placed) (tx : TxId) (m n : ℕ) → Next splits before after h pre e → AskedIn pre tx m → AskedIn pre tx n → m ≡ n
same_home splits before after h pre e tx m n w a b = one_home splits before after h tx m n a.0 b.0 a.1 b.1 w.legal (w.earlier (m, a.0) a.2).0 a.3 (w.earlier (n, b.0) b.2).0 b.3

none_other : (from : ℕ) (os : List ℕ) → os ≡ [] → nat_in from os ≡ true → ⊥
none_other from os e i = both_ways false refl (subst (λ l. nat_in from l ≡ true) e i)

counted_other : (shard from : ℕ) (q : Request) (st : RequestState) → counts_vote shard from q st ≡ true → nat_in from (others shard q.touched) ≡ true
counted_other shard from q Undecided c = (and_parts (nat_in from (others shard q.touched)) _ c).0
counted_other shard from q (Committed parts) c = absurd (both_ways false refl c)
counted_other shard from q Finished c = absurd (both_ways false refl c)
counted_other shard from q (Refused cause) c = absurd (both_ways false refl c)

alone_of : (A : TxId → ℕ → Type 0) (s : Shard) (tx : TxId) (q : Request) → q.state ≡ Undecided → Alone A s tx q q.state → committed_in s.local.log tx ≡ true → others s.shard q.touched ≡ []
alone_of A s tx q e p c = (subst (Alone A s tx q) e p).1 c

row_run : (splits : List ℕ) (before after : List (List LogRecord)) (h pre : History) (e : Placed) (tx : TxId) (q : Request) → Next splits before after h pre e → Spared splits before after h pre → tx_get tx (state_at before after e.0 pre).requests ≡ Some q → q.state ≡ Undecided
    → tx.run ≡ run_after before
row_run splits before after h pre e tx q w k g u =
    let s = state_at before after e.0 pre in
    let p = subst (RowIs (WasTaken h) (FineAt before after pre) s.shard tx q) u (rows_get (λ r. RowIs (WasTaken h) (FineAt before after pre) s.shard r.0 r.1 (r.1).state) tx q s.requests (((k.lowered).bindings).parted e.0 w.inside).rows g) in
    let a = p.0 in
    (walker_of splits before after h (s.shard, a.0) tx w.legal a.1 (ap tx_of (a.2).0)).0

not_pending : (splits : List ℕ) (before after : List (List LogRecord)) (h : History) (s : Shard) (tx : TxId) (q : Request) (st : RequestState) (F : ℕ → TxId → Type 0) → Legal splits before h after → RowIs (WasTaken h) F s.shard tx q st
    → (tx.run ≡ run_after before → WasTaken h tx s.shard q.touched → ⊥) → NotPending st
not_pending splits before after h s tx q Undecided F l p k = k (walker_of splits before after h (s.shard, (p.0).0) tx l (p.0).1 (ap tx_of ((p.0).2).0)).0 p.0
not_pending splits before after h s tx q (Committed parts) F l p k = tt
not_pending splits before after h s tx q Finished F l p k = tt
not_pending splits before after h s tx q (Refused cause) F l p k = k (walker_of splits before after h (s.shard, p.0) tx l p.1 (ap tx_of (p.2).0)).0 p

pub owed : (splits : List ℕ) (before after : List (List LogRecord)) (h pre : History) (e : Placed) (ev : Event) → (e.1).event ≡ ev → Next splits before after h pre e → Spared splits before after h pre → WasSent pre ev → Owes (state_at before after e.0 pre) ev
owed splits before after h pre e (OpEvent tx birth nth seen op) q w k z =
    let r = (walker_of splits before after h e tx w.legal w.among (ap tx_of q)).0 in
    false_from_ne_true _ (λ c. let a = committed_asked splits before after h pre e.0 tx w.inside k r c in asked_not_own splits before after h pre e tx birth nth seen op a.0 w q a.1)
owed splits before after h pre e (Drop tx) q w k z =
    let r = (walker_of splits before after h e tx w.legal w.among (ap tx_of q)).0 in
    false_from_ne_true _
    (λ c.
    let a = committed_asked splits before after h pre e.0 tx w.inside k r c in
    let d = dropped_dead splits before after h pre e tx a.0 w k q r a.1 in
    let m = same_home splits before after h pre e tx a.0 d.0 w a.1 (d.1).0 in
    both_ways _ ((d.1).1).0 (subst (λ n. committed_in (state_at before after n pre).local.log tx ≡ true) m a.2))
owed splits before after h pre e (Deliver (VoteMessage to tx from vote) stamp) q w k z =
    λ x g t.
    let s = state_at before after e.0 pre in
    let f = ((k.lowered).bindings).fated in
    let u = counts_undecided s.shard from x x.state t in
    false_from_ne_true _
    (λ c. none_other from (others s.shard x.touched) (alone_of (AskedIn pre) s tx x u ((f.homed e.0 w.inside).requests tx x g (row_run splits before after h pre e tx x w k g u)) c) (counted_other s.shard from x x.state t))
owed splits before after h pre e (Deliver (Decide to tx home true) stamp) q w k z =
    λ o x g.
    let s = state_at before after e.0 pre in
    let b = (k.lowered).bindings in
    not_pending splits before after h s tx x x.state (FineAt before after pre) w.legal (rows_get (λ r. RowIs (WasTaken h) (FineAt before after pre) s.shard r.0 r.1 (r.1).state) tx x s.requests (b.parted e.0 w.inside).rows g)
    (λ r a. both_ways _ o (home_committed splits before after h pre e tx x.touched w (delivered splits before after pre (Decide to tx home true) stamp b.fated z r) a))
owed splits before after h pre e _ q w k z = tt

-- ---- what a look finds

request_entry : (shard : ℕ) (t : TxId) (es : List Entry) (n : ℕ) → request_epoch shard t es ≡ Some n → (r : Entry) × (ts : List (ℕ × ℕ)) × Among r es × (r.event ≡ RequestEvent t ts) × (r.outcome ≡ Asked)
request_entry shard t [] n e = absurd (none_some n e)
request_entry shard t (r ∷ rs) n e = at (cond (is_asked_outcome r.outcome) (entry_request shard t r.event) None) refl e (λ q. later (request_entry shard t rs n q))
  where
    later : (z : Entry) × (ts : List (ℕ × ℕ)) × Among z rs × (z.event ≡ RequestEvent t ts) × (z.outcome ≡ Asked) → (z : Entry) × (ts : List (ℕ × ℕ)) × Among z (r ∷ rs) × (z.event ≡ RequestEvent t ts) × (z.outcome ≡ Asked)
    later (z, ts, i, a, b) = (z, ts, inr i, a, b)

    in_request : (ev : Event) (m : ℕ) → entry_request shard t ev ≡ Some m → (ts : List (ℕ × ℕ)) × (ev ≡ RequestEvent t ts)
    in_request (RequestEvent u ts) m q = by_name (tx_same t u) refl q
      where
        by_name : (b : Bool) → tx_same t u ≡ b → cond b (epoch_in shard ts) None ≡ Some m → (us : List (ℕ × ℕ)) × (RequestEvent u ts ≡ RequestEvent t us)
        by_name true f g = (ts, ap (λ z. RequestEvent z ts) (sym (tx_true t u f)))
        by_name false f g = absurd (none_some m g)
    in_request _ m q = absurd (none_some m q)

    was_asked : (o : Outcome) → is_asked_outcome o ≡ true → o ≡ Asked
    was_asked Asked q = refl
    was_asked _ q = absurd (both_ways false refl q)

    here : (b : Bool) (m : ℕ) → is_asked_outcome r.outcome ≡ b → cond b (entry_request shard t r.event) None ≡ Some m → (z : Entry) × (ts : List (ℕ × ℕ)) × Among z (r ∷ rs) × (z.event ≡ RequestEvent t ts) × (z.outcome ≡ Asked)
    here true m f q = let w = in_request r.event m q in (r, w.0, inl refl, w.1, was_asked r.outcome f)
    here false m f q = absurd (none_some m q)

    at : (o : Option ℕ) → cond (is_asked_outcome r.outcome) (entry_request shard t r.event) None ≡ o → ◌≡◌ {A = Option ℕ} (elim o [ Some k ↦ Some k | None ↦ request_epoch shard t rs ]) (Some n)
        → (request_epoch shard t rs ≡ Some n → (z : Entry) × (ts : List (ℕ × ℕ)) × Among z (r ∷ rs) × (z.event ≡ RequestEvent t ts) × (z.outcome ≡ Asked))
        → (z : Entry) × (ts : List (ℕ × ℕ)) × Among z (r ∷ rs) × (z.event ≡ RequestEvent t ts) × (z.outcome ≡ Asked)
    at None q f k = k f
    at (Some m) q f k = here (is_asked_outcome r.outcome) m refl q

found_dead : (splits : List ℕ) (before after : List (List LogRecord)) (h pre : History) (n : ℕ) (tx : TxId) (c : AbortCause) → n < shard_count splits → Spared splits before after h pre → tx.run ≡ run_after before → FindsIll (state_at before after n pre) tx c → DeadIn before after pre n tx
found_dead splits before after h pre n tx c i k r (inl (q, g, f)) =
    let s = state_at before after n pre in
    let fd = ((k.lowered).bindings).fated in
    let a : Alone (AskedIn pre) s tx q (Refused c) = subst (Alone (AskedIn pre) s tx q) f ((fd.homed n i).requests tx q g r) in
    let o : RowKeeps s.local.log tx q (Refused c) = subst (RowKeeps s.local.log tx q) f ((k.kept n i).rows tx q g) in
    (subst (AskedIn pre tx) ((fd.counts).shard n i) a.0, (o, subst (λ x. stands_open x ≡ false) (sym g) (refused_closed q c f)))
  where
    refused_closed : (q : Request) (c : AbortCause) → q.state ≡ Refused c → stands_open (Some q) ≡ false
    refused_closed q c e = subst (λ st. elim st [ Undecided ↦ true | Committed parts ↦ true | Finished ↦ false | Refused cause ↦ false ] ≡ false) (sym e) refl
found_dead splits before after h pre n tx c i k r (inr (e, none, open_, epoch, differs, cause)) =
    let s = state_at before after n pre in
    let z = request_entry s.shard tx s.journal e epoch in
    ((z.0, z.1, from_journal n z.0 pre (subst (Among z.0) (k.journal n i) z.2), (z.3, z.4)), (open_, subst (λ x. stands_open x ≡ false) (sym none) refl))

pub look_made : (log : List LogRecord) (s t : Shard) {e : Event} {o : Outcome} (tx : TxId) (c : AbortCause) → Makes log s e o t → e ≡ Look tx → o ≡ Aborted c → FindsIll s tx c
look_made log s t tx c (by_event g h) q r = of_ill (ill_happens s t h tx c q r)
  where
    of_ill : IllOf s t tx c → FindsIll s tx c
    of_ill (ill f x) = f
look_made log s _ tx c (by_flush n u f) q r = absurd cc
look_made log s _ tx c (by_failure n u f) q r = absurd cc
look_made log s _ tx c (by_restart epoch kept u f) q r = absurd cc

-- ---- one entry more

spared_next : (splits : List ℕ) (before after : List (List LogRecord)) (h pre : History) (e : Placed) → Next splits before after h pre e → Spared splits before after h pre → Spared splits before after h (pre ++ e ∷ [])
spared_next splits before after h pre e w k =
    let s = state_at before after e.0 pre in
    let m = makes (log_of after e.0) s (e.1).event (e.1).outcome ((w.split).enters).event in
    let b = (k.lowered).bindings in
    let x = kept_made (log_of after e.0) s _ m (owed_down splits before after h pre e (e.1).event refl w b) (owed splits before after h pre e (e.1).event refl w k w.sent) (k.kept e.0 w.inside) in
    record {
      lowered = lowered_next splits before after h pre e w k.lowered;
      kept = λ n i. each_shard (λ j z. Kept z) before after e pre (subst Kept (sym (w.split).next) (record { down = x.down; gone = x.gone; rows = x.rows })) n (k.kept n i);
      journal = λ n i. journal n i;
      looks = λ y tx c i q o r. ⊎_elim (λ j. dead_later splits before after h pre e w b.fated y.0 tx r (k.looks y tx c j q o r)) (λ j. last y tx c j q o r) (among_append y pre (e ∷ []) i);
    }
  where
    journal : (n : ℕ) → n < shard_count splits → (state_at before after n (pre ++ e ∷ [])).journal ≡ journal_of n (pre ++ e ∷ [])
    journal n i = at (e.0 == n) refl
      where
        at : (b : Bool) → (e.0 == n) ≡ b → (state_at before after n (pre ++ e ∷ [])).journal ≡ journal_of n (pre ++ e ∷ [])
        at true q =
            let s = state_at before after e.0 pre in
            let m = makes (log_of after e.0) s (e.1).event (e.1).outcome ((w.split).enters).event in
            subst (λ j. (state_at before after j (pre ++ e ∷ [])).journal ≡ journal_of j (pre ++ e ∷ [])) (eqb-true e.0 n q)
            (ap (λ z. z.journal) (w.split).next ∙ ap (λ j. j ++ e.1 ∷ []) (made_journal (log_of after e.0) s _ m ∙ k.journal e.0 w.inside) ∙ sym (own_journal e pre))
        at false q = ap (λ z. z.journal) (stays_as_it_was before after n e pre q) ∙ k.journal n i ∙ sym (other_journal n e pre q)

    last : (y : Placed) (tx : TxId) (c : AbortCause) → Among y (e ∷ []) → (y.1).event ≡ Look tx → (y.1).outcome ≡ Aborted c → tx.run ≡ run_after before → DeadIn before after (pre ++ e ∷ []) y.0 tx
    last y tx c (inl z) q o r =
        let s = state_at before after e.0 pre in
        let m = makes (log_of after e.0) s (e.1).event (e.1).outcome ((w.split).enters).event in
        let f = look_made (log_of after e.0) s _ tx c m (ap (λ v. (v.1).event) z ∙ q) (ap (λ v. (v.1).outcome) z ∙ o) in
        subst (λ v. DeadIn before after (pre ++ e ∷ []) v.0 tx) z
        (dead_later splits before after h pre e w (((k.lowered).bindings).fated) e.0 tx r (found_dead splits before after h pre e.0 tx c w.inside k r f))
    last y tx c (inr z) q o r = elim z [ ]

pub spared_front : {splits : List ℕ} {before after : List (List LogRecord)} {h : History} → LegalFrom splits before h after → (pre post : History) → pre ++ post ≡ h → Spared splits before after h pre
spared_front {splits} {before} {after} {h} l pre post q =
    walk_front (Spared splits before after h) splits before after h [] pre post l.legal q (spared_next splits before after h) (record {
      lowered = lowered_front l [] h refl;
      kept = λ n i. kept_state n (run_after before) 0 (log_after_restart n (log_of before n) (run_after before) 0) 0 [];
      journal = λ n i. refl;
      looks = λ x tx c i. elim i [ ];
    })

pub doomed_are_uncommitted : DoomedAreUncommitted
doomed_are_uncommitted splits before so_far later after n tx doom l i g = ((spared_front l so_far later refl).kept n i).gone tx doom g

-- whom a look found aborted
looked_nowhere : {splits : List ℕ} {before after : List (List LogRecord)} {h : History} → LegalFrom splits before h after → (choice : ℕ → Bool) (n : ℕ) (x : Placed) (tx : TxId) (cause : AbortCause)
    → n < shard_count splits → Among x h → (x.1).event ≡ Look tx → (x.1).outcome ≡ Aborted cause → is_left splits before h after choice n tx ≡ true → ⊥
looked_nowhere {splits} {before} {after} {h} l choice n x tx cause i j q a c =
    let k = spared_front l h [] (append-nil h) in
    let r = (walker_of splits before after h x tx l.legal j (ap tx_of q)).0 in
    let d = k.looks x tx cause j q a r in
    let z = committed_asked splits before after h h n tx i k r (left_committed splits before h after choice n tx i c) in
    let same = one_home splits before after h tx z.0 x.0 (z.1).0 (d.0).0 (z.1).1 (d.0).1 l.legal (z.1).2 (z.1).3 (d.0).2 (d.0).3 in
    both_ways _ (d.1).0 (subst (λ v. committed_in (state_at before after v h).local.log tx ≡ true) same z.2)

-- who died made no request
died_unasked : (splits : List ℕ) (before after : List (List LogRecord)) (h : History) (x : Placed) (tx : TxId) (n : ℕ) → Legal splits before h after → Among x h → tx_of (x.1).event ≡ Some tx → works_on tx.serial (x.1).event ≡ true
    → is_abort tx (x.1).event (x.1).outcome ≡ true → ((x.1).outcome ≡ Asked → ⊥) → AskedIn h tx n → ⊥
died_unasked splits before after h x tx n l i t w a u (r, ts, j, q) =
    let p = together splits before after h (n, r) x tx l j i (ap tx_of q.0) t in
    let v = own r.walker h in
    let s = (sessions_keep_order splits (run_after before) r.walker v p.session).2 in
    ⊎_elim (λ z. u (sym (ap (λ y. (y.1).outcome) z) ∙ q.1))
    (λ z. ⊎_elim
    (λ b. both_ways _ (nothing_follows v (n, r) x tx.serial s b (ap (λ y. ended_by y r.outcome) q.0 ∙ ap (ended_by (RequestEvent tx ts)) q.1)) w)
    (λ b. both_ways _ (nothing_after_end splits v (no_session (run_after before) r.walker) x (n, r) tx p.session b (or_right (is_acknowledgement tx (x.1).event (x.1).outcome) _ a)) (ap (names false tx) q.0 ∙ tx_self tx)) z)
    (in_turn (n, r) x v p.first p.second)

module _ {splits : List ℕ} {before after : List (List LogRecord)} {h : History} (l : LegalFrom splits before h after) where
  died_nowhere : (choice : ℕ → Bool) (n : ℕ) (x : Placed) (tx : TxId) → n < shard_count splits → Among x h → tx_of (x.1).event ≡ Some tx → works_on tx.serial (x.1).event ≡ true
      → is_abort tx (x.1).event (x.1).outcome ≡ true → ((x.1).outcome ≡ Asked → ⊥) → is_left splits before h after choice n tx ≡ true → ⊥
  died_nowhere choice n x tx i j t w a u c =
      let r = (walker_of splits before after h x tx l.legal j t).0 in
      let k = commits_stand_at_home splits before h after choice n tx l i r c in
      let b = k.1 in
      died_unasked splits before after h x tx k.0 l.legal j t w a u (b.0, b.1, is_among k.0 b.0 h b.2, (b.3, b.4))

  -- who was dropped made no request, or a look found it aborted before
  dropped_nowhere : (choice : ℕ → Bool) (n : ℕ) (x : Placed) (tx : TxId) → n < shard_count splits → Among x h → (x.1).event ≡ Drop tx
      → is_abort tx (x.1).event (x.1).outcome ≡ true → is_left splits before h after choice n tx ≡ true → ⊥
  dropped_nowhere choice n x tx i j q a c =
      let run = (walker_of splits before after h x tx l.legal j (ap tx_of q)).0 in
      let k = commits_stand_at_home splits before h after choice n tx l i run c in
      let r : Placed = (k.0, (k.1).0) in
      let asked : (((k.1).0).event ≡ RequestEvent tx (k.1).1) × (((k.1).0).outcome ≡ Asked) = ((k.1).3, (k.1).4) in
      let p = together splits before after h r x tx l.legal (is_among k.0 (k.1).0 h (k.1).2) j (ap tx_of asked.0) (ap tx_of q) in
      let v = own ((k.1).0).walker h in
      let start = no_session (run_after before) ((k.1).0).walker in
      ⊎_elim (λ z. differ (k.1).1 (sym asked.0 ∙ ap (λ y. (y.1).event) z ∙ q)) (λ z. ⊎_elim (λ b.
      let y = drop_after_request splits v start r x tx (k.1).1 p.session b asked.0 asked.1 q in
      looked_nowhere l choice n y.0 tx y.1 i (from_own ((k.1).0).walker y.0 h (first_among y.0 x v y.2)) y.3 y.4 c)
      (λ b. both_ways _ (nothing_after_end splits v start x r tx p.session b (or_right (is_acknowledgement tx (x.1).event (x.1).outcome) _ a)) (ap (names false tx) asked.0 ∙ tx_self tx)) z)
      (in_turn r x v p.first p.second)
    where
      differ : (ts : List (ℕ × ℕ)) → RequestEvent tx ts ≡ Drop tx → ⊥
      differ ts z = absurd cc

-- an entry that tells of an abort
data TellsAbort (tx : TxId) : Event → Outcome → Type 0 where
  operated : (birth : Birth) (nth : ℕ) (seen : Option ℕ) (op : Op) (cause : AbortCause) → TellsAbort tx (OpEvent tx birth nth seen op) (DeadOutcome cause)
  went_back : (nth seen upto : ℕ) (cause : AbortCause) → TellsAbort tx (RollTo tx nth seen upto) (DeadOutcome cause)
  requested : (ts : List (ℕ × ℕ)) (cause : AbortCause) → TellsAbort tx (RequestEvent tx ts) (DeadOutcome cause)
  looked : (cause : AbortCause) → TellsAbort tx (Look tx) (Aborted cause)
  dropped : TellsAbort tx (Drop tx) Dropped

tells_abort : (tx : TxId) (e : Event) (o : Outcome) → is_abort tx e o ≡ true → TellsAbort tx e o
tells_abort tx (OpEvent u birth nth seen op) (DeadOutcome cause) a = subst (λ v. TellsAbort tx (OpEvent v birth nth seen op) (DeadOutcome cause)) (tx_true tx u a) (operated birth nth seen op cause)
tells_abort tx (RollTo u nth seen upto) (DeadOutcome cause) a = subst (λ v. TellsAbort tx (RollTo v nth seen upto) (DeadOutcome cause)) (tx_true tx u a) (went_back nth seen upto cause)
tells_abort tx (RequestEvent u ts) (DeadOutcome cause) a = subst (λ v. TellsAbort tx (RequestEvent v ts) (DeadOutcome cause)) (tx_true tx u a) (requested ts cause)
tells_abort tx (Look u) (Aborted cause) a = subst (λ v. TellsAbort tx (Look v) (Aborted cause)) (tx_true tx u a) (looked cause)
tells_abort tx (Drop u) Dropped a = subst (λ v. TellsAbort tx (Drop v) Dropped) (tx_true tx u a) dropped
tells_abort tx _ _ a = absurd (both_ways false refl a)

told_nowhere : {splits : List ℕ} {before after : List (List LogRecord)} {h : History} → LegalFrom splits before h after → (choice : ℕ → Bool) (n : ℕ) (x : Placed) (tx : TxId) {e : Event} {o : Outcome}
    → (x.1).event ≡ e → (x.1).outcome ≡ o → TellsAbort tx e o → n < shard_count splits → Among x h → is_abort tx (x.1).event (x.1).outcome ≡ true → is_left splits before h after choice n tx ≡ true → ⊥
told_nowhere l choice n x tx f g (operated birth nth seen op cause) i j a c =
    died_nowhere l choice n x tx i j (ap tx_of f) (ap (works_on tx.serial) f ∙ eq-eqb tx.serial tx.serial refl) a (λ z. differ (sym g ∙ z)) c
  where
    differ : DeadOutcome cause ≡ Asked → ⊥
    differ z = absurd cc
told_nowhere l choice n x tx f g (went_back nth seen upto cause) i j a c =
    died_nowhere l choice n x tx i j (ap tx_of f) (ap (works_on tx.serial) f ∙ eq-eqb tx.serial tx.serial refl) a (λ z. differ (sym g ∙ z)) c
  where
    differ : DeadOutcome cause ≡ Asked → ⊥
    differ z = absurd cc
told_nowhere l choice n x tx f g (requested ts cause) i j a c =
    died_nowhere l choice n x tx i j (ap tx_of f) (ap (works_on tx.serial) f ∙ eq-eqb tx.serial tx.serial refl) a (λ z. differ (sym g ∙ z)) c
  where
    differ : DeadOutcome cause ≡ Asked → ⊥
    differ z = absurd cc
told_nowhere l choice n x tx f g (looked cause) i j a c = looked_nowhere l choice n x tx cause i j f g c
told_nowhere l choice n x tx f g dropped i j a c = dropped_nowhere l choice n x tx i j f a c

pub aborted_are_committed_nowhere : AbortedAreCommittedNowhere
aborted_are_committed_nowhere splits before h after choice n tx l i a =
    false_from_ne_true _ (λ c.
    let x = any_among (λ e. is_abort tx (e.1).event (e.1).outcome) h a in
    told_nowhere l choice n x.0 tx refl refl (tells_abort tx ((x.0).1).event ((x.0).1).outcome x.2) i x.1 x.2 c)
