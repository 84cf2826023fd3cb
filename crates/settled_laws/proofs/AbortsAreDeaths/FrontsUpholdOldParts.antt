-- Along a history without restarts: each shard upholds what it should after each front.
use Rattle.std.proofs.Common.{◌≡◌, ◌⊎◌, inl, inr, ⊎_elim, refl, sym, ap, subst, ◌∙◌, ℕ, ◌<◌, true, false, cond, Bool, List, [], ◌∷◌, ◌++◌, map, Option, Some, None, ◌==◌, arith, eqb-true}
use Rattle.std.specs.List.{AllByRecursion}
use Rattle.std.proofs.lemmas.Bool.{both_ways, eq-eqb}
use Rattle.clv_base.specs.declared.names.TxId.{TxId}
use Rattle.clv_base.specs.declared.names.Birth.{Birth}
use Rattle.clv_base.specs.declared.ops.Op.{Op}
use Rattle.clv_base.specs.declared.ops.Answer.{Answer}
use Rattle.clv_base.specs.declared.logs.LogRecord.{LogRecord}
use Rattle.clv_base.specs.declared.causes.AbortCause.TheVariants.{Restarted}
use Rattle.clv_base.specs.declared.causes.Vote.{Vote}
use Rattle.clv_base.specs.declared.causes.Vote.TheVariants.{Yes, Read, No}
use Rattle.clv_base.specs.declared.messages.Message.{Message}
use Rattle.clv_base.specs.declared.messages.Message.TheVariants.{Prepare, Vote as VoteMessage, Decide, Done, Ask}
use Rattle.clv_base.specs.declared.state.Stage.TheVariants.{Closed, Gone}
use Rattle.clv_base.specs.declared.state.Voter.{Voter}
use Rattle.clv_base.specs.declared.state.Request.{Request}
use Rattle.clv_base.specs.declared.state.RequestState.{RequestState}
use Rattle.clv_base.specs.declared.state.RequestState.TheVariants.{Undecided, Committed, Finished, Refused}
use Rattle.clv_base.specs.declared.events.Event.{Event}
use Rattle.clv_base.specs.declared.events.Event.TheVariants.{Op as OpEvent, Look, FlushIn, Stop, Restart}
use Rattle.clv_base.specs.declared.events.Outcome.{Outcome}
use Rattle.clv_base.specs.declared.events.Outcome.TheVariants.{Answered, Aborted, Sent, Durable, Failed, Stopped}
use Rattle.clv_base.specs.Orders.{Table, tx_same, tx_get}
use Rattle.clv_base.specs.Shards.{shard_count}
use Rattle.clv_base.specs.Logs.{in_doubt}
use Rattle.clv_base.specs.LogRules.{log_of}
use Rattle.clv_base.specs.State.{Shard}
use Rattle.clv_base.specs.Undo.{stage_of}
use Rattle.clv_base.specs.Participant.{restored_voter}
use Rattle.clv_base.specs.Coordinator.{restored_request}
use Rattle.clv_base.specs.Events.{with_durable, with_entry}
use Rattle.clv_base.specs.Restarts.{run_after, homes_of, restored_parts, unended_in, log_after_restart, state_after}
use Rattle.clv_base.specs.Journals.{History, event_state}
use Rattle.clv_base.specs.History.{answered_epoch, CauseStands}
use Rattle.clv_base.proofs.SameNames.{tx_true}
use Rattle.law_base.proofs.Changed.{none_some, some_same}
use Rattle.law_base.proofs.Lists.{all_mono}
use Rattle.law_base.proofs.Tables.{stage_in}
use Rattle.history_cases.proofs.Entering.{Makes, by_event, by_flush, by_failure, by_restart, makes}
use Rattle.history_cases.proofs.Merging.{Placed, Among, among_append, among_left, is_among}
use Rattle.history_cases.proofs.Stepping.{finishes, stops}
use Rattle.history_cases.proofs.Worlds.{state_at}
use Rattle.history_laws.specs.Openings.{LegalFrom}
use Rattle.history_laws.proofs.Entries.AllFromEach.{all_in}
use Rattle.shard_laws.proofs.Restarts.RestoredLocksAndParts.{restored_closed, restored_stage}
use Rattle.fate_laws.specs.Causes.{TellsCause, look_found}
use Rattle.fate_laws.proofs.Parts.FrontsKeepParts.{WasTaken, once, bindings_front}
use Rattle.fate_laws.proofs.Origins.FrontsKeepOrigins.{IsOld, traced_front, brought}
use Rattle.fate_laws.proofs.FallenAreUncommitted.FrontsKeepOutUncommitted.{stands_front, walk_on}
use Rattle.fate_laws.proofs.CausesStand.FrontsHaveCauses.{before_entry}
use Rattle.fate_laws.proofs.History.EntryByEntry.{AskedIn, next_at, stays_as_it_was}
use Rattle.fate_laws.proofs.CausesStand.{causes_stand}
use Rattle.settled_laws.proofs.AbortsAreDeaths.DueUpholdsOldParts.{Spares, VoteStands, RowStands, VoterStands, IsOnce, Upheld, upheld_finish}
use Rattle.settled_laws.proofs.AbortsAreDeaths.EventsUpholdOldParts.{Owes, step_upheld, SaidBy, LosesNone, step_says, TakesNoNo, step_takes, AsksNow, asks_there}
use Rattle.settled_laws.proofs.AbortsAreDeaths.WhatEntriesOwe.{VotedRead, UpheldAt, Said, AllUpheld, Begins, Facing, owes}

-- ---- more votes are known

vote_mono : (V U : ℕ → TxId → Type 0) (m : ℕ) (t : TxId) (v : Vote) → ((n : ℕ) (u : TxId) → V n u → U n u) → VoteStands V m t v → VoteStands U m t v
vote_mono V U m t Yes k a = tt
vote_mono V U m t Read k a = k m t a
vote_mono V U m t (No why) k a = a

row_mono : (W : TxId → ℕ → List (ℕ × ℕ) → Type 0) (V U : ℕ → TxId → Type 0) (n : ℕ) (t : TxId) (q : Request) (st : RequestState) → ((n : ℕ) (u : TxId) → V n u → U n u) → RowStands W V n t q st → RowStands W U n t q st
row_mono W V U n t q Undecided k a = (a.0, all_mono (λ v. VoteStands V v.0 t v.1) (λ v. VoteStands U v.0 t v.1) (λ v. vote_mono V U v.0 t v.1 k) q.votes a.1)
row_mono W V U n t q (Committed parts) k a = tt
row_mono W V U n t q Finished k a = λ h m x. k m t (a h m x)
row_mono W V U n t q (Refused c) k a = a

spares_mono : (W : TxId → ℕ → List (ℕ × ℕ) → Type 0) (V U : ℕ → TxId → Type 0) (m : Message) → ((n : ℕ) (u : TxId) → V n u → U n u) → Spares W V m → Spares W U m
spares_mono W V U (Prepare to t home seen) k a = tt
spares_mono W V U (VoteMessage to t from Yes) k a = tt
spares_mono W V U (VoteMessage to t from Read) k a = tt
spares_mono W V U (VoteMessage to t from (No why)) k a = a
spares_mono W V U (Decide to t home true) k a = tt
spares_mono W V U (Decide to t home false) k a = λ h m x. k m t (a h m x)
spares_mono W V U (Done to t from) k a = tt
spares_mono W V U (Ask to t from) k a = tt

upheld_mono : (W : TxId → ℕ → List (ℕ × ℕ) → Type 0) (V U : ℕ → TxId → Type 0) (O B C : TxId → Type 0) (s : Shard) → ((n : ℕ) (u : TxId) → V n u → U n u) → ((t : TxId) → C t → B t) → Upheld W V O B s → Upheld W U O C s
upheld_mono W V U O B C s k b p = record {
  gone = p.gone;
  rows = all_mono (λ r. RowStands W V s.shard r.0 r.1 (r.1).state) (λ r. RowStands W U s.shard r.0 r.1 (r.1).state) (λ r. row_mono W V U s.shard r.0 r.1 (r.1).state k) s.requests p.rows;
  voters = p.voters;
  out = all_mono (Spares W V) (Spares W U) (λ m. spares_mono W V U m k) s.outbox p.out;
  there = λ t c. p.there t (b t c);
  epoch = p.epoch;
}

said_mono : (W : TxId → ℕ → List (ℕ × ℕ) → Type 0) (V U : ℕ → TxId → Type 0) (o : Outcome) → ((n : ℕ) (u : TxId) → V n u → U n u) → SaidBy W V o → SaidBy W U o
said_mono W V U (Sent m) k a = spares_mono W V U m k a
said_mono W V U (Aborted c) k a = a
said_mono W V U _ k a = tt

-- ---- an entry of a shard

with_asked : (W : TxId → ℕ → List (ℕ × ℕ) → Type 0) (V : ℕ → TxId → Type 0) (O B C : TxId → Type 0) (s : Shard) → ((t : TxId) → C t → tx_get t s.requests ≡ None → ⊥) → Upheld W V O B s → Upheld W V O (λ t. B t ⊎ C t) s
with_asked W V O B C s k p = record { gone = p.gone; rows = p.rows; voters = p.voters; out = p.out; there = λ t b e. ⊎_elim (λ x. p.there t x e) (λ x. k t x e) b; epoch = p.epoch }

stop_asks : (t : TxId) (o : Outcome) → AsksNow t Stop o → ⊥
stop_asks t o (ts, e, q) = absurd cc

flush_asks : (t : TxId) (o : Outcome) → AsksNow t FlushIn o → ⊥
flush_asks t o (ts, e, q) = absurd cc

upheld_made : (W : TxId → ℕ → List (ℕ × ℕ) → Type 0) (V : ℕ → TxId → Type 0) (O B : TxId → Type 0) (log : List LogRecord) (s x : Shard) {e : Event} {o : Outcome} → IsOnce W → Makes log s e o x → (e ≡ Restart → ⊥) → Owes W V O s e o → Upheld W V O B s → Upheld W V O (λ t. B t ⊎ AsksNow t e o) x
upheld_made W V O B log s _ {e} {o} one (by_event g (finishes {t = x} u h)) k w p =
    upheld_finish W V O (λ t. B t ⊎ AsksNow t e o) one x (with_asked W V O B (λ t. AsksNow t e o) x (λ t c n. asks_there W V O s x t c.0 h w c.1 c.2 n) (step_upheld W V O B s x h w p))
upheld_made W V O B log s _ one (by_event g (stops u)) k w p =
    record { gone = p.gone; rows = p.rows; voters = p.voters; out = p.out; there = λ t b e. ⊎_elim (λ x. p.there t x e) (λ x. stop_asks t Stopped x) b; epoch = p.epoch }
upheld_made W V O B log s _ one (by_flush n u f) k w p =
    upheld_finish W V O (λ t. B t ⊎ AsksNow t FlushIn (Durable n)) one (with_durable n s)
    (record { gone = p.gone; rows = p.rows; voters = p.voters; out = p.out; there = λ t b e. ⊎_elim (λ x. p.there t x e) (λ x. flush_asks t (Durable n) x) b; epoch = p.epoch })
upheld_made W V O B log s _ one (by_failure n u f) k w p =
    record { gone = p.gone; rows = p.rows; voters = p.voters; out = p.out; there = λ t b e. ⊎_elim (λ x. p.there t x e) (λ x. flush_asks t Failed x) b; epoch = p.epoch }
upheld_made W V O B log s _ one (by_restart epoch kept u r) k w p = absurd (k refl)

says_made : (W : TxId → ℕ → List (ℕ × ℕ) → Type 0) (V : ℕ → TxId → Type 0) (O B : TxId → Type 0) (log : List LogRecord) (s x : Shard) {e : Event} {o : Outcome} → Makes log s e o x → LosesNone s e o → Upheld W V O B s → SaidBy W V o
says_made W V O B log s _ (by_event g (finishes {t = x} u h)) k p = step_says W V O B s x h k p
says_made W V O B log s _ (by_event g (stops u)) k p = tt
says_made W V O B log s _ (by_flush n u f) k p = tt
says_made W V O B log s _ (by_failure n u f) k p = tt
says_made W V O B log s _ (by_restart epoch kept u r) k p = tt

takes_made : (W : TxId → ℕ → List (ℕ × ℕ) → Type 0) (V : ℕ → TxId → Type 0) (O B : TxId → Type 0) (log : List LogRecord) (s x : Shard) {e : Event} {o : Outcome} → Makes log s e o x → Owes W V O s e o → Upheld W V O B s → TakesNoNo e o
takes_made W V O B log s _ (by_event g (finishes {t = x} u h)) w p = step_takes W V O B s x h w p
takes_made W V O B log s _ (by_event g (stops u)) w p = λ t n why z. none_some (n, why) z
takes_made W V O B log s _ (by_flush n u f) w p = λ t n why z. none_some (n, why) z
takes_made W V O B log s _ (by_failure n u f) w p = λ t n why z. none_some (n, why) z
takes_made W V O B log s _ (by_restart epoch kept u r) w p = λ t n why z. none_some (n, why) z

noted : (W : TxId → ℕ → List (ℕ × ℕ) → Type 0) (V : ℕ → TxId → Type 0) (O B : TxId → Type 0) (s : Shard) (stamp walker : ℕ) (e : Event) (o : Outcome) → Upheld W V O B s → Upheld W V O B (with_entry stamp walker e o s)
noted W V O B s stamp walker e o p = record { gone = p.gone; rows = p.rows; voters = p.voters; out = p.out; there = p.there; epoch = p.epoch }

-- ---- as a shard opens

opened_rows : (W : TxId → ℕ → List (ℕ × ℕ) → Type 0) (V : ℕ → TxId → Type 0) (n : ℕ) (us : Table (List ℕ)) → AllByRecursion (λ (r : TxId × Request). RowStands W V n r.0 r.1 (r.1).state) (map (λ p. (p.0, restored_request p.1)) us)
opened_rows W V n [] = tt
opened_rows W V n (u ∷ us) = (tt, opened_rows W V n us)

opened_voters : (W : TxId → ℕ → List (ℕ × ℕ) → Type 0) (s : Shard) (log : List LogRecord) (ts : List TxId) → AllByRecursion (λ t. stage_of s.local t ≡ None → ⊥) ts → AllByRecursion (λ (r : TxId × Voter). VoterStands W s r.0 r.1) (map (λ p. (p.0, restored_voter p.1)) (homes_of log ts))
opened_voters W s log [] a = tt
opened_voters W s log (t ∷ ts) a = ((λ h. ((λ why e. none_some (No why) e), a.0)), opened_voters W s log ts a.1)

opened : (W : TxId → ℕ → List (ℕ × ℕ) → Type 0) (V : ℕ → TxId → Type 0) (O B : TxId → Type 0) (n run : ℕ) (log : List LogRecord) → ((t : TxId) → B t → ⊥) → Upheld W V O B (state_after n run 0 log 0 [])
opened W V O B n run log k = record {
  gone = λ t d e. absurd (differ d (restored_stage (in_doubt n log) t (Gone (Some d)) e).0);
  rows = opened_rows W V n (unended_in log log);
  voters = opened_voters W (state_after n run 0 log 0 []) log (in_doubt n log) (all_in (λ t. stage_in (restored_parts (in_doubt n log)) t ≡ None → ⊥) (in_doubt n log) (λ t i e. none_some Closed (sym e ∙ restored_closed (in_doubt n log) t i)));
  out = tt;
  there = λ t b. absurd (k t b);
  epoch = refl;
}
  where
    differ : (d : TxId) → Gone (Some d) ≡ Closed → ⊥
    differ d z = absurd cc

-- ---- an epoch that was answered

answered_as : (t : TxId) (ev : Event) (o : Outcome) (ep : ℕ) → answered_epoch t ev o ≡ Some ep → (b : Birth) × (nth : ℕ) × (seen : Option ℕ) × (op : Op) × (a : Answer) × (ev ≡ OpEvent t b nth seen op) × (o ≡ Answered a ep)
answered_as t (OpEvent u b nth seen op) (Answered a m) ep e = at (tx_same t u) refl e
  where
    at : (c : Bool) → tx_same t u ≡ c → cond c (Some m) None ≡ Some ep → (x : Birth) × (n : ℕ) × (y : Option ℕ) × (z : Op) × (v : Answer) × (OpEvent u b nth seen op ≡ OpEvent t x n y z) × (Answered a m ≡ Answered v ep)
    at true q f = (b, nth, seen, op, a, ap (λ z. OpEvent z b nth seen op) (sym (tx_true t u q)), ap (Answered a) (some_same m ep f))
    at false q f = absurd (none_some ep f)
answered_as t (OpEvent u b nth seen op) _ ep e = absurd (none_some ep e)
answered_as t _ o ep e = absurd (none_some ep e)

-- no cause is a restart
pub never_restarted : {splits : List ℕ} {before after : List (List LogRecord)} {h pre : History} {e : Placed} {post : History} → Facing splits before after h pre e post → (t : TxId) (shard seen now : ℕ) → CauseStands before pre after e t (Restarted shard seen now) → ⊥
never_restarted {before = before} {after = after} {pre = pre} {e = e} f t shard seen now (p, (y, i, a), n, d) =
    let k = answered_as t y.event y.outcome seen a in
    let m = ((f.entry).traced).epochs (shard, y) t k.0 k.1 k.2 k.3 k.4 seen (is_among shard y pre i) p k.5 k.6 in
    let m0 = m.0 in
    let z = ((f.upheld).states e.0 (f.next).inside).epoch in
    let c : now ≡ (state_at before after e.0 pre).local.epoch = subst (λ v. now ≡ (state_at before after v pre).local.epoch) p n in
    d (omega (arith, m0, z, c))

-- ---- along the history

module _ {splits : List ℕ} {before after : List (List LogRecord)} {h : History} (l : LegalFrom splits before h after) (calm : (x : Placed) → Among x h → (x.1).event ≡ Restart → ⊥)
    (begins : (pre : History) (e : Placed) (post : History) → pre ++ e ∷ post ≡ h → Begins (run_after before) (state_at before after e.0 pre)) where
  pub facing : (pre : History) (e : Placed) (post : History) → pre ++ e ∷ post ≡ h → AllUpheld splits before after h pre → Facing splits before after h pre e post
  facing pre e post q k =
      let x = next_at splits before after h pre e post l.legal q in
      let w = before_entry l pre e post q in
      record {
        from = l;
        parts_are = q;
        next = x;
        entry = w;
        bindings = bindings_front l pre (e ∷ post) q;
        paired = (((stands_front l pre (e ∷ post) q e.0 x.inside).barred).lined).paired;
        brings = brought splits before after h pre e w.behind (traced_front l pre (e ∷ post) q) (e.1).event x.sent;
        begins = begins pre e post q;
        upheld = k;
      }

  loses_none : (pre : History) (e : Placed) (post : History) → pre ++ e ∷ post ≡ h → AllUpheld splits before after h pre → LosesNone (state_at before after e.0 pre) (e.1).event (e.1).outcome
  loses_none pre e post q k t c p r (ep, g, u, j, d, z) =
      let tells : TellsCause (e.1).event (e.1).outcome t c = subst (λ v. TellsCause v (e.1).outcome t c) (sym p) (subst (λ v. TellsCause (Look t) v t c) (sym r) (look_found t c)) in
      never_restarted (facing pre e post q k) t (state_at before after e.0 pre).shard ep (state_at before after e.0 pre).local.epoch (subst (CauseStands before pre after e t) z (causes_stand splits before h after pre post e t c l q tells).0)

  voted_later : (pre : History) (e : Placed) (m : ℕ) (t : TxId) → VotedRead pre m t → VotedRead (pre ++ e ∷ []) m t
  voted_later pre e m t (k, x, home, i, o) = (k, x, home, among_left (k, x) pre (e ∷ []) i, o)

  all_next : (pre : History) (e : Placed) (post : History) → pre ++ e ∷ post ≡ h → AllUpheld splits before after h pre → AllUpheld splits before after h (pre ++ e ∷ [])
  all_next pre e post q k = record {
    states = λ n i. at n i (e.0 == n) refl;
    said = λ x i. ⊎_elim (λ j. said_mono (WasTaken h) (VotedRead pre) (VotedRead (pre ++ e ∷ [])) (x.1).outcome (voted_later pre e) (k.said x j)) (λ j. last x j) (among_append x pre (e ∷ []) i);
    takes = λ x i. ⊎_elim (λ j. k.takes x j) (λ j. last_takes x j) (among_append x pre (e ∷ []) i);
  }
    where
      f : Facing splits before after h pre e post
      f = facing pre e post q k

      log : List LogRecord
      log = log_of after e.0

      s : Shard
      s = state_at before after e.0 pre

      m : Makes (log_of after e.0) (state_at before after e.0 pre) (e.1).event (e.1).outcome (event_state (log_of after e.0) (state_at before after e.0 pre) (e.1).event (e.1).outcome)
      m = makes (log_of after e.0) (state_at before after e.0 pre) (e.1).event (e.1).outcome (((facing pre e post q k).next).split.enters).event

      one : IsOnce (WasTaken h)
      one t a b ts us x y = (once splits before after h l.legal).one t a b ts us x y

      asked_here : (t : TxId) → AskedIn (pre ++ e ∷ []) t e.0 → AskedIn pre t e.0 ⊎ AsksNow t (e.1).event (e.1).outcome
      asked_here t (r, ts, i, (x, y)) = by (among_append (e.0, r) pre (e ∷ []) i)
        where
          by : Among (e.0, r) pre ⊎ Among (e.0, r) (e ∷ []) → AskedIn pre t e.0 ⊎ AsksNow t (e.1).event (e.1).outcome
          by (inl j) = inl (r, ts, j, (x, y))
          by (inr (inl z)) = inr (ts, ap (λ v. (v.1).event) z ∙ x, ap (λ v. (v.1).outcome) z ∙ y)
          by (inr (inr z)) = elim z [ ]

      asked_other : (n : ℕ) → (e.0 == n) ≡ false → (t : TxId) → AskedIn (pre ++ e ∷ []) t n → AskedIn pre t n
      asked_other n d t (r, ts, i, z) = by (among_append (n, r) pre (e ∷ []) i)
        where
          by : Among (n, r) pre ⊎ Among (n, r) (e ∷ []) → AskedIn pre t n
          by (inl j) = (r, ts, j, z)
          by (inr (inl y)) = absurd (both_ways (e.0 == n) d (eq-eqb e.0 n (ap (λ v. v.0) y)))
          by (inr (inr y)) = elim y [ ]

      here : UpheldAt (run_after before) h (pre ++ e ∷ []) e.0 (state_at before after e.0 (pre ++ e ∷ []))
      here =
          subst (UpheldAt (run_after before) h (pre ++ e ∷ []) e.0) (sym (((facing pre e post q k).next).split).next)
          (noted (WasTaken h) (VotedRead (pre ++ e ∷ [])) (IsOld (run_after before)) (λ t. AskedIn (pre ++ e ∷ []) t e.0) (event_state (log_of after e.0) (state_at before after e.0 pre) (e.1).event (e.1).outcome) (e.1).stamp (e.1).walker (e.1).event (e.1).outcome
          (upheld_mono (WasTaken h) (VotedRead pre) (VotedRead (pre ++ e ∷ [])) (IsOld (run_after before)) (λ t. AskedIn pre t e.0 ⊎ AsksNow t (e.1).event (e.1).outcome) (λ t. AskedIn (pre ++ e ∷ []) t e.0) _ (voted_later pre e) asked_here
          (upheld_made (WasTaken h) (VotedRead pre) (IsOld (run_after before)) (λ t. AskedIn pre t e.0) log s _ one m (calm e (f.next).among) (owes f (e.1).event (e.1).outcome refl refl) (k.states e.0 (f.next).inside))))

      at : (n : ℕ) → n < shard_count splits → (b : Bool) → (e.0 == n) ≡ b → UpheldAt (run_after before) h (pre ++ e ∷ []) n (state_at before after n (pre ++ e ∷ []))
      at n i true d = subst (λ z. UpheldAt (run_after before) h (pre ++ e ∷ []) z (state_at before after z (pre ++ e ∷ []))) (eqb-true e.0 n d) here
      at n i false d =
          subst (UpheldAt (run_after before) h (pre ++ e ∷ []) n) (sym (stays_as_it_was before after n e pre d))
          (upheld_mono (WasTaken h) (VotedRead pre) (VotedRead (pre ++ e ∷ [])) (IsOld (run_after before)) (λ t. AskedIn pre t n) (λ t. AskedIn (pre ++ e ∷ []) t n) _ (voted_later pre e) (asked_other n d) (k.states n i))

      last : (x : Placed) → Among x (e ∷ []) → Said h (pre ++ e ∷ []) (x.1).outcome
      last x (inl z) =
          subst (λ v. Said h (pre ++ e ∷ []) (v.1).outcome) z
          (said_mono (WasTaken h) (VotedRead pre) (VotedRead (pre ++ e ∷ [])) (e.1).outcome (voted_later pre e)
          (says_made (WasTaken h) (VotedRead pre) (IsOld (run_after before)) (λ t. AskedIn pre t e.0) log s _ m (loses_none pre e post q k) (k.states e.0 (f.next).inside)))
      last x (inr z) = elim z [ ]

      last_takes : (x : Placed) → Among x (e ∷ []) → TakesNoNo (x.1).event (x.1).outcome
      last_takes x (inl z) =
          subst (λ v. TakesNoNo (v.1).event (v.1).outcome) z
          (takes_made (WasTaken h) (VotedRead pre) (IsOld (run_after before)) (λ t. AskedIn pre t e.0) log s _ m (owes f (e.1).event (e.1).outcome refl refl) (k.states e.0 (f.next).inside))
      last_takes x (inr z) = elim z [ ]

  all_start : AllUpheld splits before after h []
  all_start = record {
    states = λ n i. opened (WasTaken h) (VotedRead []) (IsOld (run_after before)) (λ t. AskedIn [] t n) n (run_after before) (log_after_restart n (log_of before n) (run_after before) 0) (λ t a. elim a.2 [ ]);
    said = λ x i. elim i [ ];
    takes = λ x i. elim i [ ];
  }

  pub upheld_front : (pre post : History) → pre ++ post ≡ h → AllUpheld splits before after h pre
  upheld_front pre post q = walk_on (AllUpheld splits before after h) h [] pre post q all_next all_start
