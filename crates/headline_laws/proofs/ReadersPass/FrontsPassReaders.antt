-- Along a history: who voted read on a shard was asked for its vote by another; no write of it stands there, also in what is durable; and it isn't
-- there any more, and never fell there.
use Rattle.std.proofs.Common.{◌≡◌, inl, inr, ⊎_elim, refl, sym, ap, subst, ◌∙◌, ℕ, ◌<◌, true, false, None, List, [], ◌∷◌, ◌++◌, append-nil, append_assoc}
use Rattle.std.specs.Prelude.{⊤}
use Rattle.std.specs.List.{AllByRecursion}
use Rattle.std.proofs.lemmas.Bool.{both_ways, false_from_ne_true}
use Rattle.clv_base.specs.declared.names.TxId.{TxId}
use Rattle.clv_base.specs.declared.causes.Vote.TheVariants.{Read}
use Rattle.clv_base.specs.declared.logs.LogRecord.{LogRecord}
use Rattle.clv_base.specs.declared.messages.Message.TheVariants.{Prepare, Vote as VoteMessage}
use Rattle.clv_base.specs.declared.events.Event.{Event}
use Rattle.clv_base.specs.declared.events.Event.TheVariants.{Op as OpEvent, Request as RequestEvent, Deliver, Restart}
use Rattle.clv_base.specs.declared.events.Outcome.{Outcome}
use Rattle.clv_base.specs.declared.events.Outcome.TheVariants.{Sent}
use Rattle.clv_base.specs.Shards.{shard_count}
use Rattle.clv_base.specs.LogRules.{log_of, disorder}
use Rattle.clv_base.specs.Logs.{prepared_in, aborted_in}
use Rattle.law_base.proofs.Stages.{present_is}
use Rattle.clv_base.specs.State.{Shard, is_present}
use Rattle.clv_base.specs.Undo.{stage_of}
use Rattle.clv_base.specs.Restarts.{run_after, log_after_restart}
use Rattle.clv_base.specs.Journals.{History, event_state, after_entry}
use Rattle.protocol_laws.specs.SessionLaws.{tx_of}
use Rattle.history_laws.specs.Openings.{LegalFrom}
use Rattle.shard_laws.specs.OneShard.{is_doomed}
use Rattle.history_cases.proofs.Durability.{Counted}
use Rattle.history_cases.proofs.Stepping.{Step, sends, finishes, stops}
use Rattle.history_cases.proofs.Entering.{Makes, by_event, by_flush, by_failure, by_restart, makes}
use Rattle.history_cases.proofs.Merging.{Placed, Among, among_append}
use Rattle.history_laws.proofs.NeverTakenBack.{walker_of}
use Rattle.history_cases.proofs.Worlds.{state_at}
use Rattle.history_laws.proofs.Entries.WalkedEntryByEntry.{behind_of}
use Rattle.fate_laws.proofs.History.EntriesInTurn.{Requested}
use Rattle.fate_laws.proofs.Origins.FrontsKeepOrigins.{IsOld, Brings, traced_front, brought, requested_more}
use Rattle.fate_laws.proofs.Parts.YesVotesArePrepared.{Reads}
use Rattle.fate_laws.proofs.Parts.FrontsKeepParts.{WasTaken, Sought, FineAt, SaysOut, says_made, Bindings, bindings_front, asked_not_own, noted_reads}
use Rattle.fate_laws.proofs.History.EntryByEntry.{Next, next_at, each_shard}
use Rattle.fate_laws.proofs.Parts.BoundStaysBound.{NotOwn, reads_made}
use Rattle.fate_laws.proofs.VotesBind.{absent}
use Rattle.shard_laws.proofs.OrderIsKept.{order_is_kept}
use Rattle.fate_laws.specs.Leading.{deeds_before, with_found}
use Rattle.fate_laws.proofs.EachShardLeads.{each_shard_leads}
use Rattle.fate_laws.specs.Falls.{Fell}
use Rattle.fate_laws.proofs.FallenAreUncommitted.FrontsKeepOutUncommitted.{walk_on, same_last, last_front}
use Rattle.fate_laws.proofs.FallenAreUncommitted.{fell_out}
use Rattle.headline_laws.proofs.ReadersPass.AbortedWereHere.{doomed_was}
use Rattle.headline_laws.proofs.ReadersPass.ReturnedArePrepared.{out_prepared}
use Rattle.headline_laws.proofs.GoneAreLost.FrontsKeepAbortedAway.{struck_front}
use Rattle.headline_laws.proofs.ReadersPass.FrontsWithoutWrites.{NoneStandsFrom, none_whole}
use Rattle.headline_laws.proofs.ReadersPass.OnlyOwnOperationsUpdate.{none_left, Goes, made_on, none_made, unaborted_made}
use Rattle.headline_laws.proofs.ReadersPass.ReadVotersWroteNothing.{OutIs, Voters, voters_on, voters_mono, Casts, Asks, ReadAt, Begins, voters_made, voters_restored}

-- ---- what is known of who voted read

-- it is of this run, and another shard took its request
abbrev pub Away : List (List LogRecord) → History → ℕ → TxId → Type 0
Away before pre n t = (t.run ≡ run_after before) × ((m : ℕ) × (m ≡ n → ⊥) × Requested pre t m)

pub record Passed (splits : List ℕ) (before after : List (List LogRecord)) (pre : History) (n : ℕ) (t : TxId) : Type 0 where
  pub asked : Away before pre n t
  pub unwritten : NoneStandsFrom (state_at before after n pre).durable (state_at before after n pre).local.log t
  pub unaborted : aborted_in (state_at before after n pre).local.log t ≡ false
  pub reads : Reads (state_at before after n pre) t
  pub unfallen : Fell before pre after n t → ⊥

pub record Passing (splits : List ℕ) (before after : List (List LogRecord)) (pre : History) : Type 0 where
  pub voters : (n : ℕ) → n < shard_count splits → Voters (Away before pre n) (Passed splits before after pre n) (state_at before after n pre)
  pub sent : (x : Placed) (home from : ℕ) (t : TxId) → from < shard_count splits → Among x pre → (x.1).outcome ≡ Sent (VoteMessage home t from Read) → Passed splits before after pre from t

-- ---- what an entry sends stood in the outbox

SaidIs : (TxId → Type 0) → Outcome → Type 0
SaidIs P (Sent m) = OutIs P m
SaidIs P _ = ⊤

said_step : (P : TxId → Type 0) (s x : Shard) {e : Event} {o : Outcome} → Step s e o x → AllByRecursion (OutIs P) s.outbox → SaidIs P o
unfolding SaidIs
said_step P s _ (sends m ms g) a = (subst (AllByRecursion (OutIs P)) g a).0
said_step P s _ _ a = tt

said_made : (P : TxId → Type 0) (log : List LogRecord) (s x : Shard) {e : Event} {o : Outcome} → Makes log s e o x → AllByRecursion (OutIs P) s.outbox → SaidIs P o
unfolding SaidIs
said_made P log s _ (by_event g (finishes {t = x} u h)) a = said_step P s x h a
said_made P log s _ (by_event g (stops u)) a = tt
said_made P log s _ (by_flush n u f) a = tt
said_made P log s _ (by_failure n u f) a = tt
said_made P log s _ (by_restart epoch keeps u r) a = tt

said_read : (P : TxId → Type 0) (o : Outcome) (home from : ℕ) (t : TxId) → SaidIs P o → o ≡ Sent (VoteMessage home t from Read) → P t
unfolding SaidIs
said_read P o home from t a q = subst (SaidIs P) q a

-- ---- one entry more

module _ {splits : List ℕ} {before after : List (List LogRecord)} {h : History} (l : LegalFrom splits before h after) (pre : History)
    (e : Placed) (post : History) (q : pre ++ e ∷ post ≡ h) where
  abbrev New : History
  New = pre ++ e ∷ []

  abbrev S : Shard
  S = state_at before after e.0 pre

  abbrev T : Shard
  T = event_state (log_of after e.0) (state_at before after e.0 pre) (e.1).event (e.1).outcome

  w : Next splits before after h pre e
  w = next_at splits before after h pre e post l.legal q

  made : Makes (log_of after e.0) (state_at before after e.0 pre) (e.1).event (e.1).outcome (event_state (log_of after e.0) (state_at before after e.0 pre) (e.1).event (e.1).outcome)
  made = makes (log_of after e.0) (state_at before after e.0 pre) (e.1).event (e.1).outcome ((w.split).enters).event

  was : Bindings splits before after h pre
  was = bindings_front l pre (e ∷ post) q

  begins : Begins (state_at before after e.0 pre)
  begins = let b = (was.parted e.0 w.inside).base in record { stands = b.stands; unprepared = b.unprepared }

  away_more : (n : ℕ) (t : TxId) → Away before pre n t → Away before (pre ++ e ∷ []) n t
  away_more n t (r, (m, d, k)) = (r, (m, d, requested_more pre e t m k))

  not_own : (n : ℕ) (t : TxId) → Away before pre n t → NotOwn t (e.1).event
  not_own n t (r, (m, d, (y, ts, i, a, z))) birth nth seen op g = asked_not_own splits before after h pre e t birth nth seen op y.0 w g (y.1, ts, i, a)

  -- nor whose request this entry is
  not_own_now : (t : TxId) → Away before (pre ++ e ∷ []) e.0 t → NotOwn t (e.1).event
  not_own_now t (r, (m, d, (y, ts, i, a, z))) birth nth seen op g = ⊎_elim (λ j. asked_not_own splits before after h pre e t birth nth seen op y.0 w g (y.1, ts, j, a)) (λ j. here j) (among_append y pre (e ∷ []) i)
    where
      here : Among y (e ∷ []) → ⊥
      here (inl x) = differ (sym a.0 ∙ ap (λ (v : Placed). (v.1).event) (sym x) ∙ g)
        where
          differ : RequestEvent t ts ≡ OpEvent t birth nth seen op → ⊥
          differ v = absurd cc
      here (inr x) = elim x [ ]

  counted : Counted (state_at before after e.0 pre)
  counted = ((was.fated).counts).counted e.0 w.inside

  goes : (t : TxId) → NotOwn t (e.1).event → Goes t (state_at before after e.0 pre) (event_state (log_of after e.0) (state_at before after e.0 pre) (e.1).event (e.1).outcome) (e.1).event
  goes t x = made_on (log_of after e.0) S T t made x counted

  -- the log is in order behind the entry
  ordered : disorder e.0 (event_state (log_of after e.0) (state_at before after e.0 pre) (e.1).event (e.1).outcome).local.log ≡ None
  ordered =
      let found = log_of before e.0 in
      let leads = each_shard_leads splits before h after (pre ++ e ∷ []) post e.0 l (append_assoc pre (e ∷ []) post ∙ q) w.inside in
      let order = order_is_kept e.0 (run_after before) found (with_found e.0 found (deeds_before before (pre ++ e ∷ []) after e.0)) (state_at before after e.0 (pre ++ e ∷ [])) leads in
      subst (λ (z : Shard). disorder e.0 z.local.log ≡ None) (w.split).next order

  abbrev Bare : Shard → TxId → Type 0
  Bare s t = NoneStandsFrom s.durable s.local.log t × (aborted_in s.local.log t ≡ false)

  bare_on : (n : ℕ) (t : TxId) → NotOwn t (e.1).event → Bare (state_at before after n pre) t → Bare (state_at before after n (pre ++ e ∷ [])) t
  bare_on n t x =
      each_shard (λ m z. Bare (state_at before after m pre) t → Bare z t) before after e pre
      (subst (λ (z : Shard). Bare S t → Bare z t) (sym (w.split).next)
      (λ k. (none_made S T t (e.1).event (goes t x) counted k.0, unaborted_made e.0 S T t (e.1).event (goes t x) (λ r kept. none_left S t kept counted k.0) (none_whole S.durable S.local.log t counted.within k.0) ordered k.1))) n (λ k. k)

  reads_on : (n : ℕ) (t : TxId) → NotOwn t (e.1).event → Reads (state_at before after n pre) t → Reads (state_at before after n (pre ++ e ∷ [])) t
  reads_on n t x =
      each_shard (λ m z. Reads (state_at before after m pre) t → Reads z t) before after e pre
      (subst (λ (z : Shard). Reads S t → Reads z t) (sym (w.split).next) (λ k. noted_reads S (log_of after e.0) e.1 t (reads_made (log_of after e.0) S T t made x k))) n (λ k. k)

  -- whom the entry doesn't take never fell by it
  unfallen_by : (n : ℕ) (t : TxId) → (Fell before pre after n t → ⊥) → (is_doomed (stage_of (state_at before after n (pre ++ e ∷ [])).local t) ≡ true → ⊥)
      → (is_present (stage_of (state_at before after n pre).local t) ≡ true → (e.1).event ≡ Restart → ⊥) → Fell before (pre ++ e ∷ []) after n t → ⊥
  unfallen_by n t k d p (inr (front, rest, z, y)) =
      ⊎_elim (λ f. d (subst (λ x. is_doomed (stage_of (state_at before after n x).local t) ≡ true) f y)) (λ f. k (inr (front, f.0, f.1, y))) (last_front front rest pre e z)
  unfallen_by n t k d p (inl (front, x, rest, z, ev, y)) = ⊎_elim (λ f. here (same_last front pre (n, x) e f)) (λ f. k (inl (front, x, f.0, sym (append_assoc front ((n, x) ∷ []) f.0) ∙ f.1, ev, y))) (last_front (front ++ (n, x) ∷ []) rest pre e (append_assoc front ((n, x) ∷ []) rest ∙ z))
    where
      here : (front ≡ pre) × ((n, x) ≡ e) → ⊥
      here f = p (subst (λ g. is_present (stage_of (state_at before after n g).local t) ≡ true) f.0 y.0) (ap (λ (g : Placed). (g.1).event) (sym f.1) ∙ ev)

  kept : (n : ℕ) (t : TxId) → n < shard_count splits → Passed splits before after pre n t → Passed splits before after (pre ++ e ∷ []) n t
  kept n t i p = record {
    asked = away_more n t p.asked;
    unwritten = (bare_on n t (not_own n t p.asked) (p.unwritten, p.unaborted)).0;
    unaborted = (bare_on n t (not_own n t p.asked) (p.unwritten, p.unaborted)).1;
    reads = reads_on n t (not_own n t p.asked) p.reads;
    unfallen = unfallen_by n t p.unfallen (λ d. ⊎_elim (λ y. p.unfallen (inr (pre, [], append-nil pre, y))) (λ y. both_ways _ gone y) (doomed_was l pre e post q n i t d)) (λ y z. both_ways _ gone y);
  }
    where
      gone : is_present (stage_of (state_at before after n pre).local t) ≡ false
      gone = absent (stage_of (state_at before after n pre).local t) (p.reads).inactive (p.reads).unclosed

  -- a vote of read that the entry casts
  cast : (t : TxId) → Casts (Away before (pre ++ e ∷ []) e.0) S T t → ((e.1).event ≡ Restart → ⊥) → Passed splits before after (pre ++ e ∷ []) e.0 t
  cast t c n = record {
    asked = c.asked;
    unwritten = subst (λ (z : Shard). NoneStandsFrom z.durable z.local.log t) (sym (w.split).next) c.unwritten;
    unaborted = subst (λ (z : Shard). aborted_in z.local.log t ≡ false) (sym (w.split).next) (unaborted_made e.0 S T t (e.1).event (goes t other) (λ r. absurd (n r)) c.fresh ordered (false_from_ne_true _ (λ a. both_ways _ (struck_front l pre (e ∷ post) q e.0 w.inside t a).0 c.here)));
    reads = record {
      unprepared = subst (λ (z : Shard). prepared_in z.local.log t ≡ false) (sym (w.split).next) c.unprepared;
      inactive = λ y. both_ways _ gone (subst (λ z. is_present z ≡ true) (sym y) refl);
      unclosed = λ y. both_ways _ gone (subst (λ z. is_present z ≡ true) (sym y) refl);
    };
    unfallen = unfallen_by e.0 t past (λ d. both_ways _ undoomed d) (λ y z. n z);
  }
    where
      other : NotOwn t (e.1).event
      other = not_own_now t c.asked

      gone : is_present (stage_of (state_at before after e.0 (pre ++ e ∷ [])).local t) ≡ false
      gone = subst (λ (z : Shard). is_present (stage_of z.local t) ≡ false) (sym (w.split).next) c.absent

      undoomed : is_doomed (stage_of (state_at before after e.0 (pre ++ e ∷ [])).local t) ≡ false
      undoomed = subst (λ (z : Shard). is_doomed (stage_of z.local t) ≡ false) (sym (w.split).next) c.undoomed

      past : Fell before pre after e.0 t → ⊥
      past f =
          let p = out_prepared l pre (e ∷ post) q e.0 w.inside t (fell_out l pre (e ∷ post) e.0 t q w.inside f) c.here in
          ⊎_elim (λ a. both_ways _ (begins.unprepared t a) p) (λ k. both_ways _ c.fresh (begins.stands t p k)) (present_is (stage_of S.local t) c.here)

  asks_of : (ev : Event) → Brings (Requested pre) (IsOld (run_after before)) ev → Asks (Away before (pre ++ e ∷ []) e.0) S ev
  asks_of (Deliver (Prepare to t home seen) stamp) b = λ z. from b.0 (λ y. b.1 (z ∙ (w.split).shard ∙ sym y))
    where
      from : Requested pre t home → (home ≡ e.0 → ⊥) → Away before (pre ++ e ∷ []) e.0 t
      from (r, ts, i, a, y) d = ((walker_of splits before after h r t l.legal (w.earlier r i).0 (ap tx_of a.0)).0, (home, d, requested_more pre e t home (r, ts, i, a, y)))
  asks_of _ b = tt

  voters_here : Voters (Away before pre e.0) (Passed splits before after pre e.0) S → Voters (Away before (pre ++ e ∷ []) e.0) (Passed splits before after (pre ++ e ∷ []) e.0) (state_at before after e.0 (pre ++ e ∷ []))
  voters_here k =
      let R = Away before (pre ++ e ∷ []) e.0 in
      let P = Passed splits before after pre e.0 in
      let Q = Passed splits before after (pre ++ e ∷ []) e.0 in
      let b = brought splits before after h pre e (behind_of splits before after h pre e post l.legal q) (traced_front l pre (e ∷ post) q) (e.1).event w.sent in
      let m = voters_made R P (log_of after e.0) S T made begins (asks_of (e.1).event b) (voters_mono (Away before pre e.0) R P P S (away_more e.0) (λ t p. p) k) in
      let x = voters_mono R R (ReadAt R P S T (e.1).event) Q T (λ t r. r) (λ t y. ⊎_elim (λ p. kept e.0 t w.inside p) (λ c. cast t c.0 c.1) y) m in
      subst (Voters R Q) (sym (w.split).next) (voters_on R R Q Q T (after_entry (log_of after e.0) S e.1) refl x.out (λ t r. r) (λ t p. p) x)

  passing_next : Passing splits before after pre → Passing splits before after (pre ++ e ∷ [])
  passing_next k = record {
    voters = λ n i. each_shard (λ m z. Voters (Away before (pre ++ e ∷ []) m) (Passed splits before after (pre ++ e ∷ []) m) z) before after e pre (voters_here (k.voters e.0 w.inside)) n
        (voters_mono (Away before pre n) (Away before (pre ++ e ∷ []) n) (Passed splits before after pre n) (Passed splits before after (pre ++ e ∷ []) n) (state_at before after n pre) (away_more n) (λ t p. kept n t i p) (k.voters n i));
    sent = λ x home from t i j g. ⊎_elim (λ y. kept from t i (k.sent x home from t i y g)) (λ y. last x home from t y g) (among_append x pre (e ∷ []) j);
  }
    where
      last : (x : Placed) (home from : ℕ) (t : TxId) → Among x (e ∷ []) → (x.1).outcome ≡ Sent (VoteMessage home t from Read) → Passed splits before after (pre ++ e ∷ []) from t
      last x home from t (inl z) g =
          let out = ap (λ (y : Placed). (y.1).outcome) z ∙ g in
          let said = said_read (Passed splits before after pre e.0) (e.1).outcome home from t (said_made (Passed splits before after pre e.0) (log_of after e.0) S T made (k.voters e.0 w.inside).out) out in
          let by = subst (SaysOut (run_after before) (WasTaken h) (Sought before pre) (FineAt before after pre) S) out (says_made (run_after before) (WasTaken h) (Sought before pre) (FineAt before after pre) (log_of after e.0) S T made (was.parted e.0 w.inside)) in
          subst (λ m. Passed splits before after (pre ++ e ∷ []) m t) (sym (by.0 ∙ (w.split).shard)) (kept e.0 t w.inside said)
      last x home from t (inr z) g = elim z [ ]

-- ---- the whole history

pub passing_front : {splits : List ℕ} {before after : List (List LogRecord)} {h : History} → LegalFrom splits before h after → (pre post : History) → pre ++ post ≡ h → Passing splits before after pre
passing_front {splits} {before} {after} {h} l pre post q = walk_on (Passing splits before after) h [] pre post q (passing_next l) first
  where
    first : Passing splits before after []
    first = record {
      voters = λ n i. voters_restored (Away before [] n) (Passed splits before after [] n) n (run_after before) 0 (log_after_restart n (log_of before n) (run_after before) 0) 0 [];
      sent = λ x home from t i j. elim j [ ];
    }
