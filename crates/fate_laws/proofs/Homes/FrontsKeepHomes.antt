-- What is known after each entry of a legal history: of homes, and of what was told.
use Rattle.std.proofs.Common.{◌≡◌, inl, inr, ⊎_elim, refl, sym, subst, ◌∙◌, ℕ, ◌+◌, ◌<◌, true, false, Bool, List, [], ◌∷◌, ◌++◌, is_none, length, arith, ◌==◌, eqb-true}
use Rattle.std.specs.Prelude.{⊤}
use Rattle.std.specs.List.{list_all}
use Rattle.std.proofs.lemmas.Bool.{and_parts, false_from_ne_true}
use Rattle.history_cases.proofs.Telling.{IsRequest}
use Rattle.clv_base.specs.declared.names.TxId.{TxId}
use Rattle.clv_base.specs.declared.logs.LogRecord.{LogRecord}
use Rattle.clv_base.specs.declared.messages.Message.{Message}
use Rattle.clv_base.specs.declared.messages.Message.TheVariants.{Prepare, Vote as VoteMessage, Decide, Done, Ask}
use Rattle.clv_base.specs.declared.state.Request.{Request}
use Rattle.clv_base.specs.declared.state.RequestState.{RequestState}
use Rattle.clv_base.specs.declared.state.RequestState.TheVariants.{Undecided, Committed, Finished, Refused}
use Rattle.clv_base.specs.declared.events.Event.{Event}
use Rattle.clv_base.specs.declared.events.Event.TheVariants.{Request as RequestEvent, Deliver}
use Rattle.clv_base.specs.declared.events.Outcome.{Outcome}
use Rattle.clv_base.specs.declared.events.Outcome.TheVariants.{Asked, Sent}
use Rattle.clv_base.specs.declared.events.Entry.{Entry}
use Rattle.clv_base.specs.Shards.{shard_count}
use Rattle.clv_base.specs.Logs.{committed_in, prepared_in, is_prepare_of}
use Rattle.clv_base.specs.LogRules.{disorder, log_of, all_logs_from, apart}
use Rattle.clv_base.specs.FileRules.{may_open, log_passes, passes_file_rules}
use Rattle.clv_base.specs.State.{Shard}
use Rattle.clv_base.specs.Restarts.{run_after, log_left, greatest_run}
use Rattle.clv_base.specs.Journals.{History, event_state, after_entry}
use Rattle.clv_base.specs.History.{WasSent}
use Rattle.law_base.proofs.Commits.{durable_committed}
use Rattle.law_base.proofs.Options.{none_of}
use Rattle.protocol_laws.proofs.LogsInOrder.OneRecordMore.{own_prepare}
use Rattle.protocol_laws.proofs.LogsInOrder.RunsAreOfRestarts.{record_fits}
use Rattle.protocol_laws.proofs.LogsInOrder.{runs_in_order}
use Rattle.history_cases.proofs.Entering.{makes}
use Rattle.history_cases.proofs.Merging.{Placed, Among, among_append, among_right, is_among}
use Rattle.history_cases.proofs.TellingEvents.{front_committed}
use Rattle.history_cases.proofs.OldRuns.{below_next_run, none_of_this_run}
use Rattle.history_cases.proofs.Worlds.{state_at}
use Rattle.history_laws.specs.Openings.{LegalFrom}
use Rattle.history_laws.proofs.Logs.FoundLogsInOrder.{log_found}
use Rattle.fate_laws.proofs.Homes.ShardKnowsHomes.{Known, Dead, Tells, Alone, Homed, words_on, MayCommit}
use Rattle.fate_laws.proofs.Homes.EventsKeepHomes.{Fresh, Owes, homed_opened}
use Rattle.fate_laws.proofs.Homes.EntriesKeepHomes.{Enters, ToldDead, SaysOut, homed_mono, durable_front, homed_made, says_made}
use Rattle.fate_laws.proofs.History.EntryByEntry.{Next, walk, each_shard, stays_as_it_was, AskedIn, asked_later, one_home, first_request, DurableIn, Counts, counts_start, counts_next, durable_later}
use Rattle.law_base.proofs.Logs.{passes_at as each_passes}

-- ---- what a message that was sent tells

-- an abort was told of it by the shard that took its request: there is no COMMIT of it, and none comes
abbrev pub DeadIn : List (List LogRecord) → List (List LogRecord) → History → ℕ → TxId → Type 0
DeadIn before after pre n tx = AskedIn pre tx n × Dead (state_at before after n pre) tx

abbrev pub Told : List (List LogRecord) → List (List LogRecord) → History → Message → Type 0
Told before after pre (Prepare to tx home seen) = tx.run ≡ run_after before → AskedIn pre tx home
Told before after pre (VoteMessage to tx from vote) = ⊤
Told before after pre (Decide to tx home true) = tx.run ≡ run_after before → Known (AskedIn pre) (DurableIn before after pre) tx
Told before after pre (Decide to tx home false) = tx.run ≡ run_after before → DeadIn before after pre home tx
Told before after pre (Done to tx from) = ⊤
Told before after pre (Ask to tx from) = tx.run ≡ run_after before → AskedIn pre tx to

abbrev pub Said : List (List LogRecord) → List (List LogRecord) → History → Outcome → Type 0
Said before after pre (Sent m) = Told before after pre m
Said before after pre _ = ⊤

abbrev pub HomedAt : List (List LogRecord) → List (List LogRecord) → History → Shard → Type 0
HomedAt before after pre s = Homed (run_after before) (AskedIn pre) (AskedIn pre) (DurableIn before after pre) (λ tx. ⊥) s

pub record Fated (splits : List ℕ) (before after : List (List LogRecord)) (pre : History) : Type 0 where
  pub counts : Counts splits before after pre
  pub homed : (n : ℕ) → n < shard_count splits → HomedAt before after pre (state_at before after n pre)
  pub said : (x : Placed) → Among x pre → Said before after pre (x.1).outcome

-- ---- what the next entry owes

may_commit : (A : TxId → ℕ → Type 0) (s : Shard) (tx : TxId) (q : Request) (st : RequestState) → (A tx s.shard → ⊥) → Alone A s tx q st → MayCommit s q st
may_commit A s tx q Undecided k p = absurd (k p.0)
may_commit A s tx q (Committed parts) k p = tt
may_commit A s tx q Finished k p = tt
may_commit A s tx q (Refused cause) k p = absurd (k p.0)

fresh : (splits : List ℕ) (before after : List (List LogRecord)) (h pre : History) (e : Placed) (tx : TxId) (ts : List (ℕ × ℕ)) → Next splits before after h pre e → Fated splits before after pre → IsRequest tx ts e → tx.run ≡ run_after before
    → Fresh (AskedIn (pre ++ e ∷ [])) (AskedIn pre) (state_at before after e.0 pre) tx
fresh splits before after h pre e tx ts w f a r =
    let s = state_at before after e.0 pre in
    let p = f.homed e.0 w.inside in
    let no : (n : ℕ) → AskedIn pre tx n → ⊥ = λ n k. first_request splits before after h pre e tx ts n w a k in
    record {
      here = subst (AskedIn (pre ++ e ∷ []) tx) (sym (w.split).shard) (e.1, ts, among_right e pre (e ∷ []) (inl refl), a);
      uncommitted = false_from_ne_true (committed_in s.local.log tx) (λ c. ⊎_elim (λ k. no s.shard k) (λ k. no k.0 k.1) (p.log tx c r));
      untold = no s.shard;
      no_request = λ q g. may_commit (AskedIn pre) s tx q q.state (no s.shard) (p.requests tx q g r);
    }

-- what a delivered message tells
pub delivered : (splits : List ℕ) (before after : List (List LogRecord)) (pre : History) (m : Message) (stamp : ℕ) → Fated splits before after pre → WasSent pre (Deliver m stamp) → Told before after pre m
delivered splits before after pre m stamp f (n, x, i, s, o) = subst (Said before after pre) o (f.said (n, x) (is_among n x pre i))

decides : (splits : List ℕ) (before after : List (List LogRecord)) (h pre : History) (e : Placed) (tx : TxId) → Next splits before after h pre e → Fated splits before after pre → Known (AskedIn pre) (DurableIn before after pre) tx
    → Known (AskedIn (pre ++ e ∷ [])) (DurableIn before after (pre ++ e ∷ [])) tx × (AskedIn (pre ++ e ∷ []) tx (state_at before after e.0 pre).shard → committed_in (state_at before after e.0 pre).local.log tx ≡ true)
decides splits before after h pre e tx w f (n, a, d) = (
  (n, asked_later pre e tx n a, durable_later splits before after h pre e w f.counts n tx d),
  λ b.
      let i = (w.earlier (n, a.0) a.2).0 in
      let m = one_home splits before after h tx n (state_at before after e.0 pre).shard a.0 b.0 a.1 b.1 w.legal i a.3 (in_h b) b.3 in
      let s = state_at before after e.0 pre in
      front_committed s.durable s.local.log tx (subst (λ k. DurableIn before after pre k tx) (m ∙ (w.split).shard) d),
)
  where
    in_h : (b : AskedIn (pre ++ e ∷ []) tx (state_at before after e.0 pre).shard) → Among ((state_at before after e.0 pre).shard, b.0) h
    in_h b = ⊎_elim (λ j. (w.earlier ((state_at before after e.0 pre).shard, b.0) j).0) last (among_append ((state_at before after e.0 pre).shard, b.0) pre (e ∷ []) b.2)
      where
        last : Among ((state_at before after e.0 pre).shard, b.0) (e ∷ []) → Among ((state_at before after e.0 pre).shard, b.0) h
        last (inl q) = subst (λ z. Among z h) q w.among
        last (inr q) = elim q [ ]

owed : (splits : List ℕ) (before after : List (List LogRecord)) (h pre : History) (e : Placed) (ev : Event) (o : Outcome) → (e.1).event ≡ ev → (e.1).outcome ≡ o → Next splits before after h pre e → Fated splits before after pre → WasSent pre ev
    → Owes (run_after before) (AskedIn (pre ++ e ∷ [])) (AskedIn pre) (DurableIn before after (pre ++ e ∷ [])) (state_at before after e.0 pre) ev o
owed splits before after h pre e (RequestEvent tx ts) Asked a b w f s = λ r. fresh splits before after h pre e tx ts w f (a, b) r
owed splits before after h pre e (Deliver (Prepare to tx home seen) stamp) o a b w f s = λ r. asked_later pre e tx home (delivered splits before after pre (Prepare to tx home seen) stamp f s r)
owed splits before after h pre e (Deliver (Decide to tx home true) stamp) o a b w f s = λ r. decides splits before after h pre e tx w f (delivered splits before after pre (Decide to tx home true) stamp f s r)
owed splits before after h pre e (Deliver (Ask to tx from) stamp) o a b w f s = λ r. delivered splits before after pre (Ask to tx from) stamp f s r
owed splits before after h pre e _ o a b w f s = tt

-- ---- one entry more

entering : (splits : List ℕ) (before after : List (List LogRecord)) (h pre : History) (e : Placed) → Next splits before after h pre e → Fated splits before after pre
    → Enters (run_after before) (AskedIn pre) (AskedIn (pre ++ e ∷ [])) (DurableIn before after pre) (DurableIn before after (pre ++ e ∷ [])) (state_at before after e.0 pre)
    (event_state (log_of after e.0) (state_at before after e.0 pre) (e.1).event (e.1).outcome) (e.1).event (e.1).outcome
entering splits before after h pre e w f =
    let s = state_at before after e.0 pre in
    record {
      more_asked = asked_later pre e;
      more_durable = durable_later splits before after h pre e w f.counts;
      counted = (f.counts).counted e.0 w.inside;
      now = λ u d. (durable_committed s.local.log s.durable u d, subst (λ n. DurableIn before after pre n u) (sym (w.split).shard) (durable_front s.local.log s.durable u d));
      then_ = λ u d. subst (λ n. DurableIn before after (pre ++ e ∷ []) n u) (sym (w.split).shard)
          (subst (λ t. committed_in (log_left t false) u ≡ true) (sym (w.split).next)
          (durable_front (event_state (log_of after e.0) s (e.1).event (e.1).outcome).local.log (event_state (log_of after e.0) s (e.1).event (e.1).outcome).durable u d));
      owes = owed splits before after h pre e (e.1).event (e.1).outcome refl refl w f w.sent;
    }

noted : (run : ℕ) (A Z : TxId → ℕ → Type 0) (K : ℕ → TxId → Type 0) (D : TxId → Type 0) (log : List LogRecord) (s : Shard) (x : Entry) → Homed run A Z K D (event_state log s x.event x.outcome) → Homed run A Z K D (after_entry log s x)
noted run A Z K D log s x p =
    record { log = p.log; prepares = p.prepares; voters = p.voters; requests = p.requests; rows = p.rows; words = words_on run A Z K D (event_state log s x.event x.outcome) (after_entry log s x) refl refl (λ u r z d. d) p.words }

homed_here : (splits : List ℕ) (before after : List (List LogRecord)) (h pre : History) (e : Placed) → Next splits before after h pre e → Fated splits before after pre
    → Homed (run_after before) (AskedIn (pre ++ e ∷ [])) (AskedIn (pre ++ e ∷ [])) (DurableIn before after (pre ++ e ∷ [])) (ToldDead (run_after before) (AskedIn pre) (state_at before after e.0 pre)) (state_at before after e.0 (pre ++ e ∷ []))
homed_here splits before after h pre e w f =
    let s = state_at before after e.0 pre in
    subst (Homed (run_after before) (AskedIn (pre ++ e ∷ [])) (AskedIn (pre ++ e ∷ [])) (DurableIn before after (pre ++ e ∷ [])) (ToldDead (run_after before) (AskedIn pre) s)) (sym (w.split).next)
    (noted (run_after before) _ _ _ _ (log_of after e.0) s e.1
    (homed_made (run_after before) (AskedIn pre) (AskedIn (pre ++ e ∷ [])) (DurableIn before after pre) (DurableIn before after (pre ++ e ∷ [])) (log_of after e.0) s _ (e.1).event (e.1).outcome
    (makes (log_of after e.0) s (e.1).event (e.1).outcome ((w.split).enters).event) (entering splits before after h pre e w f) (f.homed e.0 w.inside)))

homed_next : (splits : List ℕ) (before after : List (List LogRecord)) (h pre : History) (e : Placed) → Next splits before after h pre e → Fated splits before after pre → (n : ℕ) → n < shard_count splits
    → HomedAt before after (pre ++ e ∷ []) (state_at before after n (pre ++ e ∷ []))
homed_next splits before after h pre e w f n i =
    let new = pre ++ e ∷ [] in
    each_shard (λ m s. HomedAt before after new s) before after e pre
    (homed_mono (run_after before) (AskedIn new) (AskedIn new) (AskedIn new) (AskedIn new) (DurableIn before after new) (DurableIn before after new) _ (λ tx. ⊥) _ (λ u m z. z) (λ u m z. z) (λ m u z. z) (λ u d. absurd d)
    (homed_here splits before after h pre e w f)) n
    (homed_mono (run_after before) (AskedIn pre) (AskedIn new) (AskedIn pre) (AskedIn new) (DurableIn before after pre) (DurableIn before after new) (λ tx. ⊥) (λ tx. ⊥) _ (asked_later pre e) (asked_later pre e)
    (durable_later splits before after h pre e w f.counts) (λ u d. absurd d) (f.homed n i))

-- who is dead stays dead
pub dead_later : (splits : List ℕ) (before after : List (List LogRecord)) (h pre : History) (e : Placed) → Next splits before after h pre e → Fated splits before after pre → (n : ℕ) (tx : TxId) → tx.run ≡ run_after before → DeadIn before after pre n tx
    → DeadIn before after (pre ++ e ∷ []) n tx
dead_later splits before after h pre e w f n tx r (a, d) = (asked_later pre e tx n a, at (e.0 == n) refl)
  where
    at : (b : Bool) → (e.0 == n) ≡ b → Dead (state_at before after n (pre ++ e ∷ [])) tx
    at true q =
        let m = eqb-true e.0 n q in
        let a0 : AskedIn pre tx (state_at before after e.0 pre).shard = subst (AskedIn pre tx) (sym m ∙ sym (w.split).shard) a in
        let d0 : Dead (state_at before after e.0 pre) tx = subst (λ k. Dead (state_at before after k pre) tx) (sym m) d in
        subst (λ k. Dead (state_at before after k (pre ++ e ∷ [])) tx) m (((homed_here splits before after h pre e w f).words).dead tx (r, a0, d0)).2
    at false q = subst (λ s. Dead s tx) (sym (stays_as_it_was before after n e pre q)) d

told_later : (splits : List ℕ) (before after : List (List LogRecord)) (h pre : History) (e : Placed) (m : Message) → Next splits before after h pre e → Fated splits before after pre → Told before after pre m → Told before after (pre ++ e ∷ []) m
told_later splits before after h pre e (Prepare to tx home seen) w f t = λ r. asked_later pre e tx home (t r)
told_later splits before after h pre e (VoteMessage to tx from vote) w f t = tt
told_later splits before after h pre e (Decide to tx home true) w f t = λ r. (decides splits before after h pre e tx w f (t r)).0
told_later splits before after h pre e (Decide to tx home false) w f t = λ r. dead_later splits before after h pre e w f home tx r (t r)
told_later splits before after h pre e (Done to tx from) w f t = tt
told_later splits before after h pre e (Ask to tx from) w f t = λ r. asked_later pre e tx to (t r)

said_later : (splits : List ℕ) (before after : List (List LogRecord)) (h pre : History) (e : Placed) (o : Outcome) → Next splits before after h pre e → Fated splits before after pre → Said before after pre o → Said before after (pre ++ e ∷ []) o
said_later splits before after h pre e (Sent m) w f t = told_later splits before after h pre e m w f t
said_later splits before after h pre e _ w f t = tt

-- what the entry itself sends
tells_told : (before after : List (List LogRecord)) (pre : History) (n : ℕ) (m : Message) → (state_at before after n pre).shard ≡ n → Tells (run_after before) (AskedIn pre) (AskedIn pre) (DurableIn before after pre) (state_at before after n pre) m → Told before after pre m
tells_told before after pre n (Prepare to tx home seen) e t = t
tells_told before after pre n (VoteMessage to tx from vote) e t = tt
tells_told before after pre n (Decide to tx home true) e t = t
tells_told before after pre n (Decide to tx home false) e t = λ r.
    let q = t r in
    let k : home ≡ n = q.0 ∙ e in
    (subst (AskedIn pre tx) (sym q.0) q.1, subst (λ z. Dead (state_at before after z pre) tx) (sym k) q.2)
tells_told before after pre n (Done to tx from) e t = tt
tells_told before after pre n (Ask to tx from) e t = t

out_said : (before after : List (List LogRecord)) (pre : History) (n : ℕ) (o : Outcome) → (state_at before after n pre).shard ≡ n → SaysOut (run_after before) (AskedIn pre) (DurableIn before after pre) (state_at before after n pre) o → Said before after pre o
out_said before after pre n (Sent m) e t = tells_told before after pre n m e t
out_said before after pre n _ e t = tt

said_next : (splits : List ℕ) (before after : List (List LogRecord)) (h pre : History) (e : Placed) → Next splits before after h pre e → Fated splits before after pre → (x : Placed) → Among x (pre ++ e ∷ []) → Said before after (pre ++ e ∷ []) (x.1).outcome
said_next splits before after h pre e w f x i = ⊎_elim (λ j. said_later splits before after h pre e (x.1).outcome w f (f.said x j)) last (among_append x pre (e ∷ []) i)
  where
    last : Among x (e ∷ []) → Said before after (pre ++ e ∷ []) (x.1).outcome
    last (inl q) =
        subst (λ z. Said before after (pre ++ e ∷ []) (z.1).outcome) q
        (said_later splits before after h pre e (e.1).outcome w f
        (out_said before after pre e.0 (e.1).outcome (w.split).shard
        (says_made (run_after before) (AskedIn pre) (DurableIn before after pre) (λ tx. ⊥) (log_of after e.0) (state_at before after e.0 pre) _
        (makes (log_of after e.0) (state_at before after e.0 pre) (e.1).event (e.1).outcome ((w.split).enters).event) (f.homed e.0 w.inside))))
    last (inr q) = elim q [ ]

pub fated_next : (splits : List ℕ) (before after : List (List LogRecord)) (h pre : History) (e : Placed) → Next splits before after h pre e → Fated splits before after pre → Fated splits before after (pre ++ e ∷ [])
fated_next splits before after h pre e w f =
    record { counts = counts_next splits before after h pre e w f.counts; homed = homed_next splits before after h pre e w f; said = said_next splits before after h pre e w f }

-- ---- the whole history

-- no log that may be opened has a PREPARE of the run that opens it
pub none_prepared : (splits : List ℕ) (before : List (List LogRecord)) (n : ℕ) (t : TxId) → may_open splits before ≡ true → n < length before → prepared_in (log_of before n) t ≡ true → t.run ≡ run_after before → ⊥
none_prepared splits before n t m l c r =
    let p = and_parts (all_logs_from 0 (log_passes splits) before) (is_none (apart before)) m in
    let q = each_passes (log_passes splits) 0 n before p.0 l in
    let d = none_of (disorder (0 + n) (log_of before n)) (and_parts (list_all (passes_file_rules splits (0 + n)) (log_of before n)) _ q).1 in
    let f = record_fits (greatest_run (log_of before n)) t (is_prepare_of t) (own_prepare t) (log_of before n) (runs_in_order (0 + n) (log_of before n) d) c in
    let g = below_next_run before n in
    omega (arith, f, g, r)

module _ {splits : List ℕ} {before after : List (List LogRecord)} {h : History} (l : LegalFrom splits before h after) where
  pub fated_start : Fated splits before after []
  fated_start = record {
    counts = counts_start splits before after;
    homed = λ n i.
        homed_opened (run_after before) (AskedIn []) (AskedIn []) (DurableIn before after []) n (log_of before n) (λ t. none_of_this_run splits before n t l.opens (log_found l n i)) (λ t. none_prepared splits before n t l.opens (log_found l n i));
    said = λ x i. elim i [ ];
  }

  pub fated : Fated splits before after h
  fated = walk (Fated splits before after) splits before after h [] h l.legal refl (fated_next splits before after h) fated_start

-- who is committed on a shard asked, and is committed where it asked
pub committed_asked : (splits : List ℕ) (before after : List (List LogRecord)) (h pre : History) (n : ℕ) (tx : TxId) → n < shard_count splits → Fated splits before after pre → tx.run ≡ run_after before → committed_in (state_at before after n pre).local.log tx ≡ true
    → (k : ℕ) × AskedIn pre tx k × (committed_in (state_at before after k pre).local.log tx ≡ true)
committed_asked splits before after h pre n tx i f r c =
    ⊎_elim (λ a. (n, subst (AskedIn pre tx) ((f.counts).shard n i) a, c)) (λ z. (z.0, z.1, front_committed (state_at before after z.0 pre).durable (state_at before after z.0 pre).local.log tx z.2)) ((f.homed n i).log tx c r)
