-- After each front of a legal history: what each shard has and tells of transactions of earlier runs.
use Rattle.std.proofs.Common.{◌≡◌, inl, inr, ⊎_elim, refl, sym, subst, ℕ, ◌<◌, true, List, [], ◌∷◌, ◌++◌, length, Some, arith}
use Rattle.std.proofs.lemmas.List.{take_all}
use Rattle.clv_base.specs.declared.names.TxId.{TxId}
use Rattle.clv_base.specs.declared.logs.LogRecord.{LogRecord}
use Rattle.clv_base.specs.declared.messages.Message.{Message}
use Rattle.clv_base.specs.declared.events.Event.{Event}
use Rattle.clv_base.specs.declared.events.Event.TheVariants.{Request as RequestEvent, Deliver}
use Rattle.clv_base.specs.declared.events.Outcome.{Outcome}
use Rattle.clv_base.specs.declared.events.Outcome.TheVariants.{Sent}
use Rattle.clv_base.specs.declared.events.Entry.{Entry}
use Rattle.clv_base.specs.Shards.{shard_count}
use Rattle.clv_base.specs.Logs.{committed_in}
use Rattle.clv_base.specs.LogRules.{log_of}
use Rattle.clv_base.specs.State.{Shard}
use Rattle.clv_base.specs.Restarts.{run_after, log_after_restart}
use Rattle.clv_base.specs.Journals.{History, event_state, after_entry}
use Rattle.clv_base.specs.History.{WasSent}
use Rattle.law_base.proofs.Commits.{committed_keeps}
use Rattle.protocol_laws.specs.SessionLaws.{tx_of}
use Rattle.history_cases.proofs.Entering.{Makes, makes}
use Rattle.history_cases.proofs.Merging.{Placed, Among, among_append, is_among}
use Rattle.history_laws.specs.Openings.{LegalFrom}
use Rattle.history_laws.proofs.Logs.FoundLogsInOrder.{log_found}
use Rattle.history_laws.proofs.NeverTakenBack.{walker_of}
use Rattle.history_cases.proofs.TellingEvents.{front_committed}
use Rattle.history_cases.proofs.Worlds.{state_at}
use Rattle.fate_laws.proofs.History.EntryByEntry.{Next, walk_front, each_shard, DurableIn, Counts, counts_start, counts_next, durable_later}
use Rattle.fate_laws.proofs.Parts.FoundCommitsAreBound.{opening_home}
use Rattle.fate_laws.specs.Earlier.{WasCommitted}
use Rattle.fate_laws.proofs.EarlierRuns.TellsOnlyFoundCommits.{Tells, Elder}
use Rattle.fate_laws.proofs.EarlierRuns.EventsKeepEarlierRuns.{Owes, SaysOut, elder_opened, elder_made, says_made}

abbrev pub OfRun : List (List LogRecord) → TxId → Type 0
OfRun before tx = tx.run ≡ run_after before

abbrev pub WasCommittedOn : List (List LogRecord) → ℕ → TxId → Type 0
WasCommittedOn before n tx = committed_in (log_of before n) tx ≡ true

abbrev pub ElderAt : List (List LogRecord) → Shard → Type 0
ElderAt before s = Elder (OfRun before) (WasCommitted before) (WasCommittedOn before) s

abbrev pub Says : List (List LogRecord) → Outcome → Type 0
Says before o = SaysOut (OfRun before) (WasCommitted before) (WasCommittedOn before) o

pub record Elders (splits : List ℕ) (before after : List (List LogRecord)) (pre : History) : Type 0 where
  pub counts : Counts splits before after pre
  pub elder : (n : ℕ) → n < shard_count splits → ElderAt before (state_at before after n pre)
  pub said : (x : Placed) → Among x pre → Says before (x.1).outcome
  -- what was durable at opening is so still
  pub stays : (n : ℕ) (tx : TxId) → DurableIn before after [] n tx → DurableIn before after pre n tx

-- ---- one entry more

sent_tells : (before : List (List LogRecord)) (m : Message) (o : Outcome) → o ≡ Sent m → Says before o → Tells (OfRun before) (WasCommitted before) (WasCommittedOn before) m
sent_tells before m o e k = subst (Says before) e k

-- what a message that was sent tells
pub delivered : (splits : List ℕ) (before after : List (List LogRecord)) (pre : History) (m : Message) (stamp : ℕ) → Elders splits before after pre → WasSent pre (Deliver m stamp) → Tells (OfRun before) (WasCommitted before) (WasCommittedOn before) m
delivered splits before after pre m stamp f (n, x, i, s, o) = sent_tells before m x.outcome o (f.said (n, x) (is_among n x pre i))

owed : (splits : List ℕ) (before after : List (List LogRecord)) (h pre : History) (e : Placed) (ev : Event) → (e.1).event ≡ ev → Next splits before after h pre e → Elders splits before after pre → WasSent pre ev
    → Owes (OfRun before) (WasCommitted before) (WasCommittedOn before) ev
owed splits before after h pre e (RequestEvent tx ts) q w f s = (walker_of splits before after h e tx w.legal w.among (request_of_tx q)).0
  where
    request_of_tx : (e.1).event ≡ RequestEvent tx ts → tx_of (e.1).event ≡ Some tx
    request_of_tx z = subst (λ v. tx_of v ≡ Some tx) (sym z) refl
owed splits before after h pre e (Deliver m stamp) q w f s = delivered splits before after pre m stamp f s
owed splits before after h pre e _ q w f s = tt

-- whose COMMIT was found on a shard has it there
pub found_there : (splits : List ℕ) (before after : List (List LogRecord)) (pre : History) (n : ℕ) (tx : TxId) → Elders splits before after pre → WasCommittedOn before n tx → committed_in (state_at before after n pre).local.log tx ≡ true
found_there splits before after pre n tx f c =
    let log = log_after_restart n (log_of before n) (run_after before) 0 in
    let s = state_at before after n pre in
    let d : DurableIn before after [] n tx = subst (λ l. committed_in l tx ≡ true) (sym (take_all (length log) log (omega arith))) (committed_keeps (log_of before n) _ tx c) in
    front_committed s.durable s.local.log tx (f.stays n tx d)

noted : (before log : List (List LogRecord)) (l : List LogRecord) (s : Shard) (x : Entry) → ElderAt before (event_state l s x.event x.outcome) → ElderAt before (after_entry l s x)
noted before log l s x p = record { log = p.log; prepares = p.prepares; voters = p.voters; rows = p.rows; out = p.out }

module _ (splits : List ℕ) (before after : List (List LogRecord)) (h pre : History) (e : Placed) (w : Next splits before after h pre e) (f : Elders splits before after pre) where
  made : Makes (log_of after e.0) (state_at before after e.0 pre) (e.1).event (e.1).outcome (event_state (log_of after e.0) (state_at before after e.0 pre) (e.1).event (e.1).outcome)
  made = makes (log_of after e.0) (state_at before after e.0 pre) (e.1).event (e.1).outcome ((w.split).enters).event

  elder_here : ElderAt before (state_at before after e.0 (pre ++ e ∷ []))
  elder_here =
      let s = state_at before after e.0 pre in
      subst (ElderAt before) (sym (w.split).next)
      (noted before after (log_of after e.0) s e.1
      (elder_made (OfRun before) (WasCommitted before) (WasCommittedOn before) (log_of after e.0) s _
      (λ u c. found_there splits before after pre e.0 u f (subst (λ n. WasCommittedOn before n u) (w.split).shard c)) made (owed splits before after h pre e (e.1).event refl w f w.sent) (f.elder e.0 w.inside)))

  pub elders_next : Elders splits before after (pre ++ e ∷ [])
  elders_next = record {
    counts = counts_next splits before after h pre e w f.counts;
    elder = λ n i. each_shard (λ m s. ElderAt before s) before after e pre elder_here n (f.elder n i);
    said = λ x i. ⊎_elim (λ j. f.said x j) (λ j. last x j) (among_append x pre (e ∷ []) i);
    stays = λ n tx d. durable_later splits before after h pre e w f.counts n tx (f.stays n tx d);
  }
    where
      last : (x : Placed) → Among x (e ∷ []) → Says before (x.1).outcome
      last x (inl q) =
          subst (λ z. Says before (z.1).outcome) q
          (says_made (OfRun before) (WasCommitted before) (WasCommittedOn before) (log_of after e.0) (state_at before after e.0 pre) _ made (f.elder e.0 w.inside))
      last x (inr q) = elim q [ ]

-- ---- the whole front

module _ {splits : List ℕ} {before after : List (List LogRecord)} {h : History} (l : LegalFrom splits before h after) where
  pub elders_start : Elders splits before after []
  elders_start = record {
    counts = counts_start splits before after;
    elder = λ n i.
        elder_opened (OfRun before) (WasCommitted before) (WasCommittedOn before) n (run_after before) (log_of before n) (λ t c. inr (n, c)) (λ t p e. inr (λ c. opening_home splits before t c.0 n p l.opens c.1 (log_found l n i) e));
    said = λ x i. elim i [ ];
    stays = λ n tx d. d;
  }

  pub elders_front : (pre post : History) → pre ++ post ≡ h → Elders splits before after pre
  elders_front pre post q = walk_front (Elders splits before after) splits before after h [] pre post l.legal q (elders_next splits before after h) elders_start
