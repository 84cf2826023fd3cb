-- Where a transaction is ended, each of its parts is committed, along a history.
pub mod EndsStandBehindCommits
pub mod RestoredAreUnended
pub mod DueKeepsTheHeard
pub mod EntriesKeepTheHeard
pub mod FoundEndsTellCommits
use Rattle.std.proofs.Common.{◌≡◌, inl, inr, ⊎_elim, refl, sym, subst, ℕ, ◌<◌, true, false, cond, Bool, nat_lt, List, [], ◌∷◌, ◌++◌, Some, arith}
use Rattle.std.specs.List.{list_all}
use Rattle.std.proofs.lemmas.Bool.{and_parts, ltb-true}
use Rattle.clv_base.specs.declared.names.TxId.{TxId}
use Rattle.clv_base.specs.declared.logs.LogRecord.{LogRecord}
use Rattle.clv_base.specs.declared.logs.LogRecord.TheVariants.{Update, Clr, Prepare, Commit, Abort, End, Restart, Add, Unadd, Forgotten, Check}
use Rattle.clv_base.specs.declared.messages.Message.TheVariants.{Done}
use Rattle.clv_base.specs.declared.events.Event.{Event}
use Rattle.clv_base.specs.declared.events.Event.TheVariants.{Deliver}
use Rattle.clv_base.specs.declared.events.Outcome.{Outcome}
use Rattle.clv_base.specs.declared.events.Outcome.TheVariants.{Sent}
use Rattle.clv_base.specs.Orders.{tx_same, nat_in}
use Rattle.clv_base.specs.Shards.{shard_count}
use Rattle.clv_base.specs.Logs.{committed_in, ended_in, commit_parts}
use Rattle.clv_base.specs.LogRules.{log_of}
use Rattle.clv_base.specs.FileRules.{passes_file_rules}
use Rattle.clv_base.specs.Restarts.{run_after, log_left}
use Rattle.clv_base.specs.Journals.{History, event_state, final_of}
use Rattle.clv_base.specs.History.{WasSent, logs_left}
use Rattle.law_base.proofs.Changed.{none_some, some_same}
use Rattle.history_cases.proofs.Entering.{makes}
use Rattle.history_cases.proofs.Merging.{Placed, Among, among_append, is_among}
use Rattle.history_cases.proofs.Worlds.{state_at}
use Rattle.history_laws.specs.Openings.{LegalFrom}
use Rattle.history_laws.proofs.Logs.FoundLogsInOrder.{log_found}
use Rattle.history_laws.proofs.LogsLeftPass.{logs_left_pass, left_length}
use Rattle.fate_laws.proofs.Homes.DecidedStaysDecided.{durable_left}
use Rattle.fate_laws.proofs.Homes.EntriesKeepHomes.{durable_front}
use Rattle.fate_laws.proofs.Homes.FrontsKeepHomes.{fated}
use Rattle.fate_laws.proofs.History.EntryByEntry.{Next, walk, each_shard, DurableIn, Counts, counts_start, counts_next, durable_later}
use Rattle.fate_laws.proofs.Homes.FoundCommitsHaveHomes.{nat_at}
use Rattle.headline_laws.specs.Ended.{EndedAreCommitted}
use Rattle.headline_laws.proofs.EndedAreCommitted.EndsStandBehindCommits.{tell_front}
use Rattle.headline_laws.proofs.EndedAreCommitted.DueKeepsTheHeard.{Hears}
use Rattle.headline_laws.proofs.EndedAreCommitted.EntriesKeepTheHeard.{Brings, Enters, SaysOut, hears_mono, hears_opened, hears_made, hears_noted, out_made}
use Rattle.headline_laws.proofs.EndedAreCommitted.FoundEndsTellCommits.{opening_tells}
use Rattle.law_base.proofs.Logs.{passes_at as each_passes}
use Rattle.history_laws.proofs.NeverTakenBack.{log_now}

-- ---- what is known after a front of the history

pub record Heard (splits : List ℕ) (before after : List (List LogRecord)) (pre : History) : Type 0 where
  pub counts : Counts splits before after pre
  pub hears : (n : ℕ) → n < shard_count splits → Hears (DurableIn before after pre) (state_at before after n pre)
  pub said : (x : Placed) → Among x pre → SaysOut (DurableIn before after pre) (x.1).outcome

-- ---- one entry more

brought : (splits : List ℕ) (before after : List (List LogRecord)) (pre : History) (K : ℕ → TxId → Type 0) (ev : Event) → ((x : Placed) → Among x pre → SaysOut K (x.1).outcome) → WasSent pre ev → Brings K ev
brought splits before after pre K (Deliver m stamp) k (n, x, i, s, o) = subst (SaysOut K) o (k (n, x) (is_among n x pre i))
brought splits before after pre K _ k s = tt

says_later : (K L : ℕ → TxId → Type 0) (o : Outcome) → ((n : ℕ) (u : TxId) → K n u → L n u) → SaysOut K o → SaysOut L o
says_later K L (Sent (Done to tx from)) k p = k from tx p
says_later K L (Sent _) k p = tt
says_later K L _ k p = tt

said_later : (splits : List ℕ) (before after : List (List LogRecord)) (h pre : History) (e : Placed) → Next splits before after h pre e → Heard splits before after pre → (x : Placed) → Among x pre → SaysOut (DurableIn before after (pre ++ e ∷ [])) (x.1).outcome
said_later splits before after h pre e w f x i = says_later (DurableIn before after pre) (DurableIn before after (pre ++ e ∷ [])) (x.1).outcome (durable_later splits before after h pre e w f.counts) (f.said x i)

entering : (splits : List ℕ) (before after : List (List LogRecord)) (h pre : History) (e : Placed) → Next splits before after h pre e → Heard splits before after pre
    → Enters (DurableIn before after (pre ++ e ∷ [])) (state_at before after e.0 pre) (event_state (log_of after e.0) (state_at before after e.0 pre) (e.1).event (e.1).outcome) (e.1).event
entering splits before after h pre e w f =
    let s = state_at before after e.0 pre in
    let t = event_state (log_of after e.0) s (e.1).event (e.1).outcome in
    let K = DurableIn before after (pre ++ e ∷ []) in
    record {
      counted = (f.counts).counted e.0 w.inside;
      now = λ u d. subst (λ n. K n u) (sym (w.split).shard) (durable_later splits before after h pre e w f.counts e.0 u (durable_front s.local.log s.durable u d));
      then_ = λ u d. subst (λ n. K n u) (sym (w.split).shard) (subst (λ z. committed_in (log_left z false) u ≡ true) (sym (w.split).next) (durable_front t.local.log t.durable u d));
      brings = brought splits before after pre K (e.1).event (said_later splits before after h pre e w f) w.sent;
    }

hears_here : (splits : List ℕ) (before after : List (List LogRecord)) (h pre : History) (e : Placed) → Next splits before after h pre e → Heard splits before after pre
    → Hears (DurableIn before after (pre ++ e ∷ [])) (state_at before after e.0 (pre ++ e ∷ []))
hears_here splits before after h pre e w f =
    let s = state_at before after e.0 pre in
    let log = log_of after e.0 in
    let K = DurableIn before after (pre ++ e ∷ []) in
    subst (Hears K) (sym (w.split).next)
    (hears_noted K log s e.1
    (hears_made K log s _ (makes log s (e.1).event (e.1).outcome ((w.split).enters).event) (entering splits before after h pre e w f)
    (hears_mono (DurableIn before after pre) K s (durable_later splits before after h pre e w f.counts) (f.hears e.0 w.inside))))

heard_next : (splits : List ℕ) (before after : List (List LogRecord)) (h pre : History) (e : Placed) → Next splits before after h pre e → Heard splits before after pre → Heard splits before after (pre ++ e ∷ [])
heard_next splits before after h pre e w f =
    let K = DurableIn before after (pre ++ e ∷ []) in
    record {
      counts = counts_next splits before after h pre e w f.counts;
      hears = λ n i.
          each_shard (λ m s. Hears K s) before after e pre (hears_here splits before after h pre e w f) n
          (hears_mono (DurableIn before after pre) K _ (durable_later splits before after h pre e w f.counts) (f.hears n i));
      said = λ x i. ⊎_elim (said_later splits before after h pre e w f x) last (among_append x pre (e ∷ []) i);
    }
  where
    last : {x : Placed} → Among x (e ∷ []) → SaysOut (DurableIn before after (pre ++ e ∷ [])) (x.1).outcome
    last (inl q) =
        subst (λ z. SaysOut (DurableIn before after (pre ++ e ∷ [])) (z.1).outcome) q
        (says_later (DurableIn before after pre) (DurableIn before after (pre ++ e ∷ [])) (e.1).outcome (durable_later splits before after h pre e w f.counts)
        (out_made (DurableIn before after pre) (log_of after e.0) (state_at before after e.0 pre) _
        (makes (log_of after e.0) (state_at before after e.0 pre) (e.1).event (e.1).outcome ((w.split).enters).event) (f.hears e.0 w.inside)))
    last (inr q) = elim q [ ]

-- ---- the whole history

module _ {splits : List ℕ} {before after : List (List LogRecord)} {h : History} (l : LegalFrom splits before h after) where
  heard_start : Heard splits before after []
  heard_start = record {
    counts = counts_start splits before after;
    hears = λ n i.
        hears_opened (DurableIn before after []) n (run_after before) (log_of before n) (opening_tells splits before after n l.opens (log_found l n i));
    said = λ x i. elim i [ ];
  }

  heard : Heard splits before after h
  heard = walk (Heard splits before after) splits before after h [] h l.legal refl (heard_next splits before after h) heard_start

-- ---- the parts of a COMMIT that is left are shards

parts_below : (splits : List ℕ) (shard : ℕ) (log : List LogRecord) (t : TxId) (ps : List ℕ) → list_all (passes_file_rules splits shard) log ≡ true → commit_parts log t ≡ Some ps → list_all (λ p. nat_lt p (shard_count splits)) ps ≡ true
parts_below splits shard [] t ps a e = absurd (none_some ps e)
parts_below splits shard (Commit tx parts ∷ rs) t ps a e = at (tx_same t tx) e (parts_below splits shard rs t ps)
  where
    p : (list_all (λ p. nat_lt p (shard_count splits)) parts ≡ true) × (list_all (passes_file_rules splits shard) rs ≡ true)
    p = and_parts (list_all (λ p. nat_lt p (shard_count splits)) parts) (list_all (passes_file_rules splits shard) rs) a

    at : (b : Bool) → cond b (Some parts) (commit_parts rs t) ≡ Some ps → (list_all (passes_file_rules splits shard) rs ≡ true → commit_parts rs t ≡ Some ps → list_all (λ p. nat_lt p (shard_count splits)) ps ≡ true)
        → list_all (λ p. nat_lt p (shard_count splits)) ps ≡ true
    at true e k = subst (λ z. list_all (λ p. nat_lt p (shard_count splits)) z ≡ true) (some_same parts ps e) p.0
    at false e k = k p.1 e
parts_below splits shard (Update tx k b x ∷ rs) t ps a e = parts_below splits shard rs t ps (and_parts _ (list_all (passes_file_rules splits shard) rs) a).1 e
parts_below splits shard (Clr tx u k x ∷ rs) t ps a e = parts_below splits shard rs t ps (and_parts _ (list_all (passes_file_rules splits shard) rs) a).1 e
parts_below splits shard (Prepare tx home us ∷ rs) t ps a e = parts_below splits shard rs t ps (and_parts _ (list_all (passes_file_rules splits shard) rs) a).1 e
parts_below splits shard (Abort tx ∷ rs) t ps a e = parts_below splits shard rs t ps a e
parts_below splits shard (End tx ∷ rs) t ps a e = parts_below splits shard rs t ps a e
parts_below splits shard (Restart run epoch ∷ rs) t ps a e = parts_below splits shard rs t ps a e
parts_below splits shard (Add tx k by ∷ rs) t ps a e = parts_below splits shard rs t ps (and_parts _ (list_all (passes_file_rules splits shard) rs) a).1 e
parts_below splits shard (Unadd tx u k by ∷ rs) t ps a e = parts_below splits shard rs t ps (and_parts _ (list_all (passes_file_rules splits shard) rs) a).1 e
parts_below splits shard (Forgotten ∷ rs) t ps a e = parts_below splits shard rs t ps a e
parts_below splits shard (Check run' epoch' upto base ∷ rs) t ps a e = parts_below splits shard rs t ps (and_parts _ (list_all (passes_file_rules splits shard) rs) a).1 e

pub part_below : {splits : List ℕ} {before after : List (List LogRecord)} {h : History} → LegalFrom splits before h after → (choice : ℕ → Bool) (n m : ℕ) (tx : TxId) (parts : List ℕ)
    → n < shard_count splits → commit_parts (log_of (logs_left splits before h after choice) n) tx ≡ Some parts → nat_in m parts ≡ true → m < shard_count splits
part_below {splits} {before} {after} {h} l choice n m tx parts i c k =
    let logs = logs_left splits before h after choice in
    let e = left_length splits before h after choice in
    let a = each_passes (λ s log. list_all (passes_file_rules splits s) log) 0 n logs (logs_left_pass splits before h after choice l) (omega (arith, e, i)) in
    ltb-true m (shard_count splits) (nat_at (λ p. nat_lt p (shard_count splits)) m parts (parts_below splits _ (log_of logs n) tx parts a c) k)

pub ended_are_committed : EndedAreCommitted
ended_are_committed splits before h after choice n m tx parts l i e c k =
    let s = final_of before h after n in
    let q = log_now splits before h after choice n i in
    let t = tell_front (DurableIn before after h) _ s.local.log (((heard l).hears n i).log) in
    durable_left splits before h after choice m tx (part_below l choice n m tx parts i c k) (fated l)
    (t.parts tx parts m (subst (λ z. ended_in z tx ≡ true) q e) (subst (λ z. commit_parts z tx ≡ Some parts) q c) k)
