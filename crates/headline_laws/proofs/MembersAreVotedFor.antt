-- Of whose COMMIT each other shard that its request names voted yes or read.
use Rattle.std.proofs.Common.{◌≡◌, inl, inr, ⊎_elim, refl, sym, ap, subst, ◌∙◌, ℕ, ◌<◌, true, List, [], ◌∷◌, ◌++◌, Some, append-nil, append_assoc}
use Rattle.clv_base.specs.declared.names.TxId.{TxId}
use Rattle.clv_base.specs.declared.logs.LogRecord.{LogRecord}
use Rattle.clv_base.specs.declared.causes.Vote.{Vote}
use Rattle.clv_base.specs.declared.causes.Vote.TheVariants.{Yes, Read, No}
use Rattle.clv_base.specs.declared.messages.Message.TheVariants.{Prepare, Vote as VoteMessage, Decide}
use Rattle.clv_base.specs.declared.events.Event.{Event}
use Rattle.clv_base.specs.declared.events.Event.TheVariants.{Op as OpEvent, Request as RequestEvent, Deliver}
use Rattle.clv_base.specs.declared.events.Outcome.{Outcome}
use Rattle.clv_base.specs.declared.events.Outcome.TheVariants.{Asked, Sent}
use Rattle.clv_base.specs.declared.events.Entry.{Entry}
use Rattle.clv_base.specs.Shards.{shard_count}
use Rattle.clv_base.specs.LogRules.{log_of}
use Rattle.clv_base.specs.Restarts.{run_after, log_after_restart}
use Rattle.clv_base.specs.Journals.{History}
use Rattle.clv_base.specs.History.{WasSent}
use Rattle.protocol_laws.specs.SessionLaws.{tx_of}
use Rattle.history_cases.proofs.Entering.{makes}
use Rattle.history_cases.proofs.Merging.{Placed, Among, among_append, is_among, among_left, among_is}
use Rattle.history_cases.proofs.OldRuns.{none_of_this_run}
use Rattle.history_cases.proofs.Uncommitting.{opening_adds}
use Rattle.history_cases.proofs.Worlds.{state_at}
use Rattle.history_laws.specs.Openings.{LegalFrom}
use Rattle.history_laws.proofs.Logs.FoundLogsInOrder.{log_found}
use Rattle.history_laws.proofs.NeverTakenBack.{walker_of}
use Rattle.fate_laws.proofs.History.EntryByEntry.{Next, each_shard, asked_later, next_at}
use Rattle.fate_laws.proofs.Homes.FrontsKeepHomes.{delivered}
use Rattle.fate_laws.proofs.Parts.CommittedAreVotedFor.{Good, VoteTells, Parted}
use Rattle.fate_laws.proofs.Parts.EventsKeepParts.{Owes}
use Rattle.fate_laws.proofs.Parts.RestartsKeepParts.{parted_state}
use Rattle.fate_laws.proofs.Parts.FrontsKeepParts.{WasTaken, Sought, Bindings, once, sought_later, bound_message, says_made, SaysOut, bindings_front, parted_mono, parted_made, noted, op_asks_none, op_unprepared}
use Rattle.fate_laws.proofs.Homes.DecidedStaysDecided.{left_committed}
use Rattle.clv_base.specs.Coordinator.{is_good}
use Rattle.fate_laws.proofs.FallenAreUncommitted.FrontsKeepOutUncommitted.{walk_on}
use Rattle.headline_laws.specs.Voted.{MembersAreVotedFor}

-- ---- what is known after a front of the history

-- a vote for its commit was sent by the shard
abbrev pub VotedWell : History → ℕ → TxId → Type 0
VotedWell pre n tx = (k : ℕ) × (x : Entry) × (home : ℕ) × (v : Vote) × Among (k, x) pre × (x.outcome ≡ Sent (VoteMessage home tx n v)) × (is_good (Some v) ≡ true)

abbrev pub Votes : List (List LogRecord) → History → ℕ → TxId → Type 0
Votes before pre n tx = tx.run ≡ run_after before → VotedWell pre n tx

votes_later : (before : List (List LogRecord)) (pre : History) (e : Placed) (n : ℕ) (tx : TxId) → Votes before pre n tx → Votes before (pre ++ e ∷ []) n tx
votes_later before pre e n tx k r = let (m, x, home, v, i, o, g) = k r in (m, x, home, v, among_left (m, x) pre (e ∷ []) i, o, g)

pub record Voting (splits : List ℕ) (before after : List (List LogRecord)) (h pre : History) : Type 0 where
  pub parted : (n : ℕ) → n < shard_count splits → Parted (run_after before) (WasTaken h) (Sought before pre) (Votes before pre) (state_at before after n pre)
  pub said : (x : Placed) (to home : ℕ) (tx : TxId) → Among x pre → (x.1).outcome ≡ Sent (Decide to tx home true) → Good (run_after before) (WasTaken h) (Votes before pre) tx
  pub bindings : Bindings splits before after h pre

-- ---- what the next entry owes

voted : (before : List (List LogRecord)) (pre : History) (e : Placed) (to from : ℕ) (tx : TxId) (vote : Vote) (stamp : ℕ) → WasSent pre (Deliver (VoteMessage to tx from vote) stamp) → VoteTells (Votes before (pre ++ e ∷ [])) from tx vote
voted before pre e to from tx Yes stamp (n, x, i, s, o) = λ r. (n, x, to, Yes, among_left (n, x) pre (e ∷ []) (is_among n x pre i), o, refl)
voted before pre e to from tx Read stamp (n, x, i, s, o) = λ r. (n, x, to, Read, among_left (n, x) pre (e ∷ []) (is_among n x pre i), o, refl)
voted before pre e to from tx (No why) stamp w = tt

decided : (splits : List ℕ) (before after : List (List LogRecord)) (h pre : History) (e : Placed) (to home : ℕ) (tx : TxId) (stamp : ℕ) → Voting splits before after h pre → WasSent pre (Deliver (Decide to tx home true) stamp) → Good (run_after before) (WasTaken h) (Votes before (pre ++ e ∷ [])) tx
decided splits before after h pre e to home tx stamp k (n, x, i, s, o) = λ m c. votes_later before pre e m tx (k.said (n, x) to home tx (is_among n x pre i) o m c)

owed : (splits : List ℕ) (before after : List (List LogRecord)) (h pre : History) (e : Placed) (ev : Event) (o : Outcome) → (e.1).event ≡ ev → (e.1).outcome ≡ o → Next splits before after h pre e → Voting splits before after h pre → WasSent pre ev
    → Owes (run_after before) (WasTaken h) (Sought before (pre ++ e ∷ [])) (Votes before (pre ++ e ∷ [])) (state_at before after e.0 pre) ev o
owed splits before after h pre e (OpEvent tx birth nth seen op) o a b w k s =
    let r = (walker_of splits before after h e tx w.legal w.among (ap tx_of a)).0 in
    ((λ q. let z = q r in op_asks_none splits before after h pre e tx birth nth seen op z.0 w a z.1), op_unprepared splits before after h pre e tx birth nth seen op w (k.bindings).fated r a)
owed splits before after h pre e (RequestEvent tx ts) Asked a b w k s = subst (λ n. WasTaken h tx n ts) (sym (w.split).shard) (e.1, w.among, (a, b))
owed splits before after h pre e (Deliver (Prepare to tx home seen) stamp) o a b w k s =
    ((λ r. (home, asked_later pre e tx home (delivered splits before after pre (Prepare to tx home seen) stamp (k.bindings).fated s r))), bound_message splits before after h pre (Prepare to tx home seen) stamp k.bindings s)
owed splits before after h pre e (Deliver (VoteMessage to tx from vote) stamp) o a b w k s = voted before pre e to from tx vote stamp s
owed splits before after h pre e (Deliver (Decide to tx home true) stamp) o a b w k s = decided splits before after h pre e to home tx stamp k s
owed splits before after h pre e _ o a b w k s = tt

-- ---- one entry more

parted_here : (splits : List ℕ) (before after : List (List LogRecord)) (h pre : History) (e : Placed) → Next splits before after h pre e → Voting splits before after h pre
    → Parted (run_after before) (WasTaken h) (Sought before (pre ++ e ∷ [])) (Votes before (pre ++ e ∷ [])) (state_at before after e.0 (pre ++ e ∷ []))
parted_here splits before after h pre e w k =
    let s = state_at before after e.0 pre in
    let new = pre ++ e ∷ [] in
    subst (Parted (run_after before) (WasTaken h) (Sought before new) (Votes before new)) (sym (w.split).next)
    (noted (run_after before) (WasTaken h) (Sought before new) (Votes before new) (log_of after e.0) s e.1
    (parted_made (run_after before) (WasTaken h) (Sought before new) (Votes before new) (log_of after e.0) s _ (once splits before after h w.legal)
    (makes (log_of after e.0) s (e.1).event (e.1).outcome ((w.split).enters).event) (owed splits before after h pre e (e.1).event (e.1).outcome refl refl w k w.sent) ((((k.bindings).fated).counts).counted e.0 w.inside)
    (parted_mono (run_after before) (WasTaken h) (Sought before pre) (Sought before new) (Votes before pre) (Votes before new) s (sought_later before pre e) (votes_later before pre e) (k.parted e.0 w.inside))))

voting_next : (splits : List ℕ) (before after : List (List LogRecord)) (h pre : History) (e : Placed) → Next splits before after h pre e → Bindings splits before after h (pre ++ e ∷ []) → Voting splits before after h pre → Voting splits before after h (pre ++ e ∷ [])
voting_next splits before after h pre e w bs k =
    let new = pre ++ e ∷ [] in
    record {
      parted = λ n i.
          each_shard (λ m s. Parted (run_after before) (WasTaken h) (Sought before new) (Votes before new) s) before after e pre (parted_here splits before after h pre e w k) n
          (parted_mono (run_after before) (WasTaken h) (Sought before pre) (Sought before new) (Votes before pre) (Votes before new) _ (sought_later before pre e) (votes_later before pre e) (k.parted n i));
      said = λ x to home tx i o m c. votes_later before pre e m tx (⊎_elim (λ j. k.said x to home tx j o m c) (λ j. last x to home tx j o m c) (among_append x pre (e ∷ []) i));
      bindings = bs;
    }
  where
    last : (x : Placed) (to home : ℕ) (tx : TxId) → Among x (e ∷ []) → (x.1).outcome ≡ Sent (Decide to tx home true) → Good (run_after before) (WasTaken h) (Votes before pre) tx
    last x to home tx (inl q) o =
        subst (SaysOut (run_after before) (WasTaken h) (Sought before pre) (Votes before pre) (state_at before after e.0 pre)) (ap (λ z. (z.1).outcome) q ∙ o)
        (says_made (run_after before) (WasTaken h) (Sought before pre) (Votes before pre) (log_of after e.0) (state_at before after e.0 pre) _
        (makes (log_of after e.0) (state_at before after e.0 pre) (e.1).event (e.1).outcome ((w.split).enters).event) (k.parted e.0 w.inside))
    last x to home tx (inr q) o = elim q [ ]

module _ {splits : List ℕ} {before after : List (List LogRecord)} {h : History} (l : LegalFrom splits before h after) where
  voting_start : Voting splits before after h []
  voting_start = record {
    parted = λ n i.
        let log = log_of before n in
        let run = run_after before in
        let bs = (bindings_front l [] h refl).parted n i in
        parted_state run (WasTaken h) (Sought before []) (Votes before []) n run 0 (log_after_restart n log run 0) 0 [] (bs.base).firm (λ tx p r. (bs.base).seen tx p r)
        (λ tx c m d r. absurd (none_of_this_run splits before n tx l.opens (log_found l n i) (opening_adds n log run 0 tx c) r));
    said = λ x to home tx i. elim i [ ];
    bindings = bindings_front l [] h refl;
  }

  pub voting_front : Voting splits before after h h
  voting_front =
      walk_on (Voting splits before after h) h [] h [] (append-nil h)
      (λ pre e post q k. voting_next splits before after h pre e (next_at splits before after h pre e post l.legal q) (bindings_front l (pre ++ e ∷ []) post (append_assoc pre (e ∷ []) post ∙ q)) k) voting_start

pub members_are_voted_for : MembersAreVotedFor
members_are_voted_for splits before h after choice n m home e touched tx l i a ev out there left =
    let j = is_among home e h a in
    let run = (walker_of splits before after h (home, e) tx l.legal j (ap tx_of ev)).0 in
    let v = ((voting_front l).parted n i).log tx (left_committed splits before h after choice n tx i left) m (λ r. (home, touched, (e, j, (ev, out)), there)) run in
    (v.0, v.1, v.2, v.3, among_is v.0 v.1 h v.4, v.5, v.6)
