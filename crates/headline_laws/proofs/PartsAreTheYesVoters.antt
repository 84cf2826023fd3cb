-- The parts of a COMMIT are the shards that voted yes, along a history.
pub mod HomesKnowTheVotes
use Rattle.std.proofs.Common.{◌≡◌, refl, sym, subst, ◌∙◌, ℕ, ◌<◌, true, List, [], ◌∷◌, ◌++◌, Some}
use Rattle.clv_base.specs.declared.names.TxId.{TxId}
use Rattle.clv_base.specs.declared.logs.LogRecord.{LogRecord}
use Rattle.clv_base.specs.declared.causes.Vote.{Vote}
use Rattle.clv_base.specs.declared.causes.Vote.TheVariants.{Yes, Read}
use Rattle.clv_base.specs.declared.messages.Message.TheVariants.{Vote as VoteMessage, Decide}
use Rattle.clv_base.specs.declared.events.Event.{Event}
use Rattle.clv_base.specs.declared.events.Event.TheVariants.{Request as RequestEvent, Deliver}
use Rattle.clv_base.specs.declared.events.Outcome.{Outcome}
use Rattle.clv_base.specs.declared.events.Outcome.TheVariants.{Asked, Sent}
use Rattle.clv_base.specs.declared.events.Entry.{Entry}
use Rattle.clv_base.specs.Shards.{shard_count}
use Rattle.clv_base.specs.Logs.{committed_in, commit_parts}
use Rattle.clv_base.specs.LogRules.{log_of}
use Rattle.clv_base.specs.Restarts.{run_after}
use Rattle.clv_base.specs.Journals.{History, final_of}
use Rattle.clv_base.specs.History.{WasSent}
use Rattle.history_cases.proofs.Entering.{makes}
use Rattle.history_cases.proofs.Merging.{Placed, Among, among_left, among_is, is_among}
use Rattle.history_cases.proofs.OldRuns.{none_of_this_run}
use Rattle.history_cases.proofs.TellingEvents.{front_committed}
use Rattle.history_cases.proofs.Worlds.{state_at, in_a_shard}
use Rattle.history_laws.specs.Openings.{LegalFrom}
use Rattle.history_laws.proofs.Logs.FoundLogsInOrder.{log_found}
use Rattle.fate_laws.proofs.Parts.FrontsKeepParts.{WasTaken, once}
use Rattle.fate_laws.proofs.Homes.FrontsKeepHomes.{Fated, fated_next, fated_start, delivered}
use Rattle.fate_laws.proofs.History.EntryByEntry.{Next, walk, each_shard, one_home, DurableIn}
use Rattle.headline_laws.specs.Voters.{WasVoted, PartsAreTheYesVoters}
use Rattle.headline_laws.proofs.EndedAreCommitted.EndsStandBehindCommits.{parts_front}
use Rattle.headline_laws.proofs.PartsAreTheYesVoters.HomesKnowTheVotes.{Chosen, Polls, Owes, polls_opened, polls_made, polls_mono, polls_noted}
use Rattle.history_laws.proofs.NeverTakenBack.{log_now}

-- ---- what is known after a front of the history

-- this vote was sent to the home
abbrev VotedTo : History → ℕ → TxId → ℕ → Vote → Type 0
VotedTo pre home tx m vote = (k : ℕ) × (x : Entry) × Among (k, x) pre × (x.outcome ≡ Sent (VoteMessage home tx m vote))

pub record Polled (splits : List ℕ) (before after : List (List LogRecord)) (h pre : History) : Type 0 where
  pub fated : Fated splits before after pre
  pub polls : (n : ℕ) → n < shard_count splits → Polls (WasTaken h) (VotedTo pre) (state_at before after n pre)

voted_later : (pre : History) (e : Placed) (home : ℕ) (tx : TxId) (m : ℕ) (v : Vote) → VotedTo pre home tx m v → VotedTo (pre ++ e ∷ []) home tx m v
voted_later pre e home tx m v (k, x, i, o) = (k, x, among_left (k, x) pre (e ∷ []) i, o)

-- ---- one entry more

-- word of a commit comes to the home only where its COMMIT is durable there
decided : (splits : List ℕ) (before after : List (List LogRecord)) (h pre : History) (e : Placed) (to home : ℕ) (tx : TxId) (stamp : ℕ) → Next splits before after h pre e → Fated splits before after pre → WasSent pre (Deliver (Decide to tx home true) stamp)
    → (ts : List (ℕ × ℕ)) → WasTaken h tx (state_at before after e.0 pre).shard ts → committed_in (state_at before after e.0 pre).local.log tx ≡ true
decided splits before after h pre e to home tx stamp w f s ts t =
    let st = state_at before after e.0 pre in
    let k = delivered splits before after pre (Decide to tx home true) stamp f s ((once splits before after h w.legal).mine tx st.shard ts t) in
    let a = k.1 in
    let i = (w.earlier (k.0, a.0) a.2).0 in
    let m = one_home splits before after h tx k.0 st.shard a.0 t.0 a.1 ts w.legal i a.3 t.1 t.2 in
    front_committed st.durable st.local.log tx (subst (λ n. DurableIn before after pre n tx) (m ∙ (w.split).shard) k.2)

owed : (splits : List ℕ) (before after : List (List LogRecord)) (h pre : History) (e : Placed) (ev : Event) (o : Outcome) → (e.1).event ≡ ev → (e.1).outcome ≡ o → Next splits before after h pre e → Fated splits before after pre → WasSent pre ev
    → Owes (WasTaken h) (VotedTo (pre ++ e ∷ [])) (state_at before after e.0 pre) ev o
owed splits before after h pre e (RequestEvent tx ts) Asked a b w f s = subst (λ n. WasTaken h tx n ts) (sym (w.split).shard) (e.1, w.among, (a, b))
owed splits before after h pre e (Deliver (VoteMessage to tx from vote) stamp) o a b w f (n, x, i, s, q) = (n, x, among_left (n, x) pre (e ∷ []) (is_among n x pre i), q)
owed splits before after h pre e (Deliver (Decide to tx home true) stamp) o a b w f s = decided splits before after h pre e to home tx stamp w f s
owed splits before after h pre e _ o a b w f s = tt

polls_here : (splits : List ℕ) (before after : List (List LogRecord)) (h pre : History) (e : Placed) → Next splits before after h pre e → Polled splits before after h pre
    → Polls (WasTaken h) (VotedTo (pre ++ e ∷ [])) (state_at before after e.0 (pre ++ e ∷ []))
polls_here splits before after h pre e w p =
    let s = state_at before after e.0 pre in
    let log = log_of after e.0 in
    let V = VotedTo (pre ++ e ∷ []) in
    subst (Polls (WasTaken h) V) (sym (w.split).next)
    (polls_noted (WasTaken h) V log s e.1
    (polls_made (run_after before) (WasTaken h) V (once splits before after h w.legal) log s _ (makes log s (e.1).event (e.1).outcome ((w.split).enters).event)
    (owed splits before after h pre e (e.1).event (e.1).outcome refl refl w p.fated w.sent) (polls_mono (WasTaken h) (VotedTo pre) V s (voted_later pre e) (p.polls e.0 w.inside))))

polled_next : (splits : List ℕ) (before after : List (List LogRecord)) (h pre : History) (e : Placed) → Next splits before after h pre e → Polled splits before after h pre → Polled splits before after h (pre ++ e ∷ [])
polled_next splits before after h pre e w p =
    let V = VotedTo (pre ++ e ∷ []) in
    record {
      fated = fated_next splits before after h pre e w p.fated;
      polls = λ n i. each_shard (λ m s. Polls (WasTaken h) V s) before after e pre (polls_here splits before after h pre e w p) n (polls_mono (WasTaken h) (VotedTo pre) V _ (voted_later pre e) (p.polls n i));
    }

-- ---- the whole history

polled : {splits : List ℕ} {before after : List (List LogRecord)} {h : History} → LegalFrom splits before h after → Polled splits before after h h
polled {splits} {before} {after} {h} l =
    walk (Polled splits before after h) splits before after h [] h l.legal refl (polled_next splits before after h) (record {
      fated = fated_start l;
      polls = λ n i.
          polls_opened (run_after before) (WasTaken h) (VotedTo []) (once splits before after h l.legal) n (log_of before n) (λ t. none_of_this_run splits before n t l.opens (log_found l n i));
    })

was_voted : (h : History) (home : ℕ) (tx : TxId) (m : ℕ) (v : Vote) → VotedTo h home tx m v → WasVoted h home tx m v
was_voted h home tx m v (k, x, i, o) = (k, x, among_is k x h i, o)

pub parts_are_the_yes_voters : PartsAreTheYesVoters
parts_are_the_yes_voters splits before h after choice m home e touched tx parts l a ev out c =
    let j = is_among home e h a in
    let i = in_a_shard splits before after h (home, e) l.legal j in
    let s = final_of before h after home in
    let p = polled l in
    let q = ((p.fated).counts).shard home i in
    let t = parts_front _ s.local.log tx parts (subst (λ z. commit_parts z tx ≡ Some parts) (log_now splits before h after choice home i) c) in
    let k = subst (λ n. Chosen (VotedTo h) n tx touched parts) q ((p.polls home i).log tx touched parts (subst (λ n. WasTaken h tx n touched) (sym q) (e, j, (ev, out))) t) m in
    ((λ x. let y = k.0 x in (y.0, was_voted h home tx m Yes y.1)), (λ x n. was_voted h home tx m Read (k.1 x n)))
