-- COMMITs go downwards: where a transaction is committed, its predecessors are.
use Rattle.std.proofs.Common.{◌≡◌, ◌⊎◌, inl, inr, ⊎_elim, refl, sym, ap, subst, ℕ, ◌<◌, true, false, Bool, ◌&&◌, ◌==◌, List, [], ◌∷◌, ◌++◌, Option, Some, length}
use Rattle.std.specs.Prelude.{⊤}
use Rattle.std.specs.List.{list_all}
use Rattle.std.proofs.lemmas.Bool.{both_ways, and_parts, false_from_ne_true}
use Rattle.clv_base.specs.declared.names.TxId.{TxId}
use Rattle.clv_base.specs.declared.names.Birth.{Birth}
use Rattle.clv_base.specs.declared.ops.Op.{Op}
use Rattle.clv_base.specs.declared.logs.LogRecord.{LogRecord}
use Rattle.clv_base.specs.declared.logs.LogRecord.TheVariants.{End}
use Rattle.clv_base.specs.declared.causes.Vote.TheVariants.{Yes, Read, No}
use Rattle.clv_base.specs.declared.messages.Message.TheVariants.{Decide}
use Rattle.clv_base.specs.declared.state.Ruling.TheVariants.{Commit as CommitVerdict, Acknowledge, Abort as AbortVerdict, End as EndVerdict}
use Rattle.clv_base.specs.declared.events.Event.{Event}
use Rattle.clv_base.specs.declared.events.Event.TheVariants.{Op as OpEvent, Deliver}
use Rattle.clv_base.specs.declared.events.Outcome.{Outcome}
use Rattle.clv_base.specs.declared.events.Entry.{Entry}
use Rattle.clv_base.specs.Shards.{shard_count}
use Rattle.clv_base.specs.Logs.{committed_in, in_doubt}
use Rattle.clv_base.specs.LogRules.{log_of}
use Rattle.clv_base.specs.State.{Shard}
use Rattle.clv_base.specs.Facts.{facts_of, undecided_of, predecessors_of, is_waiting}
use Rattle.clv_base.specs.Coordinator.{others, vote_from, is_good}
use Rattle.clv_base.specs.Events.{finish, with_durable}
use Rattle.clv_base.specs.Restarts.{run_after, state_after, log_after_restart}
use Rattle.clv_base.specs.Journals.{History, up_to_restart}
use Rattle.law_base.proofs.Tables.{is_pair, pair_in, in_pair}
use Rattle.law_base.proofs.Sets.{list_all_at}
use Rattle.history_laws.specs.Openings.{LegalFrom}
use Rattle.shard_laws.proofs.Events.DueKeeps.{agreed_before}
use Rattle.shard_laws.proofs.Restarts.RestoredRequestsAndPairs.{pair_of}
use Rattle.history_cases.proofs.Stepping.{Due, commits, votes, rules, KeptByDue, settled, Step, Happens, finishes, stops}
use Rattle.history_cases.proofs.Entering.{Makes, by_event, by_flush, by_failure, by_restart, makes}
use Rattle.history_cases.proofs.Merging.{Placed}
use Rattle.history_laws.proofs.NeverTakenBack.LaterHistoriesHoldMembers.{committed_front}
use Rattle.history_laws.proofs.NeverTakenBack.{walker_of}
use Rattle.history_cases.proofs.Uncommitting.{with_more, rolled}
use Rattle.history_cases.proofs.Worlds.{state_at}
use Rattle.protocol_laws.specs.SessionLaws.{tx_of}
use Rattle.fate_laws.specs.Downwards.{CommitsGoDownwards}
use Rattle.fate_laws.proofs.Parts.OthersCloseOrGo.{calm_step, calm_one}
use Rattle.fate_laws.proofs.Logs.WhatPreparesOrCommits.{Commits, alone, decided, step_commits}
use Rattle.fate_laws.proofs.History.EntryByEntry.{Next, walk_front, each_shard}
use Rattle.fate_laws.proofs.Parts.CommittedAreVotedFor.{commit_agreed}
use Rattle.fate_laws.proofs.Parts.FrontsKeepParts.{Bindings, bindings_start, bindings_next, asked_not_own}
use Rattle.fate_laws.proofs.Parts.CommitsHaveTheirParts.{due_at}
use Rattle.fate_laws.proofs.Homes.ShardKnowsHomes.{new_commit}
use Rattle.history_laws.proofs.Logs.DoubtedAreUndecided.{doubt_undecided}
use Rattle.law_base.proofs.Shards.{Before}

abbrev pub Down : Shard → Type 0
Down s = (a b : TxId) → committed_in s.local.log a ≡ true → is_pair s.local.pairs a b ≡ true → committed_in s.local.log b ≡ true

-- an operation is of one that isn't committed; a commit that comes is of one whose predecessors are
abbrev pub Owes : Shard → Event → Type 0
Owes s (OpEvent tx birth nth seen op) = committed_in s.local.log tx ≡ false
Owes s (Deliver (Decide to tx home true) stamp) = committed_in s.local.log tx ≡ false → Before s tx
Owes s _ = ⊤

none_undecided : (s : Shard) (a : TxId) → undecided_of s.local a ≡ [] → Before s a
none_undecided s a e = agreed_before s a (subst (λ l. (length l == 0) ≡ true) (sym e) refl)

commits_before : (s : Shard) {e : Event} {o : Outcome} (a : TxId) → Commits s a e o → Owes s e → committed_in s.local.log a ≡ false → Before s a
commits_before s a (alone ts k n) w u = none_undecided s a n
commits_before s a (decided home stamp) w u = w u

commits_not_own : (s : Shard) {e : Event} {o : Outcome} (a : TxId) → Commits s a e o → (birth : Birth) (nth : ℕ) (seen : Option ℕ) (op : Op) → e ≡ OpEvent a birth nth seen op → ⊥
commits_not_own s a (alone ts k n) birth nth seen op q = absurd cc
commits_not_own s a (decided home stamp) birth nth seen op q = absurd cc

pub down_step : (s t : Shard) {e : Event} {o : Outcome} → Step s e o t → Owes s e → Down s → Down t
down_step s t {e} {o} h w d a b c i = at (committed_in s.local.log a) refl
  where
    at : (x : Bool) → committed_in s.local.log a ≡ x → committed_in t.local.log b ≡ true
    at true q =
        let k = calm_step s t a h (λ birth nth seen op f. both_ways _ (subst (Owes s) f w) q) in
        committed_front s.local.log t.local.log b (k.inside).log (d a b q (k.pairs b i))
    at false q =
        ⊎_elim (λ z. absurd (both_ways _ q z))
        (λ z.
        let k = calm_step s t a h (commits_not_own s a z) in
        committed_front s.local.log t.local.log b (k.inside).log (commits_before s a z w q b (k.pairs b i)))
        (step_commits s t a h c)

due_commits : (s t : Shard) (a : TxId) → Due s (Some t) → committed_in t.local.log a ≡ true → (committed_in s.local.log a ≡ true) ⊎ Before s a
due_commits s _ a (commits tx x y) c = inl c
due_commits s _ a (votes tx v Yes x y) c = inl c
due_commits s _ a (votes tx v Read x y) c = inl c
due_commits s _ a (votes tx v (No why) x y) c = inl c
due_commits s _ a (rules tx q (CommitVerdict parts) g e) c =
    ⊎_elim (λ x. inl x)
    (λ x.
    let f = facts_of s tx in
    let k = commit_agreed s.shard tx q f parts e in
    let n = (and_parts (is_waiting f) (f.undecided == 0) (and_parts (is_waiting f && (f.undecided == 0)) (list_all (λ p. is_good (vote_from p q.votes)) (others s.shard q.touched)) k.1).0).1 in
    inr (subst (Before s) (sym x) (agreed_before s tx n)))
    (new_commit s.local.log tx parts a c)
due_commits s _ a (rules tx q Acknowledge g e) c = inl c
due_commits s _ a (rules tx q (AbortVerdict cause to) g e) c = inl (rolled tx s.local a c)
due_commits s _ a (rules tx q EndVerdict g e) c = inl (with_more s.local.log (End tx ∷ []) ((λ t. refl), tt) a c)

pub down_due : KeptByDue Down
down_due s t x d a b c i =
    let k = calm_one s t a x in
    committed_front s.local.log t.local.log b (k.inside).log (⊎_elim (λ z. d a b z (k.pairs b i)) (λ z. z b (k.pairs b i)) (due_commits s t a x c))

down_finish : (s : Shard) → Down s → Down (finish s)
down_finish s d = settled Down s down_due d

pub down_state : (shard own epoch : ℕ) (log : List LogRecord) (last : ℕ) (journal : List Entry) → Down (state_after shard own epoch log last journal)
down_state shard own epoch log last journal a b c i = absurd (both_ways _ (doubt_undecided shard log a (pair_of log (in_doubt shard log) a b i)).1 c)

pub down_event : (s t : Shard) {e : Event} {o : Outcome} → Happens s e o t → Owes s e → Down s → Down t
down_event s _ (finishes {t = x} u h) w d = down_finish x (down_step s x h w d)
down_event s _ (stops u) w d = d

down_made : (log : List LogRecord) (s t : Shard) {e : Event} {o : Outcome} → Makes log s e o t → Owes s e → Down s → Down t
down_made log s t (by_event g h) w d = down_event s t h w d
down_made log s _ (by_flush n u f) w d = down_finish (with_durable n s) d
down_made log s _ (by_failure n u f) w d = d
down_made log s _ (by_restart epoch kept u r) w d = down_state s.shard s.run epoch (up_to_restart s.run epoch log) s.last s.journal

-- ---- the whole history

pub record Lowered (splits : List ℕ) (before after : List (List LogRecord)) (h pre : History) : Type 0 where
  pub bindings : Bindings splits before after h pre
  pub down : (n : ℕ) → n < shard_count splits → Down (state_at before after n pre)

pub owed : (splits : List ℕ) (before after : List (List LogRecord)) (h pre : History) (e : Placed) (ev : Event) → (e.1).event ≡ ev → Next splits before after h pre e → Bindings splits before after h pre → Owes (state_at before after e.0 pre) ev
owed splits before after h pre e (OpEvent tx birth nth seen op) q w b =
    let s = state_at before after e.0 pre in
    let r = (walker_of splits before after h e tx w.legal w.among (ap tx_of q)).0 in
    false_from_ne_true _
    (λ c. ⊎_elim (λ k. asked_not_own splits before after h pre e tx birth nth seen op s.shard w q k) (λ k. asked_not_own splits before after h pre e tx birth nth seen op k.0 w q k.1) (((b.fated).homed e.0 w.inside).log tx c r))
owed splits before after h pre e (Deliver (Decide to tx home true) stamp) q w b =
    λ u p i. let s = state_at before after e.0 pre in list_all_at (committed_in s.local.log) p (predecessors_of s.local.pairs tx) (due_at splits before after h pre e tx to home stamp w b q u).0 (pair_in s.local.pairs tx p i)
owed splits before after h pre e _ q w b = tt

pub lowered_next : (splits : List ℕ) (before after : List (List LogRecord)) (h pre : History) (e : Placed) → Next splits before after h pre e → Lowered splits before after h pre → Lowered splits before after h (pre ++ e ∷ [])
lowered_next splits before after h pre e w k =
    let s = state_at before after e.0 pre in
    record {
      bindings = bindings_next splits before after h pre e w k.bindings;
      down = λ n i.
          each_shard (λ m x. Down x) before after e pre
          (subst Down (sym (w.split).next)
          (down_made (log_of after e.0) s _ (makes (log_of after e.0) s (e.1).event (e.1).outcome ((w.split).enters).event) (owed splits before after h pre e (e.1).event refl w k.bindings) (k.down e.0 w.inside))) n (k.down n i);
    }

pub lowered_front : {splits : List ℕ} {before after : List (List LogRecord)} {h : History} → LegalFrom splits before h after → (pre post : History) → pre ++ post ≡ h → Lowered splits before after h pre
lowered_front {splits} {before} {after} {h} l pre post q =
    walk_front (Lowered splits before after h) splits before after h [] pre post l.legal q (lowered_next splits before after h)
    (record { bindings = bindings_start l; down = λ n i. down_state n (run_after before) 0 (log_after_restart n (log_of before n) (run_after before) 0) 0 [] })

pub commits_go_downwards : CommitsGoDownwards
commits_go_downwards splits before so_far later after n tx p l i c j =
    (lowered_front l so_far later refl).down n i tx p c (in_pair (state_at before after n so_far).local.pairs tx p j)
