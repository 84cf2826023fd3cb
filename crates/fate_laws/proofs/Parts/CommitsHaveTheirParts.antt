-- What a commit finds where it arrives, and what is left of its parts.
use Rattle.std.proofs.Common.{◌≡◌, inl, inr, ⊎_elim, refl, sym, ap, subst, ◌∙◌, ℕ, ◌<◌, true, false, Bool, ◌&&◌, List, [], ◌∷◌, ◌++◌, Some, None, append-nil}
use Rattle.std.specs.List.{list_all}
use Rattle.std.proofs.lemmas.Bool.{both_ways, false_from_ne_true}
use Rattle.clv_base.specs.declared.names.TxId.{TxId}
use Rattle.clv_base.specs.declared.logs.LogRecord.{LogRecord}
use Rattle.clv_base.specs.declared.messages.Message.TheVariants.{Decide}
use Rattle.clv_base.specs.declared.state.Stage.TheVariants.{Closed}
use Rattle.clv_base.specs.declared.state.Taken.TheVariants.{Done as IsDone, Waiting as IsAwaited}
use Rattle.clv_base.specs.declared.events.Event.{Event}
use Rattle.clv_base.specs.declared.events.Event.TheVariants.{Deliver}
use Rattle.clv_base.specs.declared.events.Outcome.{Outcome}
use Rattle.clv_base.specs.Shards.{shard_count}
use Rattle.clv_base.specs.Logs.{committed_in, prepare_of}
use Rattle.clv_base.specs.LogRules.{log_of, listed_in}
use Rattle.clv_base.specs.State.{Shard}
use Rattle.clv_base.specs.Undo.{stage_of}
use Rattle.clv_base.specs.Facts.{facts_of, has_durable_commit, is_waiting, predecessors_of}
use Rattle.clv_base.specs.Participant.{taken_if, taken_by}
use Rattle.clv_base.specs.Restarts.{run_after, log_left}
use Rattle.clv_base.specs.Journals.{History, final_of}
use Rattle.clv_base.specs.History.{WasSent}
use Rattle.law_base.proofs.Commits.{durable_committed}
use Rattle.law_base.proofs.Tables.{in_pair}
use Rattle.shard_laws.proofs.Events.DueKeeps.{waiting_here}
use Rattle.shard_laws.proofs.Order.ChangesKeepOrder.{prepare_some}
use Rattle.history_cases.proofs.Stepping.{Step, decision_comes, decision_again, Happens, finishes, stops}
use Rattle.history_cases.proofs.Entering.{Makes, by_event, by_flush, by_failure, by_restart, makes}
use Rattle.history_cases.proofs.Durability.{left_front}
use Rattle.history_cases.proofs.Merging.{Placed, is_among}
use Rattle.history_laws.proofs.NeverTakenBack.LaterHistoriesHoldMembers.{committed_front}
use Rattle.history_cases.proofs.TellingEvents.{front_committed}
use Rattle.history_cases.proofs.Worlds.{state_at}
use Rattle.fate_laws.specs.Binding.{IsDue, CommitsComeDue, HasItsPart, CommitsHaveTheirParts}
use Rattle.fate_laws.proofs.Logs.WhatAddsNoPrepare.{prepare_more, front_prepare}
use Rattle.fate_laws.proofs.Homes.ShardKnowsHomes.{Known}
use Rattle.fate_laws.proofs.History.EntryByEntry.{Next, next_at, AskedIn, one_home, DurableIn}
use Rattle.fate_laws.proofs.Homes.FrontsKeepHomes.{Fated, delivered}
use Rattle.fate_laws.proofs.Homes.DecidedStaysDecided.{left_committed}
use Rattle.fate_laws.proofs.Parts.YesVotesArePrepared.{Bound}
use Rattle.fate_laws.proofs.Parts.CommittedAreVotedFor.{Touched, Good, Base}
use Rattle.fate_laws.proofs.Parts.FrontsKeepParts.{WasTaken, FineAt, Bindings, bound_message, bindings_front}
use Rattle.protocol_laws.proofs.LogsInOrder.OneRecordMore.{prepared_there}
use Rattle.law_base.proofs.Names.{all_from}
use Rattle.history_laws.proofs.NeverTakenBack.{log_now}

-- ---- a commit is taken by a part that is closed, or again

pub taken_closed : (s : Shard) (tx : TxId) (w d : Bool) → is_waiting (facts_of s tx) ≡ w → taken_if w d ≡ IsAwaited → stage_of s.local tx ≡ Some Closed
taken_closed s tx true d e f = (waiting_here s tx e).0
taken_closed s tx false true e f = absurd cc
taken_closed s tx false false e f = absurd cc

taken_done : (s : Shard) (tx : TxId) (w d : Bool) → has_durable_commit (facts_of s tx) ≡ d → taken_if w (true && d) ≡ IsDone → committed_in s.local.log tx ≡ true
taken_done s tx true d e f = absurd cc
taken_done s tx false true e f = durable_committed s.local.log s.durable tx e
taken_done s tx false false e f = absurd cc

one_decision : (s : Shard) (u tx : TxId) (home to home' : ℕ) (stamp stamp' : ℕ) (c : Bool) → Deliver (Decide s.shard u home c) stamp ≡ Deliver (Decide to tx home' true) stamp' → (u ≡ tx) × (c ≡ true)
one_decision s u tx home to home' stamp stamp' c e = (cc, cc)

closed_step : (s t : Shard) {e : Event} {o : Outcome} (tx : TxId) (to home stamp : ℕ) → Step s e o t → e ≡ Deliver (Decide to tx home true) stamp → committed_in s.local.log tx ≡ false → stage_of s.local tx ≡ Some Closed
closed_step s _ tx to home stamp (decision_comes u h c st g) e n =
    let q = one_decision s u tx h to home st stamp c e in
    let f : taken_by (facts_of s tx) c ≡ IsAwaited = subst (λ v. taken_by (facts_of s v) c ≡ IsAwaited) q.0 g in
    taken_closed s tx (is_waiting (facts_of s tx)) (c && has_durable_commit (facts_of s tx)) refl f
closed_step s _ tx to home stamp (decision_again u h c st g) e n =
    let q = one_decision s u tx h to home st stamp c e in
    let f : taken_by (facts_of s tx) true ≡ IsDone = subst (λ b. taken_by (facts_of s tx) b ≡ IsDone) q.1 (subst (λ v. taken_by (facts_of s v) c ≡ IsDone) q.0 g) in
    absurd (both_ways _ n (taken_done s tx (is_waiting (facts_of s tx)) (has_durable_commit (facts_of s tx)) refl f))
closed_step s _ tx to home stamp _ e n = absurd cc

closed_event : (s t : Shard) {e : Event} {o : Outcome} (tx : TxId) (to home stamp : ℕ) → Happens s e o t → e ≡ Deliver (Decide to tx home true) stamp → committed_in s.local.log tx ≡ false → stage_of s.local tx ≡ Some Closed
closed_event s _ tx to home stamp (finishes {t = x} u h) e n = closed_step s x tx to home stamp h e n
closed_event s _ tx to home stamp (stops u) e n = absurd cc

closed_made : (log : List LogRecord) (s t : Shard) {e : Event} {o : Outcome} (tx : TxId) (to home stamp : ℕ) → Makes log s e o t → e ≡ Deliver (Decide to tx home true) stamp → committed_in s.local.log tx ≡ false → stage_of s.local tx ≡ Some Closed
closed_made log s t tx to home stamp (by_event g h) e n = closed_event s t tx to home stamp h e n
closed_made log s _ tx to home stamp (by_flush k u f) e n = absurd cc
closed_made log s _ tx to home stamp (by_failure k u f) e n = absurd cc
closed_made log s _ tx to home stamp (by_restart epoch kept u r) e n = absurd cc

-- ---- it is due

bound_due : (run : ℕ) (W : TxId → ℕ → List (ℕ × ℕ) → Type 0) (s : Shard) (tx : TxId) → Base run W s → stage_of s.local tx ≡ Some Closed → Bound s tx → IsDue s tx
bound_due run W s tx b c k = (
  all_from (committed_in s.local.log) (predecessors_of s.local.pairs tx) (λ q i. k.pairs q (in_pair s.local.pairs tx q i)),
  b.stands tx (prepared_there s.local.log tx k.listed (front_prepare s.durable s.local.log tx k.listed k.prepare)) c,
)

fine_due : (splits : List ℕ) (before after : List (List LogRecord)) (h pre : History) (n : ℕ) (tx : TxId) → n < shard_count splits → Bindings splits before after h pre → stage_of (state_at before after n pre).local tx ≡ Some Closed
    → committed_in (state_at before after n pre).local.log tx ≡ false → FineAt before after pre n tx → IsDue (state_at before after n pre) tx
fine_due splits before after h pre n tx i b c u (a, inl k) = bound_due (run_after before) (WasTaken h) (state_at before after n pre) tx (b.parted n i).base c k
fine_due splits before after h pre n tx i b c u (a, inr (inl k)) = absurd (k.unclosed c)
fine_due splits before after h pre n tx i b c u (a, inr (inr d)) = absurd (both_ways _ u (front_committed (state_at before after n pre).durable (state_at before after n pre).local.log tx d))

-- its home has the COMMIT
pub home_committed : (splits : List ℕ) (before after : List (List LogRecord)) (h pre : History) (e : Placed) (tx : TxId) (ts : List (ℕ × ℕ)) → Next splits before after h pre e → Known (AskedIn pre) (DurableIn before after pre) tx → WasTaken h tx (state_at before after e.0 pre).shard ts
    → committed_in (state_at before after e.0 pre).local.log tx ≡ true
home_committed splits before after h pre e tx ts w (n, a, d) (r, i, q) =
    let s = state_at before after e.0 pre in
    let m = one_home splits before after h tx n s.shard a.0 r a.1 ts w.legal (w.earlier (n, a.0) a.2).0 a.3 i q in
    front_committed s.durable s.local.log tx (subst (λ k. DurableIn before after pre k tx) (m ∙ (w.split).shard) d)

pub due_at : (splits : List ℕ) (before after : List (List LogRecord)) (h pre : History) (e : Placed) (tx : TxId) (to home stamp : ℕ) → Next splits before after h pre e → Bindings splits before after h pre → (e.1).event ≡ Deliver (Decide to tx home true) stamp
    → committed_in (state_at before after e.0 pre).local.log tx ≡ false → IsDue (state_at before after e.0 pre) tx
due_at splits before after h pre e tx to home stamp w b q n =
    let s = state_at before after e.0 pre in
    let sent : WasSent pre (Deliver (Decide to tx home true) stamp) = subst (WasSent pre) q w.sent in
    let good : Good (run_after before) (WasTaken h) (FineAt before after pre) tx = bound_message splits before after h pre (Decide to tx home true) stamp b sent in
    let closed = closed_made (log_of after e.0) s _ tx to home stamp (makes (log_of after e.0) s (e.1).event (e.1).outcome ((w.split).enters).event) q n in
    fine_due splits before after h pre e.0 tx w.inside b closed n
    (good e.0 (λ r. ⊎_elim (λ k. absurd (both_ways _ n (home_committed splits before after h pre e tx k.0 w (delivered splits before after pre (Decide to tx home true) stamp b.fated sent r) k.1)))
    (λ k. subst (λ m. Touched (WasTaken h) m tx) (w.split).shard k) ((b.parted e.0 w.inside).base.closed tx closed r)))

pub commits_come_due : CommitsComeDue
commits_come_due splits before so_far n e later after tx to home stamp l q t u =
    due_at splits before after (so_far ++ (n, e) ∷ later) so_far (n, e) tx to home stamp (next_at splits before after (so_far ++ (n, e) ∷ later) so_far (n, e) later l.legal refl)
    (bindings_front l so_far ((n, e) ∷ later) refl) q u

-- ---- what is left of the parts of a commit

pub listed_is : (log : List LogRecord) (tx : TxId) (p : ℕ × List TxId) → prepare_of log tx ≡ Some p → listed_in log tx ≡ p.1
listed_is log tx p e = ap (λ o. elim o [ Some x ↦ x.1 | None ↦ [] ]) e

part_left : (splits : List ℕ) (before after : List (List LogRecord)) (h : History) (choice : ℕ → Bool) (m : ℕ) (tx : TxId) → m < shard_count splits → Fated splits before after h → FineAt before after h m tx → HasItsPart (log_left (final_of before h after m) (choice m)) tx
part_left splits before after h choice m tx i f (a, inl k) =
    let s = final_of before h after m in
    let p = left_front s (choice m) ((f.counts).counted m i) in
    let e : prepare_of (log_left s (choice m)) tx ≡ Some k.listed = subst (λ l. prepare_of l tx ≡ Some k.listed) p.1 (prepare_more (log_left s false) p.0 tx k.listed k.prepare) in
    inr (inl (
      prepared_there (log_left s (choice m)) tx k.listed e,
      subst (λ l. list_all (committed_in (log_left s (choice m))) l ≡ true) (sym (listed_is (log_left s (choice m)) tx k.listed e))
          (all_from (committed_in (log_left s (choice m))) (k.listed).1 (λ q j. committed_front (log_left s false) (log_left s (choice m)) q p (k.durable q j))),
    ))
part_left splits before after h choice m tx i f (a, inr (inl k)) =
    let s = final_of before h after m in
    inr (inr (false_from_ne_true _ (λ j. let x = prepare_some (log_left s (choice m)) tx j in both_ways _ k.unprepared (prepared_there s.local.log tx x.0 (front_prepare _ s.local.log tx x.0 x.1)))))
part_left splits before after h choice m tx i f (a, inr (inr d)) =
    let s = final_of before h after m in
    inl (committed_front (log_left s false) (log_left s (choice m)) tx (left_front s (choice m) ((f.counts).counted m i)) d)

pub commits_have_their_parts : CommitsHaveTheirParts
commits_have_their_parts splits before h after choice n m home e ts tx l i j among ev out there c =
    let b = bindings_front l h [] (append-nil h) in
    let good = (b.parted n i).log tx (left_committed splits before h after choice n tx i c) in
    let w : WasTaken h tx home ts = (e, is_among home e h among, (ev, out)) in
    subst (λ z. HasItsPart z tx) (sym (log_now splits before h after choice m j)) (part_left splits before after h choice m tx j b.fated (good m (λ r. (home, ts, w, there))))
