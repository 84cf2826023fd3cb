-- Who fell on a shard is not committed there, and no commit finds it.
pub mod RulingsThatEndNothing
pub mod PreparesListEarlierOnes
pub mod PreparedPairsAreListed
pub mod GoesWithItsPredecessor
pub mod OutIsLost
pub mod DueKeepsOutUncommitted
pub mod StepsKeepOutUncommitted
pub mod EventsKeepOutUncommitted
pub mod EntriesKeepOutUncommitted
pub mod FrontsKeepOutUncommitted
pub mod NoPartWithoutOperation
use Rattle.std.proofs.Common.{◌≡◌, inl, inr, refl, sym, ap, subst, ◌∙◌, ℕ, ◌<◌, true, false, cond, Bool, ◌&&◌, ◌==◌, List, [], ◌∷◌, ◌++◌, Option, Some, None, append_assoc, append-nil}
use Rattle.std.proofs.lemmas.Bool.{both_ways}
use Rattle.clv_base.specs.declared.names.TxId.{TxId}
use Rattle.clv_base.specs.declared.logs.LogRecord.{LogRecord}
use Rattle.clv_base.specs.declared.messages.Message.TheVariants.{Decide}
use Rattle.clv_base.specs.declared.state.Stage.{Stage}
use Rattle.clv_base.specs.declared.state.Stage.TheVariants.{Active, Closed, Gone}
use Rattle.clv_base.specs.declared.events.Event.TheVariants.{Deliver}
use Rattle.clv_base.specs.declared.events.Outcome.TheVariants.{Taken, Stale, Down}
use Rattle.clv_base.specs.Shards.{shard_count}
use Rattle.clv_base.specs.LogRules.{log_of}
use Rattle.clv_base.specs.Logs.{committed_in}
use Rattle.clv_base.specs.declared.state.Taken.{Taken as DecisionTaken}
use Rattle.clv_base.specs.declared.state.Taken.TheVariants.{Done as IsDone, Waiting as IsAwaited, Stale as IsStale}
use Rattle.clv_base.specs.State.{Shard, is_present}
use Rattle.clv_base.specs.Undo.{stage_of}
use Rattle.clv_base.specs.Facts.{facts_of, is_waiting, has_durable_commit}
use Rattle.clv_base.specs.Participant.{taken_if, taken_by}
use Rattle.clv_base.specs.Events.{Reply, QuietBeforeWorn, Does, on_decide, deliver_event}
use Rattle.clv_base.specs.Journals.{History, EventMay}
use Rattle.law_base.proofs.Commits.{durable_committed}
use Rattle.history_cases.proofs.Merging.{Placed, among_left, is_among}
use Rattle.history_cases.proofs.Worlds.{state_at}
use Rattle.history_laws.specs.Openings.{LegalFrom}
use Rattle.fate_laws.proofs.History.EntryByEntry.{Next, next_at, asked_later, one_home}
use Rattle.fate_laws.specs.Decisions.{is_left}
use Rattle.fate_laws.proofs.Homes.DecidedStaysDecided.{left_committed, commits_stand_at_home}
use Rattle.fate_laws.proofs.Parts.FrontsKeepParts.{bindings_front}
use Rattle.fate_laws.proofs.Parts.CommitsHaveTheirParts.{taken_closed}
use Rattle.fate_laws.proofs.EarlierRuns.FrontsKeepEarlierRuns.{elders_front}
use Rattle.fate_laws.specs.Falls.{Fell, FallenAreUncommitted, CommitsFindTheUnfallen, CommittedNeverFell, MembersNeverFellAtHome}
use Rattle.shard_laws.specs.OneShard.{is_doomed}
use Rattle.fate_laws.proofs.AbortedAreCommittedNowhere.{spared_front}
use Rattle.fate_laws.proofs.FallenAreUncommitted.NoPartWithoutOperation.{parts_met}
use Rattle.fate_laws.proofs.FallenAreUncommitted.FrontsKeepOutUncommitted.{Met, met_front, WasOut, decision_finds, stands_front}

-- ---- who fell was out

pub fell_out : {splits : List ℕ} {before after : List (List LogRecord)} {h : History} → LegalFrom splits before h after → (pre post : History) (n : ℕ) (tx : TxId) → pre ++ post ≡ h → n < shard_count splits → Fell before pre after n tx → WasOut before after pre n tx
fell_out {before} {after} {h} l pre post n tx q i (inl (f, e, rest, z, ev, (there, gone, open_))) =
    (f ++ (n, e) ∷ [], rest, append_assoc f ((n, e) ∷ []) rest ∙ z, (gone, open_, met (stage_of (state_at before after n f).local tx) refl there))
  where
    whole : f ++ ((n, e) ∷ rest ++ post) ≡ h
    whole = sym (append_assoc f ((n, e) ∷ rest) post) ∙ ap (λ y. y ++ post) z ∙ q

    met : (o2 : Option Stage) → stage_of (state_at before after n f).local tx ≡ o2 → is_present o2 ≡ true → Met before (f ++ (n, e) ∷ []) (f ++ (n, e) ∷ []) n tx
    met None g y = absurd (both_ways false refl y)
    met (Some st) g y =
        met_front before f f (f ++ (n, e) ∷ []) (f ++ (n, e) ∷ []) n tx (λ j a. asked_later f (n, e) tx j a) (λ v j. among_left v f ((n, e) ∷ []) j) (parts_met l f ((n, e) ∷ rest ++ post) whole n i tx st g)
fell_out {before} {after} {h} l pre post n tx q i (inr (f, rest, z, d)) = by_stage (stage_of (state_at before after n f).local tx) refl d
  where
    whole : f ++ (rest ++ post) ≡ h
    whole = sym (append_assoc f rest post) ∙ ap (λ y. y ++ post) z ∙ q

    by_stage : (o2 : Option Stage) → stage_of (state_at before after n f).local tx ≡ o2 → is_doomed o2 ≡ true → WasOut before after pre n tx
    by_stage (Some (Gone (Some doom))) g y = (
      f,
      rest,
      z,
      (
        subst (λ v. is_present v ≡ false) (sym g) refl,
        ((spared_front l f (rest ++ post) whole).kept n i).gone tx doom g,
        parts_met l f (rest ++ post) whole n i tx (Gone (Some doom)) g,
      ),
    )
    by_stage (Some (Gone None)) g y = absurd (both_ways false refl y)
    by_stage (Some Active) g y = absurd (both_ways false refl y)
    by_stage (Some Closed) g y = absurd (both_ways false refl y)
    by_stage None g y = absurd (both_ways false refl y)

pub fallen_are_uncommitted : FallenAreUncommitted
fallen_are_uncommitted splits before so_far later after n tx l i f =
    let h = so_far ++ later in
    ((stands_front l so_far later refl n i).barred).open_ tx (fell_out l so_far later n tx refl i f)

-- ---- a commit that is taken comes to a closed part

done_durable : (w d : Bool) → taken_if w d ≡ IsDone → d ≡ true
done_durable true d e = absurd cc
done_durable false true e = refl
done_durable false false e = absurd cc

by_decision : (s t : Shard) (tx : TxId) (home : ℕ) (d : DecisionTaken) → taken_by (facts_of s tx) true ≡ d → committed_in s.local.log tx ≡ false → on_decide s tx home true d ≡ Does Taken t → stage_of s.local tx ≡ Some Closed
by_decision s t tx home IsAwaited e n r = taken_closed s tx (is_waiting (facts_of s tx)) (true && has_durable_commit (facts_of s tx)) refl e
by_decision s t tx home IsDone e n r = absurd (both_ways _ n (durable_committed s.local.log s.durable tx (done_durable (is_waiting (facts_of s tx)) (has_durable_commit (facts_of s tx)) e)))
by_decision s t tx home IsStale e n r = absurd cc

by_shard : (s t : Shard) (tx : TxId) (home : ℕ) (b : Bool) → committed_in s.local.log tx ≡ false → ◌≡◌ {A = Reply} (cond b (on_decide s tx home true (taken_by (facts_of s tx) true)) (QuietBeforeWorn Stale)) (Does Taken t) → stage_of s.local tx ≡ Some Closed
by_shard s t tx home true n r = by_decision s t tx home (taken_by (facts_of s tx) true) refl n r
by_shard s t tx home false n r = absurd cc

by_up : (s t : Shard) (tx : TxId) (to home : ℕ) (b : Bool) → committed_in s.local.log tx ≡ false → ◌≡◌ {A = Reply} (elim b [ true ↦ deliver_event s (Decide to tx home true) | false ↦ QuietBeforeWorn Down ]) (Does Taken t) → stage_of s.local tx ≡ Some Closed
by_up s t tx to home true n r = by_shard s t tx home (to == s.shard) n r
by_up s t tx to home false n r = absurd cc

taken_at : (splits : List ℕ) (before after : List (List LogRecord)) (h pre : History) (e : Placed) (tx : TxId) (to home stamp : ℕ) → Next splits before after h pre e → (e.1).event ≡ Deliver (Decide to tx home true) stamp → (e.1).outcome ≡ Taken
    → committed_in (state_at before after e.0 pre).local.log tx ≡ false → stage_of (state_at before after e.0 pre).local tx ≡ Some Closed
taken_at splits before after h pre e tx to home stamp w q o n =
    let s = state_at before after e.0 pre in
    let m = subst (λ z. EventMay (log_of after e.0) s z Taken) q (subst (λ z. EventMay (log_of after e.0) s (e.1).event z) o ((w.split).enters).event) in
    by_up s m.0 tx to home s.is_up n m.1

pub commits_find_the_unfallen : CommitsFindTheUnfallen
commits_find_the_unfallen splits before so_far n e later after tx to home stamp l q t u f =
    let h = so_far ++ (n, e) ∷ later in
    let w = next_at splits before after h so_far (n, e) later l.legal refl in
    decision_finds splits before after h so_far (n, e) tx to home stamp (Met before so_far so_far n) w (bindings_front l so_far ((n, e) ∷ later) refl) (elders_front l so_far ((n, e) ∷ later) refl) q
    (stands_front l so_far ((n, e) ∷ later) refl n w.inside) u (taken_at splits before after h so_far (n, e) tx to home stamp w q t u)
    (inl (fell_out l so_far ((n, e) ∷ later) n tx refl w.inside f))

-- ---- what is left

pub committed_never_fell : CommittedNeverFell
committed_never_fell splits before h after choice n tx l i left f =
    both_ways _ (((stands_front l h [] (append-nil h) n i).barred).open_ tx (fell_out l h [] n tx (append-nil h) i f)) (left_committed splits before h after choice n tx i left)

pub members_never_fell_at_home : MembersNeverFellAtHome
members_never_fell_at_home splits before h after choice n home tx l i j r left (e, ts, a, ev, out) f =
    let k = commits_stand_at_home splits before h after choice n tx l i r left in
    let b = k.1 in
    let same = one_home splits before after h tx k.0 home b.0 e b.1 ts l.legal (is_among k.0 b.0 h b.2) (b.3, b.4) (is_among home e h a) (ev, out) in
    committed_never_fell splits before h after choice home tx l j (subst (λ m. is_left splits before h after choice m tx ≡ true) same k.2) f
