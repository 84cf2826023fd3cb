-- Along a legal history: each shard has what causes stand on after each front.
use Rattle.std.proofs.Common.{◌≡◌, refl, sym, ap, subst, ◌∙◌, ℕ, ◌<◌, List, [], ◌∷◌, ◌++◌, append_assoc, append-nil}
use Rattle.clv_base.specs.declared.logs.LogRecord.{LogRecord}
use Rattle.clv_base.specs.declared.events.Event.{Event}
use Rattle.clv_base.specs.declared.events.Outcome.{Outcome}
use Rattle.clv_base.specs.Shards.{shard_count}
use Rattle.clv_base.specs.LogRules.{log_of}
use Rattle.clv_base.specs.State.{Shard}
use Rattle.clv_base.specs.Events.{finish, with_durable, put_down, with_entry}
use Rattle.clv_base.specs.Restarts.{run_after, log_after_restart, revived}
use Rattle.clv_base.specs.Journals.{History, event_state, up_to_restart}
use Rattle.protocol_laws.proofs.LogOnlyGrows.GhostsGoUnnoticed.{rests}
use Rattle.history_cases.proofs.Entering.{Makes, by_event, by_flush, by_failure, by_restart, makes}
use Rattle.history_cases.proofs.Merging.{Placed}
use Rattle.history_cases.proofs.Stepping.{Happens, finishes, stops}
use Rattle.history_cases.proofs.Worlds.{state_at}
use Rattle.history_laws.specs.Openings.{LegalFrom}
use Rattle.history_laws.proofs.Entries.WalkedEntryByEntry.{behind_of}
use Rattle.fate_laws.proofs.Origins.FrontsKeepOrigins.{traced_front, brought}
use Rattle.fate_laws.proofs.History.EntryByEntry.{next_at, each_shard}
use Rattle.fate_laws.proofs.AbortedAreCommittedNowhere.{spared_front}
use Rattle.fate_laws.proofs.CausesStand.NoneRefusedAtRest.{unopposed}
use Rattle.fate_laws.proofs.CausesStand.GoneEndedOrDoomed.{within_alike, as_it_is, within_finish}
use Rattle.fate_laws.proofs.CausesStand.EventsEndTheirOwn.{IsCalm, Owes, within_step}
use Rattle.fate_laws.proofs.CausesStand.NextFrontHasCauses.{Ended, Took, Fallen, Caused, AtEntry, enters, leaves, caused_other, caused_restored}
use Rattle.fate_laws.proofs.CausesStand.EntriesEndTheDying.{Before_entry, owes}

-- ---- one entry

calm_end : (run : ℕ) (before after : List (List LogRecord)) (pre : History) (e : Placed) (s t : Shard) → AtEntry run before after pre e s (finish t) → IsCalm (finish t)
calm_end run before after pre e s t w u q g d = unopposed (Took (pre ++ e ∷ []) e.0 u) (finish t) u q (rests t).0 g d (w.rows u q g).votes

happens_at : (run : ℕ) (before after : List (List LogRecord)) (pre : History) (e : Placed) (s t : Shard) {ev : Event} {o : Outcome} → Happens s ev o t → Owes (Ended run (pre ++ e ∷ [])) (Took (pre ++ e ∷ []) e.0) s ev o → Caused run before after pre e.0 s
    → AtEntry run before after pre e s t × IsCalm t
happens_at run before after pre e s _ (finishes {t = t} u g) w k =
    let new = pre ++ e ∷ [] in
    let a = within_step (Ended run new) (Took new e.0) (Fallen before after new e.0) s t g w k.calm (enters run before after pre e s k) in
    let b = within_finish (Ended run new) (Took new e.0) (Fallen before after new e.0) s t a in
    (b, calm_end run before after pre e s t b)
happens_at run before after pre e s _ (stops u) w k =
    let new = pre ++ e ∷ [] in (within_alike (Ended run new) (Took new e.0) (Fallen before after new e.0) s s (put_down s) (as_it_is s (put_down s) refl refl refl) refl refl (enters run before after pre e s k), k.calm)

made_at : (run : ℕ) (before after : List (List LogRecord)) (pre : History) (e : Placed) (log : List LogRecord) (t : Shard) (stamp walker : ℕ) {ev : Event} {o : Outcome} → Makes log (state_at before after e.0 pre) ev o t → state_at before after e.0 (pre ++ e ∷ []) ≡ with_entry stamp walker ev o t
    → Owes (Ended run (pre ++ e ∷ [])) (Took (pre ++ e ∷ []) e.0) (state_at before after e.0 pre) ev o → Caused run before after pre e.0 (state_at before after e.0 pre) → Caused run before after (pre ++ e ∷ []) e.0 (with_entry stamp walker ev o t)
made_at run before after pre e log t stamp walker {ev} {o} (by_event g h) q w k =
    let a = happens_at run before after pre e (state_at before after e.0 pre) t h w k in leaves run before after pre e t stamp walker ev o q k a.1 a.0
made_at run before after pre e log _ stamp walker {ev} {o} (by_flush n u f) q w k =
    let s = state_at before after e.0 pre in
    let new = pre ++ e ∷ [] in
    let d = with_durable n s in
    let a = within_alike (Ended run new) (Took new e.0) (Fallen before after new e.0) s s d (as_it_is s d refl refl refl) refl refl (enters run before after pre e s k) in
    let b = within_finish (Ended run new) (Took new e.0) (Fallen before after new e.0) s d a in
    leaves run before after pre e (finish d) stamp walker ev o q k (calm_end run before after pre e s d b) b
made_at run before after pre e log _ stamp walker {ev} {o} (by_failure n u f) q w k =
    let s = state_at before after e.0 pre in
    let new = pre ++ e ∷ [] in
    leaves run before after pre e (put_down s) stamp walker ev o q k k.calm (within_alike (Ended run new) (Took new e.0) (Fallen before after new e.0) s s (put_down s) (as_it_is s (put_down s) refl refl refl) refl refl (enters run before after pre e s k))
made_at run before after pre e log _ stamp walker {ev} {o} (by_restart epoch kept u g) q w k =
    let s = state_at before after e.0 pre in
    let t = with_entry stamp walker ev o (revived s epoch (up_to_restart s.run epoch log)) in
    caused_restored run before after (pre ++ e ∷ []) e.0 s.shard s.run epoch stamp (up_to_restart s.run epoch log) t.journal

-- ---- the whole of it

pub before_entry : {splits : List ℕ} {before after : List (List LogRecord)} {h : History} → LegalFrom splits before h after → (pre : History) (e : Placed) (post : History) → pre ++ e ∷ post ≡ h → Before_entry splits before after h pre e
before_entry {splits} {before} {after} {h} l pre e post q =
    let x = next_at splits before after h pre e post l.legal q in
    record {
      legal = l.legal;
      behind = behind_of splits before after h pre e post l.legal q;
      spared = spared_front l pre (e ∷ post) q;
      traced = (traced_front l pre (e ∷ post) q).states e.0 x.inside;
    }

AllCaused : List ℕ → List (List LogRecord) → List (List LogRecord) → History → Type 0
AllCaused splits before after pre = (n : ℕ) → n < shard_count splits → Caused (run_after before) before after pre n (state_at before after n pre)

module _ {splits : List ℕ} {before after : List (List LogRecord)} {h : History} (l : LegalFrom splits before h after) where
  caused_next : (pre : History) (e : Placed) (post : History) → pre ++ e ∷ post ≡ h → AllCaused splits before after pre → AllCaused splits before after (pre ++ e ∷ [])
  unfolding AllCaused
  caused_next pre e post q k n i =
      let run = run_after before in
      let s = state_at before after e.0 pre in
      let x = next_at splits before after h pre e post l.legal q in
      let w = before_entry l pre e post q in
      let b = brought splits before after h pre e w.behind (traced_front l pre (e ∷ post) q) (e.1).event x.sent in
      let d = owes splits before after h pre e (e.1).event (e.1).outcome w refl refl b in
      let g = made_at run before after pre e (log_of after e.0) (event_state (log_of after e.0) s (e.1).event (e.1).outcome) (e.1).stamp (e.1).walker (makes (log_of after e.0) s (e.1).event (e.1).outcome ((x.split).enters).event) (x.split).next d (k e.0 x.inside) in
      each_shard (λ j z. Caused run before after (pre ++ e ∷ []) j z) before after e pre (subst (Caused run before after (pre ++ e ∷ []) e.0) (sym (x.split).next) g) n (caused_other run before after pre e n (state_at before after n pre) (k n i))

  along : (done pre post : History) → (done ++ pre) ++ post ≡ h → AllCaused splits before after done → AllCaused splits before after (done ++ pre)
  along done [] post q k = subst (AllCaused splits before after) (sym (append-nil done)) k
  along done (e ∷ pre) post q k =
      let a : done ++ e ∷ (pre ++ post) ≡ h = sym (append_assoc done (e ∷ pre) post) ∙ q in
      subst (AllCaused splits before after) (append_assoc done (e ∷ []) pre)
      (along (done ++ e ∷ []) pre post (ap (λ z. z ++ post) (append_assoc done (e ∷ []) pre) ∙ q) (caused_next done e (pre ++ post) a k))

start_caused : (splits : List ℕ) (before after : List (List LogRecord)) → AllCaused splits before after []
unfolding AllCaused
start_caused splits before after n i = caused_restored (run_after before) before after [] n n (run_after before) 0 0 (log_after_restart n (log_of before n) (run_after before) 0) []

pub caused_front : {splits : List ℕ} {before after : List (List LogRecord)} {h : History} → LegalFrom splits before h after → (pre post : History) (n : ℕ) → pre ++ post ≡ h → n < shard_count splits → Caused (run_after before) before after pre n (state_at before after n pre)
unfolding AllCaused
caused_front {splits} {before} {after} l pre post n q i = along l [] pre post q (start_caused splits before after) n i
