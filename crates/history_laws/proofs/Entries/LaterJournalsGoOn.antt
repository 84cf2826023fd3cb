-- A journal that goes on from another's.
use Rattle.std.proofs.Common.{◌≡◌, refl, sym, ap, subst, ◌∙◌, ℕ, false, Bool, List, [], ◌∷◌, ◌++◌}
use Rattle.clv_base.specs.declared.logs.LogRecord.{LogRecord}
use Rattle.clv_base.specs.declared.events.Event.{Event}
use Rattle.clv_base.specs.declared.events.Event.TheVariants.{Restart}
use Rattle.clv_base.specs.declared.events.Outcome.{Outcome}
use Rattle.clv_base.specs.declared.events.Outcome.TheVariants.{Up}
use Rattle.clv_base.specs.declared.events.Entry.{Entry}
use Rattle.clv_base.specs.State.{Shard}
use Rattle.clv_base.specs.Events.{with_entry}
use Rattle.clv_base.specs.Restarts.{log_left, revived}
use Rattle.clv_base.specs.Journals.{event_state, after_entry, after_entries, MayRun}
use Rattle.protocol_laws.specs.Growth.{IsPrefixOf}
use Rattle.protocol_laws.proofs.LogOnlyGrows.DueGrowsLogs.{chain}
use Rattle.history_laws.specs.Continuing.{SameAtRestart, SameAtRestarts}
use Rattle.history_cases.proofs.Entering.{after_append, run_second}
use Rattle.history_cases.proofs.Durability.{Counted, fronts_entry, fronts_entries, left_front}

same_restart : (log log' : List LogRecord) (s : Shard) (o : Outcome) → SameAtRestart s.run log log' Restart o → event_state log s Restart o ≡ event_state log' s Restart o
same_restart log log' s (Up epoch) h = ap (revived s epoch) h
same_restart log log' s _ h = refl

same_event : (log log' : List LogRecord) (s : Shard) (e : Event) (o : Outcome) → SameAtRestart s.run log log' e o → event_state log s e o ≡ event_state log' s e o
same_event log log' s Restart o h = same_restart log log' s o h
same_event log log' s _ o h = refl

same_entry : (log log' : List LogRecord) (s : Shard) (e : Entry) → SameAtRestart s.run log log' e.event e.outcome → after_entry log s e ≡ after_entry log' s e
same_entry log log' s e h = ap (λ t. with_entry e.stamp e.walker e.event e.outcome t) (same_event log log' s e.event e.outcome h)

pub same_entries : (log log' : List LogRecord) (run : ℕ) (s : Shard) (es : List Entry) → s.run ≡ run → Counted s → MayRun log s es → SameAtRestarts run log log' es
    → after_entries log s es ≡ after_entries log' s es
same_entries log log' run s [] r c m h = refl
same_entries log log' run s (e ∷ es) r c m h =
    let p = fronts_entry log s e c m.0 in
    same_entries log log' run (after_entry log s e) es (p.run ∙ r) p.counted m.1 h.1
    ∙ ap (λ t. after_entries log' t es) (same_entry log log' s e (subst (λ n. SameAtRestart n log log' e.event e.outcome) (sym r) h.0))

-- what is durable after a journal is the front of what a crash may leave after one that begins with it
pub later_front : (log log' : List LogRecord) (s : Shard) (es es' : List Entry) (kept : Bool) → Counted s → MayRun log s es → MayRun log' s es' → SameAtRestarts s.run log log' es → IsPrefixOf es es'
    → IsPrefixOf (log_left (after_entries log s es) false) (log_left (after_entries log' s es') kept)
later_front log log' s es es' kept c m m' r (more_of, e) =
    let p = fronts_entries log s es c m in
    let same_state = same_entries log log' s.run s es refl c m r in
    let m2 : MayRun log' s (es ++ more_of) = subst (MayRun log' s) (sym e) m' in
    let q = fronts_entries log' (after_entries log' s es) more_of (subst Counted same_state p.counted) (run_second log' s es more_of m2) in
    let g = chain _ _ _ q.front (left_front (after_entries log' (after_entries log' s es) more_of) kept q.counted) in
    let g2 = subst (λ z. IsPrefixOf (log_left z false) (log_left (after_entries log' (after_entries log' s es) more_of) kept)) (sym same_state) g in
    subst (λ z. IsPrefixOf (log_left (after_entries log s es) false) (log_left z kept)) (sym (after_append log' s es more_of) ∙ ap (after_entries log' s) e) g2
