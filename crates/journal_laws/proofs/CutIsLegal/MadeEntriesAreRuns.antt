-- Entries that a shard may make by the log at the end are a run of it; and logs at the end that begin with what is durable agree at its restarts.
use Rattle.std.proofs.Common.{◌≡◌, refl, sym, ap, subst, ◌∙◌, ℕ, ◌<◌, false, List, [], ◌∷◌}
use Rattle.std.specs.List.{AllByRecursion}
use Rattle.clv_base.specs.declared.names.TxId.{TxId}
use Rattle.clv_base.specs.Orders.{tx_union}
use Rattle.clv_base.specs.declared.logs.LogRecord.{LogRecord}
use Rattle.clv_base.specs.declared.events.Event.{Event}
use Rattle.clv_base.specs.declared.events.Event.TheVariants.{Op, FlushIn, Restart}
use Rattle.clv_base.specs.declared.events.Outcome.{Outcome}
use Rattle.clv_base.specs.declared.events.Outcome.TheVariants.{Up}
use Rattle.clv_base.specs.declared.events.Entry.{Entry}
use Rattle.clv_base.specs.State.{Shard}
use Rattle.clv_base.specs.Events.{Does, happen, message_stamp, with_entry}
use Rattle.clv_base.specs.Restarts.{log_left, RestartLeads}
use Rattle.clv_base.specs.Journals.{up_to_restart, reply_state, restart_state, event_state, after_entry, after_entries, got_predecessors, predecessors_in, RestartMay, EventMay, MayEnter, MayRun}
use Rattle.protocol_laws.specs.Growth.{IsPrefixOf}
use Rattle.protocol_laws.proofs.LogOnlyGrows.DueGrowsLogs.{chain}
use Rattle.history_laws.specs.Continuing.{SameAtRestart, SameAtRestarts}
use Rattle.history_cases.proofs.Durability.{Counted}
use Rattle.clv_base.specs.Machines.{BecomesBy, Makes, Runs}
use Rattle.journal_laws.proofs.RunsGoOn.{enters, fronts_made, fronts_run}

-- ---- a run by what its restarts left

by_happen : (s t : Shard) (e : Event) (o : Outcome) → happen s e ≡ Does o t → happen s e ≡ Does o (reply_state s (happen s e))
by_happen s t e o h = h ∙ ap (λ r. Does o (reply_state s r)) (sym h)

by_restart : (log : List LogRecord) (s : Shard) (o : Outcome) → RestartMay log s o → RestartLeads s o (restart_state log s o)
by_restart log s (Up epoch) m = (m.0, epoch, up_to_restart s.run epoch log, m.1, refl, refl)
by_restart log s _ m = absurd m

becomes : (log : List LogRecord) (s : Shard) (e : Event) (o : Outcome) → EventMay log s e o → BecomesBy s e o (event_state log s e o)
becomes log s FlushIn o m = (m.0, m.1, refl)
becomes log s Restart o m = (m.0, by_restart log s o m.1)
becomes log s (Op tx birth nth seen op) o m = (m.0, by_happen s (m.1).0 (Op tx birth nth seen op) o (m.1).1)
becomes log s e o m = by_happen s m.0 e o m.1

made : (log : List LogRecord) (s : Shard) (e : Entry) → MayEnter log s e → Makes s e (after_entry log s e)
made log s e m =
    record {
      state = event_state log s e.event e.outcome;
      becomes = becomes log s e.event e.outcome m.event;
      entered = refl;
      rises = m.rises;
      above_message = m.above_message;
      bounded = m.bounded;
    }

pub run_made : (log : List LogRecord) (s : Shard) (es : List Entry) → MayRun log s es → Runs s es (after_entries log s es)
run_made log s [] m = refl
run_made log s (e ∷ es) m = (after_entry log s e, made log s e m.0, run_made log (after_entry log s e) es m.1)

pub run_above : (log : List LogRecord) (s : Shard) (es : List Entry) → MayRun log s es → AllByRecursion (λ e. message_stamp e.event < e.stamp) es
run_above log s [] m = tt
run_above log s (e ∷ es) m = ((m.0).above_message, run_above log (after_entry log s e) es m.1)

-- ---- two logs at the end

restart_same : (log log' : List LogRecord) (s : Shard) (stamp walker : ℕ) (o : Outcome)
    → with_entry stamp walker Restart o (event_state log s Restart o) ≡ with_entry stamp walker Restart o (event_state log' s Restart o) → SameAtRestart s.run log log' Restart o
restart_same log log' s stamp walker (Up epoch) h = ap (λ z. z.local.log) h
restart_same log log' s stamp walker _ h = tt

entry_same : (log log' : List LogRecord) (s : Shard) (stamp walker : ℕ) (e : Event) (o : Outcome)
    → with_entry stamp walker e o (event_state log s e o) ≡ with_entry stamp walker e o (event_state log' s e o) → SameAtRestart s.run log log' e o
entry_same log log' s stamp walker Restart o h = restart_same log log' s stamp walker o h
entry_same log log' s stamp walker _ o h = tt

pub runs_same : (log log' : List LogRecord) (s : Shard) (es : List Entry) (t : Shard) → Counted s → Runs s es t → IsPrefixOf (log_left t false) log → IsPrefixOf (log_left t false) log'
    → SameAtRestarts s.run log log' es
runs_same log log' s [] t c r p q = tt
runs_same log log' s (e ∷ es) t c (u, m, r) p q =
    let f = fronts_made s e u c m in
    let g = fronts_run u es t f.counted r in
    let x = enters log s e u m (chain _ _ _ g.front p) in
    let y = enters log' s e u m (chain _ _ _ g.front q) in (
      entry_same log log' s e.stamp e.walker e.event e.outcome (x.state ∙ sym y.state),
      subst (λ n. SameAtRestarts n log log' es) f.run (runs_same log log' u es t f.counted r p q),
    )

pub same_got : (log log' : List LogRecord) (s : Shard) (es : List Entry) (t : Shard) (tx : TxId) → Counted s → Runs s es t → IsPrefixOf (log_left t false) log → IsPrefixOf (log_left t false) log'
    → predecessors_in log s tx es ≡ predecessors_in log' s tx es
same_got log log' s [] t tx c r p q = refl
same_got log log' s (e ∷ es) t tx c (u, m, r) p q =
    let f = fronts_made s e u c m in
    let g = fronts_run u es t f.counted r in
    let x = enters log s e u m (chain _ _ _ g.front p) in
    let y = enters log' s e u m (chain _ _ _ g.front q) in
    ap (λ z. tx_union (got_predecessors s tx e.event e.outcome) (predecessors_in log z tx es)) x.state
    ∙ ap (tx_union (got_predecessors s tx e.event e.outcome)) (same_got log log' u es t tx f.counted r p q)
    ∙ sym (ap (λ z. tx_union (got_predecessors s tx e.event e.outcome) (predecessors_in log' z tx es)) y.state)
