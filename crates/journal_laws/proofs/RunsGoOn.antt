-- A shard's run by what its restarts left is one by each log that it may leave at the end.
pub mod LogsUpToRestart
use Rattle.std.proofs.Common.{◌≡◌, ⊎_elim, refl, sym, ap, subst, ◌∙◌, false, List, [], ◌∷◌, length, arith}
use Rattle.std.proofs.lemmas.List.{take_all}
use Rattle.clv_base.specs.declared.logs.LogRecord.{LogRecord}
use Rattle.clv_base.specs.declared.events.Event.{Event}
use Rattle.clv_base.specs.declared.events.Event.TheVariants.{Op, FlushIn, Restart}
use Rattle.clv_base.specs.declared.events.Outcome.{Outcome}
use Rattle.clv_base.specs.declared.events.Entry.{Entry}
use Rattle.clv_base.specs.State.{Shard}
use Rattle.clv_base.specs.Events.{Does, happen, with_entry}
use Rattle.clv_base.specs.Restarts.{opened, log_left, revived, Restarts, RestartLeads}
use Rattle.clv_base.specs.Journals.{up_to_restart, reply_state, event_state, after_entry, after_entries, EventMay, MayEnter, MayRun, MayLeave}
use Rattle.protocol_laws.specs.Growth.{IsPrefixOf}
use Rattle.protocol_laws.proofs.LogOnlyGrows.DueGrowsLogs.{same, chain}
use Rattle.history_cases.proofs.Durability.{Counted, Fronts, opened_counted, left_front, failed_front, fronts_entry}
use Rattle.clv_base.specs.Machines.{BecomesBy, Makes, Runs, RunsGoOn, RunsFit}
use Rattle.journal_laws.proofs.RunsGoOn.LogsUpToRestart.{up_to_after}

pub runs_go_on : RunsGoOn
runs_go_on s t u [] e r m = (u, subst (λ x. Makes x e u) (sym r) m, refl)
runs_go_on s t u (f ∷ es) e r m = (r.0, r.1, runs_go_on r.0 t u es e r.2 m)

-- ---- one entry by a log that begins with what is durable after it

pub record Fits (log : List LogRecord) (s : Shard) (e : Event) (o : Outcome) (t : Shard) : Type 0 where
  pub may : EventMay log s e o
  pub state : event_state log s e o ≡ t

of_event : (log : List LogRecord) (s t : Shard) (e : Event) (o : Outcome) → happen s e ≡ Does o t → reply_state s (happen s e) ≡ t
of_event log s t e o h = ap (reply_state s) h

fits_restart : (log : List LogRecord) (s : Shard) (o : Outcome) (t : Shard) → s.is_up ≡ false → RestartLeads s o t → IsPrefixOf (log_left t false) log → Fits log s Restart o t
fits_restart log s o t u (kept, epoch, after, r, e, f) p =
    subst (λ x. Fits log s Restart x t) (sym e)
    (record { may = (u, (kept, subst (Restarts s (log_left s kept) epoch) (sym same_log) r)); state = ap (revived s epoch) same_log ∙ sym f })
  where
    begins : IsPrefixOf after log
    begins = subst (λ z. IsPrefixOf z log) (ap (λ z. log_left z false) f ∙ take_all (length after) after (omega arith)) p

    same_log : up_to_restart s.run epoch log ≡ after
    same_log = ap (up_to_restart s.run epoch) (sym begins.1) ∙ up_to_after s (log_left s kept) epoch after begins.0 r

fits : (log : List LogRecord) (s : Shard) (e : Event) (o : Outcome) (t : Shard) → BecomesBy s e o t → IsPrefixOf (log_left t false) log → Fits log s e o t
fits log s FlushIn o t b p = record { may = (b.0, b.1); state = sym b.2 }
fits log s Restart o t b p = fits_restart log s o t b.0 b.1 p
fits log s (Op tx birth nth seen op) o t b p = record { may = (b.0, (t, b.1)); state = of_event log s t (Op tx birth nth seen op) o b.1 }
fits log s e o t b p = record { may = (t, b); state = of_event log s t e o b }

pub record Enters (log : List LogRecord) (s : Shard) (e : Entry) (t : Shard) : Type 0 where
  pub may : MayEnter log s e
  pub state : after_entry log s e ≡ t

pub enters : (log : List LogRecord) (s : Shard) (e : Entry) (t : Shard) → Makes s e t → IsPrefixOf (log_left t false) log → Enters log s e t
enters log s e t m p =
    let f = fits log s e.event e.outcome m.state m.becomes (subst (λ z. IsPrefixOf (log_left z false) log) m.entered p) in
    record {
      may = record { event = f.may; rises = m.rises; above_message = m.above_message; bounded = m.bounded };
      state = ap (with_entry e.stamp e.walker e.event e.outcome) f.state ∙ sym m.entered;
    }

-- ---- what is durable stays, and what flies is in the log

pub fronts_made : (s : Shard) (e : Entry) (t : Shard) → Counted s → Makes s e t → Fronts s t
fronts_made s e t c m =
    let f = enters (log_left t false) s e t m (same (log_left t false)) in
    subst (Fronts s) f.state (fronts_entry (log_left t false) s e c f.may)

pub fronts_run : (s : Shard) (es : List Entry) (t : Shard) → Counted s → Runs s es t → Fronts s t
fronts_run s [] t c r = subst (Fronts s) r (record { shard = refl; run = refl; counted = c; front = same (log_left s false) })
fronts_run s (e ∷ es) t c (u, m, r) =
    let p = fronts_made s e u c m in
    let q = fronts_run u es t p.counted r in
    record { shard = q.shard ∙ p.shard; run = q.run ∙ p.run; counted = q.counted; front = chain _ _ _ p.front q.front }

-- ---- the whole run

pub run_fits : (log : List LogRecord) (s : Shard) (es : List Entry) (t : Shard) → Counted s → Runs s es t → IsPrefixOf (log_left t false) log → MayRun log s es × (after_entries log s es ≡ t)
run_fits log s [] t c r p = (tt, r)
run_fits log s (e ∷ es) t c (u, m, r) p =
    let f = fronts_made s e u c m in
    let g = fronts_run u es t f.counted r in
    let x = enters log s e u m (chain _ _ _ g.front p) in
    let q = run_fits log u es t f.counted r p in
    ((x.may, subst (λ z. MayRun log z es) (sym x.state) q.0), ap (λ z. after_entries log z es) x.state ∙ q.1)

pub leaves_front : (t : Shard) (log : List LogRecord) → Counted t → MayLeave t log → IsPrefixOf (log_left t false) log
leaves_front t log c (kept, l) =
    ⊎_elim (λ e. subst (IsPrefixOf (log_left t false)) (sym e) (left_front t kept c))
    (λ f. chain _ _ _ (left_front t kept c) (failed_front t (log_left t kept) log f.1)) l

pub runs_fit : RunsFit
runs_fit n run found es t log r l =
    let c = opened_counted n run found in run_fits log (opened n run found) es t c r (leaves_front t log (fronts_run (opened n run found) es t c r).counted l)
