-- A restart, by what the machine tells of it.
use Rattle.std.proofs.Common.{◌≡◌, refl, sym, ap, subst, ◌∙◌, ℕ, ◌<◌, true, false, Bool, List, length, arith, Option, Some, None, Ok}
use Rattle.std.specs.Prelude.{◌^◌}
use Rattle.std.specs.List.{list_all}
use Rattle.std.proofs.lemmas.Bool.{lt-ltb}
use Rattle.std.proofs.lemmas.List.{take_all}
use Rattle.clv_base.specs.declared.logs.LogRecord.{LogRecord}
use Rattle.clv_base.specs.declared.events.Event.TheVariants.{Restart}
use Rattle.clv_base.specs.declared.events.Outcome.{Outcome}
use Rattle.clv_base.specs.declared.events.Outcome.TheVariants.{Up}
use Rattle.clv_base.specs.declared.events.Entry.{Entry}
use Rattle.clv_base.specs.FileRules.{has_spelling}
use Rattle.clv_base.specs.State.{Shard}
use Rattle.clv_base.specs.Events.{Does, Quiet, Enters, next_stamp, stamped, with_entry}
use Rattle.clv_base.specs.Restarts.{log_left, log_after_restart, next_epoch, revived, revive, revive_down, Restarts, untouched, misfit}
use Rattle.interleaving_core.specs.Listed.{Listed}
use Rattle.machine_calls.specs.Steps.{Tells}
use Rattle.machine_calls.specs.Restored.{revives}
use Rattle.interleaving_core.specs.Seated.{IsHome}
use Rattle.crash_laws.proofs.Laws.{misfit_is_exact, same_after}
use Rattle.law_base.proofs.Options.{ok_inj}

pub no_misfit : (s : Shard) (found : List LogRecord) (kept : Bool) (epoch : ℕ) → found ≡ log_left s kept → epoch ≡ next_epoch s found → misfit s (log_after_restart s.shard found s.run epoch) epoch ≡ None
no_misfit s found kept epoch e n =
    (misfit_is_exact s (log_after_restart s.shard found s.run epoch) epoch).1
    (kept, subst (λ l. Restarts s l epoch (log_after_restart s.shard found s.run epoch)) e (found, untouched, n, refl))

-- to the log that it makes of the one found, it is the definitions' restart
pub revives_is : (s : Shard) (clock w : ℕ) (kept : Bool) (found : List LogRecord) (epoch : ℕ) (log : List LogRecord) → s.is_up ≡ false → found ≡ log_left s kept → epoch ≡ next_epoch s found → log ≡ log_after_restart s.shard found s.run epoch
    → revives s clock w epoch log ≡ revive s clock w kept
revives_is s clock w kept found epoch log down f e l =
    ap (revives s clock w epoch) l ∙ ap (λ n. revives s clock w n (log_after_restart s.shard found s.run n)) e
    ∙ ap (λ x. revives s clock w (next_epoch s x) (log_after_restart s.shard x s.run (next_epoch s x))) f
    ∙ sym (ap (λ b. elim b [ true ↦ Quiet Rattle.clv_base.specs.declared.events.Outcome.TheVariants.Nothing | false ↦ revive_down s clock w (log_left s kept) ]) down)

roomy : (s : Shard) (clock w epoch : ℕ) (log : List LogRecord) → next_stamp s clock Restart < 2 ^ 48
    → revives s clock w epoch log ≡ Enters (Up epoch) (with_entry (next_stamp s clock Restart) w Restart (Up epoch) (revived s epoch log))
roomy s clock w epoch log l = ap (λ b. stamped (next_stamp s clock Restart) w Restart b (Does (Up epoch) (revived s epoch log))) (lt-ltb (next_stamp s clock Restart) (2 ^ 48) l)

no_quiet : {X : Type 0} {o p : Outcome} {t : Shard} → Enters o t ≡ Quiet p → X
no_quiet e = absurd cc

-- it made its entry
pub revived_enters : (s t : Shard) (clock w epoch : ℕ) (log : List LogRecord) (o : Outcome) (x : Option Entry) → next_stamp s clock Restart < 2 ^ 48 → Tells (revives s clock w epoch log) s clock w Restart (Ok o) t x
    → revives s clock w epoch log ≡ Enters o t
revived_enters s t clock w epoch log o None l h = no_quiet (sym (roomy s clock w epoch log l) ∙ h.0)
revived_enters s t clock w epoch log o (Some x) l h = h.2.enters ∙ ap (λ p. Enters p t) (sym (ok_inj _ _ h.1))

pub revived_is : (s t : Shard) (clock w epoch : ℕ) (log : List LogRecord) (o : Outcome) → next_stamp s clock Restart < 2 ^ 48 → revives s clock w epoch log ≡ Enters o t
    → t ≡ with_entry (next_stamp s clock Restart) w Restart (Up epoch) (revived s epoch log)
revived_is s t clock w epoch log o l h = sym (same_after (sym (roomy s clock w epoch log l) ∙ h))

-- the gate has the log that the shard has
pub seated_revived : (s t : Shard) (clock w epoch : ℕ) (log : List LogRecord) (o : Outcome) (g : Listed) → next_stamp s clock Restart < 2 ^ 48 → revives s clock w epoch log ≡ Enters o t → Some g.records ≡ Some log → g.is_shut ≡ false
    → list_all has_spelling log ≡ true → IsHome t g
seated_revived s t clock w epoch log o g l h same unshut spelled =
    let is = revived_is s t clock w epoch log o l h in
    let records = same_records same in
    record {
      none = ap (λ u. u.flight) is;
      log = record { is = records ∙ sym (ap (λ u. log_left u false) is ∙ take_all (length log) log (omega arith)); is_open = unshut; spelled = ap (list_all has_spelling) records ∙ spelled };
    }
  where
    same_records : {xs ys : List LogRecord} → Some xs ≡ Some ys → xs ≡ ys
    same_records e = cc
