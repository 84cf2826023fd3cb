-- What the restart of a shard that is down tells.
use Rattle.std.proofs.Common.{◌≡◌, refl, sym, ◌∙◌, ap, subst, ℕ, suc, true, List, ◌++◌, ◌∷◌, [], Option, Some, Ok}
use Rattle.clv_base.specs.declared.logs.LogRecord.{LogRecord}
use Rattle.clv_base.specs.declared.events.Event.TheVariants.{Restart}
use Rattle.clv_base.specs.declared.events.Entry.{Entry}
use Rattle.clv_base.specs.declared.events.Outcome.TheVariants.{Up}
use Rattle.clv_base.specs.State.{Shard}
use Rattle.clv_base.specs.Events.{Does, Enters, stamped, with_entry}
use Rattle.clv_base.specs.Restarts.{state_after, revived}
use Rattle.machine_calls.specs.Restored.{revives}
use Rattle.machine_calls.specs.Steps.{entry, Tells}
use Rattle.machine_laws.specs.Frame.{stamped_as}
use Rattle.shard_machine.specs.Stamps.{newest, stamp_by}
use Rattle.shard_machine.proofs.Telling.{has_stamp}

-- where there is a stamp the entry may be made
goes : (s : Shard) (clock w epoch n : ℕ) (log : List LogRecord) → stamp_by (newest s.last clock 0) ≡ Some n → revives s clock w epoch log ≡ Enters (Up epoch) (with_entry (suc (newest s.last clock 0)) w Restart (Up epoch) (revived s epoch log))
goes s clock w epoch n log stamp =
    let m = newest s.last clock 0 in ap (λ b. stamped (suc m) w Restart b (Does (Up epoch) (revived s epoch log))) (has_stamp m n stamp).1

-- the entry was made
pub told_up : (s : Shard) (clock w epoch n : ℕ) (log : List LogRecord) → stamp_by (newest s.last clock 0) ≡ Some n
    → Tells (revives s clock w epoch log) s clock w Restart (Ok (Up epoch)) (with_entry n w Restart (Up epoch) (revived s epoch log)) (Some (entry n w Restart (Up epoch)))
told_up s clock w epoch n log stamp =
    let m = newest s.last clock 0 in let has = has_stamp m n stamp in (
      Up epoch,
      refl,
      record {
        enters = goes s clock w epoch n log stamp ∙ ap (λ k. Enters (Up epoch) (with_entry k w Restart (Up epoch) (revived s epoch log))) (sym has.0);
        entry_is = ap (λ k. entry k w Restart (Up epoch)) has.0;
        journal = refl;
      },
    )

-- ---- by the parts of a machine

-- what a restart tells of a shard that is down, with an outcome
abbrev pub Revived : Shard → ℕ → ℕ → ℕ → List LogRecord → Shard → Type 0
Revived s clock w epoch log t = (made : Option Entry) × Tells (revives s clock w epoch log) s clock w Restart (Ok (Up epoch)) t made

-- the new core is what the restart of the old shard's log leaves, and the journal has grown
pub revived_by : (s d : Shard) (clock w epoch n shard run : ℕ) (log : List LogRecord) (k : List Entry) → d ≡ state_after shard run epoch log 0 [] → shard ≡ s.shard → run ≡ s.run
    → stamp_by (newest s.last clock 0) ≡ Some n → k ≡ s.journal ++ entry n w Restart (Up epoch) ∷ [] → Revived s clock w epoch log (stamped_as true n k d)
revived_by s d clock w epoch n shard run log k is number same stamp grown =
    let t : stamped_as true n k d ≡ with_entry n w Restart (Up epoch) (revived s epoch log) =
    ap (λ (x : Shard). stamped_as true n k x) (is ∙ ap (λ a. state_after a run epoch log 0 []) number ∙ ap (λ a. state_after s.shard a epoch log 0 []) same)
    ∙ ap (λ j. state_after s.shard s.run epoch log n j) grown in (
      Some (entry n w Restart (Up epoch)),
      subst (λ (x : Shard). Tells (revives s clock w epoch log) s clock w Restart (Ok (Up epoch)) x (Some (entry n w Restart (Up epoch)))) (sym t) (told_up s clock w epoch n log stamp),
    )
