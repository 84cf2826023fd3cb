-- Which logs a shard may leave at the end, by its gate.
use Rattle.std.proofs.Common.{◌≡◌, inl, ⊎_elim, ℕ, ◌≤◌, Bool, true, false, not, List, [], ◌∷◌, ◌++◌, take, sym, ap, refl, ◌∙◌, subst, arith, take-append-drop, Option, Some, None}
use Rattle.std.specs.Prelude.{unwrap_or}
use Rattle.std.proofs.lemmas.List.{take-take}
use Rattle.clv_base.specs.declared.logs.LogRecord.{LogRecord}
use Rattle.clv_base.specs.State.{Shard}
use Rattle.std.proofs.lemmas.Bool.{both_ways, and_parts, and_from}
use Rattle.clv_base.specs.declared.events.Event.{Event}
use Rattle.clv_base.specs.declared.events.Event.TheVariants.{Op, RollTo, Request, Look, Drop, Send, Deliver, Remind, FlushOut, FlushIn, Stop, Restart}
use Rattle.clv_base.specs.declared.events.Entry.{Entry}
use Rattle.clv_base.specs.Restarts.{log_left}
use Rattle.clv_base.specs.Journals.{MayLeave}
use Rattle.history_cases.proofs.Durability.{Counted}
use Rattle.machine_laws.specs.declared.notes.Note.{Note}
use Rattle.machine_laws.specs.declared.notes.Origin.{Origin}
use Rattle.machine_laws.specs.Homes.{taker_after, may_follow, ends_own, is_stop, never_stops, IsLegal}
use Rattle.machine_laws.specs.Gates.{EachLog, durable_records, flying_records, GateFits, GateStands}
use Rattle.machine_laws.proofs.Gating.{legal_counted}

at_least : (s : Shard) (f : Option ℕ) → Counted s → s.flight ≡ f → s.durable ≤ unwrap_or f s.durable
at_least s None c e = omega arith
at_least s (Some n) c e = (c.flying n e).0

pub whole : (s : Shard) → Counted s → durable_records s ++ flying_records s ≡ log_left s true
whole s c =
    let m = unwrap_or s.flight s.durable in
    ap (λ z. z ++ flying_records s) (sym (take-take s.durable m s.local.log (at_least s s.flight c refl))) ∙ take-append-drop s.durable (take m s.local.log)

pub fits_leaves : (o : Origin) (notes : List Note) (s : Shard) (shut : Bool) (faults whose : ℕ) (logs : Option (List LogRecord) → Type 0) → IsLegal o notes s → GateFits s shut faults whose logs → EachLog (MayLeave s) logs
fits_leaves o notes s shut faults whose logs l f log is = at s.is_up refl
  where
    at : (b : Bool) → s.is_up ≡ b → (records : List LogRecord) × (log ≡ Some records) × MayLeave s records
    at true u = (durable_records s, f.durable u log is, (false, inl refl))
    at false d = ⊎_elim (λ (e : log ≡ Some (durable_records s)). (durable_records s, e, (false, inl refl)))
        (λ (e : log ≡ Some (durable_records s ++ flying_records s)). (durable_records s ++ flying_records s, e, (true, inl (whole s (legal_counted o notes s l))))) (f.either d log is)

no_stop : (t : Option ℕ) (w : ℕ) (e : Event) → may_follow t w e ≡ true → not (is_stop e) ≡ true
no_stop t w (Op tx birth nth seen op) h = refl
no_stop t w (RollTo tx nth seen upto) h = refl
no_stop t w (Request tx ts) h = refl
no_stop t w (Look tx) h = refl
no_stop t w (Drop tx) h = refl
no_stop t w Send h = refl
no_stop t w (Deliver m stamp) h = refl
no_stop t w Remind h = refl
no_stop t w FlushOut h = refl
no_stop t w FlushIn h = refl
no_stop t w Stop h = absurd (both_ways false refl h)
no_stop t w Restart h = refl

-- nothing stops the shard
pub none_stops : (t : Option ℕ) (es : List Entry) → ends_own t es ≡ true → never_stops es ≡ true
none_stops t [] h = refl
none_stops t (e ∷ es) h =
    let p = and_parts (may_follow t e.walker e.event) (ends_own (taker_after t e.walker e.event) es) h in
    and_from (not (is_stop e.event)) (never_stops es) (no_stop t e.walker e.event p.0) (none_stops (taker_after t e.walker e.event) es p.1)

-- a gate that is at home in a value of a lock
pub gate_at_home : {G : Type 0} (shut : G → Bool) (faults whose : G → ℕ) (logs : G → Option (List LogRecord) → Type 0) (s : Shard) (held : Option ℕ) (gate : Option G) (g : G) → GateStands shut faults whose logs s held gate → gate ≡ Some g
    → GateFits s (shut g) (faults g) (whose g) (logs g)
gate_at_home shut faults whose logs s held gate g h is = (subst (GateStands shut faults whose logs s held) is h).1
