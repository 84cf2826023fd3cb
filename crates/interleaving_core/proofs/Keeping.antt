-- What an event that isn't of a flush or a restart leaves of a seat.
use Rattle.std.proofs.Common.{◌≡◌, sym, ap, ◌∙◌, ℕ, true, false, List, ◌++◌, Option, Some, None}
use Rattle.std.proofs.lemmas.Bool.{both_ways}
use Rattle.clv_base.specs.declared.events.Event.{Event}
use Rattle.clv_base.specs.declared.events.Event.TheVariants.{FlushOut}
use Rattle.clv_base.specs.State.{Shard}
use Rattle.clv_base.specs.Restarts.{log_left}
use Rattle.interleaving_core.specs.Listed.{Listed}
use Rattle.machine_calls.specs.Events.{is_stepped}
use Rattle.crash_laws.specs.Fronts.{FrontsFit}
use Rattle.crash_laws.proofs.Laws.{Keeps, Stepped, left_same}
use Rattle.interleaving_core.specs.declared.seat.Air.{Air}
use Rattle.interleaving_core.specs.declared.seat.Air.TheVariants.{Home, Away, Lost}
use Rattle.interleaving_core.specs.Seated.{HasLog, IsInFlight, IsSeated}

pub no_flush : (e : Event) → is_stepped e ≡ true → e ≡ FlushOut → ⊥
no_flush e h q = both_ways (is_stepped e) (ap is_stepped q) h

log_stays : (s t : Shard) (g : Listed) → FrontsFit s → Keeps s t → HasLog g (log_left s false) → HasLog g (log_left t false)
log_stays s t g f k h = record { is = h.is ∙ sym (left_same s t false f k); is_open = h.is_open; spelled = h.spelled }

batch_stays : (s t : Shard) (payload : List ℕ) → FrontsFit s → Keeps s t → IsInFlight s payload → IsInFlight t payload
batch_stays s t payload f k h =
    record { batch = h.batch; records = h.records; spelled = h.spelled; kept = left_same s t true f k ∙ h.kept ∙ ap (λ l. l ++ h.records) (sym (left_same s t false f k)) }

pub seated_still : (s t : Shard) (gate : Option Listed) (air : Air) → FrontsFit s → Stepped s t → IsSeated s gate air → IsSeated t gate air
seated_still s t (Some g) Home f k h = record { none = k.keeps.flight ∙ h.none; log = log_stays s t g f k.keeps h.log }
seated_still s t None (Away x) f k h =
    record { flies = k.keeps.flight ∙ h.flies; log = log_stays s t x.gate f k.keeps h.log; as_taken = h.as_taken; batch = batch_stays s t x.payload.items f k.keeps h.batch }
seated_still s t (Some g) (Lost payload) f k h = absurd (both_ways s.is_up h.down k.up)
seated_still s t None Home f k h = absurd h
seated_still s t (Some g) (Away x) f k h = absurd h
seated_still s t None (Lost payload) f k h = absurd h
