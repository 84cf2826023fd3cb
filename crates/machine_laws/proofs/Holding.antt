-- A walker has the disk only of a shard that is down.
use Rattle.std.proofs.Common.{◌≡◌, Bool, true, false, cond, ℕ, List, [], ◌∷◌, map, Option, Some, None, sym, ap, refl, ◌∙◌}
use Rattle.std.proofs.lemmas.Bool.{both_ways}
use Rattle.clv_base.specs.declared.events.Event.{Event}
use Rattle.clv_base.specs.declared.events.Event.TheVariants.{Op, RollTo, Request, Look, Drop, Send, Deliver, Remind, FlushOut, FlushIn, Stop, Restart}
use Rattle.clv_base.specs.declared.events.Outcome.{Outcome}
use Rattle.clv_base.specs.State.{Shard}
use Rattle.clv_base.specs.Journals.{after_entry}
use Rattle.clv_base.specs.Machines.{BecomesBy}
use Rattle.journal_laws.specs.Notes.{Note as Told, made, fetched, MayNotes, after_notes, holder, holder_after, ends_holding}
use Rattle.machine_laws.specs.declared.notes.Note.{Note}
use Rattle.machine_laws.specs.declared.notes.Origin.{Origin}
use Rattle.machine_laws.specs.Notes.{told}
use Rattle.machine_laws.specs.Homes.{start, holder_of, IsLegal}
use Rattle.machine_laws.proofs.Freeing.{nothing_happens}

pub down_restarts : (s : Shard) (e : Event) (o : Outcome) (t : Shard) → s.is_up ≡ false → BecomesBy s e o t → ends_holding e ≡ true
down_restarts s FlushIn o t d b = absurd (both_ways s.is_up d b.0)
down_restarts s Restart o t d b = refl
down_restarts s (Op u b0 nth seen op) o t d b = nothing_happens s (Op u b0 nth seen op) o t d b.1
down_restarts s (RollTo u nth seen upto) o t d b = nothing_happens s (RollTo u nth seen upto) o t d b
down_restarts s (Request u ts) o t d b = nothing_happens s (Request u ts) o t d b
down_restarts s (Look u) o t d b = nothing_happens s (Look u) o t d b
down_restarts s (Drop u) o t d b = nothing_happens s (Drop u) o t d b
down_restarts s Send o t d b = nothing_happens s Send o t d b
down_restarts s (Deliver m stamp) o t d b = nothing_happens s (Deliver m stamp) o t d b
down_restarts s Remind o t d b = nothing_happens s Remind o t d b
down_restarts s FlushOut o t d b = nothing_happens s FlushOut o t d b
down_restarts s Stop o t d b = nothing_happens s Stop o t d b

let_go : (b : Bool) (held : Option ℕ) → (b ≡ false → held ≡ None) → cond b None held ≡ None
let_go true held h = refl
let_go false held h = h refl

held_down : (s : Shard) (held : Option ℕ) (ns : List Told) → MayNotes s held ns → (s.is_up ≡ true → held ≡ None) → (after_notes s ns).is_up ≡ true → holder held ns ≡ None
held_down s held [] m h up = h up
held_down s held (fetched w ∷ ns) m h up = held_down s (Some w) ns m.1 (λ u. absurd (both_ways s.is_up (m.0).0 u)) up
held_down s held (made e log ∷ ns) m h up =
    held_down (after_entry log s e) (holder_after held (made e log)) ns m.1 (λ u. let_go (ends_holding e.event) held (by_up s.is_up refl)) up
  where
    by_up : (b : Bool) → s.is_up ≡ b → ends_holding e.event ≡ false → held ≡ None
    by_up true u q = h u
    by_up false d q = absurd (both_ways (ends_holding e.event) q (down_restarts s e.event e.outcome ((m.0).0).state d ((m.0).0).becomes))

pub up_none : (o : Origin) (notes : List Note) (s : Shard) → IsLegal o notes s → s.is_up ≡ true → holder_of notes ≡ None
up_none o notes s l up = held_down (start o) None (map told notes) l.may (λ u. refl) (ap (λ x. x.is_up) (sym l.is) ∙ up)
