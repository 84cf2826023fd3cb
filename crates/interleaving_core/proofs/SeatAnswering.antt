-- What a call of a machine told, as a move.
use Rattle.std.proofs.Common.{◌≡◌, sym, ap, ◌∙◌, ℕ, length, Option, Some, None, Ok}
use Rattle.clv_base.specs.declared.events.Event.{Event}
use Rattle.clv_base.specs.declared.events.Outcome.{Outcome}
use Rattle.clv_base.specs.declared.events.Entry.{Entry}
use Rattle.clv_base.specs.State.{Shard}
use Rattle.clv_base.specs.Events.{CallAnswer, Enters}
use Rattle.machine_calls.specs.Steps.{Tells}
use Rattle.law_base.proofs.Options.{ok_inj}

-- an entry was made
pub made_some : (a : CallAnswer) (s : Shard) (clock w : ℕ) (e : Event) (o : Outcome) (t : Shard) (x : Option Entry) → Tells a s clock w e (Ok o) t x → (length t.journal ≡ length s.journal → ⊥) → a ≡ Enters o t
made_some a s clock w e o t None h d = absurd (d (ap (λ u. length u.journal) h.1))
made_some a s clock w e o t (Some x) h d = h.2.enters ∙ ap (λ p. Enters p t) (sym (ok_inj _ _ h.1))
