-- What becomes of an event on a shard, by what the protocol's event comes to.
use Rattle.std.specs.Prelude.{◌≡◌, Bool, true, false}
use Rattle.clv_base.specs.declared.events.Outcome.{Outcome}
use Rattle.clv_base.specs.State.{Shard}
use Rattle.clv_base.specs.Events.{Reply, QuietBeforeWorn, QuietAfterWorn, Does}
use Rattle.shard_machine.specs.declared.happening.Happened.{Happened}
use Rattle.shard_machine.specs.declared.happening.Happened.TheVariants.{Quiet, Done}

-- whether it comes to a quiet answer, and to which
abbrev pub IsQuiet : Reply → Outcome → Type 0
IsQuiet (QuietBeforeWorn o) p = p ≡ o
IsQuiet (QuietAfterWorn o) p = p ≡ o
IsQuiet (Does o t) p = ⊥

-- it comes to this quiet answer, and all stays; or to this outcome, and t is the state after it
abbrev pub Happens : Reply → Shard → Happened → Shard → Type 0
Happens reply s (Quiet o) t = IsQuiet reply o × (t ≡ s)
Happens reply s (Done o copy) t = (reply ≡ Does o t) × (copy ≡ o)

-- whether it comes to a quiet answer that goes before a worn clock
abbrev pub comes_early : Reply → Bool
comes_early (QuietBeforeWorn o) = true
comes_early (QuietAfterWorn o) = false
comes_early (Does o t) = false
