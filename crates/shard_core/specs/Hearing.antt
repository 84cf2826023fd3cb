-- What a message that comes leaves of the shard, by what the protocol's event comes to.
use Rattle.std.specs.Prelude.{◌≡◌, Bool, true, false}
use Rattle.clv_base.specs.declared.events.Outcome.TheVariants.{Taken, Stale}
use Rattle.clv_base.specs.State.{Shard}
use Rattle.clv_base.specs.Events.{Reply, Does, QuietBeforeWorn}

-- it is taken, and the shard is as the event leaves it; or it is stale, and all stays
abbrev pub Hears : Reply → Shard → Bool → Shard → Type 0
Hears reply s true t = reply ≡ Does Taken t
Hears reply s false t = (reply ≡ QuietBeforeWorn Stale) × (t ≡ s)
