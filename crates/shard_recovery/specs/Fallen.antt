-- The shard that a log is compared for.
use Rattle.std.specs.Prelude.{◌≡◌}
use Rattle.clv_base.specs.State.{Shard}
use Rattle.clv_base.specs.Events.{taken as taken_of}
use Rattle.shard_recovery.specs.declared.misfits.Fallen.{Fallen}

-- it is the one that went down so
pub record IsOf (f : Fallen) (s : Shard) : Type 0 where
  pub shard : s.shard ≡ f.shard
  pub run : s.run ≡ f.run
  pub epoch : (s.local).epoch ≡ f.epoch
  pub log : (s.local).log ≡ f.log.now
  pub durable : s.durable ≡ f.durable
  pub taken : taken_of s ≡ f.taken
