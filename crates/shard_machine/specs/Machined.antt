-- What a shard's machine is seen as, and what holds of its parts together.
use Rattle.std.specs.Prelude.{◌≡◌, ℕ, ◌≤◌, Bool, true, length, Option, is_none}
use Rattle.clv_base.specs.State.{Shard}
use Rattle.shard_core.specs.Core.{Core}
use Rattle.shard_core.specs.Whole.{IsAtRest}
use Rattle.shard_machine.specs.Journaled.{Journaled}
use Rattle.machine_laws.specs.Fitting.{IsNamed}

-- the shard with its journal, and the gate of its log where the machine has it
pub record Machined (G : Type 0) : Type 0 where
  pub shard : Shard
  pub gate : Option G

pub record IsRunning (c : Core) (is_up : Bool) (last : ℕ) (j : Journaled) (has_gate : Bool) : Type 0 where
  pub rest : IsAtRest c
  pub named : IsNamed c.shard
  pub index : j.shard ≡ c.shard.shard
  -- stamps rise, so there are never more entries
  pub few : length j.entries ≤ last
  -- the gate is here unless it flies
  pub gate : is_up ≡ true → has_gate ≡ is_none c.shard.flight
