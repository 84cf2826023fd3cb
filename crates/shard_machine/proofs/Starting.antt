-- What a restart leaves, as a machine's parts.
use Rattle.std.proofs.Common.{◌≡◌, sym, ◌∙◌, ap, subst, ℕ, ◌<◌, ◌≤◌, true, [], length, is_none}
use Rattle.clv_base.specs.Needs.{Records}
use Rattle.clv_base.specs.State.{Shard}
use Rattle.clv_base.specs.Restarts.{state_after}
use Rattle.shard_recovery.specs.declared.recovering.Recovered.{Recovered}
use Rattle.machine_calls.specs.Restored.{IsRestored}
use Rattle.shard_core.specs.Core.{Core}
use Rattle.shard_core.specs.Whole.{IsAtRest}
use Rattle.shard_machine.specs.Journaled.{Journaled}
use Rattle.machine_laws.specs.Fitting.{IsNamed}
use Rattle.machine_laws.proofs.Laws.{restarts_are_named}
use Rattle.shard_machine.specs.Machined.{IsRunning}

-- the parts of a machine that begins with a gate
pub begun : (c : Core) (j : Journaled) (shard run epoch last : ℕ) (records : Records) (r : Recovered) → shard < 16 → IsRestored shard run epoch records r
    → c.shard ≡ state_after shard run epoch r.buffer.records 0 [] → IsAtRest c → j.shard ≡ shard → length j.entries ≤ last → IsRunning c true last j true
begun c j shard run epoch last records r low restored is rest index few = record {
  rest = rest;
  named = subst (λ (s : Shard). IsNamed s) (sym is) (restarts_are_named shard run epoch r.buffer.records 0 [] low restored.spelled);
  index = index ∙ ap (λ (s : Shard). s.shard) (sym is);
  few = few;
  gate = λ up. ap (λ (s : Shard). is_none s.flight) (sym is);
}
