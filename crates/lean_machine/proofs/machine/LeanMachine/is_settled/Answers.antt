-- What is forgotten is settled.
use Rattle.std.proofs.Common.{ap, ◌∙◌}
use Rattle.machine_calls.specs.Settled.{is_settled}
use Rattle.lean_machine.specs.Lean.{Leaned}
use Rattle.lean_machine.proofs.Settled.{settled_whole}
use Rattle.lean_machine.proofs.machine.LeanMachine.is_settled.Goals as goal

pub returns : goal.returns
returns g c =
    let i = c.self.inside in
    c.is_settled.ensures ∙ settled_whole i.forgotten.items (g.M.Machine.shard i.machine) c.self.invariant ∙ ap (λ (v : Leaned _). is_settled v.shard) c.self.view_is
