-- One more of the rising commits goes behind those that are in.
use Rattle.std.proofs.Common.{◌+◌, ◌++◌, ap, drop, ◌∙◌}
use Rattle.std.specs.BTreeMap.{insert_entry}
use Rattle.clv_base.specs.declared.state.Request.{Request}
use Rattle.clv_base.specs.Orders.{Table, tx_cmp}
use Rattle.clv_base.specs.Coordinator.{restored_requests}
use Rattle.two_phase_commit.proofs.HomesRestored.{step_restored, so_far_fit, so_far_named}
use Rattle.two_phase_commit.proofs.coordinator.Coordinator.restored.Goals as goal

pub loop-commit-preserved : goal.loop-commit-preserved
loop-commit-preserved c =
    let commits = c.args.unended.now in let i = c.loop-commit.commit-index in let now = c.loop-commit.requests.entries in
    record {
      all = ap (λ (l : Table Request). l ++ restored_requests (drop (i + 1) commits)) (c.in-Ok-put_request.ensures.ok ∙ ap (insert_entry tx_cmp now _) c.in-Ok.ensures)
          ∙ step_restored i commits c.commit-item.result now c.requires.rising c.loop-commit-test.true c.commit-item.is c.loop-commit.invariant.all;
      index = c.in-Ok-put_request.ensures.index;
      asked = c.in-Ok-put_request.ensures.asked;
    }

pub invariant_of-self : goal.invariant_of-self
invariant_of-self c =
    let now = c.loop-commit.requests.entries in let rest = restored_requests (drop c.loop-commit.commit-index c.args.unended.now) in (
      so_far_fit c.self.inside.shard now rest c.args.unended.now c.loop-commit.invariant.all,
      c.loop-commit.invariant.index,
      c.loop-commit.invariant.asked,
      so_far_named now rest c.args.unended.now c.requires.named c.loop-commit.invariant.all,
    )

pub put_request-requires-clause-index : goal.put_request-requires-clause-index
put_request-requires-clause-index c = c.loop-commit.invariant.index
