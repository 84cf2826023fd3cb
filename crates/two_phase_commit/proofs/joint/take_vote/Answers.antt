-- A shard that is one of the other parts is as low as they are.
use Rattle.std.proofs.Common.{ℕ, List, sym, ap, ◌∙◌}
use Rattle.clv_base.specs.Orders.{nat_in}
use Rattle.clv_base.specs.Coordinator.{others}
use Rattle.two_phase_commit.proofs.Parts.{other_low}
use Rattle.two_phase_commit.proofs.joint.take_vote.Goals as goal

pub set-requires : goal.set-requires
set-requires c =
    other_low (c.args.request.now.votes).places c.args.shard c.args.from c.args.request.now.touched c.requires.places
    (sym (c.is_other.ensures ∙ ap (λ (ts : List (ℕ × ℕ)). nat_in c.args.from (others c.args.shard ts)) c.as_slice.ensures) ∙ c.if-not-is_other.false)
