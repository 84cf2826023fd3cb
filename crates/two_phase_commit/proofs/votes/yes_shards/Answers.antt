-- No more pass than there are.
use Rattle.std.proofs.Common.{ℕ, Bool, ◌++◌, ap, List}
use Rattle.std.specs.List.{filter}
use Rattle.clv_base.specs.Coordinator.{others, vote_from}
use Rattle.clv_base.specs.Participant.{is_yes_vote}
use Rattle.two_phase_commit.proofs.Parts.{few_pass}
use Rattle.two_phase_commit.proofs.votes.yes_shards.Goals as goal

pub loop-part-init : goal.loop-part-init
loop-part-init c =
    let parts = others c.args.shard c.args.touched.now in let test : ℕ → Bool = λ p. is_yes_vote (vote_from p (c.args.votes.now).votes) in
    record { same = ap (λ (l : List ℕ). l ++ filter test parts) c.new-list.ensures; few = few_pass test parts c.requires }
