-- What is agreed on is ruled by those that voted yes.
use Rattle.std.proofs.Common.{ℕ, List, sym, ap, ◌∙◌}
use Rattle.std.specs.List.{filter}
use Rattle.clv_base.specs.Coordinator.{others, vote_from, agreed_ruling, undecided_ruling}
use Rattle.clv_base.specs.Participant.{is_yes_vote}
use Rattle.two_phase_commit.specs.Kept.{joint_request}
use Rattle.two_phase_commit.proofs.ruling.undecided_ruling.Goals as goal

pub returns-then-is_agreed : goal.returns-then-is_agreed
returns-then-is_agreed c =
    let q = joint_request c.args.request.now in let f = c.args.facts.now in
    c.agreed_ruling.ensures ∙ ap (agreed_ruling f f.updates) (c.yes_shards.ensures ∙ ap (λ (ts : List (ℕ × ℕ)). filter (λ p. is_yes_vote (vote_from p q.votes)) (others c.args.shard ts)) c.as_slice-touched.ensures)
    ∙ ap (undecided_ruling c.args.shard c.args.tx q f) (sym c.if-is_agreed.true ∙ c.is_agreed.ensures)
