-- No place has a vote exactly where there is none.
use Rattle.std.proofs.Common.{◌==◌, ◌∙◌, is_none, ap, length}
use Rattle.std.specs.List.{list_all}
use Rattle.two_phase_commit.specs.Ballots.{Ballot}
use Rattle.two_phase_commit.proofs.Ballots.{nobody}
use Rattle.two_phase_commit.proofs.ballot.Ballot.is_empty.Goals as goal

pub returns : goal.returns
returns c =
    c.are_missing.ensures ∙ ap (list_all (λ vote. is_none vote)) c.deref.ensures.value ∙ nobody 0 c.self.inside.given.items ∙ ap (λ (b : Ballot). length b.votes == 0) c.self.view_is
