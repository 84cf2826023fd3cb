-- No place has a vote.
use Rattle.std.proofs.Common.{sym, ⊎_elim}
use Rattle.law_base.proofs.Changed.{none_some}
use Rattle.two_phase_commit.proofs.Ballots.{none_given}
use Rattle.two_phase_commit.proofs.ballot.Ballot.with_places.Goals as goal

pub returns-in-Ok-clause-votes : goal.returns-in-Ok-clause-votes
returns-in-Ok-clause-votes c = none_given _ 0 c.in-Ok.given.items c.in-Ok.ensures.items (λ x p. ⊎_elim (λ s. none_some x (sym s)) (λ e. e) p)
