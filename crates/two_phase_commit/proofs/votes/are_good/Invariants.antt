-- The parts so far have all voted for it.
use Rattle.std.proofs.Common.{◌≡◌, drop}
use Rattle.std.specs.List.{list_all}
use Rattle.clv_base.specs.Coordinator.{others, vote_from, is_good}
use Rattle.two_phase_commit.proofs.votes.are_good.Given as goal

abbrev pub invariant-loop-part : goal.invariant-loop-part
invariant-loop-part l = list_all (λ p. is_good (vote_from p (l.votes).votes)) (others l.shard (drop l.part-index l.touched)) ≡ list_all (λ p. is_good (vote_from p (l.votes).votes)) (others l.shard l.touched)
