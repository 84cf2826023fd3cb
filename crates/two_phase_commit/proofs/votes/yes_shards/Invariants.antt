-- Those so far, and those of the rest, are all.
use Rattle.std.proofs.Common.{◌≡◌, ◌++◌, ◌≤◌, drop, length}
use Rattle.std.specs.List.{filter}
use Rattle.clv_base.specs.Coordinator.{others, vote_from}
use Rattle.clv_base.specs.Participant.{is_yes_vote}
use Rattle.two_phase_commit.proofs.votes.yes_shards.Given as goal

abbrev pub invariant-loop-part : goal.invariant-loop-part
invariant-loop-part l = record {
  same : l.list ++ filter (λ p. is_yes_vote (vote_from p (l.votes).votes)) (others l.shard (drop l.part-index l.touched)) ≡ filter (λ p. is_yes_vote (vote_from p (l.votes).votes)) (others l.shard l.touched);
  few : length (filter (λ p. is_yes_vote (vote_from p (l.votes).votes)) (others l.shard l.touched)) ≤ 15;
}
