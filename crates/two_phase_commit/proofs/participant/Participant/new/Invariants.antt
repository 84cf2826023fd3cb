-- The voters so far, and those of the rest, are all.
use Rattle.std.proofs.Common.{◌≡◌, ◌++◌, drop}
use Rattle.clv_base.specs.Participant.{restored_voters}
use Rattle.two_phase_commit.proofs.participant.Participant.new.Given as goal

abbrev pub invariant-loop-doubtful : goal.invariant-loop-doubtful
invariant-loop-doubtful l = l.voters.entries ++ restored_voters (drop l.doubtful-index l.restored) ≡ restored_voters l.restored
