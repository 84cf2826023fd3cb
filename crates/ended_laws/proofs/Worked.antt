-- The worked examples, by computation.
use Rattle.std.proofs.Common.{refl}
use Rattle.std.specs.List.Sorted.{IsStrictlySortedBy}
use Rattle.ended_laws.specs.Examples.{OneShardIsSpent, AnEndedCommitIsSpent, ALookTells, ALatePrepareTells}

pub one_shard_is_spent : OneShardIsSpent
unfolding IsStrictlySortedBy
one_shard_is_spent = record { over = record { rises = (tt, tt); kept = refl; is_gone = refl; is_done = (refl, refl, refl, refl) }; finished = refl; by_log = refl }

pub a_late_prepare_tells : ALatePrepareTells
unfolding IsStrictlySortedBy
a_late_prepare_tells = (record { parts_rise = (tt, tt); voters_rise = (tt, tt); requests_rise = tt; is_gone = refl; owes = refl; no_request = refl }, refl, refl)

pub an_ended_commit_is_spent : AnEndedCommitIsSpent
unfolding IsStrictlySortedBy
an_ended_commit_is_spent = record { over = record { rises = (tt, tt); kept = refl; is_gone = refl; is_done = (refl, refl, refl) }; finished = refl; by_log = refl }

pub a_look_tells : ALookTells
unfolding IsStrictlySortedBy
a_look_tells = (record { rises = (tt, tt); kept = refl; is_gone = refl; is_done = tt }, refl, refl)
