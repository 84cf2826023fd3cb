-- What a crash leaves at a cut.
use Rattle.std.proofs.Common.{◌+◌, ◌≡◌, inl, ap, ◌∙◌, ℕ, arith}
use Rattle.clv_base.specs.Shards.{shard_count}
use Rattle.clv_base.specs.Restarts.{log_left}
use Rattle.clv_base.specs.Journals.{final_of}
use Rattle.law_base.proofs.Restarts.{left_length}
use Rattle.history_laws.proofs.NeverTakenBack.LaterHistoriesHoldMembers.{left_at}
use Rattle.journal_laws.specs.Cuts.{CrashesLeave}

pub crashes_leave : CrashesLeave
crashes_leave splits before cut after choice =
    record {
      each_log = left_length (final_of before cut after) choice 0 (shard_count splits);
      leaves = λ n l. (choice n, inl (left_at (final_of before cut after) choice 0 (shard_count splits) n l ∙ ap (λ m. log_left (final_of before cut after m) (choice m)) (plus n)));
    }
  where
    plus : (m : ℕ) → 0 + m ≡ m
    plus m = omega arith
