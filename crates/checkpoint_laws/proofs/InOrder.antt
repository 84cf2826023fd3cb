-- A log in order begins with a RESTART or a checkpoint, has one PREPARE of each transaction, and of who is prepared and not committed a write stands.
use Rattle.std.proofs.Common.{◌≡◌, ℕ, ⊎_elim, false, List, [], ◌∷◌, ◌++◌, None, refl}
use Rattle.std.proofs.lemmas.Bool.{both_ways}
use Rattle.clv_base.specs.declared.logs.LogRecord.{LogRecord}
use Rattle.clv_base.specs.declared.logs.LogRecord.TheVariants.{Update, Clr, Prepare, Commit, Abort, End, Restart, Add, Unadd, Forgotten, Check}
use Rattle.protocol_laws.specs.Order.{Unprepared, Sealed}
use Rattle.protocol_laws.proofs.LogsInOrder.{sealed_in_order}
use Rattle.clv_base.specs.Folding.{IsRising}
use Rattle.clv_base.specs.Logs.{base_of}
use Rattle.clv_base.specs.LogRules.{part_of, disorder}
use Rattle.law_base.specs.Coming.{AllCome}
use Rattle.law_base.proofs.Parts.{in_order_comes}
use Rattle.shard_laws.proofs.Order.WhoseWritesStand.{open_stands}
use Rattle.log_checkpoint.specs.Laws.{Begins, IsNew, PreparesOnce, PreparedStand}
use Rattle.log_checkpoint.proofs.Again.{check_again}
use Rattle.log_checkpoint.proofs.Restarting.{restart_alike}
use Rattle.log_checkpoint.proofs.StandingAlike.{stand_alike}
use Rattle.checkpoint_laws.specs.Laws.{CheckpointsOfLogsInOrder}

pub begins : (shard : ℕ) (log : List LogRecord) → disorder shard log ≡ None → Begins log
begins shard log d = first log (in_order_comes shard log d)
  where
    first : (rs : List LogRecord) → AllCome shard (part_of log) rs → Begins rs
    first [] f = tt
    first (Restart run epoch ∷ rs) f = tt
    first (Check run epoch upto base ∷ rs) f = tt
    first (Update tx key before after ∷ rs) f = absurd (both_ways false refl f.0)
    first (Add tx key by ∷ rs) f = absurd (both_ways false refl f.0)
    first (Clr tx undo_next key after ∷ rs) f = absurd (both_ways false refl f.0)
    first (Unadd tx undo_next key by ∷ rs) f = absurd (both_ways false refl f.0)
    first (Prepare tx home listed ∷ rs) f = absurd (both_ways false refl f.0)
    first (Commit tx parts ∷ rs) f = absurd (both_ways false refl f.0)
    first (Abort tx ∷ rs) f = absurd (both_ways false refl f.0)
    first (End tx ∷ rs) f = absurd (both_ways false refl f.0)
    first (Forgotten ∷ rs) f = absurd (both_ways false refl f.0)

-- the keys of the pairs with which it begins rise
pub rising : (shard : ℕ) (log : List LogRecord) → disorder shard log ≡ None → IsRising (base_of log)
rising shard log d = first log (in_order_comes shard log d)
  where
    first : (rs : List LogRecord) → AllCome shard (part_of log) rs → IsRising (base_of rs)
    first [] f = tt
    first (Check run epoch upto base ∷ rs) f = f.0
    first (_ ∷ rs) f = tt

pub once : (before rs : List LogRecord) → Sealed before rs → PreparesOnce before rs
once before [] s = tt
once before (r ∷ rs) s = (one r s.0, once (before ++ r ∷ []) rs s.1)
  where
    one : (r : LogRecord) → Unprepared before r → IsNew before r
    one (Prepare tx home listed) u = u
    one _ u = tt

stand : (shard : ℕ) (log : List LogRecord) → disorder shard log ≡ None → PreparedStand log
stand shard log d t p u a = ⊎_elim (λ s. s) (λ b. absurd (both_ways _ a b)) (open_stands shard log d t p u)

pub logs_in_order : CheckpointsOfLogsInOrder
logs_in_order shard log d =
    let o : PreparesOnce [] log = once [] log (sealed_in_order shard log d) in
    let r = restart_alike shard log (begins shard log d) o (stand shard log d) in
    (check_again shard log (begins shard log d) o, r.0, r.1, stand_alike shard log (begins shard log d) (rising shard log d))
