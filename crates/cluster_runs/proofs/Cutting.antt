-- The logs below a shard.
use Rattle.std.proofs.Common.{◌≡◌, ℕ, zero, suc, ◌<◌, List, [], ◌∷◌, take, length-take, Option, refl, sym, subst, arith}
use Rattle.clv_base.specs.declared.logs.LogRecord.{LogRecord}
use Rattle.clv_base.specs.Shards.{shard_count}
use Rattle.clv_base.specs.LogRules.{log_of}
use Rattle.io_model.specs.Sides.{Stories}
use Rattle.cluster_opening.specs.Logs.{HoldsLog, LogsBelow, LogsOfAll}

log_of_take : (logs : List (List LogRecord)) (k n : ℕ) → n < k → log_of (take k logs) n ≡ log_of logs n
log_of_take logs zero n l = absurd (omega arith)
log_of_take [] (suc k) n l = refl
log_of_take (log ∷ logs) (suc k) zero l = refl
log_of_take (log ∷ logs) (suc k) (suc n) l = log_of_take logs k n (omega arith)

pub logs_below : (splits : List ℕ) (logs : List (List LogRecord)) (shard : ℕ) (stories : ℕ → Option Stories) → LogsOfAll splits logs stories → shard < shard_count splits → LogsBelow splits (take shard logs) shard stories
logs_below splits logs shard stories all low = record {
  count = (let a = all.count in let m = length-take shard logs in omega arith);
  is_shard = low;
  each = λ n l. subst (λ (log : List LogRecord). HoldsLog splits n log (stories n)) (sym (log_of_take logs shard n l)) (all.each n (omega arith));
}
