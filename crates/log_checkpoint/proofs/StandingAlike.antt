-- A log and its checkpoint stand for the same map.
use Rattle.std.proofs.Common.{◌≡◌, Bool, List, [], ◌∷◌, sym, ap, ◌∙◌, ℕ}
use Rattle.std.proofs.Math.Path.{fun_ext}
use Rattle.clv_base.specs.declared.names.TxId.{TxId}
use Rattle.clv_base.specs.declared.logs.LogRecord.{LogRecord}
use Rattle.clv_base.specs.Maps.{KeyMap, with_pairs}
use Rattle.clv_base.specs.Folding.{IsRising}
use Rattle.clv_base.specs.Logs.{committed_in, standing, base_of, fold_writes, stands}
use Rattle.clv_base.specs.Checkpoints.{check, committed_map}
use Rattle.clv_base.proofs.Folding.{same_map}
use Rattle.law_base.proofs.Bases.{get_pairs, with_rises}
use Rattle.law_base.proofs.Bools.{or_none}
use Rattle.law_base.proofs.Logs.{writes_rise}
use Rattle.log_checkpoint.proofs.Keeping.{map_kept}
use Rattle.log_checkpoint.specs.Laws.{CheckpointsStandAlike}

-- pairs whose keys rise are the map that they make
pub pairs_alone : (m : KeyMap) → IsRising m → with_pairs m [] ≡ m
pairs_alone m rises = same_map (with_pairs m []) m (with_rises m [] tt) rises (get_pairs m)

stands_for : (log : List LogRecord) → IsRising (base_of log) → stands (log ∷ []) ≡ committed_map log
stands_for log rises =
    ap (λ (keep : TxId → Bool). fold_writes keep (standing log) (with_pairs (base_of log) [])) (fun_ext (λ t. or_none (committed_in log t)))
    ∙ ap (fold_writes (committed_in log) (standing log)) (pairs_alone (base_of log) rises)

checked_rises : (shard : ℕ) (log : List LogRecord) → IsRising (base_of log) → IsRising (base_of (check shard log))
checked_rises shard [] rises = tt
checked_rises shard (r ∷ rs) rises = writes_rise (committed_in (r ∷ rs)) (standing (r ∷ rs)) (base_of (r ∷ rs)) rises

pub stand_alike : CheckpointsStandAlike
stand_alike shard log begins rises = stands_for (check shard log) (checked_rises shard log rises) ∙ (map_kept shard log begins).0 ∙ sym (stands_for log rises)
