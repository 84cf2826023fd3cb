-- The map of those committed, and the last RESTART.
use Rattle.std.proofs.Common.{◌≡◌, ℕ, Bool, List, [], ◌∷◌, Option, Some, None, unwrap_or, refl, ap, ◌∙◌}
use Rattle.std.proofs.Math.Path.{fun_ext}
use Rattle.clv_base.specs.declared.names.TxId.{TxId}
use Rattle.clv_base.specs.declared.logs.LogRecord.{LogRecord}
use Rattle.clv_base.specs.declared.logs.LogRecord.TheVariants.{Restart, Check}
use Rattle.clv_base.specs.Folding.{IsRising}
use Rattle.clv_base.specs.Maps.{KeyMap, with_pairs}
use Rattle.clv_base.specs.Logs.{base_of, committed_in, fold_writes, fold_updates, standing}
use Rattle.clv_base.specs.LogRules.{last_restart, part_of, disorder}
use Rattle.clv_base.specs.Checkpoints.{committed_map}
use Rattle.clv_base.proofs.Folding.{same_map}
use Rattle.law_base.specs.Coming.{AllCome}
use Rattle.law_base.proofs.Bases.{with_rises, get_pairs}
use Rattle.law_base.proofs.Parts.{in_order_comes}

-- the keys of the pairs with which a log in order begins rise
pub base_rises : (shard : ℕ) (log : List LogRecord) → disorder shard log ≡ None → IsRising (base_of log)
base_rises shard log d = first log (in_order_comes shard log d)
  where
    first : (rs : List LogRecord) → AllCome shard (part_of log) rs → IsRising (base_of rs)
    first [] f = tt
    first (Check run epoch upto base ∷ rs) f = f.0
    first (_ ∷ rs) f = tt

pairs_alone : (m : KeyMap) → IsRising m → with_pairs m [] ≡ m
pairs_alone m rises = same_map (with_pairs m []) m (with_rises m [] tt) rises (get_pairs m)

-- folded from nothing, by a test that passes those committed
pub map_is : (keep : TxId → Bool) (log : List LogRecord) → IsRising (base_of log) → ((t : TxId) → keep t ≡ committed_in log t) → fold_updates keep log [] ≡ committed_map log
map_is keep log rises same =
    ap (fold_writes keep (standing log)) (pairs_alone (base_of log) rises) ∙ ap (λ (k : TxId → Bool). fold_writes k (standing log) (base_of log)) (fun_ext same)

-- ---- the last RESTART of what is left, else the one so far

restart_there : (o : Option (ℕ × ℕ)) (p found : ℕ × ℕ) → unwrap_or (elim o [ Some q ↦ Some q | None ↦ Some p ]) found ≡ unwrap_or o p
restart_there None p found = refl
restart_there (Some q) p found = refl

pub restart_next : (run epoch : ℕ) (rs : List LogRecord) (found : ℕ × ℕ) → unwrap_or (last_restart (Restart run epoch ∷ rs)) found ≡ unwrap_or (last_restart rs) (run, epoch)
restart_next run epoch rs found = restart_there (last_restart rs) (run, epoch) found

pub check_next : (run epoch upto : ℕ) (base : KeyMap) (rs : List LogRecord) (found : ℕ × ℕ) → unwrap_or (last_restart (Check run epoch upto base ∷ rs)) found ≡ unwrap_or (last_restart rs) (run, epoch)
check_next run epoch upto base rs found = restart_there (last_restart rs) (run, epoch) found
