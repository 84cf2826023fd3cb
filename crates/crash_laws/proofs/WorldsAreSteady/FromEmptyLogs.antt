-- What a steady world from empty logs is.
use Rattle.std.proofs.Common.{◌≡◌, ◌∙◌, ℕ, ◌+◌, true, nat_le, List, length, arith, Some}
use Rattle.std.specs.Prelude.{◌^◌, slice_get, is_none}
use Rattle.std.proofs.lemmas.Bool.{and_parts, leb-true}
use Rattle.clv_base.specs.declared.logs.LogRecord.{LogRecord}
use Rattle.clv_base.specs.Shards.{are_splits, not_rising}
use Rattle.clv_base.specs.LogRules.{log_of}
use Rattle.clv_base.specs.State.{Shard}
use Rattle.clv_base.specs.Restarts.{run_after}
use Rattle.clv_base.specs.Core.{World, clock_of}
use Rattle.clv_base.specs.Journals.{journal_of, start_of}
use Rattle.history_cases.proofs.Durability.{opened_counted}
use Rattle.journal_laws.specs.Worlds.{Steady, count_past, empty_logs}
use Rattle.journal_laws.proofs.RunsGoOn.{fronts_run}
use Rattle.journal_laws.proofs.SteadyIsLegal.{empty_run, past_not_all, clock_below}
use Rattle.crash_laws.specs.Fronts.{FrontsFit, LandsBy}

-- a shard of a steady world has its number, is of run 1, and its fronts are in its log
pub record Stands (n : ℕ) (s : Shard) : Type 0 where
  pub shard : s.shard ≡ n
  pub run : s.run ≡ 1
  pub fronts : FrontsFit s

pub stands : (splits : List ℕ) (k : ℕ) (w : World) (n : ℕ) (s : Shard) → Steady splits (empty_logs k) w → slice_get w.shards n ≡ Some s → Stands n s
stands splits k w n s h g =
    let f = fronts_run (start_of (empty_logs k) n) (journal_of n w.history) s (opened_counted n (run_after (empty_logs k)) (log_of (empty_logs k) n)) (h.runs n s g) in
    record { shard = f.shard; run = f.run ∙ empty_run k; fronts = record { within = f.counted.within; flying = f.counted.flying } }

-- ---- when the end of a flush may come

pub lands_by : (splits : List ℕ) (before : List (List LogRecord)) (w : World) (n walker : ℕ) (s : Shard) → are_splits splits ≡ true → Steady splits before w → slice_get w.shards n ≡ Some s → LandsBy (clock_of walker w.history) s
lands_by splits before w n walker s few k g up m f =
    let low = k.lands n s g up m f in
    let most = past_not_all w.shards n s g low in
    let all = k.shards in
    let sixteen = leb-true (length splits) 15 (and_parts (nat_le (length splits) 15) (is_none (not_rising splits)) few).0 in
    let clock = clock_below walker (2 ^ 48 + count_past w.shards) w.history (omega arith) k.stamped in
    (low, omega (arith, most, all, sixteen, clock))
