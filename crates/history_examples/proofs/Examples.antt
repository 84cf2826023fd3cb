-- A legal history, and the causes in another.
use Rattle.std.proofs.Common.{refl, ℕ, zero, suc, ◌<◌, lit<, inl, arith, [], ◌∷◌, true, None}
use Rattle.history_examples.specs.Playing.{empty_logs, tx, birth}
use Rattle.history_examples.specs.Writers.{one_write}
use Rattle.history_examples.specs.Histories.{One_is_legal, one_log}
use Rattle.history_examples.specs.Cascades.{Chain_causes}
use Rattle.history_examples.specs.Waiting.{Waits_stand}
use Rattle.clv_base.specs.declared.values.Value.TheVariants.{Num}
use Rattle.clv_base.specs.History.{for_lock}
use Rattle.clv_base.specs.declared.ops.Op.TheVariants.{Put}
use Rattle.clv_base.specs.LogRules.{log_of}
use Rattle.clv_base.specs.Journals.{MayRun, MayLeave, start_of, final_of, journal_of}

first_shard : MayRun one_log (start_of (empty_logs 1) 0) (journal_of 0 (one_write.world.history))
first_shard = (
  record { event = (refl, (_, refl)); rises = lit< tt; above_message = lit< tt; bounded = lit< tt },
  (
    record { event = (_, refl); rises = lit< tt; above_message = lit< tt; bounded = lit< tt },
    (
      record { event = (_, refl); rises = lit< tt; above_message = lit< tt; bounded = lit< tt },
      (
        record { event = (refl, refl); rises = lit< tt; above_message = lit< tt; bounded = lit< tt },
        (record { event = (_, refl); rises = lit< tt; above_message = lit< tt; bounded = lit< tt }, tt),
      ),
    ),
  ),
)

each_shard : (n : ℕ) → n < 1 → MayRun (log_of (one_log ∷ []) n) (start_of (empty_logs 1) n) (journal_of n (one_write.world.history))
each_shard zero h = first_shard
each_shard (suc n) h = absurd (omega arith)

each_leaves : (n : ℕ) → n < 1 → MayLeave (final_of (empty_logs 1) (one_write.world.history) (one_log ∷ []) n) (log_of (one_log ∷ []) n)
each_leaves zero h = (true, inl refl)
each_leaves (suc n) h = absurd (omega arith)

pub one_is_legal : One_is_legal
one_is_legal =
    record {
      splits_rise = refl;
      ordered = refl;
      each_log = (refl, refl);
      in_shards = refl;
      run_fits = lit< tt;
      runs = each_shard;
      leaves = each_leaves;
      stamps = refl;
      sessions = refl;
      numbered = refl;
      messages = (tt, (tt, (tt, (tt, (tt, tt)))));
    }

pub chain_causes : Chain_causes
chain_causes = ((14, refl, refl), (19, refl, refl))

pub they_wait : Waits_stand
they_wait = for_lock {younger = tx 2 1} 0 1 1 (birth 1 1) None (Put 5 (Num 10)) (refl, refl) refl refl
