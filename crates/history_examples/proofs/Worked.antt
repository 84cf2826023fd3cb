-- The histories are legal, entry by entry.
use Rattle.std.proofs.Common.{refl, ℕ, zero, suc, ◌<◌, lit<, inl, arith, [], ◌∷◌, true, false}
use Rattle.clv_base.specs.LogRules.{log_of}
use Rattle.clv_base.specs.Restarts.{untouched}
use Rattle.clv_base.specs.Journals.{MayRun, MayLeave, start_of, final_of, journal_of}
use Rattle.clv_base.specs.History.{IsQuiet}
use Rattle.protocol_laws.specs.Growth.{IsPrefixOf}
use Rattle.history_laws.specs.Continuing.{SameAtRestarts}
use Rattle.history_examples.specs.Worked.{new_log, restarted, looked_at, restarted_log, RestartIsLegal, RestartGoesOn, violated, violated_log, ViolatedIsLegal, found_log, from_found, found_left, FoundIsLegal, opened_log, OpenedIsSettled}

-- what holds of shard 0 holds of each shard below 1
only_one : (P : ℕ → Type 0) → P 0 → (n : ℕ) → n < 1 → P n
only_one P p zero h = p
only_one P p (suc n) h = absurd (omega arith)

restart_runs : MayRun restarted_log (start_of new_log 0) (journal_of 0 restarted)
restart_runs = (
  record { event = (refl, (_, refl)); rises = lit< tt; above_message = lit< tt; bounded = lit< tt },
  (
    record { event = (_, refl); rises = lit< tt; above_message = lit< tt; bounded = lit< tt },
    (
      record { event = (_, refl); rises = lit< tt; above_message = lit< tt; bounded = lit< tt },
      (record { event = (refl, (false, (_, untouched, refl, refl))); rises = lit< tt; above_message = lit< tt; bounded = lit< tt }, tt),
    ),
  ),
)

look_runs : MayRun restarted_log (start_of new_log 0) (journal_of 0 looked_at)
look_runs = (
  record { event = (refl, (_, refl)); rises = lit< tt; above_message = lit< tt; bounded = lit< tt },
  (
    record { event = (_, refl); rises = lit< tt; above_message = lit< tt; bounded = lit< tt },
    (
      record { event = (_, refl); rises = lit< tt; above_message = lit< tt; bounded = lit< tt },
      (
        record { event = (refl, (false, (_, untouched, refl, refl))); rises = lit< tt; above_message = lit< tt; bounded = lit< tt },
        (record { event = (_, refl); rises = lit< tt; above_message = lit< tt; bounded = lit< tt }, tt),
      ),
    ),
  ),
)

pub restart_is_legal : RestartIsLegal
restart_is_legal = (
  record {
    splits_rise = refl;
    ordered = refl;
    each_log = (refl, refl);
    in_shards = refl;
    run_fits = lit< tt;
    runs = only_one (λ n. MayRun (log_of (restarted_log ∷ []) n) (start_of new_log n) (journal_of n restarted)) restart_runs;
    leaves = only_one (λ n. MayLeave (final_of new_log restarted (restarted_log ∷ []) n) (log_of (restarted_log ∷ []) n)) (true, inl refl);
    stamps = refl;
    sessions = refl;
    numbered = refl;
    messages = (tt, (tt, (tt, (tt, tt))));
  },
  record {
    splits_rise = refl;
    ordered = refl;
    each_log = (refl, refl);
    in_shards = refl;
    run_fits = lit< tt;
    runs = only_one (λ n. MayRun (log_of (restarted_log ∷ []) n) (start_of new_log n) (journal_of n looked_at)) look_runs;
    leaves = only_one (λ n. MayLeave (final_of new_log looked_at (restarted_log ∷ []) n) (log_of (restarted_log ∷ []) n)) (true, inl refl);
    stamps = refl;
    sessions = refl;
    numbered = refl;
    messages = (tt, (tt, (tt, (tt, (tt, tt)))));
  },
)

pub restart_goes_on : RestartGoesOn
restart_goes_on =
    record {
      journals = only_one (λ n. IsPrefixOf (journal_of n restarted) (journal_of n looked_at)) (_, refl);
      restarts = only_one (λ n. SameAtRestarts 1 (log_of (restarted_log ∷ []) n) (log_of (restarted_log ∷ []) n) (journal_of n restarted)) (tt, (tt, (tt, (refl, tt))));
    }

violated_runs : MayRun violated_log (start_of new_log 0) (journal_of 0 violated)
violated_runs = (
  record { event = (refl, (_, refl)); rises = lit< tt; above_message = lit< tt; bounded = lit< tt },
  (
    record { event = (_, refl); rises = lit< tt; above_message = lit< tt; bounded = lit< tt },
    (
      record { event = (refl, (_, refl)); rises = lit< tt; above_message = lit< tt; bounded = lit< tt },
      (
        record { event = (_, refl); rises = lit< tt; above_message = lit< tt; bounded = lit< tt },
        (
          record { event = (_, refl); rises = lit< tt; above_message = lit< tt; bounded = lit< tt },
          (
            record { event = (refl, refl); rises = lit< tt; above_message = lit< tt; bounded = lit< tt },
            (record { event = (_, refl); rises = lit< tt; above_message = lit< tt; bounded = lit< tt }, tt),
          ),
        ),
      ),
    ),
  ),
)

pub violated_is_legal : ViolatedIsLegal
violated_is_legal =
    record {
      splits_rise = refl;
      ordered = refl;
      each_log = (refl, refl);
      in_shards = refl;
      run_fits = lit< tt;
      runs = only_one (λ n. MayRun (log_of (violated_log ∷ []) n) (start_of new_log n) (journal_of n violated)) violated_runs;
      leaves = only_one (λ n. MayLeave (final_of new_log violated (violated_log ∷ []) n) (log_of (violated_log ∷ []) n)) (false, inl refl);
      stamps = refl;
      sessions = refl;
      numbered = refl;
      messages = (tt, (tt, (tt, (tt, (tt, (tt, (tt, tt)))))));
    }

found_runs : MayRun found_left (start_of (found_log ∷ []) 0) (journal_of 0 from_found)
found_runs = (
  record { event = (refl, (_, refl)); rises = lit< tt; above_message = lit< tt; bounded = lit< tt },
  (
    record { event = (refl, (_, refl)); rises = lit< tt; above_message = lit< tt; bounded = lit< tt },
    (
      record { event = (_, refl); rises = lit< tt; above_message = lit< tt; bounded = lit< tt },
      (
        record { event = (_, refl); rises = lit< tt; above_message = lit< tt; bounded = lit< tt },
        (
          record { event = (refl, refl); rises = lit< tt; above_message = lit< tt; bounded = lit< tt },
          (record { event = (_, refl); rises = lit< tt; above_message = lit< tt; bounded = lit< tt }, tt),
        ),
      ),
    ),
  ),
)

pub found_is_legal : FoundIsLegal
found_is_legal = record {
  opens = refl;
  legal = record {
    splits_rise = refl;
    ordered = refl;
    each_log = (refl, refl);
    in_shards = refl;
    run_fits = lit< tt;
    runs = only_one (λ n. MayRun (log_of (found_left ∷ []) n) (start_of (found_log ∷ []) n) (journal_of n from_found)) found_runs;
    leaves = only_one (λ n. MayLeave (final_of (found_log ∷ []) from_found (found_left ∷ []) n) (log_of (found_left ∷ []) n)) (false, inl refl);
    stamps = refl;
    sessions = refl;
    numbered = refl;
    messages = (tt, (tt, (tt, (tt, (tt, (tt, tt))))));
  };
}

pub opened_is_settled : OpenedIsSettled
opened_is_settled = (
  record {
    splits_rise = refl;
    ordered = refl;
    each_log = (refl, refl);
    in_shards = refl;
    run_fits = lit< tt;
    runs = only_one (λ n. MayRun (log_of (opened_log ∷ []) n) (start_of new_log n) (journal_of n [])) tt;
    leaves = only_one (λ n. MayLeave (final_of new_log [] (opened_log ∷ []) n) (log_of (opened_log ∷ []) n)) (true, inl refl);
    stamps = refl;
    sessions = refl;
    numbered = refl;
    messages = tt;
  },
  only_one (λ n. IsQuiet (final_of new_log [] (opened_log ∷ []) n)) (refl, refl, refl, refl),
  refl,
)
