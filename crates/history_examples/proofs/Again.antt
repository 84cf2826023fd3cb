-- The history from the logs with a transaction in doubt is legal, entry by entry.
use Rattle.std.proofs.Common.{◌≡◌, refl, sym, ◌∙◌, length, inl, inr, false}
use Rattle.clv_base.specs.LogRules.{log_of}
use Rattle.clv_base.specs.Journals.{MayRun, start_of, final_of, journal_of}
use Rattle.history_examples.proofs.Entering.{enters, legal, only_two}
use Rattle.clv_base.specs.History.{IsQuiet}
use Rattle.history_examples.specs.Committed.{wide_logs}
use Rattle.history_examples.specs.Reopened.{reopened, reopened_logs, ReopenedIsLegal, ReopenedIsSettled}

home_runs : MayRun (log_of reopened_logs 0) (start_of wide_logs 0) (journal_of 0 reopened)
home_runs = (enters _ _ _ refl (_, refl), (enters _ _ _ refl (_, refl), (enters _ _ _ refl (_, refl), (enters _ _ _ refl (_, refl), (enters _ _ _ refl (refl, refl), tt)))))

part_runs : MayRun (log_of reopened_logs 1) (start_of wide_logs 1) (journal_of 1 reopened)
part_runs = (enters _ _ _ refl (refl, (_, refl)), (enters _ _ _ refl (_, refl), (enters _ _ _ refl (_, refl), (enters _ _ _ refl (_, refl), (enters _ _ _ refl (refl, refl), (enters _ _ _ refl (_, refl), (enters _ _ _ refl (_, refl), tt)))))))

pub reopened_is_legal : ReopenedIsLegal
reopened_is_legal = (refl, record { opens = refl; legal = legal wide_logs reopened reopened_logs (refl, refl, refl, refl, refl, refl, refl, refl) home_runs part_runs (false, inl refl) (false, inl refl) (tt, (tt, (tt, (tt, ((0, _, inr (inr (inr (inl refl))), refl, refl), (tt, (tt, (tt, (tt, ((1, _, inr (inr (inr (inr (inr (inr (inr (inr (inl refl)))))))), refl, refl), (tt, (tt, tt)))))))))))) })

home_durable : (final_of wide_logs reopened reopened_logs 0).durable ≡ 6
home_durable = refl

home_length : length (final_of wide_logs reopened reopened_logs 0).local.log ≡ 6
home_length = refl

part_durable : (final_of wide_logs reopened reopened_logs 1).durable ≡ 5
part_durable = refl

part_length : length (final_of wide_logs reopened reopened_logs 1).local.log ≡ 5
part_length = refl

pub reopened_is_settled : ReopenedIsSettled
reopened_is_settled =
    (only_two (λ n. IsQuiet (final_of wide_logs reopened reopened_logs n)) (refl, home_durable ∙ sym home_length, refl, refl) (refl, part_durable ∙ sym part_length, refl, refl), refl)
