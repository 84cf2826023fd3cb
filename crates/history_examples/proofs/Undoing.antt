-- The history in which the part in doubt is undone is legal, entry by entry; the cause of its reader stands, and it ends settled.
use Rattle.std.proofs.Common.{◌≡◌, refl, sym, ◌∙◌, length, inl, inr, false}
use Rattle.clv_base.specs.LogRules.{log_of}
use Rattle.clv_base.specs.Journals.{MayRun, start_of, final_of, journal_of}
use Rattle.history_examples.proofs.Entering.{enters, legal, only_two}
use Rattle.clv_base.specs.History.{IsQuiet}
use Rattle.history_examples.specs.Undone.{doubt_logs, undone, undone_logs, UndoneIsLegal, UndoneHasCause, UndoneIsSettled}

home_runs : MayRun (log_of undone_logs 0) (start_of doubt_logs 0) (journal_of 0 undone)
home_runs = (enters _ _ _ refl (_, refl), (enters _ _ _ refl (_, refl), tt))

part_runs : MayRun (log_of undone_logs 1) (start_of doubt_logs 1) (journal_of 1 undone)
part_runs = (enters _ _ _ refl (refl, (_, refl)), (enters _ _ _ refl (_, refl), (enters _ _ _ refl (_, refl), (enters _ _ _ refl (_, refl), (enters _ _ _ refl (_, refl), (enters _ _ _ refl (_, refl), (enters _ _ _ refl (_, refl), (enters _ _ _ refl (refl, refl), tt))))))))

pub undone_is_legal : UndoneIsLegal
undone_is_legal = (refl, record { opens = refl; legal = legal doubt_logs undone undone_logs (refl, refl, refl, refl, refl, refl, refl, refl) home_runs part_runs (false, inl refl) (false, inl refl) (tt, (tt, (tt, (tt, ((1, _, inr (inr (inr (inl refl))), refl, refl), (tt, ((0, _, inr (inr (inr (inr (inr (inl refl))))), refl, refl), (tt, (tt, (tt, tt)))))))))) })

pub undone_has_cause : UndoneHasCause
undone_has_cause = ((6, refl, refl), refl, refl)

home_durable : (final_of doubt_logs undone undone_logs 0).durable ≡ 6
home_durable = refl

home_length : length (final_of doubt_logs undone undone_logs 0).local.log ≡ 6
home_length = refl

part_durable : (final_of doubt_logs undone undone_logs 1).durable ≡ 6
part_durable = refl

part_length : length (final_of doubt_logs undone undone_logs 1).local.log ≡ 6
part_length = refl

pub undone_is_settled : UndoneIsSettled
undone_is_settled =
    (only_two (λ n. IsQuiet (final_of doubt_logs undone undone_logs n)) (refl, home_durable ∙ sym home_length, refl, refl) (refl, part_durable ∙ sym part_length, refl, refl), refl, refl)
