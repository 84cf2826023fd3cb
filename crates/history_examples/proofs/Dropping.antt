-- The history of the restarted shard and the two drops is legal, entry by entry, and its cause stands.
use Rattle.std.proofs.Common.{refl, inl, inr, false}
use Rattle.clv_base.specs.LogRules.{log_of}
use Rattle.clv_base.specs.Journals.{MayRun, start_of, journal_of}
use Rattle.history_examples.proofs.Entering.{enters, legal, unlike}
use Rattle.clv_base.specs.Restarts.{untouched}
use Rattle.history_examples.specs.Noted.{new_logs}
use Rattle.history_examples.specs.Dropped.{dropped, dropped_logs, DroppedIsLegal, DroppedHasCause}

home_runs : MayRun (log_of dropped_logs 0) (start_of new_logs 0) (journal_of 0 dropped)
home_runs = (enters _ _ _ refl (refl, (_, refl)), (enters _ _ _ refl (_, refl), (enters _ _ _ refl (refl, (_, refl)), (enters _ _ _ refl (_, refl), (enters _ _ _ refl (_, refl), (enters _ _ _ refl (refl, refl), tt))))))

part_runs : MayRun (log_of dropped_logs 1) (start_of new_logs 1) (journal_of 1 dropped)
part_runs = (enters _ _ _ refl (refl, (_, refl)), (enters _ _ _ refl (_, refl), (enters _ _ _ refl (refl, (false, (_, untouched, refl, refl))), (enters _ _ _ refl (refl, (_, refl)), tt))))

pub dropped_is_legal : DroppedIsLegal
dropped_is_legal = legal new_logs dropped dropped_logs (refl, refl, refl, refl, refl, refl, refl, refl) home_runs part_runs (false, inl refl) (false, inl refl) (tt, (tt, (tt, (tt, (tt, (tt, (tt, (tt, (tt, (tt, tt))))))))))

pub dropped_has_cause : DroppedHasCause
dropped_has_cause = (refl, (_, inr (inl refl), refl), refl, unlike)
