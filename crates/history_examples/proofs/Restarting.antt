-- The histories of the shard that stops, down and restarted, are legal, entry by entry.
use Rattle.std.proofs.Common.{refl, inl, inr, false}
use Rattle.clv_base.specs.LogRules.{log_of}
use Rattle.clv_base.specs.Journals.{MayRun, start_of, journal_of}
use Rattle.history_examples.proofs.Entering.{enters, legal}
use Rattle.clv_base.specs.Restarts.{untouched, failed_first}
use Rattle.history_examples.specs.Noted.{new_logs}
use Rattle.history_examples.specs.Restarted.{restarted, restarted_logs, down, down_logs, failed_log, RestartedIsLegal, DownIsLegal}

home_runs : MayRun (log_of restarted_logs 0) (start_of new_logs 0) (journal_of 0 restarted)
home_runs = (enters _ _ _ refl (refl, (_, refl)), (enters _ _ _ refl (_, refl), (enters _ _ _ refl (_, refl), (enters _ _ _ refl (_, refl), (enters _ _ _ refl (_, refl), (enters _ _ _ refl (refl, refl), (enters _ _ _ refl (_, refl), tt)))))))

part_runs : MayRun (log_of restarted_logs 1) (start_of new_logs 1) (journal_of 1 restarted)
part_runs = (enters _ _ _ refl (refl, (_, refl)), (enters _ _ _ refl (_, refl), (enters _ _ _ refl (refl, (_, refl)), (enters _ _ _ refl (_, refl), (enters _ _ _ refl (refl, refl), (enters _ _ _ refl (_, refl), (enters _ _ _ refl (_, refl), (enters _ _ _ refl (refl, (false, (failed_log, failed_first 3 untouched, refl, refl))), tt))))))))

pub restarted_is_legal : RestartedIsLegal
restarted_is_legal = record { opens = refl; legal = legal new_logs restarted restarted_logs (refl, refl, refl, refl, refl, refl, refl, refl) home_runs part_runs (false, inl refl) (false, inl refl) (tt, (tt, (tt, (tt, ((0, _, inr (inr (inr (inl refl))), refl, refl), (tt, (tt, (tt, (tt, (tt, (tt, ((1, _, inr (inr (inr (inr (inr (inr (inr (inr (inl refl)))))))), refl, refl), (tt, (tt, (tt, tt))))))))))))))) }

home_stays : MayRun (log_of down_logs 0) (start_of new_logs 0) (journal_of 0 down)
home_stays = (enters _ _ _ refl (refl, (_, refl)), (enters _ _ _ refl (_, refl), (enters _ _ _ refl (_, refl), tt)))

part_stops : MayRun (log_of down_logs 1) (start_of new_logs 1) (journal_of 1 down)
part_stops = (enters _ _ _ refl (refl, (_, refl)), (enters _ _ _ refl (_, refl), (enters _ _ _ refl (refl, (_, refl)), (enters _ _ _ refl (_, refl), (enters _ _ _ refl (refl, refl), (enters _ _ _ refl (_, refl), (enters _ _ _ refl (_, refl), tt)))))))

pub down_is_legal : DownIsLegal
down_is_legal = legal new_logs down down_logs (refl, refl, refl, refl, refl, refl, refl, refl) home_stays part_stops (false, inl refl) (false, inr (refl, failed_first 1 untouched)) (tt, (tt, (tt, (tt, ((0, _, inr (inr (inr (inl refl))), refl, refl), (tt, (tt, (tt, (tt, (tt, tt))))))))))
