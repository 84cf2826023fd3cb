-- The history after which two transactions wait is legal, entry by entry, and they wait.
use Rattle.std.proofs.Common.{refl, inl, inr, false, None}
use Rattle.clv_base.specs.declared.values.Value.TheVariants.{Num}
use Rattle.clv_base.specs.LogRules.{log_of}
use Rattle.clv_base.specs.Journals.{MayRun, start_of, journal_of}
use Rattle.history_examples.proofs.Entering.{enters, legal}
use Rattle.clv_base.specs.declared.ops.Op.TheVariants.{Put}
use Rattle.clv_base.specs.History.{for_lock, for_commit}
use Rattle.history_examples.specs.Noted.{new_logs, born, writer}
use Rattle.history_examples.specs.Reading.{reader}
use Rattle.history_examples.specs.WideWaiting.{younger, older, waiting, waiting_logs, WaitingIsLegal, ReaderWaits, OlderWaits}

home_runs : MayRun (log_of waiting_logs 0) (start_of new_logs 0) (journal_of 0 waiting)
home_runs = (enters _ _ _ refl (refl, (_, refl)), (enters _ _ _ refl (_, refl), (enters _ _ _ refl (_, refl), (enters _ _ _ refl (refl, (_, refl)), (enters _ _ _ refl (_, refl), (enters _ _ _ refl (_, refl), (enters _ _ _ refl (_, refl), tt)))))))

part_runs : MayRun (log_of waiting_logs 1) (start_of new_logs 1) (journal_of 1 waiting)
part_runs = (enters _ _ _ refl (refl, (_, refl)), (enters _ _ _ refl (_, refl), (enters _ _ _ refl (refl, (_, refl)), (enters _ _ _ refl (_, refl), (enters _ _ _ refl (_, refl), (enters _ _ _ refl (refl, refl), (enters _ _ _ refl (_, refl), (enters _ _ _ refl (refl, (_, refl)), tt))))))))

pub waiting_is_legal : WaitingIsLegal
waiting_is_legal = legal new_logs waiting waiting_logs (refl, refl, refl, refl, refl, refl, refl, refl) home_runs part_runs (false, inl refl) (false, inl refl) (tt, (tt, (tt, (tt, ((0, _, inr (inr (inr (inl refl))), refl, refl), (tt, (tt, (tt, (tt, ((0, _, inr (inr (inr (inr (inr (inr (inr (inr (inl refl)))))))), refl, refl), (tt, (tt, (tt, ((1, _, inr (inr (inr (inr (inr (inr (inr (inr (inr (inr (inr (inr (inl refl)))))))))))), refl, refl), (tt, tt)))))))))))))))

pub reader_waits : ReaderWaits
reader_waits = for_commit {t = reader} {u = writer} 0 refl refl refl refl

pub older_waits : OlderWaits
older_waits = for_lock {t = older} {u = younger} {younger = younger} 1 4 1 (born 4 1) None (Put 7 (Num 71)) (refl, refl) refl refl
