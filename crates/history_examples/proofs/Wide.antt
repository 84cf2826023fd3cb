-- The history of the commit over two shards is legal, entry by entry.
use Rattle.std.proofs.Common.{refl, inl, inr, false}
use Rattle.clv_base.specs.LogRules.{log_of}
use Rattle.clv_base.specs.Journals.{MayRun, start_of, journal_of}
use Rattle.history_examples.proofs.Entering.{enters, legal}
use Rattle.history_examples.specs.Noted.{new_logs}
use Rattle.history_examples.specs.Committed.{wide, wide_logs, WideIsLegal}

home_runs : MayRun (log_of wide_logs 0) (start_of new_logs 0) (journal_of 0 wide)
home_runs = (enters _ _ _ refl (refl, (_, refl)), (enters _ _ _ refl (_, refl), (enters _ _ _ refl (_, refl), (enters _ _ _ refl (_, refl), (enters _ _ _ refl (_, refl), (enters _ _ _ refl (refl, refl), (enters _ _ _ refl (_, refl), (enters _ _ _ refl (_, refl), tt))))))))

part_runs : MayRun (log_of wide_logs 1) (start_of new_logs 1) (journal_of 1 wide)
part_runs = (enters _ _ _ refl (refl, (_, refl)), (enters _ _ _ refl (_, refl), (enters _ _ _ refl (_, refl), (enters _ _ _ refl (refl, refl), (enters _ _ _ refl (_, refl), (enters _ _ _ refl (_, refl), tt))))))

pub wide_is_legal : WideIsLegal
wide_is_legal = record { opens = refl; legal = legal new_logs wide wide_logs (refl, refl, refl, refl, refl, refl, refl, refl) home_runs part_runs (false, inl refl) (false, inl refl) (tt, (tt, (tt, (tt, ((0, _, inr (inr (inr (inl refl))), refl, refl), (tt, (tt, (tt, ((1, _, inr (inr (inr (inr (inr (inr (inr (inl refl))))))), refl, refl), (tt, (tt, (tt, (tt, ((0, _, inr (inr (inr (inr (inr (inr (inr (inr (inr (inr (inr (inr (inl refl)))))))))))), refl, refl), tt)))))))))))))) }
