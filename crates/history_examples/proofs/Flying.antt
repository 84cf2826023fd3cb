-- The histories of the batch in flight are legal, entry by entry; that up to the stop goes on to each of the others, and the cause of the lost one stands.
use Rattle.std.proofs.Common.{◌≡◌, ℕ, refl, sym, ap, arith, length, lit<, List, inl, true, false}
use Rattle.clv_base.specs.LogRules.{log_of}
use Rattle.clv_base.specs.Journals.{MayRun, start_of, journal_of}
use Rattle.history_examples.proofs.Entering.{enters, legal, only_two, unlike}
use Rattle.clv_base.specs.Restarts.{run_after, untouched}
use Rattle.clv_base.specs.declared.logs.LogRecord.{LogRecord}
use Rattle.protocol_laws.specs.Growth.{IsPrefixOf}
use Rattle.history_laws.specs.Continuing.{GoesOn, SameAtRestarts}
use Rattle.history_examples.specs.Noted.{splits, new_logs}
use Rattle.history_examples.specs.Flight.{stopped, again, found, lost, with_batch, without_batch, found_logs, lost_logs, StoppedIsLegal, FoundIsLegal, LostIsLegal, StoppedGoesOn, RestartChooses, LostHasCause}

with_runs : MayRun (log_of with_batch 1) (start_of new_logs 1) (journal_of 1 stopped)
with_runs = (enters _ _ _ refl (refl, (_, refl)), (enters _ _ _ refl (_, refl), (enters _ _ _ refl (_, refl), (enters _ _ _ refl (_, refl), tt))))

without_runs : MayRun (log_of without_batch 1) (start_of new_logs 1) (journal_of 1 stopped)
without_runs = (enters _ _ _ refl (refl, (_, refl)), (enters _ _ _ refl (_, refl), (enters _ _ _ refl (_, refl), (enters _ _ _ refl (_, refl), tt))))

pub stopped_is_legal : StoppedIsLegal
stopped_is_legal = (legal new_logs stopped with_batch (refl, refl, refl, refl, refl, refl, refl, refl) tt with_runs (false, inl refl) (true, inl refl) (tt, (tt, (tt, (tt, tt)))), legal new_logs stopped without_batch (refl, refl, refl, refl, refl, refl, refl, refl) tt without_runs (false, inl refl) (false, inl refl) (tt, (tt, (tt, (tt, tt)))))

found_runs : MayRun (log_of found_logs 1) (start_of new_logs 1) (journal_of 1 found)
found_runs = (enters _ _ _ refl (refl, (_, refl)), (enters _ _ _ refl (_, refl), (enters _ _ _ refl (_, refl), (enters _ _ _ refl (_, refl), (enters _ _ _ refl (refl, (true, (_, untouched, refl, refl))), (enters _ _ _ refl (_, refl), tt))))))

pub found_is_legal : FoundIsLegal
found_is_legal = legal new_logs found found_logs (refl, refl, refl, refl, refl, refl, refl, refl) tt found_runs (false, inl refl) (false, inl refl) (tt, (tt, (tt, (tt, (tt, (tt, tt))))))

lost_runs : MayRun (log_of lost_logs 1) (start_of new_logs 1) (journal_of 1 lost)
lost_runs = (enters _ _ _ refl (refl, (_, refl)), (enters _ _ _ refl (_, refl), (enters _ _ _ refl (_, refl), (enters _ _ _ refl (_, refl), (enters _ _ _ refl (refl, (false, (_, untouched, refl, refl))), (enters _ _ _ refl (_, refl), tt))))))

pub lost_is_legal : LostIsLegal
lost_is_legal = legal new_logs lost lost_logs (refl, refl, refl, refl, refl, refl, refl, refl) tt lost_runs (false, inl refl) (false, inl refl) (tt, (tt, (tt, (tt, (tt, (tt, tt))))))

-- there is no restart up to the stop, so nothing is asked of the logs
goes_to_found : (after : List (List LogRecord)) → GoesOn splits new_logs stopped after found found_logs
goes_to_found after =
    record {
      journals = only_two (λ n. IsPrefixOf (journal_of n stopped) (journal_of n found)) (_, refl) (_, refl);
      restarts = only_two (λ n. SameAtRestarts (run_after new_logs) (log_of after n) (log_of found_logs n) (journal_of n stopped)) tt (tt, (tt, (tt, (tt, tt))));
    }

goes_to_lost : (after : List (List LogRecord)) → GoesOn splits new_logs stopped after lost lost_logs
goes_to_lost after =
    record {
      journals = only_two (λ n. IsPrefixOf (journal_of n stopped) (journal_of n lost)) (_, refl) (_, refl);
      restarts = only_two (λ n. SameAtRestarts (run_after new_logs) (log_of after n) (log_of lost_logs n) (journal_of n stopped)) tt (tt, (tt, (tt, (tt, tt))));
    }

pub stopped_goes_on : StoppedGoesOn
stopped_goes_on = (goes_to_found with_batch, goes_to_found without_batch, goes_to_lost with_batch, goes_to_lost without_batch)

found_again : MayRun (log_of found_logs 1) (start_of new_logs 1) (journal_of 1 again)
found_again = (enters _ _ _ refl (refl, (_, refl)), (enters _ _ _ refl (_, refl), (enters _ _ _ refl (_, refl), (enters _ _ _ refl (_, refl), (enters _ _ _ refl (refl, (true, (_, untouched, refl, refl))), tt)))))

found_goes_on : GoesOn splits new_logs again found_logs found found_logs
found_goes_on =
    record {
      journals = only_two (λ n. IsPrefixOf (journal_of n again) (journal_of n found)) (_, refl) (_, refl);
      restarts = only_two (λ n. SameAtRestarts (run_after new_logs) (log_of found_logs n) (log_of found_logs n) (journal_of n again)) tt (tt, (tt, (tt, (tt, (refl, tt)))));
    }

lost_again : MayRun (log_of lost_logs 1) (start_of new_logs 1) (journal_of 1 again)
lost_again = (enters _ _ _ refl (refl, (_, refl)), (enters _ _ _ refl (_, refl), (enters _ _ _ refl (_, refl), (enters _ _ _ refl (_, refl), (enters _ _ _ refl (refl, (false, (_, untouched, refl, refl))), tt)))))

lost_goes_on : GoesOn splits new_logs again lost_logs lost lost_logs
lost_goes_on =
    record {
      journals = only_two (λ n. IsPrefixOf (journal_of n again) (journal_of n lost)) (_, refl) (_, refl);
      restarts = only_two (λ n. SameAtRestarts (run_after new_logs) (log_of lost_logs n) (log_of lost_logs n) (journal_of n again)) tt (tt, (tt, (tt, (tt, (refl, tt)))));
    }

-- the log with the batch is longer
apart : log_of found_logs 1 ≡ log_of lost_logs 1 → ⊥
apart e =
    let q : ◌≡◌ {A = ℕ} 4 2 = ap length e in
    absurd (omega (arith, q))

pub restart_chooses : RestartChooses
restart_chooses = (
  legal new_logs again found_logs (refl, refl, refl, refl, refl, refl, refl, refl) tt found_again (false, inl refl) (false, inl refl) (tt, (tt, (tt, (tt, (tt, tt))))),
  found_goes_on,
  λ g. apart (g.restarts 1 (lit< tt)).1.1.1.1.0,
  legal new_logs again lost_logs (refl, refl, refl, refl, refl, refl, refl, refl) tt lost_again (false, inl refl) (false, inl refl) (tt, (tt, (tt, (tt, (tt, tt))))),
  lost_goes_on,
  λ g. apart (sym (g.restarts 1 (lit< tt)).1.1.1.1.0),
)

pub lost_has_cause : LostHasCause
lost_has_cause = (refl, (_, inl refl, refl), refl, unlike)
