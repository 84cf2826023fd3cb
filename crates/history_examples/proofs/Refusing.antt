-- The history of the refused commit is legal, entry by entry, and its causes stand.
use Rattle.std.proofs.Common.{◌≡◌, refl, inl, inr, false, ℕ, [], Some, None}
use Rattle.clv_base.specs.declared.values.Value.TheVariants.{Num}
use Rattle.clv_base.specs.declared.names.TxId.{TxId}
use Rattle.clv_base.specs.declared.causes.AbortCause.TheVariants.{Died}
use Rattle.clv_base.specs.declared.ops.Op.TheVariants.{Put}
use Rattle.clv_base.specs.declared.state.Stage.TheVariants.{Closed}
use Rattle.clv_base.specs.Undo.{stage_of}
use Rattle.clv_base.specs.LogRules.{log_of}
use Rattle.clv_base.specs.Journals.{MayRun, start_of, journal_of}
use Rattle.history_examples.proofs.Entering.{only_two, enters, legal}
use Rattle.clv_base.specs.Restarts.{opened, untouched}
use Rattle.fate_laws.specs.Causes.{op_died}
use Rattle.settled_laws.specs.Deaths.{BeginsSettled}
use Rattle.history_examples.specs.Noted.{born, writer, new_logs}
use Rattle.history_examples.specs.Aborted.{younger, refused, refused_logs, RefusedIsLegal, RefusedHasCauses, met, met_logs, MetIsLegal, MetBeginsSettled}

home_runs : MayRun (log_of refused_logs 0) (start_of new_logs 0) (journal_of 0 refused)
home_runs = (enters _ _ _ refl (refl, (_, refl)), (enters _ _ _ refl (_, refl), (enters _ _ _ refl (refl, (_, refl)), (enters _ _ _ refl (_, refl), (enters _ _ _ refl (_, refl), (enters _ _ _ refl (_, refl), (enters _ _ _ refl (_, refl), (enters _ _ _ refl (_, refl), tt))))))))

part_runs : MayRun (log_of refused_logs 1) (start_of new_logs 1) (journal_of 1 refused)
part_runs = (enters _ _ _ refl (refl, (_, refl)), (enters _ _ _ refl (refl, (_, refl)), (enters _ _ _ refl (_, refl), (enters _ _ _ refl (refl, (false, (_, untouched, refl, refl))), (enters _ _ _ refl (_, refl), (enters _ _ _ refl (_, refl), tt))))))

pub refused_is_legal : RefusedIsLegal
refused_is_legal = record { opens = refl; legal = legal new_logs refused refused_logs (refl, refl, refl, refl, refl, refl, refl, refl) home_runs part_runs (false, inl refl) (false, inl refl) (tt, (tt, (tt, (tt, (tt, (tt, (tt, (tt, (tt, ((0, _, inr (inr (inr (inr (inr (inr (inr (inr (inl refl)))))))), refl, refl), (tt, ((1, _, inr (inr (inr (inr (inr (inr (inr (inr (inr (inr (inl refl)))))))))), refl, refl), (tt, (tt, tt)))))))))))))) }

pub refused_has_causes : RefusedHasCauses
refused_has_causes = (refl, (11, refl, refl), (_, inr (inr (inr (inr (inr (inr (inr (inr (inr (inr (inr (inl refl))))))))))), refl))

-- ---- its first three entries

met_home : MayRun (log_of met_logs 0) (start_of new_logs 0) (journal_of 0 met)
met_home = (enters _ _ _ refl (refl, (_, refl)), tt)

met_part : MayRun (log_of met_logs 1) (start_of new_logs 1) (journal_of 1 met)
met_part = (enters _ _ _ refl (refl, (_, refl)), (enters _ _ _ refl (refl, (_, refl)), tt))

pub met_is_legal : MetIsLegal
met_is_legal = record { opens = refl; legal = legal new_logs met met_logs (refl, refl, refl, refl, refl, refl, refl, refl) met_home met_part (false, inl refl) (false, inl refl) (tt, (tt, (tt, tt))) }

no_part : (n : ℕ) (tx : TxId) → stage_of (opened n 1 []).local tx ≡ Some Closed → ⊥
no_part n tx e = absurd cc

began_0 : BeginsSettled new_logs met 0
began_0 = record { front = []; behind = journal_of 0 met; journal_is = refl; state = start_of new_logs 0; runs = refl; decided = λ tx c. absurd (no_part 0 tx c); no_session = refl; goes_on = refl }

began_1 : BeginsSettled new_logs met 1
began_1 = record { front = []; behind = journal_of 1 met; journal_is = refl; state = start_of new_logs 1; runs = refl; decided = λ tx c. absurd (no_part 1 tx c); no_session = refl; goes_on = refl }

pub met_begins_settled : MetBeginsSettled
met_begins_settled = (only_two (BeginsSettled new_logs met) began_0 began_1, op_died younger (born 3 2) 1 None (Put 5 (Num 51)) (Died writer))
