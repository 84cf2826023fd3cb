-- The records at the places that a whole log says.
use Rattle.std.proofs.Common.{◌≡◌, cond, ◌||◌, List, [], ◌∷◌, length, Some, is_some, unwrap_or, refl, subst, ◌∙◌}
use Rattle.std.proofs.Math.Seq.{take-length}
use Rattle.clv_base.specs.declared.names.TxId.{TxId}
use Rattle.clv_base.specs.declared.logs.LogRecord.{LogRecord}
use Rattle.clv_base.specs.declared.logs.LogRecord.TheVariants.{Prepare, Commit}
use Rattle.clv_base.specs.Orders.{tx_same}
use Rattle.clv_base.specs.Logs.{is_prepare_of, is_commit_of, committed_in, prepared_in, prepare_of, prepare_lsn, commit_parts, commit_lsn}
use Rattle.clv_base.specs.LogRules.{listed_in}
use Rattle.log_analysis.specs.Lists.{home_at, listed_at, parts_at}
use Rattle.log_analysis.proofs.Laws.Places.{home_in, home_is, listed_is, parts_is}
use Rattle.law_base.proofs.Bools.{by_bool as both}
use Rattle.law_base.proofs.Logs.{place_is as is_some_place}

pub prepare_some : (log : List LogRecord) (t : TxId) → prepared_in log t ≡ is_some (prepare_of log t)
prepare_some [] t = refl
prepare_some (Prepare tx home predecessors ∷ log) t =
    both (λ b. b || prepared_in log t ≡ is_some (cond b (Some (home, predecessors)) (prepare_of log t))) (tx_same t tx) (λ _. refl) (λ _. prepare_some log t)
prepare_some (_ ∷ log) t = prepare_some log t

pub commit_some : (log : List LogRecord) (t : TxId) → committed_in log t ≡ is_some (commit_parts log t)
commit_some [] t = refl
commit_some (Commit tx parts ∷ log) t = both (λ b. b || committed_in log t ≡ is_some (cond b (Some parts) (commit_parts log t))) (tx_same t tx) (λ _. refl) (λ _. commit_some log t)
commit_some (_ ∷ log) t = commit_some log t

module _ (log : List LogRecord) (t : TxId) where
  pub commit_there : is_some (commit_lsn log t) ≡ committed_in log t
  commit_there = is_some_place 0 (is_commit_of t) log

  pub prepare_there : is_some (prepare_lsn log t) ≡ is_some (prepare_of log t)
  prepare_there = is_some_place 0 (is_prepare_of t) log ∙ prepare_some log t

  pub home_there : home_at log (prepare_lsn log t) ≡ home_in (prepare_of log t)
  home_there = subst (λ l. home_at log (prepare_lsn l t) ≡ home_in (prepare_of l t)) (take-length log) (home_is log (length log) t)

  pub listed_there : listed_at log (prepare_lsn log t) ≡ listed_in log t
  listed_there = subst (λ l. listed_at log (prepare_lsn l t) ≡ listed_in l t) (take-length log) (listed_is log (length log) t)

  pub parts_there : parts_at log (commit_lsn log t) ≡ unwrap_or (commit_parts log t) []
  parts_there = subst (λ l. parts_at log (commit_lsn l t) ≡ unwrap_or (commit_parts l t) []) (take-length log) (parts_is log (length log) t)
