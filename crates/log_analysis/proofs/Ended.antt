-- The COMMITs with parts and no END by a table of a log's facts are those of the log.
use Rattle.std.proofs.Common.{◌≡◌, ℕ, cond, not, ◌&&◌, List, [], ◌∷◌, refl, ap, ◌∙◌}
use Rattle.clv_base.specs.declared.names.TxId.{TxId}
use Rattle.clv_base.specs.declared.logs.LogRecord.{LogRecord}
use Rattle.clv_base.specs.declared.logs.LogRecord.TheVariants.{Update, Clr, Prepare, Commit, Abort, End, Restart, Add, Unadd, Forgotten, Check}
use Rattle.clv_base.specs.Orders.{Table, tx_put}
use Rattle.clv_base.specs.Logs.{ended_in}
use Rattle.clv_base.specs.LogRules.{some_parts}
use Rattle.clv_base.specs.Restarts.{unended_with, unended_in}
use Rattle.log_analysis.specs.declared.facts.TxFacts.{TxFacts}
use Rattle.log_analysis.specs.Facts.{known, Knows}
use Rattle.log_analysis.specs.Unended.{commits_by}
use Rattle.law_base.proofs.Bools.{by_bool as both}

module _ (m : Table TxFacts) (log : List LogRecord) (knows : Knows m log) where
  with_is : (tx : TxId) (parts : List ℕ) (rest : Table (List ℕ)) → cond (some_parts parts && not (known m tx).is_ended) (tx_put tx parts rest) rest ≡ unended_with log tx parts rest
  with_is tx [] rest = refl
  with_is tx (p ∷ ps) rest =
      ap (λ f. cond (not f.is_ended) (tx_put tx (p ∷ ps) rest) rest) (knows tx)
      ∙ both (λ b. cond (not b) (tx_put tx (p ∷ ps) rest) rest ≡ cond b rest (tx_put tx (p ∷ ps) rest)) (ended_in log tx) (λ _. refl) (λ _. refl)

  commits_are : (rs : List LogRecord) → commits_by m rs ≡ unended_in log rs
  commits_are [] = refl
  commits_are (Commit tx parts ∷ rs) =
      ap (λ rest. cond (some_parts parts && not (known m tx).is_ended) (tx_put tx parts rest) rest) (commits_are rs) ∙ with_is tx parts (unended_in log rs)
  commits_are (Update tx key before after ∷ rs) = commits_are rs
  commits_are (Clr tx undo_next key after ∷ rs) = commits_are rs
  commits_are (Prepare tx home listed ∷ rs) = commits_are rs
  commits_are (Abort tx ∷ rs) = commits_are rs
  commits_are (End tx ∷ rs) = commits_are rs
  commits_are (Restart run epoch ∷ rs) = commits_are rs
  commits_are (Add tx key by ∷ rs) = commits_are rs
  commits_are (Unadd tx undo_next key by ∷ rs) = commits_are rs
  commits_are (Forgotten ∷ rs) = commits_are rs
  commits_are (Check run' epoch' upto base ∷ rs) = commits_are rs

  pub unended_are : commits_by m log ≡ unended_in log log
  unended_are = commits_are log
