-- ABORTs, CLRs, UNADDs and RESTARTs of those that are committed nowhere leave what logs stand for.
use Rattle.std.proofs.Common.{◌≡◌, ℕ, zero, suc, Bool, true, false, ◌||◌, List, [], ◌∷◌, ◌++◌, take, refl, ap, ◌∙◌}
use Rattle.std.specs.List.{AllByRecursion}
use Rattle.std.proofs.lemmas.List.Folds.{list_any-append}
use Rattle.clv_base.specs.declared.names.TxId.{TxId}
use Rattle.clv_base.specs.declared.logs.LogRecord.{LogRecord}
use Rattle.clv_base.specs.declared.logs.LogRecord.TheVariants.{Commit}
use Rattle.clv_base.specs.Logs.{is_commit_of, committed_in, committed_somewhere, fold_updates}
use Rattle.clv_base.specs.LogRules.{log_of}
use Rattle.clv_base.specs.Restarts.{restart_records}
use Rattle.cluster_runs.specs.Added.{BegunStandForTheSame}
use Rattle.law_base.proofs.Logs.{IsUndo, Spares, same_somewhere, same_stands, undo_passes_none as none_of, same_fold, restart_undoes, restart_spares}
use Rattle.headline_laws.proofs.Laws.{losers_are_lost}

-- ---- the records

taken : (P : LogRecord → Type 0) (n : ℕ) (rs : List LogRecord) → AllByRecursion P rs → AllByRecursion P (take n rs)
taken P zero rs a = tt
taken P (suc n) [] a = tt
taken P (suc n) (r ∷ rs) a = (a.0, taken P n rs a.1)

-- ---- one log

commits_none : (t : TxId) (more : List LogRecord) → AllByRecursion IsUndo more → committed_in more t ≡ false
commits_none t more all = none_of (is_commit_of t) more one all
  where
    one : (r : LogRecord) → IsUndo r → is_commit_of t r ≡ false
    one (Commit tx ps) u = absurd u
    one _ u = refl

same_committed : (log more : List LogRecord) (t : TxId) → AllByRecursion IsUndo more → committed_in (log ++ more) t ≡ committed_in log t
same_committed log more t all = list_any-append (is_commit_of t) log more ∙ ap (λ b. committed_in log t || b) (commits_none t more all) ∙ or_false (committed_in log t)
  where
    or_false : (b : Bool) → (b || false) ≡ b
    or_false true = refl
    or_false false = refl

-- ---- all logs

pub begun_stand : BegunStandForTheSame
begun_stand splits run founds logs may b =
    let keep = committed_somewhere founds in
    let more = λ (n written : ℕ). take written (restart_records n (log_of founds n) run 0) in
    let undoes : (n written : ℕ) → AllByRecursion IsUndo (more n written) = λ n written. taken IsUndo written _ (restart_undoes n (log_of founds n) run 0) in
    let spares : (n written : ℕ) → AllByRecursion (Spares keep) (more n written) =
    λ n written. taken (Spares keep) written _ (restart_spares keep n (log_of founds n) run 0 (λ t i. losers_are_lost splits founds n t may i)) in
    let same : (t : TxId) → committed_somewhere logs t ≡ committed_somewhere founds t = λ t. same_somewhere logs founds t b.count (λ n l. (let at = b.each n l in
    ap (λ rs. committed_in rs t) at.1 ∙ same_committed (log_of founds n) (more n at.0) t (undoes n at.0))) in
    same_stands (committed_somewhere logs) (committed_somewhere founds) logs founds [] b.count (λ n l m. (let at = b.each n l in
    ap (λ rs. fold_updates (committed_somewhere logs) rs m) at.1 ∙ same_fold (committed_somewhere logs) keep same (log_of founds n) (more n at.0) m (spares n at.0)))
