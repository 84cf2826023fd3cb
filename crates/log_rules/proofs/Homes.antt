-- A home is a shard whose log has the COMMIT and agrees with it.
use Rattle.std.proofs.Common.{◌≡◌, ℕ, Bool, true, false, ◌&&◌, ◌==◌, List, [], Option, Some, None, is_some, unwrap_or, refl, sym, ap, ◌∙◌}
use Rattle.clv_base.specs.declared.names.TxId.{TxId}
use Rattle.clv_base.specs.declared.logs.LogRecord.{LogRecord}
use Rattle.clv_base.specs.Logs.{committed_in, commit_parts, prepare_of, prepare_lsn}
use Rattle.clv_base.specs.LogRules.{home_is, agrees_at, is_home_of}
use Rattle.log_analysis.specs.declared.facts.TxFacts.{TxFacts}
use Rattle.log_analysis.specs.Facts.{facts_of}
use Rattle.log_analysis.specs.Lists.{home_at}
use Rattle.log_analysis.proofs.Laws.Places.{home_in}
use Rattle.log_analysis.proofs.Laws.Whole.{commit_some, home_there}

home_by : (logs : List (List LogRecord)) (tx : TxId) (h : ℕ) (log : List LogRecord) (o : Option (List ℕ))
    → is_some o && agrees_at logs tx h log (unwrap_or o []) ≡ elim o [ Some parts ↦ agrees_at logs tx h log parts | None ↦ false ]
home_by logs tx h log None = refl
home_by logs tx h log (Some parts) = refl

module _ (logs : List (List LogRecord)) (tx : TxId) (h : ℕ) (log : List LogRecord) where
  home_of_is : committed_in log tx && agrees_at logs tx h log (unwrap_or (commit_parts log tx) []) ≡ is_home_of logs tx h log
  home_of_is = ap (λ b. b && agrees_at logs tx h log (unwrap_or (commit_parts log tx) [])) (commit_some log tx) ∙ home_by logs tx h log (commit_parts log tx)

  pub home_then : (a : Bool) (parts : List ℕ) → committed_in log tx ≡ true → parts ≡ unwrap_or (commit_parts log tx) [] → a ≡ agrees_at logs tx h log parts → a ≡ is_home_of logs tx h log
  home_then a parts committed named agrees =
      agrees ∙ ap (agrees_at logs tx h log) named ∙ sym (ap (λ b. b && agrees_at logs tx h log (unwrap_or (commit_parts log tx) [])) committed) ∙ home_of_is

  pub home_else : committed_in log tx ≡ false → false ≡ is_home_of logs tx h log
  home_else none = sym (ap (λ b. b && agrees_at logs tx h log (unwrap_or (commit_parts log tx) [])) none) ∙ home_of_is

-- no home named, or one
pub none_allows : (h : ℕ) (o : Option (ℕ × List TxId)) → home_in o ≡ None → home_is h o ≡ true
none_allows h None e = refl
none_allows h (Some p) e = absurd cc

pub some_allows : (h n : ℕ) (o : Option (ℕ × List TxId)) → home_in o ≡ Some n → home_is h o ≡ (n == h)
some_allows h n None e = absurd cc
some_allows h n (Some p) e = let same : p.0 ≡ n = cc in ap (λ m. m == h) same

-- the home that a log's PREPARE names, read at the place that is known
pub home_read : (records log : List LogRecord) (t : TxId) (f : TxFacts) (o : Option ℕ) → o ≡ home_at records f.prepare → f ≡ facts_of log t → records ≡ log → o ≡ home_in (prepare_of log t)
home_read records log t f o read said same =
    read ∙ ap (λ g. home_at records g.prepare) said ∙ ap (λ l. home_at l (prepare_lsn log t)) same ∙ home_there log t
