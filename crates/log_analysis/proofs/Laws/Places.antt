-- The records at the places that a log says.
use Rattle.std.proofs.Common.{◌≡◌, ℕ, suc, Bool, cond, List, [], ◌∷◌, ◌++◌, length, take, drop, Option, Some, None, unwrap_or, refl, sym, ap, ◌∙◌, append_assoc, arith}
use Rattle.std.specs.Prelude.{slice_get}
use Rattle.std.specs.List.{find}
use Rattle.std.proofs.lemmas.List.{take-append-drop, length_push}
use Rattle.clv_base.specs.declared.names.TxId.{TxId}
use Rattle.clv_base.specs.declared.logs.LogRecord.{LogRecord}
use Rattle.clv_base.specs.declared.logs.LogRecord.TheVariants.{Prepare, Commit}
use Rattle.clv_base.specs.Orders.{tx_same}
use Rattle.clv_base.specs.Logs.{is_prepare_of, is_commit_of, place_from, prepare_of, prepare_lsn, commit_parts, commit_lsn}
use Rattle.clv_base.specs.LogRules.{listed_in}
use Rattle.log_analysis.specs.Lists.{record_at, home_by, listed_by, parts_by, home_at, listed_at, parts_at}
use Rattle.law_base.proofs.Bools.{by_bool as both}
use Rattle.law_base.proofs.Logs.{get_seam}

-- the record there is the first that passes
found_at : (test : LogRecord → Bool) (log front rest all : List LogRecord) (n : ℕ) → n ≡ length front → all ≡ front ++ (log ++ rest) → record_at all (place_from n test log) ≡ find test log
found_at test [] front rest all n at is = refl
found_at test (r ∷ log) front rest all n at is =
    both (λ b. record_at all (cond b (Some n) (place_from (suc n) test log)) ≡ cond b (Some r) (find test log)) (test r)
    (λ _. ap (λ l. slice_get l n) is ∙ ap (slice_get (front ++ (r ∷ (log ++ rest)))) at ∙ get_seam front r (log ++ rest))
    (λ _. found_at test log (front ++ r ∷ []) rest all (suc n) (omega (arith, length_push front r)) (is ∙ sym (append_assoc front (r ∷ []) (log ++ rest))))

pub record_found : (test : LogRecord → Bool) (records : List LogRecord) (n : ℕ) → record_at records (place_from 0 test (take n records)) ≡ find test (take n records)
record_found test records n = found_at test (take n records) [] (drop n records) records 0 refl (sym (take-append-drop n records))

-- ---- what it lists

abbrev pub home_in : Option (ℕ × List TxId) → Option ℕ
home_in None = None
home_in (Some p) = Some p.0

abbrev pub list_in : Option (ℕ × List TxId) → List TxId
list_in None = []
list_in (Some p) = p.1

home_found : (t : TxId) (log : List LogRecord) → home_by (find (is_prepare_of t) log) ≡ home_in (prepare_of log t)
home_found t [] = refl
home_found t (Prepare tx home predecessors ∷ log) = both (λ b. home_by (cond b (Some (Prepare tx home predecessors)) (find (is_prepare_of t) log)) ≡ home_in (cond b (Some (home, predecessors)) (prepare_of log t))) (tx_same t tx) (λ _. refl) (λ _. home_found t log)
home_found t (_ ∷ log) = home_found t log

list_found : (t : TxId) (log : List LogRecord) → listed_by (find (is_prepare_of t) log) ≡ list_in (prepare_of log t)
list_found t [] = refl
list_found t (Prepare tx home predecessors ∷ log) = both (λ b. listed_by (cond b (Some (Prepare tx home predecessors)) (find (is_prepare_of t) log)) ≡ list_in (cond b (Some (home, predecessors)) (prepare_of log t))) (tx_same t tx) (λ _. refl) (λ _. list_found t log)
list_found t (_ ∷ log) = list_found t log

parts_found : (t : TxId) (log : List LogRecord) → parts_by (find (is_commit_of t) log) ≡ unwrap_or (commit_parts log t) []
parts_found t [] = refl
parts_found t (Commit tx parts ∷ log) = both (λ b. parts_by (cond b (Some (Commit tx parts)) (find (is_commit_of t) log)) ≡ unwrap_or (cond b (Some parts) (commit_parts log t)) []) (tx_same t tx) (λ _. refl) (λ _. parts_found t log)
parts_found t (_ ∷ log) = parts_found t log

list_is : (o : Option (ℕ × List TxId)) → list_in o ≡ elim o [ Some p ↦ p.1 | None ↦ [] ]
list_is None = refl
list_is (Some p) = refl

-- of the first n records, read among all
module _ (records : List LogRecord) (n : ℕ) (t : TxId) where
  pub home_is : home_at records (prepare_lsn (take n records) t) ≡ home_in (prepare_of (take n records) t)
  home_is = ap home_by (record_found (is_prepare_of t) records n) ∙ home_found t (take n records)

  pub listed_is : listed_at records (prepare_lsn (take n records) t) ≡ listed_in (take n records) t
  listed_is = ap listed_by (record_found (is_prepare_of t) records n) ∙ list_found t (take n records) ∙ list_is (prepare_of (take n records) t)

  pub parts_is : parts_at records (commit_lsn (take n records) t) ≡ unwrap_or (commit_parts (take n records) t) []
  parts_is = ap parts_by (record_found (is_commit_of t) records n) ∙ parts_found t (take n records)
