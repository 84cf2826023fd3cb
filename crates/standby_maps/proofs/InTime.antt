-- A COMMIT at or before the cut has COMMITs of those that pass alone before it.
use Rattle.std.proofs.Common.{◌≡◌, ℕ, zero, suc, ◌+◌, ◌<◌, ◌≤◌, arith, Bool, true, false, cond, not, ◌&&◌, nat_le, List, [], ◌∷◌, length, Option, Some, None, is_some, unwrap_or, refl, sym, ap, subst, ◌∙◌}
use Rattle.std.specs.Prelude.{slice_get}
use Rattle.std.specs.List.{list_all}
use Rattle.std.proofs.lemmas.Bool.{both_ways, le-leb, lt-leb}
use Rattle.clv_base.specs.declared.names.TxId.{TxId}
use Rattle.clv_base.specs.declared.logs.LogRecord.{LogRecord}
use Rattle.clv_base.specs.declared.logs.LogRecord.TheVariants.{Update, Clr, Prepare, Commit, Abort, End, Restart, Add, Unadd, Forgotten, Check}
use Rattle.clv_base.specs.Orders.{tx_same}
use Rattle.clv_base.specs.Logs.{is_commit_of, place_from, committed_in, commit_parts, prepare_of}
use Rattle.clv_base.specs.LogRules.{log_of, home_is}
use Rattle.log_analysis.proofs.Laws.Whole.{commit_some}
use Rattle.standby_base.specs.Standby.{whole_with, commits_before}
use Rattle.standby_maps.specs.Cuts.{commits_another, cut_from, cut_of, cuts_of, is_in_time}

-- ---- one log

a_place_on : (n m : ℕ) → suc n + m ≡ n + suc m
a_place_on n m = omega arith

late : (n : ℕ) (f : LogRecord → Bool) (log : List LogRecord) → n ≤ unwrap_or (place_from n f log) (n + length log)
late n f [] = omega arith
late n f (r ∷ rs) = at (f r) (late (suc n) f rs)
  where
    at : (b : Bool) → suc n ≤ unwrap_or (place_from (suc n) f rs) (suc n + length rs) → n ≤ unwrap_or (cond b (Some n) (place_from (suc n) f rs)) (n + length (r ∷ rs))
    at true k = omega arith
    at false k = subst (λ d. n ≤ unwrap_or (place_from (suc n) f rs) d) (a_place_on n (length rs)) (omega (arith, k))

cut_late : (n : ℕ) (keep : TxId → Bool) (log : List LogRecord) → n ≤ cut_from n keep log
cut_late n keep [] = omega arith
cut_late n keep (r ∷ rs) = at (commits_another keep r) (cut_late (suc n) keep rs)
  where
    at : (b : Bool) → suc n ≤ cut_from (suc n) keep rs → n ≤ cond b n (cut_from (suc n) keep rs)
    at true k = omega arith
    at false k = omega (arith, k)

abbrev InTime : ℕ → (TxId → Bool) → TxId → List LogRecord → Type 0
InTime n keep tx log = nat_le (unwrap_or (place_from n (is_commit_of tx) log) (n + length log)) (cut_from n keep log) ≡ list_all keep (commits_before tx log)

-- a record that is no COMMIT
passed : (n : ℕ) (keep : TxId → Bool) (tx : TxId) (rs : List LogRecord) → InTime (suc n) keep tx rs
    → nat_le (unwrap_or (place_from (suc n) (is_commit_of tx) rs) (n + suc (length rs))) (cut_from (suc n) keep rs) ≡ list_all keep (commits_before tx rs)
passed n keep tx rs k = subst (λ d. nat_le (unwrap_or (place_from (suc n) (is_commit_of tx) rs) d) (cut_from (suc n) keep rs) ≡ list_all keep (commits_before tx rs)) (a_place_on n (length rs)) k

in_time_from : (n : ℕ) (keep : TxId → Bool) (tx : TxId) (log : List LogRecord) → InTime n keep tx log
in_time_from n keep tx [] = le-leb (n + 0) n (omega arith)
in_time_from n keep tx (Commit t ps ∷ rs) = at (tx_same tx t) (keep t) refl (in_time_from (suc n) keep tx rs)
  where
    at : (b d : Bool) → keep t ≡ d → InTime (suc n) keep tx rs
        → nat_le (unwrap_or (cond b (Some n) (place_from (suc n) (is_commit_of tx) rs)) (n + suc (length rs))) (cond (not d) n (cut_from (suc n) keep rs)) ≡ list_all keep (cond b [] (t ∷ commits_before tx rs))
    at true true e k = let l = cut_late (suc n) keep rs in le-leb n (cut_from (suc n) keep rs) (omega (arith, l))
    at true false e k = le-leb n n (omega arith)
    at false true e k = passed n keep tx rs k ∙ sym (ap (λ c. c && list_all keep (commits_before tx rs)) e)
    at false false e k =
        let l = late (suc n) (is_commit_of tx) rs in
        lt-leb (unwrap_or (place_from (suc n) (is_commit_of tx) rs) (n + suc (length rs))) n
        (subst (λ d. n < unwrap_or (place_from (suc n) (is_commit_of tx) rs) d) (a_place_on n (length rs)) (omega (arith, l)))
        ∙ sym (ap (λ c. c && list_all keep (commits_before tx rs)) e)
in_time_from n keep tx (Update t a b d ∷ rs) = passed n keep tx rs (in_time_from (suc n) keep tx rs)
in_time_from n keep tx (Clr t a b d ∷ rs) = passed n keep tx rs (in_time_from (suc n) keep tx rs)
in_time_from n keep tx (Prepare t a b ∷ rs) = passed n keep tx rs (in_time_from (suc n) keep tx rs)
in_time_from n keep tx (Abort t ∷ rs) = passed n keep tx rs (in_time_from (suc n) keep tx rs)
in_time_from n keep tx (End t ∷ rs) = passed n keep tx rs (in_time_from (suc n) keep tx rs)
in_time_from n keep tx (Restart run epoch ∷ rs) = passed n keep tx rs (in_time_from (suc n) keep tx rs)
in_time_from n keep tx (Add t a by ∷ rs) = passed n keep tx rs (in_time_from (suc n) keep tx rs)
in_time_from n keep tx (Unadd t a b by ∷ rs) = passed n keep tx rs (in_time_from (suc n) keep tx rs)
in_time_from n keep tx (Forgotten ∷ rs) = passed n keep tx rs (in_time_from (suc n) keep tx rs)
in_time_from n keep tx (Check run epoch upto base ∷ rs) = passed n keep tx rs (in_time_from (suc n) keep tx rs)

pub in_time_is : (keep : TxId → Bool) (tx : TxId) (log : List LogRecord) → is_in_time (cut_of keep log) tx log ≡ list_all keep (commits_before tx log)
in_time_is keep tx log =
    subst (λ d. nat_le (unwrap_or (place_from 0 (is_commit_of tx) log) d) (cut_from 0 keep log) ≡ list_all keep (commits_before tx log)) (omega arith) (in_time_from 0 keep tx log)

-- ---- all logs

pub cut_there : (keep : TxId → Bool) (logs : List (List LogRecord)) (n : ℕ) (log : List LogRecord) → slice_get logs n ≡ Some log → slice_get (cuts_of keep logs) n ≡ Some (cut_of keep log)
cut_there keep [] n log e = absurd cc
cut_there keep (l ∷ ls) zero log e = ap (λ o. elim o [ Some x ↦ Some (cut_of keep x) | None ↦ None ]) e
cut_there keep (l ∷ ls) (suc n) log e = cut_there keep ls n log e

pub there_in_time : (keep : TxId → Bool) (logs : List (List LogRecord)) (cuts : List ℕ) (n cut : ℕ) (log : List LogRecord) (tx : TxId) → cuts ≡ cuts_of keep logs → slice_get logs n ≡ Some log → slice_get cuts n ≡ Some cut
    → is_in_time cut tx log ≡ list_all keep (commits_before tx (log_of logs n))
there_in_time keep logs cuts n cut log tx made e f =
    let same : cut ≡ cut_of keep log = some_same (sym f ∙ ap (λ c. slice_get c n) made ∙ cut_there keep logs n log e) in
    ap (λ c. is_in_time c tx log) same ∙ in_time_is keep tx log ∙ sym (ap (λ o. list_all keep (commits_before tx (elim o [ Some log ↦ log | None ↦ [] ]))) e)
  where
    some_same : {a b : ℕ} → Some a ≡ Some b → a ≡ b
    some_same h = cc

-- ---- who is whole

module _ (streams : List (List LogRecord)) (tx : TxId) (n : ℕ) (log : List LogRecord) where
  some_parts : (o : Option (List ℕ)) → is_some o ≡ true → (parts : List ℕ) → parts ≡ unwrap_or o []
      → (home_is n (prepare_of log tx) && list_all (λ s. committed_in (log_of streams s) tx) parts) ≡ is_some (whole_with streams tx n log o)
  some_parts None e parts p = absurd (both_ways false refl e)
  some_parts (Some ps) e parts p = ap (λ l. home_is n (prepare_of log tx) && list_all (λ s. committed_in (log_of streams s) tx) l) p ∙ at (home_is n (prepare_of log tx) && list_all (λ s. committed_in (log_of streams s) tx) ps)
    where
      at : (b : Bool) → b ≡ is_some (cond {A = Option (List ℕ)} b (Some (n ∷ ps)) None)
      at true = refl
      at false = refl

  pub whole_then : (a : Bool) (parts : List ℕ) → committed_in log tx ≡ true → parts ≡ unwrap_or (commit_parts log tx) [] → a ≡ (home_is n (prepare_of log tx) && list_all (λ s. committed_in (log_of streams s) tx) parts)
      → a ≡ is_some (whole_with streams tx n log (commit_parts log tx))
  whole_then a parts c p e = e ∙ some_parts (commit_parts log tx) (sym (commit_some log tx) ∙ c) parts p

  no_parts : (o : Option (List ℕ)) → is_some o ≡ false → false ≡ is_some (whole_with streams tx n log o)
  no_parts None e = refl
  no_parts (Some ps) e = absurd (both_ways _ e refl)

  pub whole_else : committed_in log tx ≡ false → false ≡ is_some (whole_with streams tx n log (commit_parts log tx))
  whole_else c = no_parts (commit_parts log tx) (sym (commit_some log tx) ∙ c)
