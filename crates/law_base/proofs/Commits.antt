-- COMMITs of a log, and where they stand.
use Rattle.std.proofs.Common.{◌≡◌, ℕ, suc, ◌+◌, ◌≤◌, ◌<◌, ⊎_elim, Bool, true, false, cond, ◌||◌, List, [], ◌∷◌, ◌++◌, length, Option, Some, None, refl, sym, ap, subst, ◌∙◌, arith}
use Rattle.std.specs.List.{list_any}
use Rattle.std.proofs.lemmas.Bool.{both_ways, cond-true, or_cases, ltb-true, lt-ltb, or_from, or_parts, cond-false}
use Rattle.std.proofs.lemmas.List.Folds.{list_any-append}
use Rattle.clv_base.specs.declared.names.TxId.{TxId}
use Rattle.clv_base.specs.declared.logs.LogRecord.{LogRecord}
use Rattle.clv_base.specs.declared.logs.LogRecord.TheVariants.{Commit, Update, Clr, Prepare, Abort, End, Restart, Add, Unadd, Forgotten, Check}
use Rattle.clv_base.specs.Logs.{committed_in, is_commit_of, place_from, commit_lsn, is_below, commit_parts}
use Rattle.clv_base.specs.Orders.{tx_same}
use Rattle.clv_base.specs.OneShard.{closing}
use Rattle.clv_base.proofs.SameNames.{or_left, tx_self}

pub place_keeps : (n : ℕ) (test : LogRecord → Bool) (xs ys : List LogRecord) (k : ℕ) → place_from n test xs ≡ Some k → place_from n test (xs ++ ys) ≡ Some k
place_keeps n test [] ys k e = absurd cc
place_keeps n test (x ∷ xs) ys k e = at (test x) e (place_keeps (suc n) test xs ys k)
  where
    at : (b : Bool) → cond b (Some n) (place_from (suc n) test xs) ≡ Some k → (place_from (suc n) test xs ≡ Some k → place_from (suc n) test (xs ++ ys) ≡ Some k) → cond b (Some n) (place_from (suc n) test (xs ++ ys)) ≡ Some k
    at true e ih = e
    at false e ih = ih e

pub place_less : (n : ℕ) (test : LogRecord → Bool) (xs : List LogRecord) (k : ℕ) → place_from n test xs ≡ Some k → k < n + length xs
place_less n test [] k e = absurd cc
place_less n test (x ∷ xs) k e = at (test x) e (place_less (suc n) test xs k)
  where
    at : (b : Bool) → cond b (Some n) (place_from (suc n) test xs) ≡ Some k → (place_from (suc n) test xs ≡ Some k → k < suc n + length xs) → k < n + length (x ∷ xs)
    at true e ih = let s : n ≡ k = cc in omega arith
    at false e ih = let l = ih e in omega arith

pub place_some : (n : ℕ) (test : LogRecord → Bool) (xs : List LogRecord) → list_any test xs ≡ true → (k : ℕ) × (place_from n test xs ≡ Some k)
place_some n test [] e = absurd (both_ways false refl e)
place_some n test (x ∷ xs) e = at (test x) e (place_some (suc n) test xs)
  where
    at : (b : Bool) → (b || list_any test xs) ≡ true → (list_any test xs ≡ true → (k : ℕ) × (place_from (suc n) test xs ≡ Some k)) → (k : ℕ) × (cond b (Some n) (place_from (suc n) test xs) ≡ Some k)
    at true e ih = (n, refl)
    at false e ih = ih e

pub place_there : (n : ℕ) (test : LogRecord → Bool) (xs : List LogRecord) (k : ℕ) → place_from n test xs ≡ Some k → list_any test xs ≡ true
place_there n test [] k e = absurd cc
place_there n test (x ∷ xs) k e = at (test x) e (place_there (suc n) test xs k)
  where
    at : (b : Bool) → cond b (Some n) (place_from (suc n) test xs) ≡ Some k → (place_from (suc n) test xs ≡ Some k → list_any test xs ≡ true) → (b || list_any test xs) ≡ true
    at true e ih = refl
    at false e ih = ih e

pub place_new : (n : ℕ) (test : LogRecord → Bool) (xs : List LogRecord) (r : LogRecord) → list_any test xs ≡ false → test r ≡ true → place_from n test (xs ++ r ∷ []) ≡ Some (n + length xs)
place_new n test [] r none e = cond-true (test r) (Some n) None e ∙ ap Some (omega arith)
place_new n test (x ∷ xs) r none e = at (test x) none (place_new (suc n) test xs r)
  where
    at : (b : Bool) → (b || list_any test xs) ≡ false → (list_any test xs ≡ false → test r ≡ true → place_from (suc n) test (xs ++ r ∷ []) ≡ Some (suc n + length xs)) → cond b (Some n) (place_from (suc n) test (xs ++ r ∷ [])) ≡ Some (n + length (x ∷ xs))
    at true none ih = absurd (both_ways true none refl)
    at false none ih = ih none e ∙ ap Some (omega arith)

-- the first's COMMIT stands before the second's
abbrev pub CommitBefore : List LogRecord → TxId → TxId → Type 0
CommitBefore log p t = (n : ℕ) × (m : ℕ) × (commit_lsn log p ≡ Some n) × (commit_lsn log t ≡ Some m) × (n < m)

pub before_keeps : (log more : List LogRecord) (p t : TxId) → CommitBefore log p t → CommitBefore (log ++ more) p t
before_keeps log more p t (n, m, e, f, l) = (n, m, place_keeps 0 (is_commit_of p) log more n e, place_keeps 0 (is_commit_of t) log more m f, l)

pub before_first : (log : List LogRecord) (p t : TxId) → CommitBefore log p t → committed_in log p ≡ true
before_first log p t (n, m, e, f, l) = place_there 0 (is_commit_of p) log n e

pub before_second : (log : List LogRecord) (p t : TxId) → CommitBefore log p t → committed_in log t ≡ true
before_second log p t (n, m, e, f, l) = place_there 0 (is_commit_of t) log m f

pub before_new : (log : List LogRecord) (p t : TxId) (parts : List ℕ) → committed_in log p ≡ true → committed_in log t ≡ false → CommitBefore (log ++ Commit t parts ∷ []) p t
before_new log p t parts there new =
    let k = place_some 0 (is_commit_of p) log there in
    let l = place_less 0 (is_commit_of p) log k.0 k.1 in
    (k.0, 0 + length log, place_keeps 0 (is_commit_of p) log (Commit t parts ∷ []) k.0 k.1, place_new 0 (is_commit_of t) log (Commit t parts) new (tx_self t), l)

abbrev pub commit_durable : List LogRecord → ℕ → TxId → Bool
commit_durable log durable tx = is_below (commit_lsn log tx) durable

pub below_some : (o : Option ℕ) (d : ℕ) → is_below o d ≡ true → (n : ℕ) × (o ≡ Some n) × (n < d)
below_some None d e = absurd (both_ways false refl e)
below_some (Some n) d e = (n, refl, ltb-true n d e)

some_below : (o : Option ℕ) (n d : ℕ) → o ≡ Some n → n < d → is_below o d ≡ true
some_below o n d e l = subst (λ x. is_below x d ≡ true) (sym e) (lt-ltb n d l)

pub durable_parts : (log : List LogRecord) (d : ℕ) (tx : TxId) → commit_durable log d tx ≡ true → (n : ℕ) × (commit_lsn log tx ≡ Some n) × (n < d)
durable_parts log d tx e = below_some (commit_lsn log tx) d e

pub durable_from : (log : List LogRecord) (d : ℕ) (tx : TxId) (n : ℕ) → commit_lsn log tx ≡ Some n → n < d → commit_durable log d tx ≡ true
durable_from log d tx n e l = some_below (commit_lsn log tx) n d e l

pub durable_keeps : (log more : List LogRecord) (d e : ℕ) (tx : TxId) → d ≤ e → commit_durable log d tx ≡ true → commit_durable (log ++ more) e tx ≡ true
durable_keeps log more d e tx le h =
    let k = durable_parts log d tx h in
    let l = k.2 in
    durable_from (log ++ more) e tx k.0 (place_keeps 0 (is_commit_of tx) log more k.0 k.1) (omega arith)

pub durable_committed : (log : List LogRecord) (d : ℕ) (tx : TxId) → commit_durable log d tx ≡ true → committed_in log tx ≡ true
durable_committed log d tx h = let k = durable_parts log d tx h in place_there 0 (is_commit_of tx) log k.0 k.1

-- what stands before a durable COMMIT is durable
pub before_durable : (log : List LogRecord) (d : ℕ) (p t : TxId) → CommitBefore log p t → commit_durable log d t ≡ true → commit_durable log d p ≡ true
before_durable log d p t (n, m, e, f, l) h =
    let k = durable_parts log d t h in
    let lt = k.2 in
    let same : Some m ≡ Some k.0 = sym f ∙ k.1 in
    let ms : m ≡ k.0 = cc in
    durable_from log d p n e (omega arith)

pub committed_append : (log more : List LogRecord) (tx : TxId) → committed_in (log ++ more) tx ≡ (committed_in log tx || committed_in more tx)
committed_append log more tx = list_any-append (is_commit_of tx) log more

pub committed_keeps : (log more : List LogRecord) (tx : TxId) → committed_in log tx ≡ true → committed_in (log ++ more) tx ≡ true
committed_keeps log more tx e = committed_append log more tx ∙ or_left _ _ e

pub uncommitted_append : (log more : List LogRecord) (tx : TxId) → committed_in log tx ≡ false → committed_in more tx ≡ false → committed_in (log ++ more) tx ≡ false
uncommitted_append log more tx e f = committed_append log more tx ∙ or_from _ _ e f

pub committed_from : (log more : List LogRecord) (tx : TxId) → committed_in more tx ≡ false → committed_in (log ++ more) tx ≡ true → committed_in log tx ≡ true
committed_from log more tx none e = ⊎_elim (λ h. h) (λ h. absurd (both_ways _ none h)) (or_cases (committed_in log tx) (committed_in more tx) (sym (committed_append log more tx) ∙ e))

-- what no record passes has no place
pub no_place_from : (n : ℕ) (f : LogRecord → Bool) (rs : List LogRecord) → list_any f rs ≡ false → place_from n f rs ≡ None
no_place_from n f [] e = refl
no_place_from n f (r ∷ rs) e = let p = or_parts (f r) (list_any f rs) e in cond-false (f r) (Some n) (place_from (suc n) f rs) p.0 ∙ no_place_from (suc n) f rs p.1

-- the participants of a COMMIT stand in a longer log too
parts_case : (b : Bool) (x ps : List ℕ) (o p : Option (List ℕ)) → cond b (Some x) o ≡ Some ps → (o ≡ Some ps → p ≡ Some ps) → cond b (Some x) p ≡ Some ps
parts_case true x ps o p e k = e
parts_case false x ps o p e k = k e

pub parts_keep : (log more : List LogRecord) (t : TxId) (ps : List ℕ) → commit_parts log t ≡ Some ps → commit_parts (log ++ more) t ≡ Some ps
parts_keep [] more t ps e = absurd cc
parts_keep (Commit tx parts ∷ rs) more t ps e = parts_case (tx_same t tx) parts ps (commit_parts rs t) (commit_parts (rs ++ more) t) e (parts_keep rs more t ps)
parts_keep (Update tx k b a ∷ rs) more t ps e = parts_keep rs more t ps e
parts_keep (Clr tx u k a ∷ rs) more t ps e = parts_keep rs more t ps e
parts_keep (Prepare tx home qs ∷ rs) more t ps e = parts_keep rs more t ps e
parts_keep (Abort tx ∷ rs) more t ps e = parts_keep rs more t ps e
parts_keep (End tx ∷ rs) more t ps e = parts_keep rs more t ps e
parts_keep (Restart run epoch ∷ rs) more t ps e = parts_keep rs more t ps e
parts_keep (Add tx k by ∷ rs) more t ps e = parts_keep rs more t ps e
parts_keep (Unadd tx u k by ∷ rs) more t ps e = parts_keep rs more t ps e
parts_keep (Forgotten ∷ rs) more t ps e = parts_keep rs more t ps e
parts_keep (Check run' epoch' upto base ∷ rs) more t ps e = parts_keep rs more t ps e

pub durable_further : (log : List LogRecord) (d e : ℕ) (tx : TxId) → d ≤ e → commit_durable log d tx ≡ true → commit_durable log e tx ≡ true
durable_further log d e tx le h = let m = durable_parts log d tx h in let l = m.2 in durable_from log e tx m.0 m.1 (omega arith)

-- records that close one transaction commit no other
pub closing_commits : (b one : Bool) (tx : TxId) (home : ℕ) (us : List TxId) (x : TxId) → tx_same x tx ≡ false → committed_in (closing b one tx home us) x ≡ false
closing_commits true true tx home [] x o = or_from _ _ o refl
closing_commits true true tx home (u ∷ us) x o = refl
closing_commits true false tx home us x o = refl
closing_commits false one tx home us x o = refl
