-- What a restart restores of requests, voters and pairs.
use Rattle.std.proofs.Common.{◌≡◌, ℕ, ⊎_elim, Bool, true, false, cond, not, ◌&&◌, ◌||◌, List, [], ◌∷◌, ◌++◌, map, Option, Some, None, refl, sym, ap, subst, ◌∙◌}
use Rattle.std.specs.List.{filter}
use Rattle.std.proofs.lemmas.Bool.{both_ways, cond_both, cond-false, or_cases, and_parts, not-true, false_from_ne_true}
use Rattle.std.proofs.lemmas.List.Folds.{list_any-append}
use Rattle.clv_base.specs.declared.names.TxId.{TxId}
use Rattle.clv_base.specs.declared.logs.LogRecord.{LogRecord}
use Rattle.clv_base.specs.declared.logs.LogRecord.TheVariants.{Update, Clr, Prepare, Commit, Abort, End, Restart, Add, Unadd, Forgotten, Check}
use Rattle.clv_base.specs.declared.state.Request.{Request}
use Rattle.clv_base.specs.declared.state.Voter.{Voter}
use Rattle.clv_base.specs.Orders.{Table, tx_same, tx_in, tx_get, tx_put}
use Rattle.clv_base.specs.Logs.{committed_in, ended_in, commit_parts, prepare_of}
use Rattle.clv_base.specs.LogRules.{listed_in}
use Rattle.clv_base.specs.Participant.{restored_voter, restored_voters}
use Rattle.clv_base.specs.Coordinator.{restored_request, restored_requests}
use Rattle.clv_base.specs.Restarts.{home_by, homes_of, pairs_of_listed, restored_pairs, unended_with, unended_in}
use Rattle.clv_base.proofs.SameNames.{or_left, or_right, tx_true, tx_eq, tx_flip}
use Rattle.law_base.proofs.Tables.{is_pair, get_put}
use Rattle.law_base.proofs.Sets.{filter_in, in_filter}
use Rattle.law_base.proofs.Names.{own_pairs}
use Rattle.clv_base.proofs.Folding.{or_left as or_false_left, or_right as or_false_right}

-- ---- what a restored shard asks and votes

pub requests_none : (rs : Table (List ℕ)) (t : TxId) → tx_get t rs ≡ None → tx_get t (restored_requests rs) ≡ None
requests_none [] t e = refl
requests_none (r ∷ rs) t e = at (tx_same t r.0) e (requests_none rs t)
  where
    at : (b : Bool) → cond b (Some r.1) (tx_get t rs) ≡ None → (tx_get t rs ≡ None → tx_get t (restored_requests rs) ≡ None) → cond b (Some (restored_request r.1)) (tx_get t (restored_requests rs)) ≡ None
    at true f k = absurd cc
    at false f k = k f

unended_case : (log : List LogRecord) (tx t : TxId) (parts : List ℕ) (rs : Table (List ℕ)) → tx_same t tx ≡ false → tx_get t rs ≡ None → tx_get t (unended_with log tx parts rs) ≡ None
unended_case log tx t [] rs ne e = e
unended_case log tx t (p ∷ ps) rs ne e =
    cond_both (ended_in log tx) rs (tx_put tx (p ∷ ps) rs) (λ l. tx_get t l ≡ None) (λ f. e) (λ f. get_put tx t (p ∷ ps) rs ∙ cond-false (tx_same t tx) (Some (p ∷ ps)) (tx_get t rs) ne ∙ e)

pub unended_none : (log rs : List LogRecord) (t : TxId) → committed_in rs t ≡ false → tx_get t (unended_in log rs) ≡ None
unended_none log [] t e = refl
unended_none log (Commit tx parts ∷ rs) t e = unended_case log tx t parts (unended_in log rs) (or_false_left _ _ e) (unended_none log rs t (or_false_right (tx_same t tx) _ e))
unended_none log (Update tx k b a ∷ rs) t e = unended_none log rs t e
unended_none log (Clr tx u k a ∷ rs) t e = unended_none log rs t e
unended_none log (Prepare tx home ps ∷ rs) t e = unended_none log rs t e
unended_none log (Abort tx ∷ rs) t e = unended_none log rs t e
unended_none log (End tx ∷ rs) t e = unended_none log rs t e
unended_none log (Restart run epoch ∷ rs) t e = unended_none log rs t e
unended_none log (Add tx k by ∷ rs) t e = unended_none log rs t e
unended_none log (Unadd tx u k by ∷ rs) t e = unended_none log rs t e
unended_none log (Forgotten ∷ rs) t e = unended_none log rs t e
unended_none log (Check run' epoch' upto base ∷ rs) t e = unended_none log rs t e

pub voter_is : (log : List LogRecord) (ts : List TxId) (t : TxId) (v : Voter) → tx_get t (restored_voters (homes_of log ts)) ≡ Some v → (tx_in t ts ≡ true) × (v.vote ≡ None)
voter_is log [] t v e = absurd cc
voter_is log (x ∷ xs) t v e = at (tx_same t x) refl e (voter_is log xs t v)
  where
    same_voter : (a b : Voter) → Some a ≡ Some b → a ≡ b
    same_voter a b f = cc

    at : (b : Bool) → tx_same t x ≡ b → cond b (Some (restored_voter (home_by (prepare_of log x)))) (tx_get t (restored_voters (homes_of log xs))) ≡ Some v → (tx_get t (restored_voters (homes_of log xs)) ≡ Some v → (tx_in t xs ≡ true) × (v.vote ≡ None)) → (tx_in t (x ∷ xs) ≡ true) × (v.vote ≡ None)
    at true f g k = (or_left _ _ (tx_flip t x f), ap (λ z. z.vote) (sym (same_voter (restored_voter (home_by (prepare_of log x))) v g)))
    at false f g k = let r = k g in (or_right (tx_same x t) _ r.0, r.1)

-- ---- the pairs

pub pair_append : (xs ys : List (TxId × TxId)) (t p : TxId) → is_pair (xs ++ ys) t p ≡ (is_pair xs t p || is_pair ys t p)
pair_append xs ys t p = list_any-append (λ q. tx_same t q.0 && tx_same p q.1) xs ys

pairs_own : (tx t p : TxId) (ps : List TxId) → is_pair (map (λ q. (tx, q)) ps) t p ≡ true → t ≡ tx
pairs_own tx t p [] e = absurd (both_ways false refl e)
pairs_own tx t p (q ∷ qs) e = ⊎_elim (λ h. tx_true t tx (and_parts (tx_same t tx) (tx_same p q) h).0) (λ h. pairs_own tx t p qs h) (or_cases (tx_same t tx && tx_same p q) (is_pair (map (λ q. (tx, q)) qs) t p) e)

listed_pair : (log : List LogRecord) (tx t p : TxId) (o : Option (ℕ × List TxId)) → tx_same t tx ≡ true → tx_in p (elim o [ Some x ↦ x.1 | None ↦ [] ]) ≡ true → committed_in log p ≡ false → is_pair (pairs_of_listed log tx o) t p ≡ true
listed_pair log tx t p None e i c = absurd (both_ways false refl i)
listed_pair log tx t p (Some x) e i c = own_pairs tx t p (filter (λ q. not (committed_in log q)) x.1) e (filter_in (λ q. not (committed_in log q)) p x.1 i (ap not c))

pair_listed : (log : List LogRecord) (tx t p : TxId) (o : Option (ℕ × List TxId)) → is_pair (pairs_of_listed log tx o) t p ≡ true → t ≡ tx
pair_listed log tx t p None e = absurd (both_ways false refl e)
pair_listed log tx t p (Some x) e = pairs_own tx t p (filter (λ q. not (committed_in log q)) x.1) e

pub pair_there : (log : List LogRecord) (ts : List TxId) (t p : TxId) → tx_in t ts ≡ true → tx_in p (listed_in log t) ≡ true → committed_in log p ≡ false → is_pair (restored_pairs log ts) t p ≡ true
pair_there log [] t p i l c = absurd (both_ways false refl i)
pair_there log (x ∷ xs) t p i l c =
    pair_append (pairs_of_listed log x (prepare_of log x)) (restored_pairs log xs) t p
    ∙ ⊎_elim (λ h. let same : x ≡ t = tx_true x t h in or_left _ _ (listed_pair log x t p (prepare_of log x) (tx_flip x t h) (subst (λ z. tx_in p (listed_in log z) ≡ true) (sym same) l) c))
    (λ h. or_right (is_pair (pairs_of_listed log x (prepare_of log x)) t p) _ (pair_there log xs t p h l c)) (or_cases (tx_same x t) (tx_in t xs) i)

pub pair_of : (log : List LogRecord) (ts : List TxId) (t p : TxId) → is_pair (restored_pairs log ts) t p ≡ true → tx_in t ts ≡ true
pair_of log [] t p e = absurd (both_ways false refl e)
pair_of log (x ∷ xs) t p e =
    ⊎_elim (λ h. or_left _ _ (tx_eq x t (sym (pair_listed log x t p (prepare_of log x) h)))) (λ h. or_right (tx_same x t) _ (pair_of log xs t p h))
    (or_cases (is_pair (pairs_of_listed log x (prepare_of log x)) t p) (is_pair (restored_pairs log xs) t p) (sym (pair_append (pairs_of_listed log x (prepare_of log x)) (restored_pairs log xs) t p) ∙ e))

-- a restored request is that of a COMMIT
restored_case : (t : TxId) (r : TxId × List ℕ) (rs : Table (List ℕ)) (q : Request) (b : Bool) → cond b (Some (restored_request r.1)) (tx_get t (restored_requests rs)) ≡ Some q → (tx_get t (restored_requests rs) ≡ Some q → (ps : List ℕ) × (tx_get t rs ≡ Some ps) × (q ≡ restored_request ps))
    → (ps : List ℕ) × (cond b (Some r.1) (tx_get t rs) ≡ Some ps) × (q ≡ restored_request ps)
restored_case t r rs q true e k = (r.1, refl, sym (same (restored_request r.1) q e))
  where
    same : (x y : Request) → Some x ≡ Some y → x ≡ y
    same x y e = cc
restored_case t r rs q false e k = k e

pub request_from : (t : TxId) (rs : Table (List ℕ)) (q : Request) → tx_get t (restored_requests rs) ≡ Some q → (ps : List ℕ) × (tx_get t rs ≡ Some ps) × (q ≡ restored_request ps)
request_from t [] q e = absurd cc
request_from t (r ∷ rs) q e = restored_case t r rs q (tx_same t r.0) e (request_from t rs q)

-- no transaction has two COMMITs
abbrev pub OneCommit : List LogRecord → Type 0
OneCommit [] = Unit {0}
OneCommit (Commit tx parts ∷ rs) = (committed_in rs tx ≡ false) × OneCommit rs
OneCommit (_ ∷ rs) = OneCommit rs

abbrev Unended : List LogRecord → List LogRecord → TxId → List ℕ → Type 0
Unended log rs t ps = (commit_parts rs t ≡ Some ps) × (ended_in log t ≡ false)

unended_later : (log : List LogRecord) (tx t : TxId) (parts ps : List ℕ) (rs : List LogRecord) → committed_in rs tx ≡ false → tx_get t (unended_in log rs) ≡ Some ps → (tx_get t (unended_in log rs) ≡ Some ps → Unended log rs t ps) → Unended log (Commit tx parts ∷ rs) t ps
unended_later log tx t parts ps rs one e k =
    let r = k e in
    (cond-false (tx_same t tx) (Some parts) (commit_parts rs t) (false_from_ne_true _ (λ s. none (sym (unended_none log rs t (ap (committed_in rs) (tx_true t tx s) ∙ one)) ∙ e))) ∙ r.0, r.1)
  where
    none : ◌≡◌ {A = Option (List ℕ)} None (Some ps) → ⊥
    none e = absurd cc

unended_put : (log : List LogRecord) (tx t : TxId) (p : ℕ) (qs ps : List ℕ) (rs : List LogRecord) (b : Bool) → tx_same t tx ≡ b → ended_in log tx ≡ false → cond b (Some (p ∷ qs)) (tx_get t (unended_in log rs)) ≡ Some ps → (tx_get t (unended_in log rs) ≡ Some ps → Unended log rs t ps)
    → (cond b (Some (p ∷ qs)) (commit_parts rs t) ≡ Some ps) × (ended_in log t ≡ false)
unended_put log tx t p qs ps rs true s n e k = (e, ap (ended_in log) (tx_true t tx s) ∙ n)
unended_put log tx t p qs ps rs false s n e k = k e

unended_commit : (log : List LogRecord) (tx t : TxId) (parts ps : List ℕ) (rs : List LogRecord) → committed_in rs tx ≡ false → tx_get t (unended_with log tx parts (unended_in log rs)) ≡ Some ps → (tx_get t (unended_in log rs) ≡ Some ps → Unended log rs t ps) → Unended log (Commit tx parts ∷ rs) t ps
unended_commit log tx t [] ps rs one e k = unended_later log tx t [] ps rs one e k
unended_commit log tx t (p ∷ qs) ps rs one e k = at (ended_in log tx) refl e
  where
    at : (b : Bool) → ended_in log tx ≡ b → tx_get t (cond b (unended_in log rs) (tx_put tx (p ∷ qs) (unended_in log rs))) ≡ Some ps → Unended log (Commit tx (p ∷ qs) ∷ rs) t ps
    at true n e = unended_later log tx t (p ∷ qs) ps rs one e k
    at false n e = unended_put log tx t p qs ps rs (tx_same t tx) refl n (sym (get_put tx t (p ∷ qs) (unended_in log rs)) ∙ e) k

pub unended_parts : (log rs : List LogRecord) (t : TxId) (ps : List ℕ) → OneCommit rs → tx_get t (unended_in log rs) ≡ Some ps → (commit_parts rs t ≡ Some ps) × (ended_in log t ≡ false)
unended_parts log [] t ps o e = absurd cc
unended_parts log (Commit tx parts ∷ rs) t ps o e = unended_commit log tx t parts ps rs o.0 e (unended_parts log rs t ps o.1)
unended_parts log (Update tx k b a ∷ rs) t ps o e = unended_parts log rs t ps o e
unended_parts log (Clr tx u k a ∷ rs) t ps o e = unended_parts log rs t ps o e
unended_parts log (Prepare tx home qs ∷ rs) t ps o e = unended_parts log rs t ps o e
unended_parts log (Abort tx ∷ rs) t ps o e = unended_parts log rs t ps o e
unended_parts log (End tx ∷ rs) t ps o e = unended_parts log rs t ps o e
unended_parts log (Restart run epoch ∷ rs) t ps o e = unended_parts log rs t ps o e
unended_parts log (Add tx k by ∷ rs) t ps o e = unended_parts log rs t ps o e
unended_parts log (Unadd tx u k by ∷ rs) t ps o e = unended_parts log rs t ps o e
unended_parts log (Forgotten ∷ rs) t ps o e = unended_parts log rs t ps o e
unended_parts log (Check run' epoch' upto base ∷ rs) t ps o e = unended_parts log rs t ps o e

-- ---- whom a restored pair names

listed_in_pairs : (log : List LogRecord) (tx t p : TxId) (o : Option (ℕ × List TxId)) → is_pair (pairs_of_listed log tx o) t p ≡ true → (t ≡ tx) × (tx_in p (elim o [ Some x ↦ x.1 | None ↦ [] ]) ≡ true) × (committed_in log p ≡ false)
listed_in_pairs log tx t p None e = absurd (both_ways false refl e)
listed_in_pairs log tx t p (Some x) e =
    let m = mapped (filter (λ q. not (committed_in log q)) x.1) e in
    let f = in_filter (λ q. not (committed_in log q)) p x.1 m.1 in
    (m.0, f.0, not-true _ f.1)
  where
    mapped : (ps : List TxId) → is_pair (map (λ q. (tx, q)) ps) t p ≡ true → (t ≡ tx) × (tx_in p ps ≡ true)
    mapped [] e = absurd (both_ways false refl e)
    mapped (q ∷ qs) e = ⊎_elim (λ h. let a = and_parts (tx_same t tx) (tx_same p q) h in (tx_true t tx a.0, or_left _ _ (tx_flip p q a.1))) (λ h. let r = mapped qs h in (r.0, or_right (tx_same q p) _ r.1))
        (or_cases (tx_same t tx && tx_same p q) (is_pair (map (λ q. (tx, q)) qs) t p) e)

pub pair_lists : (log : List LogRecord) (ts : List TxId) (t p : TxId) → is_pair (restored_pairs log ts) t p ≡ true → (tx_in t ts ≡ true) × (tx_in p (listed_in log t) ≡ true) × (committed_in log p ≡ false)
pair_lists log [] t p e = absurd (both_ways false refl e)
pair_lists log (x ∷ xs) t p e =
    ⊎_elim
    (λ h. let r = listed_in_pairs log x t p (prepare_of log x) h in (or_left _ _ (tx_eq x t (sym r.0)), subst (λ z. tx_in p (listed_in log z) ≡ true) (sym r.0) r.1, r.2))
    (λ h. let r = pair_lists log xs t p h in (or_right (tx_same x t) _ r.0, r.1, r.2))
    (or_cases (is_pair (pairs_of_listed log x (prepare_of log x)) t p) (is_pair (restored_pairs log xs) t p) (sym (pair_append (pairs_of_listed log x (prepare_of log x)) (restored_pairs log xs) t p) ∙ e))
