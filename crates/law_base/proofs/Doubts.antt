-- Which transactions are committed, aborted and in doubt in a log with one record more.
use Rattle.std.proofs.Common.{◌≡◌, ℕ, ◌+◌, Bool, true, false, cond, not, ◌&&◌, ◌||◌, List, [], ◌∷◌, ◌++◌, length, Option, ◌==◌, refl, ap, ◌∙◌}
use Rattle.std.specs.List.{list_any, list_all}
use Rattle.std.proofs.lemmas.List.Folds.{list_any-append}
use Rattle.std.proofs.lemmas.Bool.{both_ways}
use Rattle.std.proofs.Math.Bool.{or-false}
use Rattle.clv_base.specs.declared.values.Value.{Value as ValueType}
use Rattle.clv_base.specs.declared.names.TxId.{TxId}
use Rattle.clv_base.specs.declared.logs.LogRecord.{LogRecord}
use Rattle.clv_base.specs.declared.logs.LogRecord.TheVariants.{Update, Clr, Prepare, Commit, Abort, End, Restart, Add, Unadd, Forgotten, Check}
use Rattle.clv_base.specs.Orders.{tx_same, tx_in, tx_insert}
use Rattle.clv_base.specs.Logs.{is_commit_of, is_abort_of, committed_in, aborted_in, standing, standing_after, doubt_by, in_doubt_from, in_doubt, is_winner}
use Rattle.clv_base.proofs.SameNames.{insert_keeps, insert_has}
use Rattle.law_base.proofs.Undoing.{standing_append}

-- ---- one record more

one_more : (test : LogRecord → Bool) (log : List LogRecord) (r : LogRecord) → list_any test (log ++ r ∷ []) ≡ (list_any test log || test r)
one_more test log r = list_any-append test log (r ∷ []) ∙ ap (λ b. list_any test log || b) (or-false (test r))

-- a record that is no COMMIT, no PREPARE and no UPDATE, and aborts those that g tells
pub record Unlike (g : TxId → Bool) (r : LogRecord) : Type 0 where
  pub no_commit : (t : TxId) → is_commit_of t r ≡ false
  pub aborts : (t : TxId) → is_abort_of t r ≡ g t
  pub no_doubt : (log : List LogRecord) (shard : ℕ) (rs : List LogRecord) (so_far : List TxId) → in_doubt_from log shard (rs ++ r ∷ []) so_far ≡ in_doubt_from log shard rs so_far

pub committed_more : (g : TxId → Bool) (log : List LogRecord) (r : LogRecord) (t : TxId) → Unlike g r → committed_in (log ++ r ∷ []) t ≡ committed_in log t
committed_more g log r t u = one_more (is_commit_of t) log r ∙ ap (λ b. committed_in log t || b) (u.no_commit t) ∙ or-false (committed_in log t)

pub aborted_more : (g : TxId → Bool) (log : List LogRecord) (r : LogRecord) (t : TxId) → Unlike g r → aborted_in (log ++ r ∷ []) t ≡ (aborted_in log t || g t)
aborted_more g log r t u = one_more (is_abort_of t) log r ∙ ap (λ b. aborted_in log t || b) (u.aborts t)

no_doubt_abort : (t : TxId) (log : List LogRecord) (shard : ℕ) (rs : List LogRecord) (so_far : List TxId) → in_doubt_from log shard (rs ++ Abort t ∷ []) so_far ≡ in_doubt_from log shard rs so_far
no_doubt_abort t log shard [] so_far = refl
no_doubt_abort t log shard (Update tx k b a ∷ rs) so_far = no_doubt_abort t log shard rs so_far
no_doubt_abort t log shard (Clr tx u k a ∷ rs) so_far = no_doubt_abort t log shard rs so_far
no_doubt_abort t log shard (Prepare tx home ps ∷ rs) so_far = no_doubt_abort t log shard rs (cond (doubt_by log shard tx home ps so_far) (tx_insert tx so_far) so_far)
no_doubt_abort t log shard (Commit tx ps ∷ rs) so_far = no_doubt_abort t log shard rs so_far
no_doubt_abort t log shard (Abort tx ∷ rs) so_far = no_doubt_abort t log shard rs so_far
no_doubt_abort t log shard (End tx ∷ rs) so_far = no_doubt_abort t log shard rs so_far
no_doubt_abort t log shard (Restart run epoch ∷ rs) so_far = no_doubt_abort t log shard rs so_far
no_doubt_abort t log shard (Add tx k by ∷ rs) so_far = no_doubt_abort t log shard rs so_far
no_doubt_abort t log shard (Unadd tx u k by ∷ rs) so_far = no_doubt_abort t log shard rs so_far
no_doubt_abort t log shard (Forgotten ∷ rs) so_far = no_doubt_abort t log shard rs so_far
no_doubt_abort t log shard (Check run' epoch' upto base ∷ rs) so_far = no_doubt_abort t log shard rs so_far

no_doubt_clr : (t : TxId) (u : Option ℕ) (k : ℕ) (a : Option ValueType) (log : List LogRecord) (shard : ℕ) (rs : List LogRecord) (so_far : List TxId) → in_doubt_from log shard (rs ++ Clr t u k a ∷ []) so_far ≡ in_doubt_from log shard rs so_far
no_doubt_clr t u k a log shard [] so_far = refl
no_doubt_clr t u k a log shard (Update tx j b c ∷ rs) so_far = no_doubt_clr t u k a log shard rs so_far
no_doubt_clr t u k a log shard (Clr tx v j c ∷ rs) so_far = no_doubt_clr t u k a log shard rs so_far
no_doubt_clr t u k a log shard (Prepare tx home ps ∷ rs) so_far = no_doubt_clr t u k a log shard rs (cond (doubt_by log shard tx home ps so_far) (tx_insert tx so_far) so_far)
no_doubt_clr t u k a log shard (Commit tx ps ∷ rs) so_far = no_doubt_clr t u k a log shard rs so_far
no_doubt_clr t u k a log shard (Abort tx ∷ rs) so_far = no_doubt_clr t u k a log shard rs so_far
no_doubt_clr t u k a log shard (End tx ∷ rs) so_far = no_doubt_clr t u k a log shard rs so_far
no_doubt_clr t u k a log shard (Restart run epoch ∷ rs) so_far = no_doubt_clr t u k a log shard rs so_far
no_doubt_clr t u k a log shard (Add tx j by ∷ rs) so_far = no_doubt_clr t u k a log shard rs so_far
no_doubt_clr t u k a log shard (Unadd tx v j by ∷ rs) so_far = no_doubt_clr t u k a log shard rs so_far
no_doubt_clr t u k a log shard (Forgotten ∷ rs) so_far = no_doubt_clr t u k a log shard rs so_far
no_doubt_clr t u k a log shard (Check run' epoch' upto base ∷ rs) so_far = no_doubt_clr t u k a log shard rs so_far

no_doubt_unadd : (t : TxId) (u : Option ℕ) (k a : ℕ) (log : List LogRecord) (shard : ℕ) (rs : List LogRecord) (so_far : List TxId) → in_doubt_from log shard (rs ++ Unadd t u k a ∷ []) so_far ≡ in_doubt_from log shard rs so_far
no_doubt_unadd t u k a log shard [] so_far = refl
no_doubt_unadd t u k a log shard (Update tx j b c ∷ rs) so_far = no_doubt_unadd t u k a log shard rs so_far
no_doubt_unadd t u k a log shard (Clr tx v j c ∷ rs) so_far = no_doubt_unadd t u k a log shard rs so_far
no_doubt_unadd t u k a log shard (Prepare tx home ps ∷ rs) so_far = no_doubt_unadd t u k a log shard rs (cond (doubt_by log shard tx home ps so_far) (tx_insert tx so_far) so_far)
no_doubt_unadd t u k a log shard (Commit tx ps ∷ rs) so_far = no_doubt_unadd t u k a log shard rs so_far
no_doubt_unadd t u k a log shard (Abort tx ∷ rs) so_far = no_doubt_unadd t u k a log shard rs so_far
no_doubt_unadd t u k a log shard (End tx ∷ rs) so_far = no_doubt_unadd t u k a log shard rs so_far
no_doubt_unadd t u k a log shard (Restart run epoch ∷ rs) so_far = no_doubt_unadd t u k a log shard rs so_far
no_doubt_unadd t u k a log shard (Add tx j by ∷ rs) so_far = no_doubt_unadd t u k a log shard rs so_far
no_doubt_unadd t u k a log shard (Unadd tx v j by ∷ rs) so_far = no_doubt_unadd t u k a log shard rs so_far
no_doubt_unadd t u k a log shard (Forgotten ∷ rs) so_far = no_doubt_unadd t u k a log shard rs so_far
no_doubt_unadd t u k a log shard (Check run' epoch' upto base ∷ rs) so_far = no_doubt_unadd t u k a log shard rs so_far

no_doubt_restart : (run epoch : ℕ) (log : List LogRecord) (shard : ℕ) (rs : List LogRecord) (so_far : List TxId) → in_doubt_from log shard (rs ++ Restart run epoch ∷ []) so_far ≡ in_doubt_from log shard rs so_far
no_doubt_restart run epoch log shard [] so_far = refl
no_doubt_restart run epoch log shard (Update tx k b a ∷ rs) so_far = no_doubt_restart run epoch log shard rs so_far
no_doubt_restart run epoch log shard (Clr tx u k a ∷ rs) so_far = no_doubt_restart run epoch log shard rs so_far
no_doubt_restart run epoch log shard (Prepare tx home ps ∷ rs) so_far = no_doubt_restart run epoch log shard rs (cond (doubt_by log shard tx home ps so_far) (tx_insert tx so_far) so_far)
no_doubt_restart run epoch log shard (Commit tx ps ∷ rs) so_far = no_doubt_restart run epoch log shard rs so_far
no_doubt_restart run epoch log shard (Abort tx ∷ rs) so_far = no_doubt_restart run epoch log shard rs so_far
no_doubt_restart run epoch log shard (End tx ∷ rs) so_far = no_doubt_restart run epoch log shard rs so_far
no_doubt_restart run epoch log shard (Restart r e ∷ rs) so_far = no_doubt_restart run epoch log shard rs so_far
no_doubt_restart run epoch log shard (Add tx k by ∷ rs) so_far = no_doubt_restart run epoch log shard rs so_far
no_doubt_restart run epoch log shard (Unadd tx u k by ∷ rs) so_far = no_doubt_restart run epoch log shard rs so_far
no_doubt_restart run epoch log shard (Forgotten ∷ rs) so_far = no_doubt_restart run epoch log shard rs so_far
no_doubt_restart run epoch log shard (Check run' epoch' upto base ∷ rs) so_far = no_doubt_restart run epoch log shard rs so_far

-- whom an ABORT aborts, and who is aborted by none
abbrev pub is_it : TxId → TxId → Bool
is_it t u = tx_same u t

abbrev pub nobody : TxId → Bool
nobody u = false

pub abort_unlike : (t : TxId) → Unlike (is_it t) (Abort t)
abort_unlike t = record { no_commit = λ u. refl; aborts = λ u. refl; no_doubt = no_doubt_abort t }

pub clr_unlike : (t : TxId) (u : Option ℕ) (k : ℕ) (a : Option ValueType) → Unlike nobody (Clr t u k a)
clr_unlike t u k a = record { no_commit = λ v. refl; aborts = λ v. refl; no_doubt = no_doubt_clr t u k a }

pub unadd_unlike : (t : TxId) (u : Option ℕ) (k a : ℕ) → Unlike nobody (Unadd t u k a)
unadd_unlike t u k a = record { no_commit = λ v. refl; aborts = λ v. refl; no_doubt = no_doubt_unadd t u k a }

pub restart_unlike : (run epoch : ℕ) → Unlike nobody (Restart run epoch)
restart_unlike run epoch = record { no_commit = λ v. refl; aborts = λ v. refl; no_doubt = no_doubt_restart run epoch }

-- ---- who is in doubt is so still, where none of them is aborted

pub stays_in : (log : List LogRecord) (shard : ℕ) (rs : List LogRecord) (so_far : List TxId) (u : TxId) → tx_in u so_far ≡ true → tx_in u (in_doubt_from log shard rs so_far) ≡ true
stays_in log shard [] so_far u i = i
stays_in log shard (Update tx k b a ∷ rs) so_far u i = stays_in log shard rs so_far u i
stays_in log shard (Clr tx v k a ∷ rs) so_far u i = stays_in log shard rs so_far u i
stays_in log shard (Prepare tx home ps ∷ rs) so_far u i = stays_in log shard rs _ u (at (doubt_by log shard tx home ps so_far))
  where
    at : (b : Bool) → tx_in u (cond b (tx_insert tx so_far) so_far) ≡ true
    at true = insert_keeps tx u so_far i
    at false = i
stays_in log shard (Commit tx ps ∷ rs) so_far u i = stays_in log shard rs so_far u i
stays_in log shard (Abort tx ∷ rs) so_far u i = stays_in log shard rs so_far u i
stays_in log shard (End tx ∷ rs) so_far u i = stays_in log shard rs so_far u i
stays_in log shard (Restart run epoch ∷ rs) so_far u i = stays_in log shard rs so_far u i
stays_in log shard (Add tx k by ∷ rs) so_far u i = stays_in log shard rs so_far u i
stays_in log shard (Unadd tx v k by ∷ rs) so_far u i = stays_in log shard rs so_far u i
stays_in log shard (Forgotten ∷ rs) so_far u i = stays_in log shard rs so_far u i
stays_in log shard (Check run' epoch' upto base ∷ rs) so_far u i = stays_in log shard rs so_far u i

all_alike : (f g : TxId → Bool) (xs : List TxId) → ((x : TxId) → f x ≡ g x) → list_all f xs ≡ list_all g xs
all_alike f g [] h = refl
all_alike f g (x ∷ xs) h = ap (λ b. b && list_all f xs) (h x) ∙ ap (λ b. g x && b) (all_alike f g xs h)

-- the doubt by a longer log, by what it tells of the transaction
doubt_case : (home c a g rest : Bool) → (not home && not c && not (a || g) && rest) ≡ (not home && not c && not a && rest) && not g
doubt_case true c a g rest = refl
doubt_case false true a g rest = refl
doubt_case false false true g rest = refl
doubt_case false false false true rest = at rest
  where
    at : (b : Bool) → false ≡ (b && false)
    at true = refl
    at false = refl
doubt_case false false false false rest = at rest
  where
    at : (b : Bool) → b ≡ (b && true)
    at true = refl
    at false = refl

doubt_more : (g : TxId → Bool) (log : List LogRecord) (r : LogRecord) (shard : ℕ) (tx : TxId) (home : ℕ) (ps so_far : List TxId) → Unlike g r
    → doubt_by (log ++ r ∷ []) shard tx home ps so_far ≡ (doubt_by log shard tx home ps so_far && not (g tx))
doubt_more g log r shard tx home ps so_far u =
    ap (λ c. not (shard == home) && not c && not (aborted_in (log ++ r ∷ []) tx) && list_all (λ p. committed_in (log ++ r ∷ []) p || tx_in p so_far) ps) (committed_more g log r tx u)
    ∙ ap (λ a. not (shard == home) && not (committed_in log tx) && not a && list_all (λ p. committed_in (log ++ r ∷ []) p || tx_in p so_far) ps) (aborted_more g log r tx u)
    ∙ ap (λ l. not (shard == home) && not (committed_in log tx) && not (aborted_in log tx || g tx) && l)
    (all_alike (λ p. committed_in (log ++ r ∷ []) p || tx_in p so_far) (λ p. committed_in log p || tx_in p so_far) ps (λ p. ap (λ b. b || tx_in p so_far) (committed_more g log r p u)))
    ∙ doubt_case (shard == home) (committed_in log tx) (aborted_in log tx) (g tx) (list_all (λ p. committed_in log p || tx_in p so_far) ps)

-- none of those in doubt is aborted by the record
abbrev Spared : (TxId → Bool) → List TxId → Type 0
Spared g xs = (t : TxId) → tx_in t xs ≡ true → g t ≡ false

-- who is in doubt by the longer log, from one more or not
abbrev next_by : (TxId → Bool) → List LogRecord → LogRecord → ℕ → TxId → List LogRecord → List TxId → Bool → List TxId
next_by g log r shard tx rs so_far b = in_doubt_from (log ++ r ∷ []) shard rs (cond b (tx_insert tx so_far) so_far)

abbrev SameBy : (TxId → Bool) → List LogRecord → LogRecord → ℕ → List LogRecord → List TxId → Type 0
SameBy g log r shard rs xs = Spared g (in_doubt_from log shard rs xs) → in_doubt_from (log ++ r ∷ []) shard rs xs ≡ in_doubt_from log shard rs xs

kept_by : (g : TxId → Bool) (log : List LogRecord) (r : LogRecord) (shard : ℕ) (tx : TxId) (rs : List LogRecord) (so_far : List TxId) (c : Bool) → c ≡ false
    → SameBy g log r shard rs (tx_insert tx so_far) → Spared g (in_doubt_from log shard rs (tx_insert tx so_far))
    → next_by g log r shard tx rs so_far (not c) ≡ in_doubt_from log shard rs (tx_insert tx so_far)
kept_by g log r shard tx rs so_far true e same k = absurd (both_ways true e refl)
kept_by g log r shard tx rs so_far false e same k = same k

prepared_by : (g : TxId → Bool) (log : List LogRecord) (r : LogRecord) (shard : ℕ) (tx : TxId) (rs : List LogRecord) (so_far : List TxId) (b : Bool)
    → Spared g (in_doubt_from log shard rs (cond b (tx_insert tx so_far) so_far)) → SameBy g log r shard rs (tx_insert tx so_far) → SameBy g log r shard rs so_far
    → next_by g log r shard tx rs so_far (b && not (g tx)) ≡ in_doubt_from log shard rs (cond b (tx_insert tx so_far) so_far)
prepared_by g log r shard tx rs so_far true k more less = kept_by g log r shard tx rs so_far (g tx) (k tx (stays_in log shard rs (tx_insert tx so_far) tx (insert_has tx so_far))) more k
prepared_by g log r shard tx rs so_far false k more less = less k

doubts_from : (g : TxId → Bool) (log : List LogRecord) (r : LogRecord) (shard : ℕ) (rs : List LogRecord) (so_far : List TxId) → Unlike g r → Spared g (in_doubt_from log shard rs so_far)
    → in_doubt_from (log ++ r ∷ []) shard rs so_far ≡ in_doubt_from log shard rs so_far
doubts_from g log r shard [] so_far u h = refl
doubts_from g log r shard (Update tx k b a ∷ rs) so_far u h = doubts_from g log r shard rs so_far u h
doubts_from g log r shard (Clr tx v k a ∷ rs) so_far u h = doubts_from g log r shard rs so_far u h
doubts_from g log r shard (Prepare tx home ps ∷ rs) so_far u h =
    ap (next_by g log r shard tx rs so_far) (doubt_more g log r shard tx home ps so_far u)
    ∙ prepared_by g log r shard tx rs so_far (doubt_by log shard tx home ps so_far) h (doubts_from g log r shard rs (tx_insert tx so_far) u) (doubts_from g log r shard rs so_far u)
doubts_from g log r shard (Commit tx ps ∷ rs) so_far u h = doubts_from g log r shard rs so_far u h
doubts_from g log r shard (Abort tx ∷ rs) so_far u h = doubts_from g log r shard rs so_far u h
doubts_from g log r shard (End tx ∷ rs) so_far u h = doubts_from g log r shard rs so_far u h
doubts_from g log r shard (Restart run epoch ∷ rs) so_far u h = doubts_from g log r shard rs so_far u h
doubts_from g log r shard (Add tx k by ∷ rs) so_far u h = doubts_from g log r shard rs so_far u h
doubts_from g log r shard (Unadd tx v k by ∷ rs) so_far u h = doubts_from g log r shard rs so_far u h
doubts_from g log r shard (Forgotten ∷ rs) so_far u h = doubts_from g log r shard rs so_far u h
doubts_from g log r shard (Check run' epoch' upto base ∷ rs) so_far u h = doubts_from g log r shard rs so_far u h

pub doubts_more : (g : TxId → Bool) (log : List LogRecord) (r : LogRecord) (shard : ℕ) → Unlike g r → Spared g (in_doubt shard log) → in_doubt shard (log ++ r ∷ []) ≡ in_doubt shard log
doubts_more g log r shard u h = u.no_doubt (log ++ r ∷ []) shard log [] ∙ doubts_from g log r shard log [] u h

pub winners_more : (g : TxId → Bool) (log : List LogRecord) (r : LogRecord) (shard : ℕ) (t : TxId) → Unlike g r → Spared g (in_doubt shard log) → is_winner shard (log ++ r ∷ []) t ≡ is_winner shard log t
winners_more g log r shard t u h = ap (λ b. b || tx_in t (in_doubt shard (log ++ r ∷ []))) (committed_more g log r t u) ∙ ap (λ l. committed_in log t || tx_in t l) (doubts_more g log r shard u h)

-- ---- what stands after one record more

pub standing_more : (log : List LogRecord) (r : LogRecord) → standing (log ++ r ∷ []) ≡ standing_after (0 + length log) r (standing log)
standing_more log r = standing_append 0 log (r ∷ []) []
