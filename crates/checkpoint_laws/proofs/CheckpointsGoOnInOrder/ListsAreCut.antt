-- The PREPARE of one that is left open stays, without those of its list that are committed; and who is listed later isn't committed.
use Rattle.std.proofs.Common.{◌≡◌, refl, ap, subst, ◌∙◌, ℕ, suc, Bool, true, false, cond, not, ◌||◌, List, [], ◌∷◌, ◌++◌, Option, Some, None}
use Rattle.std.specs.List.{AllByRecursion, filter}
use Rattle.std.proofs.lemmas.Bool.{or_parts}
use Rattle.std.proofs.lemmas.Option.{same_Some}
use Rattle.clv_base.specs.declared.names.TxId.{TxId}
use Rattle.clv_base.specs.declared.logs.LogRecord.{LogRecord}
use Rattle.clv_base.specs.declared.logs.LogRecord.TheVariants.{Update, Clr, Prepare, Commit, Abort, End, Restart, Add, Unadd, Forgotten, Check}
use Rattle.clv_base.specs.Orders.{tx_same}
use Rattle.clv_base.specs.Logs.{committed_in, prepare_of, commit_parts}
use Rattle.clv_base.specs.Checkpoints.{is_left_open, kept_if, kept_prepare, kept_of, kept_from}
use Rattle.clv_base.proofs.SameNames.{tx_true}
use Rattle.log_checkpoint.specs.Laws.{GoesOn}
use Rattle.log_checkpoint.proofs.Again.{other_if, other_prepare}
use Rattle.log_checkpoint.proofs.StayingAlike.{first_of}

abbrev pub cut_of : List LogRecord → Option (ℕ × List TxId) → Option (ℕ × List TxId)
cut_of log None = None
cut_of log (Some p) = Some (p.0, filter (λ q. not (committed_in log q)) p.1)

pub prepares_cut : (shard : ℕ) (log : List LogRecord) (n : ℕ) (rs : List LogRecord) (t : TxId) → committed_in log t ≡ false → is_left_open log t ≡ true → prepare_of (kept_from shard log n rs) t ≡ cut_of log (prepare_of rs t)
prepares_cut shard log n [] t u left = refl
prepares_cut shard log n (Prepare tx home listed ∷ rs) t u left = at (tx_same t tx) refl (prepares_cut shard log (suc n) rs t u left)
  where
    at : (b : Bool) → tx_same t tx ≡ b → prepare_of (kept_from shard log (suc n) rs) t ≡ cut_of log (prepare_of rs t)
        → prepare_of (kept_of shard log n (Prepare tx home listed) ∷ kept_from shard log (suc n) rs) t ≡ cut_of log (cond b (Some (home, listed)) (prepare_of rs t))
    at false other rest = other_prepare shard log tx home listed (committed_in log tx) (kept_from shard log (suc n) rs) t other ∙ rest
    at true own rest =
        ap (λ b. prepare_of (kept_prepare shard log tx home listed b ∷ kept_from shard log (suc n) rs) t) (subst (λ v. committed_in log v ≡ false) (tx_true t tx own) u)
        ∙ ap (λ b. prepare_of (kept_if b (Prepare tx home (filter (λ p. not (committed_in log p)) listed)) ∷ kept_from shard log (suc n) rs) t) (subst (λ v. is_left_open log v ≡ true) (tx_true t tx own) left)
        ∙ ap (λ b. cond b (Some (home, filter (λ p. not (committed_in log p)) listed)) (prepare_of (kept_from shard log (suc n) rs) t)) own
prepares_cut shard log n (Commit tx parts ∷ rs) t u left = other_if _ (Commit tx parts) (kept_from shard log (suc n) rs) t refl ∙ prepares_cut shard log (suc n) rs t u left
prepares_cut shard log n (Update tx key before after ∷ rs) t u left = other_if _ (Update tx key before after) (kept_from shard log (suc n) rs) t refl ∙ prepares_cut shard log (suc n) rs t u left
prepares_cut shard log n (Add tx key by ∷ rs) t u left = other_if _ (Add tx key by) (kept_from shard log (suc n) rs) t refl ∙ prepares_cut shard log (suc n) rs t u left
prepares_cut shard log n (Abort tx ∷ rs) t u left = other_if _ (Abort tx) (kept_from shard log (suc n) rs) t refl ∙ prepares_cut shard log (suc n) rs t u left
prepares_cut shard log n (Clr tx undo_next key after ∷ rs) t u left = prepares_cut shard log (suc n) rs t u left
prepares_cut shard log n (Unadd tx undo_next key by ∷ rs) t u left = prepares_cut shard log (suc n) rs t u left
prepares_cut shard log n (End tx ∷ rs) t u left = prepares_cut shard log (suc n) rs t u left
prepares_cut shard log n (Restart run epoch ∷ rs) t u left = prepares_cut shard log (suc n) rs t u left
prepares_cut shard log n (Forgotten ∷ rs) t u left = prepares_cut shard log (suc n) rs t u left
prepares_cut shard log n (Check run epoch upto base ∷ rs) t u left = prepares_cut shard log (suc n) rs t u left

pub listed_later : (shard : ℕ) (log mid : List LogRecord) (t : TxId) (q : ℕ × List TxId) → AllByRecursion (GoesOn shard log) mid → prepare_of mid t ≡ Some q → AllByRecursion (λ p. committed_in log p ≡ false) q.1
listed_later shard log [] t q all e = absurd cc
listed_later shard log (Prepare tx home ps ∷ rs) t q all e = at (tx_same t tx) e (λ k. listed_later shard log rs t q all.1 k)
  where
    at : (b : Bool) → cond b (Some (home, ps)) (prepare_of rs t) ≡ Some q → (prepare_of rs t ≡ Some q → AllByRecursion (λ p. committed_in log p ≡ false) q.1) → AllByRecursion (λ p. committed_in log p ≡ false) q.1
    at true k more = subst (λ z. AllByRecursion (λ p. committed_in log p ≡ false) z.1) (same_Some (home, ps) q k) (all.0).2
    at false k more = more k
listed_later shard log (_ ∷ rs) t q all e = listed_later shard log rs t q all.1 e

-- the parts of a COMMIT in a longer log
pub parts_more : (xs ys : List LogRecord) (t : TxId) → commit_parts (xs ++ ys) t ≡ first_of (commit_parts xs t) (commit_parts ys t)
parts_more [] ys t = refl
parts_more (Commit tx parts ∷ rs) ys t = at (tx_same t tx) (parts_more rs ys t)
  where
    at : (b : Bool) → commit_parts (rs ++ ys) t ≡ first_of (commit_parts rs t) (commit_parts ys t) → cond b (Some parts) (commit_parts (rs ++ ys) t) ≡ first_of (cond b (Some parts) (commit_parts rs t)) (commit_parts ys t)
    at true e = refl
    at false e = e
parts_more (_ ∷ rs) ys t = parts_more rs ys t

pub no_parts : (log : List LogRecord) (t : TxId) → commit_parts log t ≡ None → committed_in log t ≡ false
no_parts [] t e = refl
no_parts (Commit tx parts ∷ rs) t e = at (tx_same t tx) e (no_parts rs t)
  where
    at : (b : Bool) → cond b (Some parts) (commit_parts rs t) ≡ None → (commit_parts rs t ≡ None → committed_in rs t ≡ false) → (b || committed_in rs t) ≡ false
    at true k more = absurd cc
    at false k more = more k
no_parts (_ ∷ rs) t e = no_parts rs t e

pub no_commit : (log : List LogRecord) (t : TxId) → committed_in log t ≡ false → commit_parts log t ≡ None
no_commit [] t e = refl
no_commit (Commit tx parts ∷ rs) t e =
    let p = or_parts (tx_same t tx) (committed_in rs t) e in ap (λ b. cond b (Some parts) (commit_parts rs t)) p.0 ∙ no_commit rs t p.1
no_commit (_ ∷ rs) t e = no_commit rs t e
