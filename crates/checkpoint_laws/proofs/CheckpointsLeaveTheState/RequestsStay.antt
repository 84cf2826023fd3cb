-- The COMMITs with parts and no END are those behind a log and behind its checkpoint.
use Rattle.std.proofs.Common.{◌≡◌, refl, sym, ap, ◌∙◌, ⊎_elim, ℕ, suc, Bool, true, false, cond, ◌||◌, List, [], ◌∷◌, ◌++◌}
use Rattle.std.proofs.lemmas.Bool.{both_ways, or_cases}
use Rattle.std.proofs.lemmas.List.Folds.{list_any-append}
use Rattle.clv_base.specs.declared.names.TxId.{TxId}
use Rattle.clv_base.specs.declared.logs.LogRecord.{LogRecord}
use Rattle.clv_base.specs.declared.logs.LogRecord.TheVariants.{Update, Clr, Prepare, Commit, Abort, End, Restart, Add, Unadd, Forgotten, Check}
use Rattle.clv_base.specs.Orders.{tx_put}
use Rattle.clv_base.specs.Logs.{is_end_of, ended_in, committed_in, prepare_of}
use Rattle.clv_base.specs.LogRules.{some_parts}
use Rattle.clv_base.specs.Restarts.{unended_with, unended_in}
use Rattle.clv_base.specs.Checkpoints.{is_away, kept_if, kept_prepare, kept_of, kept_from, check}
use Rattle.clv_base.proofs.SameNames.{or_left, or_right}
use Rattle.law_base.proofs.Bools.{same_truth}
use Rattle.log_checkpoint.specs.Laws.{IsFirst}
use Rattle.checkpoint_laws.proofs.CheckpointsAreInOrder.{first_kind}
use Rattle.checkpoint_laws.proofs.CheckpointsAreInOrder.KeptRecordsWereThere.{ends_wider, all_wider}

-- ---- ENDs

end_stays : (shard : ℕ) (log : List LogRecord) (t : TxId) (n : ℕ) (r : LogRecord) → is_end_of t r ≡ true → is_end_of t (kept_of shard log n r) ≡ true
end_stays shard log t n (End tx) e = e
end_stays shard log t n _ e = absurd (both_ways false refl e)

ends_stay : (shard : ℕ) (log : List LogRecord) (t : TxId) (n : ℕ) (rs : List LogRecord) → ended_in rs t ≡ true → ended_in (kept_from shard log n rs) t ≡ true
ends_stay shard log t n [] e = e
ends_stay shard log t n (r ∷ rs) e =
    ⊎_elim (λ h. or_left _ _ (end_stays shard log t n r h)) (λ l. or_right (is_end_of t (kept_of shard log n r)) _ (ends_stay shard log t (suc n) rs l)) (or_cases (is_end_of t r) (ended_in rs t) e)

same_ends : (shard : ℕ) (first : LogRecord) (later : List LogRecord) → IsFirst first → (mid : List LogRecord) (t : TxId) → ended_in (check shard (first ∷ later) ++ mid) t ≡ ended_in (first ∷ later ++ mid) t
same_ends shard first later begins mid t =
    list_any-append (is_end_of t) (check shard (first ∷ later)) mid
    ∙ ap (λ b. b || ended_in mid t)
    (same_truth (ended_in (kept_from shard (first ∷ later) 1 later) t) (ended_in later t) (all_wider (is_end_of t) (ends_wider t) shard (first ∷ later) 1 later) (ends_stay shard (first ∷ later) t 1 later)
    ∙ first_kind (λ r. ended_in later t ≡ ended_in (r ∷ later) t) (λ r e. refl) (λ r e u b. refl) first begins)
    ∙ sym (list_any-append (is_end_of t) (first ∷ later) mid)

-- ---- COMMITs

unended_alike : (a b : List LogRecord) → ((t : TxId) → ended_in a t ≡ ended_in b t) → (xs : List LogRecord) → unended_in a xs ≡ unended_in b xs
unended_alike a b same [] = refl
unended_alike a b same (Commit tx parts ∷ xs) = at parts ∙ ap (unended_with b tx parts) (unended_alike a b same xs)
  where
    at : (ps : List ℕ) → unended_with a tx ps (unended_in a xs) ≡ unended_with b tx ps (unended_in a xs)
    at [] = refl
    at (p ∷ ps) = ap (λ e. cond e (unended_in a xs) (tx_put tx (p ∷ ps) (unended_in a xs))) (same tx)
unended_alike a b same (_ ∷ xs) = unended_alike a b same xs

passed : (a : List LogRecord) (b : Bool) (r : LogRecord) (xs : List LogRecord) → unended_in a (r ∷ xs) ≡ unended_in a xs → unended_in a (kept_if b r ∷ xs) ≡ unended_in a xs
passed a true r xs e = e
passed a false r xs e = refl

prepare_passed : (a : List LogRecord) (shard : ℕ) (log : List LogRecord) (tx : TxId) (home : ℕ) (ps : List TxId) (b : Bool) (xs : List LogRecord) → unended_in a (kept_prepare shard log tx home ps b ∷ xs) ≡ unended_in a xs
prepare_passed a shard log tx home ps true xs = passed a _ (Prepare tx home []) xs refl
prepare_passed a shard log tx home ps false xs = passed a _ (Prepare tx home _) xs refl

kept_unended : (a : List LogRecord) (shard : ℕ) (log mid : List LogRecord) (n : ℕ) (rs : List LogRecord) → unended_in a (kept_from shard log n rs ++ mid) ≡ unended_in a (rs ++ mid)
kept_unended a shard log mid n [] = refl
kept_unended a shard log mid n (Commit tx parts ∷ rs) = at parts ∙ ap (unended_with a tx parts) (kept_unended a shard log mid (suc n) rs)
  where
    at : (ps : List ℕ) → unended_in a (kept_if (some_parts ps || is_away shard (prepare_of log tx)) (Commit tx ps) ∷ kept_from shard log (suc n) rs ++ mid) ≡ unended_with a tx ps (unended_in a (kept_from shard log (suc n) rs ++ mid))
    at [] = passed a (is_away shard (prepare_of log tx)) (Commit tx []) (kept_from shard log (suc n) rs ++ mid) refl
    at (p ∷ ps) = refl
kept_unended a shard log mid n (Update tx key before after ∷ rs) = passed a _ (Update tx key before after) (kept_from shard log (suc n) rs ++ mid) refl ∙ kept_unended a shard log mid (suc n) rs
kept_unended a shard log mid n (Add tx key by ∷ rs) = passed a _ (Add tx key by) (kept_from shard log (suc n) rs ++ mid) refl ∙ kept_unended a shard log mid (suc n) rs
kept_unended a shard log mid n (Abort tx ∷ rs) = passed a _ (Abort tx) (kept_from shard log (suc n) rs ++ mid) refl ∙ kept_unended a shard log mid (suc n) rs
kept_unended a shard log mid n (Prepare tx home ps ∷ rs) = prepare_passed a shard log tx home ps (committed_in log tx) (kept_from shard log (suc n) rs ++ mid) ∙ kept_unended a shard log mid (suc n) rs
kept_unended a shard log mid n (Clr tx undo_next key after ∷ rs) = kept_unended a shard log mid (suc n) rs
kept_unended a shard log mid n (Unadd tx undo_next key by ∷ rs) = kept_unended a shard log mid (suc n) rs
kept_unended a shard log mid n (End tx ∷ rs) = kept_unended a shard log mid (suc n) rs
kept_unended a shard log mid n (Restart run epoch ∷ rs) = kept_unended a shard log mid (suc n) rs
kept_unended a shard log mid n (Forgotten ∷ rs) = kept_unended a shard log mid (suc n) rs
kept_unended a shard log mid n (Check run epoch upto base ∷ rs) = kept_unended a shard log mid (suc n) rs

pub requests_stay : (shard : ℕ) (first : LogRecord) (later : List LogRecord) → IsFirst first → (mid : List LogRecord) → unended_in (check shard (first ∷ later) ++ mid) (check shard (first ∷ later) ++ mid) ≡ unended_in (first ∷ later ++ mid) (first ∷ later ++ mid)
requests_stay shard first later begins mid =
    unended_alike (check shard (first ∷ later) ++ mid) (first ∷ later ++ mid) (same_ends shard first later begins mid) (check shard (first ∷ later) ++ mid)
    ∙ kept_unended (first ∷ later ++ mid) shard (first ∷ later) mid 1 later
    ∙ first_kind (λ r. unended_in (first ∷ later ++ mid) (later ++ mid) ≡ unended_in (first ∷ later ++ mid) (r ∷ later ++ mid)) (λ r e. refl) (λ r e u b. refl) first begins
