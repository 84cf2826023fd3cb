-- What a log says of a transaction: who isn't undone there has a write that stands or another record; and of a committed one, what a front of
-- the log says of its home and parts stands.
use Rattle.std.proofs.Common.{◌≡◌, ◌⊎◌, inl, inr, ⊎_elim, refl, sym, ap, subst, ◌∙◌, ℕ, true, false, Bool, not, ◌&&◌, ◌||◌, List, [], ◌∷◌, ◌++◌, Option, Some, None}
use Rattle.std.specs.List.{list_any, list_all}
use Rattle.std.proofs.lemmas.Bool.{both_ways, false_from_ne_true, not-true, and_parts, and_from, or_cases, or_left, or_right, or_from}
use Rattle.clv_base.specs.declared.names.TxId.{TxId}
use Rattle.clv_base.specs.declared.logs.LogRecord.{LogRecord}
use Rattle.clv_base.specs.declared.logs.LogRecord.TheVariants.{Update, Clr, Prepare, Commit, Abort, End, Restart, Add, Unadd, Forgotten, Check}
use Rattle.clv_base.specs.Orders.{tx_same}
use Rattle.clv_base.specs.Logs.{is_update_of, is_undo_of, is_commit_of, is_prepare_of, is_abort_of, is_end_of, is_record_of, has_standing, committed_in, prepared_in, aborted_in, ended_in, prepare_of}
use Rattle.clv_base.specs.LogRules.{may_follow, home_is, is_undone_in}
use Rattle.clv_base.proofs.SameNames.{tx_true}
use Rattle.law_base.proofs.Commits.{committed_keeps}
use Rattle.shard_laws.proofs.Order.RecordByRecord.{Follows}
use Rattle.fate_laws.proofs.Homes.FoundCommitsHaveHomes.{standing_stays}
use Rattle.fate_laws.proofs.Logs.WhatAddsNoPrepare.{prepare_from}
use Rattle.law_base.proofs.Bools.{and_first as front, and_second as last}

-- ---- what stands of a transaction in a log: a write, or another record of it

abbrev is_mark_of : TxId → LogRecord → Bool
is_mark_of t r = is_prepare_of t r || is_commit_of t r || is_abort_of t r || is_end_of t r

abbrev is_plain_of : TxId → LogRecord → Bool
is_plain_of t r = not (is_record_of t r) || is_update_of t r || is_undo_of t r

-- a write of it stands, or it has a PREPARE, a COMMIT, an ABORT or an END
abbrev pub Marked : List LogRecord → TxId → Type 0
Marked log t = (has_standing log t ≡ true) ⊎ ((prepared_in log t ≡ true) ⊎ ((committed_in log t ≡ true) ⊎ ((aborted_in log t ≡ true) ⊎ (ended_in log t ≡ true))))

one_plain : (t : TxId) (r : LogRecord) → is_plain_of t r ≡ not (is_mark_of t r)
one_plain t (Update tx key before after) = write (tx_same t tx)
  where
    write : (b : Bool) → (not b || b || false) ≡ true
    write true = refl
    write false = refl
one_plain t (Add tx key by) = write (tx_same t tx)
  where
    write : (b : Bool) → (not b || b || false) ≡ true
    write true = refl
    write false = refl
one_plain t (Clr tx next key after) = undo (tx_same t tx)
  where
    undo : (b : Bool) → (not b || false || b) ≡ true
    undo true = refl
    undo false = refl
one_plain t (Unadd tx next key by) = undo (tx_same t tx)
  where
    undo : (b : Bool) → (not b || false || b) ≡ true
    undo true = refl
    undo false = refl
one_plain t (Prepare tx home ps) = mark (tx_same t tx)
  where
    mark : (b : Bool) → (not b || false || false) ≡ not (b || false || false || false)
    mark true = refl
    mark false = refl
one_plain t (Commit tx parts) = mark (tx_same t tx)
  where
    mark : (b : Bool) → (not b || false || false) ≡ not (false || b || false || false)
    mark true = refl
    mark false = refl
one_plain t (Abort tx) = mark (tx_same t tx)
  where
    mark : (b : Bool) → (not b || false || false) ≡ not (false || false || b || false)
    mark true = refl
    mark false = refl
one_plain t (End tx) = mark (tx_same t tx)
  where
    mark : (b : Bool) → (not b || false || false) ≡ not (false || false || false || b)
    mark true = refl
    mark false = refl
one_plain t (Restart run epoch) = refl
one_plain t Forgotten = refl
one_plain t (Check run' epoch' upto base) = refl

all_plain : (t : TxId) (log : List LogRecord) → list_all (is_plain_of t) log ≡ not (list_any (is_mark_of t) log)
all_plain t [] = refl
all_plain t (r ∷ rs) = ap (λ b. b && list_all (is_plain_of t) rs) (one_plain t r) ∙ ap (λ b. not (is_mark_of t r) && b) (all_plain t rs) ∙ both (is_mark_of t r) (list_any (is_mark_of t) rs)
  where
    both : (a b : Bool) → (not a && not b) ≡ not (a || b)
    both true b = refl
    both false b = refl

any_more : (f g : LogRecord → Bool) → ((r : LogRecord) → f r ≡ true → g r ≡ true) → (log : List LogRecord) → list_any f log ≡ true → list_any g log ≡ true
any_more f g k [] e = e
any_more f g k (r ∷ rs) e = ⊎_elim (λ a. or_left (g r) _ (k r a)) (λ a. or_right (g r) _ (any_more f g k rs a)) (or_cases (f r) (list_any f rs) e)

any_either : (f g : LogRecord → Bool) (log : List LogRecord) → list_any (λ r. f r || g r) log ≡ true → (list_any f log ≡ true) ⊎ (list_any g log ≡ true)
any_either f g [] e = absurd (both_ways false refl e)
any_either f g (r ∷ rs) e =
    ⊎_elim (λ a. ⊎_elim (λ b. inl (or_left (f r) _ b)) (λ b. inr (or_left (g r) _ b)) (or_cases (f r) (g r) a)) (λ a. ⊎_elim (λ b. inl (or_right (f r) _ b)) (λ b. inr (or_right (g r) _ b)) (any_either f g rs a))
    (or_cases (f r || g r) (list_any (λ r. f r || g r) rs) e)

-- who isn't undone in a log has something that stands there
pub marks_of : (log : List LogRecord) (t : TxId) → is_undone_in log t ≡ false → Marked log t
marks_of log t e = at (has_standing log t) refl e
  where
    some : (b : Bool) → not b ≡ false → b ≡ true
    some true e = refl
    some false e = absurd (both_ways true e refl)

    at : (b : Bool) → has_standing log t ≡ b → (not b && list_all (is_plain_of t) log) ≡ false → Marked log t
    at true w f = inl w
    at false w f =
        inr (⊎_elim
        (λ a. ⊎_elim (λ b. ⊎_elim (λ c. inl c) (λ c. inr (inl c)) (any_either (is_prepare_of t) (is_commit_of t) log b)) (λ b. inr (inr (inl b))) (any_either (λ r. is_prepare_of t r || is_commit_of t r) (is_abort_of t) log a))
        (λ a. inr (inr (inr a))) (any_either (λ r. is_prepare_of t r || is_commit_of t r || is_abort_of t r) (is_end_of t) log (some _ (sym (all_plain t log) ∙ f))))

-- and the other way round
pub marks_stay : (log : List LogRecord) (t : TxId) → Marked log t → is_undone_in log t ≡ false
marks_stay log t (inl w) = standing_stays log t w
marks_stay log t (inr m) = ap (λ b. not (has_standing log t) && b) (all_plain t log ∙ ap not (any m)) ∙ none (not (has_standing log t))
  where
    none : (b : Bool) → (b && false) ≡ false
    none true = refl
    none false = refl

    any : (prepared_in log t ≡ true) ⊎ ((committed_in log t ≡ true) ⊎ ((aborted_in log t ≡ true) ⊎ (ended_in log t ≡ true))) → list_any (is_mark_of t) log ≡ true
    any (inl p) = any_more (is_prepare_of t) (is_mark_of t) (λ r e. or_left _ _ (or_left _ _ (or_left _ _ e))) log p
    any (inr (inl c)) = any_more (is_commit_of t) (is_mark_of t) (λ r e. or_left _ _ (or_left _ _ (or_right (is_prepare_of t r) _ e))) log c
    any (inr (inr (inl a))) = any_more (is_abort_of t) (is_mark_of t) (λ r e. or_left _ _ (or_right (is_prepare_of t r || is_commit_of t r) _ e)) log a
    any (inr (inr (inr e))) = any_more (is_end_of t) (is_mark_of t) (λ r e. or_right (is_prepare_of t r || is_commit_of t r || is_abort_of t r) _ e) log e

-- ---- more of a log

-- behind a COMMIT stands no PREPARE of its transaction
no_prepare : (shard : ℕ) (log : List LogRecord) (r : LogRecord) (t : TxId) → committed_in log t ≡ true → may_follow shard log r ≡ true → is_prepare_of t r ≡ false
no_prepare shard log (Prepare tx home ps) t c m =
    false_from_ne_true _ (λ e. both_ways _ (not-true _ (last _ _ (front _ _ (front _ _ (front _ _ m))))) (subst (λ z. committed_in log z ≡ true) (tx_true t tx e) c))
no_prepare shard log _ t c m = refl

no_prepare_behind : (shard : ℕ) (log rs : List LogRecord) (t : TxId) → Follows shard log rs → committed_in log t ≡ true → prepared_in rs t ≡ false
no_prepare_behind shard log [] t f c = refl
no_prepare_behind shard log (r ∷ rs) t f c = or_from (is_prepare_of t r) (prepared_in rs t) (no_prepare shard log r t c f.0) (no_prepare_behind shard (log ++ r ∷ []) rs t f.1 (committed_keeps log (r ∷ []) t c))

pub home_behind : (shard h : ℕ) (log more : List LogRecord) (t : TxId) → Follows shard log more → committed_in log t ≡ true → home_is h (prepare_of log t) ≡ true → home_is h (prepare_of (log ++ more) t) ≡ true
home_behind shard h log more t f c k = at (prepare_of (log ++ more) t) refl
  where
    at : (o : Option (ℕ × List TxId)) → prepare_of (log ++ more) t ≡ o → home_is h o ≡ true
    at None e = refl
    at (Some p) e = subst (λ o. home_is h o ≡ true) (prepare_from log more t p (no_prepare_behind shard log more t f c) e) k

pub all_committed : (log more : List LogRecord) (ts : List TxId) → list_all (committed_in log) ts ≡ true → list_all (committed_in (log ++ more)) ts ≡ true
all_committed log more [] a = refl
all_committed log more (t ∷ ts) a = let p = and_parts (committed_in log t) _ a in and_from _ _ (committed_keeps log more t p.0) (all_committed log more ts p.1)
