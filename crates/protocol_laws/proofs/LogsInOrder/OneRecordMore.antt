-- A log with one more record.
use Rattle.std.proofs.Common.{◌≡◌, ◌⊎◌, inl, inr, ⊎_elim, refl, sym, ap, ◌∙◌, Bool, true, false, cond, ◌||◌, List, [], ◌∷◌, ◌++◌, Option, Some, ℕ}
use Rattle.std.specs.List.{list_any}
use Rattle.std.proofs.lemmas.Bool.{both_ways, or_cases}
use Rattle.std.proofs.lemmas.List.Folds.{list_any-append}
use Rattle.std.proofs.lemmas.Option.{none-some}
use Rattle.clv_base.specs.declared.names.TxId.{TxId}
use Rattle.clv_base.specs.declared.logs.LogRecord.{LogRecord}
use Rattle.clv_base.specs.declared.logs.LogRecord.TheVariants.{Update, Clr, Prepare, Commit, Abort, End, Restart, Add, Unadd, Forgotten, Check}
use Rattle.clv_base.specs.Orders.{tx_same}
use Rattle.clv_base.specs.Logs.{own_tx, is_commit_of, is_prepare_of, committed_in, prepared_in, prepare_of, commit_parts}
use Rattle.clv_base.proofs.SameNames.{or_left, or_right, tx_true}

-- whether some record passes, with one more
pub push_cases : (test : LogRecord → Bool) (log : List LogRecord) (r : LogRecord) → list_any test (log ++ r ∷ []) ≡ true → (list_any test log ≡ true) ⊎ (test r ≡ true)
push_cases test log r e =
    ⊎_elim (λ a. inl a) (λ a. ⊎_elim (λ b. inr b) (λ b. absurd (both_ways false refl b)) (or_cases (test r) false a)) (or_cases (list_any test log) (list_any test (r ∷ [])) (sym (list_any-append test log (r ∷ [])) ∙ e))

pub push_right : (test : LogRecord → Bool) (log : List LogRecord) (r : LogRecord) → test r ≡ true → list_any test (log ++ r ∷ []) ≡ true
push_right test log r e = list_any-append test log (r ∷ []) ∙ or_right (list_any test log) (list_any test (r ∷ [])) (or_left (test r) false e)

both_false : (a b : Bool) → a ≡ false → b ≡ false → (a || (b || false)) ≡ false
both_false true b e f = e
both_false false true e f = f
both_false false false e f = refl

pub push_false : (test : LogRecord → Bool) (log : List LogRecord) (r : LogRecord) → list_any test log ≡ false → test r ≡ false → list_any test (log ++ r ∷ []) ≡ false
push_false test log r e f = list_any-append test log (r ∷ []) ∙ both_false (list_any test log) (test r) e f

or_nothing : (a b : Bool) → b ≡ false → a ≡ (a || (b || false))
or_nothing true b e = refl
or_nothing false true e = sym e
or_nothing false false e = refl

-- a record of another kind changes nothing
pub push_same : (test : LogRecord → Bool) (log : List LogRecord) (r : LogRecord) → test r ≡ false → list_any test log ≡ list_any test (log ++ r ∷ [])
push_same test log r e = or_nothing (list_any test log) (test r) e ∙ sym (list_any-append test log (r ∷ []))

-- whose record it is
pub own_commit : (t : TxId) (r : LogRecord) → is_commit_of t r ≡ true → own_tx r ≡ Some t
own_commit t (Commit tx parts) e = ap (λ z. Some z) (sym (tx_true t tx e))
own_commit t _ e = absurd (both_ways false refl e)

pub own_prepare : (t : TxId) (r : LogRecord) → is_prepare_of t r ≡ true → own_tx r ≡ Some t
own_prepare t (Prepare tx home ps) e = ap (λ z. Some z) (sym (tx_true t tx e))
own_prepare t _ e = absurd (both_ways false refl e)

-- what a PREPARE and a COMMIT name is there with them
there_case : {X : Type 0} (b c : Bool) (x p : X) (o : Option X) → cond b (Some x) o ≡ Some p → (o ≡ Some p → c ≡ true) → (b || c) ≡ true
there_case true c x p o e k = refl
there_case false c x p o e k = k e

pub prepared_there : (rs : List LogRecord) (t : TxId) (p : ℕ × List TxId) → prepare_of rs t ≡ Some p → prepared_in rs t ≡ true
prepared_there [] t p e = absurd (none-some p e)
prepared_there (Prepare tx home ps ∷ rs) t p e = there_case (tx_same t tx) (prepared_in rs t) (home, ps) p (prepare_of rs t) e (prepared_there rs t p)
prepared_there (Update tx key before after ∷ rs) t p e = prepared_there rs t p e
prepared_there (Clr tx next key after ∷ rs) t p e = prepared_there rs t p e
prepared_there (Commit tx parts ∷ rs) t p e = prepared_there rs t p e
prepared_there (Abort tx ∷ rs) t p e = prepared_there rs t p e
prepared_there (End tx ∷ rs) t p e = prepared_there rs t p e
prepared_there (Restart run epoch ∷ rs) t p e = prepared_there rs t p e
prepared_there (Add tx key by ∷ rs) t p e = prepared_there rs t p e
prepared_there (Unadd tx next key by ∷ rs) t p e = prepared_there rs t p e
prepared_there (Forgotten ∷ rs) t p e = prepared_there rs t p e
prepared_there (Check run' epoch' upto base ∷ rs) t p e = prepared_there rs t p e

pub committed_there : (rs : List LogRecord) (t : TxId) (p : List ℕ) → commit_parts rs t ≡ Some p → committed_in rs t ≡ true
committed_there [] t p e = absurd (none-some p e)
committed_there (Commit tx parts ∷ rs) t p e = there_case (tx_same t tx) (committed_in rs t) parts p (commit_parts rs t) e (committed_there rs t p)
committed_there (Update tx key before after ∷ rs) t p e = committed_there rs t p e
committed_there (Clr tx next key after ∷ rs) t p e = committed_there rs t p e
committed_there (Prepare tx home ps ∷ rs) t p e = committed_there rs t p e
committed_there (Abort tx ∷ rs) t p e = committed_there rs t p e
committed_there (End tx ∷ rs) t p e = committed_there rs t p e
committed_there (Restart run epoch ∷ rs) t p e = committed_there rs t p e
committed_there (Add tx key by ∷ rs) t p e = committed_there rs t p e
committed_there (Unadd tx next key by ∷ rs) t p e = committed_there rs t p e
committed_there (Forgotten ∷ rs) t p e = committed_there rs t p e
committed_there (Check run' epoch' upto base ∷ rs) t p e = committed_there rs t p e
