-- Whose writes records undo, record by record: of one that is aborted before, or neither prepared nor committed before.
use Rattle.std.proofs.Common.{◌≡◌, ⊎_elim, refl, sym, subst, ◌∙◌, ℕ, Bool, true, false, not, ◌&&◌, ◌||◌, List, [], ◌∷◌, ◌++◌, append-nil, append_assoc}
use Rattle.std.proofs.lemmas.Bool.{both_ways, or_cases, or_parts}
use Rattle.std.proofs.lemmas.List.Folds.{list_any-append}
use Rattle.clv_base.specs.declared.names.TxId.{TxId}
use Rattle.clv_base.specs.declared.logs.LogRecord.{LogRecord}
use Rattle.clv_base.specs.declared.logs.LogRecord.TheVariants.{Clr, Unadd}
use Rattle.clv_base.specs.Logs.{is_abort_of, is_commit_of, is_prepare_of, is_undo_of, committed_in, prepared_in, aborted_in}
use Rattle.clv_base.specs.LogRules.{may_undo}
use Rattle.law_base.specs.Coming.{may_come}
use Rattle.clv_base.proofs.SameNames.{or_left, or_right, tx_true, tx_self}
use Rattle.law_base.proofs.Bools.{and_first as front, and_second as last}
use Rattle.protocol_laws.specs.Order.{undone_in, undoes, May_undo_at, Undoable}

-- ---- one record more, and more

pub undoable_push : (before log : List LogRecord) (r : LogRecord) → Undoable before log → May_undo_at (before ++ log) (undoes r) → Undoable before (log ++ r ∷ [])
undoable_push before [] r t o = (subst (λ l. May_undo_at l (undoes r)) (append-nil before) o, tt)
undoable_push before (x ∷ xs) r t o = (t.0, undoable_push (before ++ x ∷ []) xs r t.1 (subst (λ l. May_undo_at l (undoes r)) (sym (append_assoc before (x ∷ []) xs)) o))

pub undoable_append : (before xs ys : List LogRecord) → Undoable before xs → Undoable (before ++ xs) ys → Undoable before (xs ++ ys)
undoable_append before [] ys t u = subst (λ l. Undoable l ys) (append-nil before) u
undoable_append before (x ∷ xs) ys t u = (t.0, undoable_append (before ++ x ∷ []) xs ys t.1 (subst (λ l. Undoable l ys) (sym (append_assoc before (x ∷ []) xs)) u))

pub undoable_later : (before xs ys : List LogRecord) → Undoable before (xs ++ ys) → Undoable (before ++ xs) ys
undoable_later before [] ys t = subst (λ l. Undoable l ys) (sym (append-nil before)) t
undoable_later before (x ∷ xs) ys t = subst (λ l. Undoable l ys) (append_assoc before (x ∷ []) xs) (undoable_later (before ++ x ∷ []) xs ys t.1)

-- where none of the records undoes anything
pub undoable_none : (before rs : List LogRecord) → ((t : TxId) → undone_in rs t ≡ false) → Undoable before rs
undoable_none before [] h = tt
undoable_none before (r ∷ rs) h = (one r (λ t. (or_parts (is_undo_of t r) (undone_in rs t) (h t)).0), undoable_none (before ++ r ∷ []) rs (λ t. (or_parts (is_undo_of t r) (undone_in rs t) (h t)).1))
  where
    one : (q : LogRecord) → ((t : TxId) → is_undo_of t q ≡ false) → May_undo_at before (undoes q)
    one (Clr tx next key after) k = absurd (both_ways _ (k tx) (tx_self tx))
    one (Unadd tx next key by) k = absurd (both_ways _ (k tx) (tx_self tx))
    one _ k = tt

pub may_undo_step : (shard : ℕ) (part log : List LogRecord) (r : LogRecord) → may_come shard part log r ≡ true → May_undo_at log (undoes r)
may_undo_step shard part log (Clr tx next key after) m = last _ _ (front _ _ m)
may_undo_step shard part log (Unadd tx next key by) m = last _ _ (front _ _ m)
may_undo_step shard part log _ m = tt

-- ---- who was closed before

own_may : (log : List LogRecord) (r : LogRecord) (t : TxId) → May_undo_at log (undoes r) → is_undo_of t r ≡ true → may_undo log t ≡ true
own_may log (Clr tx next key after) t m e = subst (λ z. may_undo log z ≡ true) (sym (tx_true t tx e)) m
own_may log (Unadd tx next key by) t m e = subst (λ z. may_undo log z ≡ true) (sym (tx_true t tx e)) m
own_may log _ t m e = absurd (both_ways false refl e)

aborted_if : (p c a : Bool) → (a || (not p && not c)) ≡ true → (p || c) ≡ true → a ≡ true
aborted_if p c true m e = refl
aborted_if true c false m e = absurd (both_ways false refl m)
aborted_if false true false m e = absurd (both_ways false refl m)
aborted_if false false false m e = absurd (both_ways false refl e)

closed_more : (log : List LogRecord) (r : LogRecord) (t : TxId) → (prepared_in log t || committed_in log t) ≡ true → (prepared_in (log ++ r ∷ []) t || committed_in (log ++ r ∷ []) t) ≡ true
closed_more log r t e =
    ⊎_elim (λ h. or_left _ _ (list_any-append (is_prepare_of t) log (r ∷ []) ∙ or_left _ _ h)) (λ h. or_right _ _ (list_any-append (is_commit_of t) log (r ∷ []) ∙ or_left _ _ h)) (or_cases (prepared_in log t) (committed_in log t) e)

-- a transaction of which a write is undone behind its PREPARE or COMMIT is aborted
pub undone_later : (before rs : List LogRecord) (t : TxId) → Undoable before rs → undone_in rs t ≡ true → (prepared_in before t || committed_in before t) ≡ true → aborted_in (before ++ rs) t ≡ true
undone_later before [] t u e c = absurd (both_ways false refl e)
undone_later before (r ∷ rs) t u e c =
    ⊎_elim
    (λ h. list_any-append (is_abort_of t) before (r ∷ rs) ∙ or_left _ _ (aborted_if (prepared_in before t) (committed_in before t) (aborted_in before t) (own_may before r t u.0 h) c))
    (λ h. subst (λ l. aborted_in l t ≡ true) (append_assoc before (r ∷ []) rs) (undone_later (before ++ r ∷ []) rs t u.1 h (closed_more before r t c)))
    (or_cases (is_undo_of t r) (undone_in rs t) e)
