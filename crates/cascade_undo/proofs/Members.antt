-- Who is a member of a list of transactions, and of the marks with more.
use Rattle.std.proofs.Common.{◌≡◌, ◌⊎◌, inl, inr, ⊎_elim, Bool, true, false, cond, ◌&&◌, ◌||◌, List, [], ◌∷◌, ◌++◌, map, refl, sym, ap, subst, ◌∙◌, append_assoc}
use Rattle.std.proofs.lemmas.Bool.{both_ways, or_cases}
use Rattle.std.specs.List.{list_any}
use Rattle.std.specs.Ordering.{is_eq}
use Rattle.std.specs.Cmp.{both_ways as same_tests}
use Rattle.clv_base.specs.declared.names.TxId.{TxId}
use Rattle.clv_base.specs.Orders.{tx_cmp, tx_same, tx_in, tx_insert, pair_cmp}
use Rattle.clv_base.specs.Facts.{predecessors_of}
use Rattle.clv_base.proofs.SameNames.{or_left, or_right, tx_true, tx_eq, in_insert, insert_keeps, insert_has}
use Rattle.protocol_laws.specs.UndoLaws.{is_pair}
use Rattle.cascade_undo.specs.Marking.{marks_with, new_marks}
use Rattle.cascade_undo.proofs.Runs.{of_tx}
use Rattle.law_base.proofs.Sets.{same_flip as tx_symmetric}
use Rattle.law_base.proofs.Names.{in_append as tx_in-append, tx_in-insert}
use Rattle.law_base.proofs.Bools.{or_none, then_tied}

abbrev pub Within : List TxId → List TxId → Type 0
Within xs ys = (t : TxId) → tx_in t xs ≡ true → tx_in t ys ≡ true

pub tx_in-more : (t : TxId) (xs : List TxId) (x : TxId) → tx_in t (xs ++ x ∷ []) ≡ (tx_in t xs || tx_same x t)
tx_in-more t xs x = tx_in-append t xs (x ∷ []) ∙ ap (λ b. tx_in t xs || b) (or_none (tx_same x t))

-- ---- the marks with more

pub marks_keep : (xs marks : List TxId) → Within marks (marks_with xs marks)
marks_keep [] marks t e = e
marks_keep (x ∷ xs) marks t e = marks_keep xs (tx_insert x marks) t (insert_keeps x t marks e)

pub marks_have : (xs marks : List TxId) → Within xs (marks_with xs marks)
marks_have [] marks t e = absurd (both_ways false refl e)
marks_have (x ∷ xs) marks t e =
    ⊎_elim (λ s. marks_keep xs (tx_insert x marks) t (subst (λ y. tx_in y (tx_insert x marks) ≡ true) (tx_true x t s) (insert_has x marks))) (λ m. marks_have xs (tx_insert x marks) t m) (or_cases (tx_same x t) (tx_in t xs) e)

pub marks_from : (xs marks : List TxId) (t : TxId) → tx_in t (marks_with xs marks) ≡ true → (tx_in t xs ≡ true) ⊎ (tx_in t marks ≡ true)
marks_from [] marks t e = inr e
marks_from (x ∷ xs) marks t e =
    ⊎_elim (λ m. inl (or_right (tx_same x t) _ m)) (λ m. ⊎_elim (λ s. inl (or_left _ _ (tx_eq x t (sym s)))) (λ k. inr k) (in_insert x t marks m)) (marks_from xs (tx_insert x marks) t e)

-- a queue that has the marks has them still, with those that are new
pub queue_has : (xs marks queue : List TxId) → ((t : TxId) → tx_in t queue ≡ tx_in t marks) → (t : TxId) → tx_in t (queue ++ new_marks xs marks) ≡ tx_in t (marks_with xs marks)
queue_has [] marks queue same t = ap (tx_in t) (no_more queue) ∙ same t
  where
    no_more : (l : List TxId) → l ++ [] ≡ l
    no_more [] = refl
    no_more (x ∷ l) = ap (λ r. x ∷ r) (no_more l)
queue_has (x ∷ xs) marks queue same t = at (tx_in x marks) refl (queue_has xs (tx_insert x marks))
  where
    known : (u : TxId) → tx_in x marks ≡ true → tx_in u queue ≡ tx_in u (tx_insert x marks)
    known u m = same u ∙ same_tests _ _ (λ e. insert_keeps x u marks e) (λ e. ⊎_elim (λ s. subst (λ y. tx_in y marks ≡ true) (sym s) m) (λ k. k) (in_insert x u marks e))

    flip : (a b : Bool) → (a || b) ≡ (b || a)
    flip true true = refl
    flip true false = refl
    flip false true = refl
    flip false false = refl

    grown : (u : TxId) → tx_in u (queue ++ x ∷ []) ≡ tx_in u (tx_insert x marks)
    grown u = tx_in-more u queue x ∙ (ap (λ b. b || tx_same x u) (same u) ∙ (flip (tx_in u marks) (tx_same x u) ∙ sym (tx_in-insert x u marks)))

    at : (b : Bool) → tx_in x marks ≡ b → ((q : List TxId) → ((u : TxId) → tx_in u q ≡ tx_in u (tx_insert x marks)) → (u : TxId) → tx_in u (q ++ new_marks xs (tx_insert x marks)) ≡ tx_in u (marks_with xs (tx_insert x marks)))
        → tx_in t (queue ++ new_marks (x ∷ xs) marks) ≡ tx_in t (marks_with xs (tx_insert x marks))
    at true m more = ap (λ b. tx_in t (queue ++ cond b (new_marks xs (tx_insert x marks)) (x ∷ new_marks xs (tx_insert x marks)))) m ∙ more queue (λ u. known u m) t
    at false m more =
        ap (λ b. tx_in t (queue ++ cond b (new_marks xs (tx_insert x marks)) (x ∷ new_marks xs (tx_insert x marks)))) m
        ∙ ap (tx_in t) (sym (append_assoc queue (x ∷ []) (new_marks xs (tx_insert x marks)))) ∙ more (queue ++ x ∷ []) grown t

-- ---- the successors of a transaction, over pairs of predecessors and successors

abbrev pub successors : TxId → List (TxId × TxId) → List TxId
successors p turned = map (λ q. q.1) (of_tx p turned)

pub tx_in-successors : (p t : TxId) (turned : List (TxId × TxId)) → tx_in t (successors p turned) ≡ is_pair turned p t
tx_in-successors p t [] = refl
tx_in-successors p t (q ∷ qs) = at (tx_same p q.0) (tx_in-successors p t qs)
  where
    at : (b : Bool) → tx_in t (successors p qs) ≡ is_pair qs p t → tx_in t (map (λ q. q.1) (cond b (q ∷ of_tx p qs) (of_tx p qs))) ≡ ((b && tx_same t q.1) || is_pair qs p t)
    at true more = ap (λ b. b || tx_in t (successors p qs)) (tx_symmetric q.1 t) ∙ ap (λ b. tx_same t q.1 || b) more
    at false more = more

-- ---- a pair, and the predecessors

abbrev pub has_pair : TxId → TxId → List (TxId × TxId) → Bool
has_pair tx pred pairs = list_any (λ (p : TxId × TxId). is_eq (pair_cmp p (tx, pred))) pairs

pub in_predecessors : (tx pred : TxId) (pairs : List (TxId × TxId)) → has_pair tx pred pairs ≡ tx_in pred (predecessors_of pairs tx)
in_predecessors tx pred [] = refl
in_predecessors tx pred (p ∷ ps) =
    ap (λ b. b || has_pair tx pred ps) (then_tied (tx_cmp p.0 tx) (tx_cmp p.1 pred)) ∙ at (tx_same tx p.0) (tx_symmetric p.0 tx) (in_predecessors tx pred ps)
  where
    at : (b : Bool) → tx_same p.0 tx ≡ b → has_pair tx pred ps ≡ tx_in pred (predecessors_of ps tx)
        → ((tx_same p.0 tx && tx_same p.1 pred) || has_pair tx pred ps) ≡ tx_in pred (elim b [ true ↦ tx_insert p.1 (predecessors_of ps tx) | false ↦ predecessors_of ps tx ])
    at true e more = ap (λ c. (c && tx_same p.1 pred) || has_pair tx pred ps) e ∙ ap (λ c. tx_same p.1 pred || c) more ∙ sym (tx_in-insert p.1 pred (predecessors_of ps tx))
    at false e more = ap (λ c. (c && tx_same p.1 pred) || has_pair tx pred ps) e ∙ more
