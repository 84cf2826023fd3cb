-- There is one verdict.
use Rattle.std.proofs.Common.{◌≡◌, ℕ, suc, ◌<◌, List, [], ◌∷◌, ◌++◌, length, inl, inr, refl, sym, ap, ap₂, ◌∙◌, subst, arith, append_assoc}
use Rattle.std.proofs.lemmas.Bool.{cases_order}
use Rattle.std.specs.List.{AllByRecursion}
use Rattle.clv_base.specs.Maps.{KeyMap, acts_after, acts_answers, replay_answers, map_get}
use Rattle.law_base.specs.Items.{AllLater}
use Rattle.report_reading.specs.declared.told.ReportedTx.{ReportedTx}
use Rattle.report_reading.specs.Told.{numbered}
use Rattle.clv_audit.specs.Right.{AreRight, IsFirstWrong, SerialRises, all_acts, all_answers, answers_of, last_map}
use Rattle.clv_audit.specs.Verdicts.{Wrong, Open, WrongMap, Yes}
use Rattle.clv_audit.specs.Laws.{VerdictsAreOne}
use Rattle.clv_audit.proofs.Judging.{one_difference}

-- ---- a front of right transactions is right

later_front : {I : Type 0} (R : I → I → Type 0) (xs ys : List I) → AllLater R (xs ++ ys) → AllLater R xs
later_front R [] ys h = tt
later_front {I} R (x ∷ xs) ys h = (at xs h.0, later_front R xs ys h.1)
  where
    at : (zs : List I) → AllByRecursion (R x) (zs ++ ys) → AllByRecursion (R x) zs
    at [] a = tt
    at (z ∷ zs) a = (a.0, at zs a.1)

answers_front : (m : KeyMap) (xs ys : List ReportedTx) → replay_answers m (all_acts (xs ++ ys)) ≡ all_answers (xs ++ ys) → replay_answers m (all_acts xs) ≡ all_answers xs
answers_front m [] ys e = refl
answers_front m (x ∷ xs) ys e =
    let first : acts_answers (numbered x.acts) m [] ≡ answers_of x.acts = cc in
    let rest : replay_answers (acts_after (numbered x.acts) m []) (all_acts (xs ++ ys)) ≡ all_answers (xs ++ ys) = cc in
    ap₂ (λ a l. a ∷ l) first (answers_front (acts_after (numbered x.acts) m []) xs ys rest)

right_front : (m : KeyMap) (xs ys : List ReportedTx) → AreRight m (xs ++ ys) → AreRight m xs
right_front m xs ys r = record { serials = later_front SerialRises xs ys r.serials; answers = answers_front m xs ys r.answers }

not_wrong : (m : KeyMap) (ts : List ReportedTx) (place : ℕ) → IsFirstWrong m ts place → AreRight m ts → ⊥
not_wrong m ts place w r = w.wrong (right_front m (w.front ++ w.tx ∷ []) w.behind (subst (AreRight m) (w.all ∙ sym (append_assoc w.front (w.tx ∷ []) w.behind)) r))

-- ---- the first of two places

longer : (xs : List ReportedTx) (x : ReportedTx) (xs2 ys : List ReportedTx) (y : ReportedTx) (ys2 : List ReportedTx) → xs ++ x ∷ xs2 ≡ ys ++ y ∷ ys2 → length xs < length ys
    → (rest : List ReportedTx) × (ys ≡ (xs ++ x ∷ []) ++ rest)
longer xs x xs2 [] y ys2 e h = absurd (omega arith)
longer [] x xs2 (z ∷ ys) y ys2 e h = (let first : x ≡ z = cc in (ys, ap (λ w. w ∷ ys) (sym first)))
longer (w ∷ xs) x xs2 (z ∷ ys) y ys2 e h =
    let first : w ≡ z = cc in
    let rest : xs ++ x ∷ xs2 ≡ ys ++ y ∷ ys2 = cc in
    let more = longer xs x xs2 ys y ys2 rest (omega arith) in (more.0, ap₂ (λ a l. a ∷ l) (sym first) more.1)

not_before : (m : KeyMap) (ts : List ReportedTx) (a b : ℕ) (v : IsFirstWrong m ts a) (w : IsFirstWrong m ts b) → length v.front < length w.front → ⊥
not_before m ts a b v w h =
    let more = longer v.front v.tx v.behind w.front w.tx w.behind (sym v.all ∙ w.all) h in v.wrong (right_front m (v.front ++ v.tx ∷ []) more.0 (subst (AreRight m) more.1 w.right))

one_place : (m : KeyMap) (ts : List ReportedTx) (a b : ℕ) → IsFirstWrong m ts a → IsFirstWrong m ts b → a ≡ b
one_place m ts a b v w = elim (cases_order (length v.front) (length w.front)) [
  | inl same ↦ v.at ∙ ap suc same ∙ sym w.at
  | inr (inl low) ↦ absurd (not_before m ts a b v w low)
  | inr (inr high) ↦ absurd (not_before m ts b a w v high)
]

-- ---- all pairs of verdicts

pub one : VerdictsAreOne
one r left (Wrong a) (Wrong b) v w = ap Wrong (one_place r.pairs r.txs a b v w)
one r left (Wrong a) (Open b) v w = absurd (not_wrong r.pairs r.txs a v w.0)
one r left (Wrong a) (WrongMap b) v w = absurd (not_wrong r.pairs r.txs a v w.0)
one r left (Wrong a) (Yes b) v w = absurd (not_wrong r.pairs r.txs a v w.0)
one r left (Open a) (Wrong b) v w = absurd (not_wrong r.pairs r.txs b w v.0)
one r left (Open a) (Open b) v w = ap Open (v.2 ∙ sym w.2)
one r left (Open a) (WrongMap b) v w = absurd (v.1 w.1)
one r left (Open a) (Yes b) v w = absurd (v.1 w.1)
one r left (WrongMap a) (Wrong b) v w = absurd (not_wrong r.pairs r.txs b w v.0)
one r left (WrongMap a) (Open b) v w = absurd (w.1 v.1)
one r left (WrongMap a) (WrongMap b) v w = ap WrongMap (one_difference a b (last_map r.pairs r.txs) left v.2 w.2)
one r left (WrongMap a) (Yes b) v w = absurd ((v.2).differ (ap (map_get a) w.2))
one r left (Yes a) (Wrong b) v w = absurd (not_wrong r.pairs r.txs b w v.0)
one r left (Yes a) (Open b) v w = absurd (w.1 v.1)
one r left (Yes a) (WrongMap b) v w = absurd ((w.2).differ (ap (map_get b) v.2))
one r left (Yes a) (Yes b) v w = ap Yes (v.3 ∙ sym w.3)
