-- One call more behind those that were made.
use Rattle.std.proofs.Common.{◌≡◌, refl, sym, ap, ◌∙◌, List, [], ◌∷◌, ◌++◌}
use Rattle.clv_base.specs.Needs.{Records}
use Rattle.callers.specs.declared.store_calls.StoreCall.{StoreCall}
use Rattle.callers.specs.declared.store_answers.StoreAnswer.{StoreAnswer}
use Rattle.callers.specs.StoreRuns.{answer_of, records_by, answers_of, records_after}

records_behind : (cs : List StoreCall) (c : StoreCall) (rs : Records) → records_after (cs ++ c ∷ []) rs ≡ records_by c (records_after cs rs)
records_behind [] c rs = refl
records_behind (x ∷ xs) c rs = records_behind xs c (records_by x rs)

answers_behind : (cs : List StoreCall) (c : StoreCall) (rs : Records) → answers_of (cs ++ c ∷ []) rs ≡ answers_of cs rs ++ answer_of c (records_after cs rs) ∷ []
answers_behind [] c rs = refl
answers_behind (x ∷ xs) c rs = ap (λ l. answer_of x rs ∷ l) (answers_behind xs c (records_by x rs))

-- made are the first calls, told their answers, and then c is made
module _ (made : List StoreCall) (c : StoreCall) (start now : Records) (so_far : now ≡ records_after made start) where
  pub records-longer : (after : Records) → after ≡ records_by c now → after ≡ records_after (made ++ c ∷ []) start
  records-longer after e = e ∙ ap (records_by c) so_far ∙ sym (records_behind made c start)

  pub answers-longer : (told : List StoreAnswer) (a : StoreAnswer) → told ≡ answers_of made start → a ≡ answer_of c now → told ++ a ∷ [] ≡ answers_of (made ++ c ∷ []) start
  answers-longer told a e is =
      ap (λ l. l ++ a ∷ []) e ∙ ap (λ x. answers_of made start ++ x ∷ []) (is ∙ ap (answer_of c) so_far) ∙ sym (answers_behind made c start)
