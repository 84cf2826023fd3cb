-- For callers: what a turn may leave behind.
use Rattle.std.proofs.Common.{◌≡◌, ℕ, List, [], ◌∷◌, ◌++◌, sym, ap, ◌∙◌, append-nil, Option, Some, None, MatchOption}
use Rattle.std.proofs.lemmas.List.Elements.{All-cons, All-nil}
use Rattle.turn_lock.specs.Journals.{GrownBy}

module _ {E : Type 0} (maker : E → ℕ) (w : ℕ) (seen before after : List E) (e : E) where
  pub grown_same : seen ≡ before → after ≡ before → GrownBy maker w seen after
  grown_same is same = ([], same ∙ (sym is ∙ sym (append-nil seen)), All-nil (λ x. maker x ≡ w))

  pub grown_one : seen ≡ before → after ≡ before ++ e ∷ [] → maker e ≡ w → GrownBy maker w seen after
  grown_one is more made = (e ∷ [], more ∙ ap (λ l. l ++ e ∷ []) (sym is), All-cons (λ x. maker x ≡ w) e [] made (All-nil (λ x. maker x ≡ w)))

  pub grown_option : {A : Type 0} (r : Option A) → seen ≡ before → MatchOption r (after ≡ before) (λ _. after ≡ before ++ e ∷ []) → maker e ≡ w → GrownBy maker w seen after
  grown_option (Some a) is more made = grown_one is more made
  grown_option None is same made = grown_same is same

pub grown_none : {E : Type 0} (maker : E → ℕ) (w : ℕ) (seen before after : List E) → seen ≡ before → after ≡ before → GrownBy maker w seen after
grown_none maker w seen before after is same = ([], same ∙ (sym is ∙ sym (append-nil seen)), All-nil (λ x. maker x ≡ w))
