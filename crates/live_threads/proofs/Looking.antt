-- What a look at rings tells of them as they were before it.
use Rattle.std.proofs.Common.{◌≡◌, sym, ap, subst, ◌∙◌, ℕ, ◌≤◌, List, ◌++◌, length, arith}
use Rattle.rtrb.specs.declared.producer.Producer.{Producer}
use Rattle.rtrb.specs.declared.consumer.Consumer.{Consumer}
use Rattle.live_streams.specs.Rings.{ArePairs, AreFronts, AreAllTaken, SameMakers, SameTakers}

module _ {T A P : Type 0} (count : ℕ) (makers makers' : List (Producer T A P)) (takers takers' : List (Consumer T A P)) (same : SameMakers makers makers') (same' : SameTakers takers takers') (few : count ≤ length makers) (few' : count ≤ length takers) where
  pub fronts_before : AreFronts count makers' takers' → AreFronts count makers takers
  fronts_before fronts k p c low =
      let f = fronts k p c low in
      (f.0, sym (same.sent_is k p (omega arith)) ∙ (f.1 ∙ ap (λ l. l ++ f.0) (same'.received_is k c (omega arith))))

  pub taken_before : AreAllTaken count makers' takers' → AreAllTaken count makers takers
  taken_before taken k p c low = sym (same'.received_is k c (omega arith)) ∙ (taken k p c low ∙ same.sent_is k p (omega arith))

-- of lists that are others
module _ {T A P : Type 0} (n count : ℕ) (makers all : List (Producer T A P)) (takers all' : List (Consumer T A P)) (is : makers ≡ all) (is' : takers ≡ all') (so_many : count ≡ n) where
  pub pairs_of : ArePairs n all all' → ArePairs count makers takers
  pairs_of pairs = subst (λ m. ArePairs m makers takers) (sym so_many) (subst (λ l. ArePairs n l takers) (sym is) (subst (λ l. ArePairs n all l) (sym is') pairs))

  module _ (makers' : List (Producer T A P)) (takers' : List (Consumer T A P)) (same : SameMakers makers makers') (same' : SameTakers takers takers') (few : n ≤ length makers) (few' : n ≤ length takers) where
    pub fronts_of : AreFronts count makers' takers' → AreFronts n all all'
    fronts_of fronts =
        subst (λ l. AreFronts n l all') is (subst (λ l. AreFronts n makers l) is' (fronts_before n makers makers' takers takers' same same' few few' (subst (λ m. AreFronts m makers' takers') so_many fronts)))

    pub taken_of : AreAllTaken count makers' takers' → AreAllTaken n all all'
    taken_of taken =
        subst (λ l. AreAllTaken n l all') is (subst (λ l. AreAllTaken n makers l) is' (taken_before n makers makers' takers takers' same same' few few' (subst (λ m. AreAllTaken m makers' takers') so_many taken)))
