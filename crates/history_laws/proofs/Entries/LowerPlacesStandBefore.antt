-- Who has a lower place stands before.
use Rattle.std.proofs.Common.{◌≡◌, inl, inr, ⊎_elim, refl, sym, zero, suc, ◌<◌, true, false, cond, Bool, List, [], ◌∷◌, ◌||◌, arith}
use Rattle.std.proofs.lemmas.Bool.{both_ways, or_cases, or_left, or_right}
use Rattle.clv_base.specs.declared.names.TxId.{TxId}
use Rattle.clv_base.specs.Orders.{tx_same, tx_in}
use Rattle.clv_base.proofs.SameNames.{tx_true, tx_flip}
use Rattle.shard_laws.specs.OneShard.{place}
use Rattle.history_laws.specs.Places.{StandsBefore}

place_case : (p t a : TxId) (rest : List TxId) (b c : Bool) → tx_same t a ≡ b → tx_same p a ≡ c → cond c zero (suc (place rest p)) < cond b zero (suc (place rest t)) → (b || tx_in t rest) ≡ true
    → (place rest p < place rest t → tx_in t rest ≡ true → StandsBefore p t rest) → StandsBefore p t (a ∷ rest)
place_case p t a rest true true e f l i k = absurd (omega (arith, l))
place_case p t a rest true false e f l i k = absurd (omega (arith, l))
place_case p t a rest false true e f l i k = inl (sym (tx_true p a f), i)
place_case p t a rest false false e f l i k = inr (k (omega (arith, l)) i)

same_flip_in : (t a : TxId) (rest : List TxId) → tx_in t (a ∷ rest) ≡ true → (tx_same t a || tx_in t rest) ≡ true
same_flip_in t a rest e = ⊎_elim (λ x. or_left (tx_same t a) (tx_in t rest) (flipped x)) (λ x. or_right (tx_same t a) (tx_in t rest) x) (or_cases (tx_same a t) (tx_in t rest) e)
  where
    flipped : tx_same a t ≡ true → tx_same t a ≡ true
    flipped x = tx_flip a t x

pub placed_before : (p t : TxId) (xs : List TxId) → place xs p < place xs t → tx_in t xs ≡ true → StandsBefore p t xs
placed_before p t [] l i = absurd (both_ways false refl i)
placed_before p t (a ∷ rest) l i = place_case p t a rest (tx_same t a) (tx_same p a) refl refl l (same_flip_in t a rest i) (placed_before p t rest)
