-- The set that goes with an aborted transaction holds each successor of each of its members, and it is the least such set.
use Rattle.std.proofs.Common.{◌≡◌, ⊎_elim, true, false, List, [], ◌∷◌, length, refl, subst}
use Rattle.std.proofs.lemmas.Bool.{both_ways, or_cases}
use Rattle.clv_base.specs.declared.names.TxId.{TxId}
use Rattle.clv_base.specs.Orders.{tx_same, tx_in}
use Rattle.clv_base.proofs.SameNames.{or_left, tx_true, tx_self}
use Rattle.law_base.proofs.Successors.{doomed_up, through_all, keeps_through}
use Rattle.protocol_laws.specs.UndoLaws.{DoomedIsClosure}

one_in : (set : List TxId) (tx u : TxId) → tx_in tx set ≡ true → tx_in u (tx ∷ []) ≡ true → tx_in u set ≡ true
one_in set tx u h i = ⊎_elim (λ e. subst (λ x. tx_in x set ≡ true) (tx_true tx u e) h) (λ e. absurd (both_ways false refl e)) (or_cases (tx_same tx u) false i)

pub doomed_is_closure : DoomedIsClosure
doomed_is_closure l tx = (
  keeps_through (length l.pairs) l.pairs (tx ∷ []) tx (or_left _ _ (tx_self tx)),
  doomed_up l tx,
  λ set h closed u i. through_all (λ x. tx_in x set ≡ true) (length l.pairs) l.pairs (tx ∷ []) closed (λ w j. one_in set tx w h j) u i,
)
