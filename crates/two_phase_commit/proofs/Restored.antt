-- Rising rows put in one after another stand in their order.
use Rattle.std.proofs.Common.{◌≡◌, List, [], ◌∷◌, ◌++◌, refl, sym, ap, subst, ◌∙◌, ℕ, ◌+◌, ◌<◌, length, get_or, drop, drop-cons, add-one}
use Rattle.std.specs.List.Sorted.{IsStrictlySortedBy}
use Rattle.std.specs.Map.{keys_of}
use Rattle.std.specs.BTreeMap.{insert_entry}
use Rattle.clv_base.specs.declared.names.TxId.{TxId}
use Rattle.clv_base.specs.declared.state.Voter.{Voter}
use Rattle.clv_base.specs.Orders.{Table, tx_cmp}
use Rattle.clv_base.specs.Participant.{restored_voter, restored_voters}
use Rattle.law_base.proofs.Tables.{put_last}

keys_restored : (homes : List (TxId × ℕ)) → keys_of (restored_voters homes) ≡ keys_of homes
keys_restored [] = refl
keys_restored (h ∷ hs) = ap (λ l. h.0 ∷ l) (keys_restored hs)

pub step_restored : (i : ℕ) (homes : List (TxId × ℕ)) (d : TxId × ℕ) (now : Table Voter) → IsStrictlySortedBy tx_cmp (keys_of homes) → i < length homes
    → now ++ restored_voters (drop i homes) ≡ restored_voters homes
    → insert_entry tx_cmp now (get_or homes i d).0 (restored_voter (get_or homes i d).1) ++ restored_voters (drop (i + 1) homes) ≡ restored_voters homes
step_restored i homes d now s h e =
    let cut : drop i homes ≡ get_or homes i d ∷ drop (i + 1) homes = rw (add-one, drop-cons homes i d) refl in
    let whole : now ++ restored_voters (get_or homes i d ∷ drop (i + 1) homes) ≡ restored_voters homes = ap (λ l. now ++ restored_voters l) (sym cut) ∙ e in
    put_last (get_or homes i d).0 (restored_voter (get_or homes i d).1) now (restored_voters (drop (i + 1) homes))
    (subst (λ ks. IsStrictlySortedBy tx_cmp ks) (sym (ap keys_of whole ∙ keys_restored homes)) s) ∙ whole
