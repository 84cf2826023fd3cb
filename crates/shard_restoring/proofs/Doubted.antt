-- Those in doubt rise, and so do their parts.
use Rattle.std.proofs.Common.{◌≡◌, List, ◌∷◌, ◌++◌, refl, sym, ap, subst, ◌∙◌, ℕ, ◌+◌, ◌<◌, length, get_or, drop, drop-cons, add-one}
use Rattle.std.specs.List.Sorted.{IsStrictlySortedBy}
use Rattle.std.specs.Map.{keys_of}
use Rattle.std.specs.BTreeMap.{insert_entry}
use Rattle.clv_base.specs.declared.names.TxId.{TxId}
use Rattle.clv_base.specs.declared.state.Held.{Held}
use Rattle.clv_base.specs.Orders.{Table, tx_cmp}
use Rattle.clv_base.specs.Restarts.{restored_part, restored_parts}
use Rattle.law_base.proofs.Tables.{put_last}
use Rattle.law_base.proofs.Names.{Rise as Rises, keys_restored}

pub step_parts : (i : ℕ) (ts : List TxId) (d : TxId) (now : Table Held) → Rises ts → i < length ts → now ++ restored_parts (drop i ts) ≡ restored_parts ts
    → insert_entry tx_cmp now (get_or ts i d) (restored_part (get_or ts i d)) ++ restored_parts (drop (i + 1) ts) ≡ restored_parts ts
step_parts i ts d now s h e =
    let cut : drop i ts ≡ get_or ts i d ∷ drop (i + 1) ts = rw (add-one, drop-cons ts i d) refl in
    let whole : now ++ restored_parts (get_or ts i d ∷ drop (i + 1) ts) ≡ restored_parts ts = ap (λ l. now ++ restored_parts l) (sym cut) ∙ e in
    put_last (get_or ts i d) (restored_part (get_or ts i d)) now (restored_parts (drop (i + 1) ts))
    (subst (λ ks. IsStrictlySortedBy tx_cmp ks) (sym (ap keys_of whole ∙ keys_restored ts)) s) ∙ whole
