-- Looking a transaction up is looking its key up.
use Rattle.std.proofs.Common.{◌≡◌, Bool, cond, ◌&&◌, ◌==◌, List, [], ◌∷◌, Some, refl, ap, ◌∙◌}
use Rattle.std.specs.Map.{lookup}
use Rattle.std.specs.Ordering.{nat_cmp, is_eq}
use Rattle.clv_base.specs.declared.names.TxId.{TxId}
use Rattle.clv_base.specs.Orders.{tx_same, tx_get}
use Rattle.tx_table.specs.declared.key.Key.{Key}
use Rattle.tx_table.specs.Keys.{key_of, named, by_name}
use Rattle.law_base.proofs.Bools.{then_tied as then_eq}
use Rattle.law_base.proofs.Numbers.{cmp_eq}

-- whether two keys are equal
abbrev pub same_key : Key → Key → Bool
same_key a b = (a.run == b.run) && ((a.session == b.session) && (a.serial == b.serial))

pub tx_same-key : (t : TxId) (k : Key) → tx_same t (named k) ≡ same_key (key_of t) k
tx_same-key t k =
    then_eq (nat_cmp t.run k.run) _
    ∙ ap (λ o. is_eq (nat_cmp t.run k.run) && o) (then_eq (nat_cmp t.session k.session) (nat_cmp t.serial k.serial))
    ∙ (ap (λ x. x && (is_eq (nat_cmp t.session k.session) && is_eq (nat_cmp t.serial k.serial))) (cmp_eq t.run k.run)
    ∙ (ap (λ x. (t.run == k.run) && (x && is_eq (nat_cmp t.serial k.serial))) (cmp_eq t.session k.session)
    ∙ ap (λ x. (t.run == k.run) && ((t.session == k.session) && x)) (cmp_eq t.serial k.serial)))

pub tx_get-by_name : {V : Type 0} (t : TxId) (es : List (Key × V)) → tx_get t (by_name es) ≡ lookup (same_key (key_of t)) es
tx_get-by_name t [] = refl
tx_get-by_name t (e ∷ es) = ap (λ l. cond (tx_same t (named e.0)) (Some e.1) l) (tx_get-by_name t es) ∙ ap (λ b. cond b (Some e.1) (lookup (same_key (key_of t)) es)) (tx_same-key t e.0)
