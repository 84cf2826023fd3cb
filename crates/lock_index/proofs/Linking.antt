-- Looking a place of a thread up is looking its key up.
use Rattle.std.proofs.Common.{◌≡◌, refl, sym, ap, ◌∙◌, Bool, true, false, cond, ◌&&◌, ◌==◌, [], ◌∷◌, Option, Some, None}
use Rattle.std.specs.Map.{lookup}
use Rattle.std.specs.Ordering.{nat_cmp, is_eq}
use Rattle.clv_base.specs.declared.names.TxId.{TxId}
use Rattle.clv_base.specs.declared.modes.Anchor.{Anchor}
use Rattle.clv_base.specs.declared.modes.Anchor.TheVariants.{Low as LowAnchor, At as AtAnchor}
use Rattle.clv_base.specs.Orders.{tx_same}
use Rattle.lock_index.specs.declared.links.Spot.{Spot}
use Rattle.lock_index.specs.declared.links.Spot.TheVariants.{First, Low, At}
use Rattle.lock_index.specs.declared.links.Link.{Link}
use Rattle.lock_index.specs.contracts.links.SpotPartialEq.TheImpl.{eq-value as spot-eq}
use Rattle.lock_index.specs.contracts.links.LinkPartialEq.TheImpl.{eq-value}
use Rattle.lock_index.specs.Links.{Links, spot_of, place_of, link_of, tx_of, same_place, is_link, next_of}
use Rattle.law_base.proofs.Bools.{then_tied as then_eq}
use Rattle.law_base.proofs.Numbers.{cmp_eq}

same_names : (t : TxId) (k : Link) → tx_same t (tx_of k) ≡ ((t.run == k.run) && ((t.session == k.session) && (t.serial == k.serial)))
same_names t k =
    then_eq (nat_cmp t.run k.run) _
    ∙ ap (λ o. is_eq (nat_cmp t.run k.run) && o) (then_eq (nat_cmp t.session k.session) (nat_cmp t.serial k.serial))
    ∙ (ap (λ x. x && (is_eq (nat_cmp t.session k.session) && is_eq (nat_cmp t.serial k.serial))) (cmp_eq t.run k.run)
    ∙ (ap (λ x. (t.run == k.run) && (x && is_eq (nat_cmp t.serial k.serial))) (cmp_eq t.session k.session)
    ∙ ap (λ x. (t.run == k.run) && ((t.session == k.session) && x)) (cmp_eq t.serial k.serial)))

same_spots : (p : Option Anchor) (s : Spot) → spot-eq.it (spot_of p) s ≡ same_place p (place_of s)
same_spots None First = refl
same_spots None Low = refl
same_spots None (At k) = refl
same_spots (Some LowAnchor) First = refl
same_spots (Some LowAnchor) Low = refl
same_spots (Some LowAnchor) (At k) = refl
same_spots (Some (AtAnchor j)) First = refl
same_spots (Some (AtAnchor j)) Low = refl
same_spots (Some (AtAnchor j)) (At k) = sym (cmp_eq j k)

regrouped : (a b c d : Bool) → (a && (b && (c && d))) ≡ ((a && (b && c)) && d)
regrouped false b c d = refl
regrouped true false c d = refl
regrouped true true c d = refl

pub same_link : (t : TxId) (p : Option Anchor) (l : Link) → eq-value.it (link_of t p) l ≡ is_link t p l
same_link t p l = regrouped (t.run == l.run) (t.session == l.session) (t.serial == l.serial) (spot-eq.it (spot_of p) l.spot)
    ∙ (ap (λ b. b && spot-eq.it (spot_of p) l.spot) (sym (same_names t l)) ∙ ap (λ b. tx_same t (tx_of l) && b) (same_spots p l.spot))

pub found_next : (t : TxId) (p : Option Anchor) (ls : Links) → lookup (eq-value.it (link_of t p)) ls ≡ next_of t p ls
found_next t p [] = refl
found_next t p (e ∷ es) = ap (λ b. cond b (Some e.1) (lookup (eq-value.it (link_of t p)) es)) (same_link t p e.0) ∙ ap (λ l. cond (is_link t p e.0) (Some e.1) l) (found_next t p es)

place_back : (p : Option Anchor) → place_of (spot_of p) ≡ p
place_back None = refl
place_back (Some LowAnchor) = refl
place_back (Some (AtAnchor k)) = refl

-- what a write at one key makes of all places
pub next_changed : (u : TxId) (q : Option Anchor) (ls ms : Links) (w : Option (Option Anchor)) → ((k : Link) → lookup (eq-value.it k) ms ≡ cond (eq-value.it (link_of u q) k) w (lookup (eq-value.it k) ls))
    → (t : TxId) (p : Option Anchor) → next_of t p ms ≡ cond (tx_same u t && same_place q p) w (next_of t p ls)
next_changed u q ls ms w now t p = sym (found_next t p ms) ∙ (now (link_of t p) ∙ (ap (λ b. cond b w (lookup (eq-value.it (link_of t p)) ls)) (same_link u q (link_of t p) ∙ ap (λ o. tx_same u t && same_place q o) (place_back p)) ∙ ap (λ l. cond (tx_same u t && same_place q p) w l) (found_next t p ls)))
