-- Other holders are written on an anchor that the map has.
use Rattle.std.proofs.Common.{◌≡◌, refl, sym, ap, ◌∙◌, subst, ℕ, suc, ◌-◌, ◌+◌, ◌≤◌, Bool, true, false, cond, List, [], ◌∷◌, Some, None, Vec, vec_len, vec_capacity, arith}
use Rattle.std.specs.Option.{option_map_or}
use Rattle.std.specs.List.{AllByRecursion}
use Rattle.std.specs.Map.{lookup, set_value}
use Rattle.std.specs.declared.alloc.Global.{Global}
use Rattle.clv_base.specs.declared.modes.Anchor.{Anchor}
use Rattle.clv_base.specs.declared.modes.Need.{Need}
use Rattle.clv_base.specs.declared.modes.Holder.{Holder}
use Rattle.clv_base.specs.Orders.{anchor_same}
use Rattle.lock_index.specs.contracts.key.KeyPartialEq.TheImpl.{eq-value}
use Rattle.lock_index.specs.Keys.{key_of, anchor_of}
use Rattle.lock_index.specs.Groups.{Groups, NoneAt, Apart, group_at}
use Rattle.lock_index.specs.Rows.{Entries, groups, spare_on}
use Rattle.lock_index.specs.Writes.{with_each, there}
use Rattle.lock_index.proofs.Firsts.{same_key, found_same}
use Rattle.law_base.proofs.LockRows.{anchor_true}

-- a change on an anchor that no group has
pub none_changed : (a : Anchor) (f : List Holder → List Holder) (gs : Groups) → NoneAt a gs → with_each (there a f) gs ≡ gs
none_changed a f [] n = refl
none_changed a f (g ∷ gs) n = ap (λ t. (g.0, cond t (f g.1) g.1) ∷ with_each (there a f) gs) n.0 ∙ ap (λ l. g ∷ l) (none_changed a f gs n.1)

-- an anchor that isn't found has no group
pub not_found : (a : Anchor) (es : Entries) → lookup (eq-value.it (key_of a)) es ≡ None → NoneAt a (groups es)
not_found a [] e = tt
not_found a (x ∷ es) e = go (anchor_same a (anchor_of x.0)) refl (sym (ap (λ b. cond b (Some x.1) (lookup (eq-value.it (key_of a)) es)) (same_key a x.0)) ∙ e) (not_found a es)
  where
    go : (b : Bool) → anchor_same a (anchor_of x.0) ≡ b → cond b (Some x.1) (lookup (eq-value.it (key_of a)) es) ≡ None → (lookup (eq-value.it (key_of a)) es ≡ None → NoneAt a (groups es))
        → (anchor_same a (anchor_of x.0) ≡ false) × NoneAt a (groups es)
    go true t f more = absurd cc
    go false t f more = (t, more f)

module _ (a : Anchor) (f : List Holder → List Holder) (v w : Vec Holder Global) (changed : w.items ≡ f v.items) where
  pub set_groups : (es : Entries) → Apart (groups es) → lookup (eq-value.it (key_of a)) es ≡ Some v → groups (set_value (eq-value.it (key_of a)) es w) ≡ with_each (there a f) (groups es)
  set_groups [] p e = absurd cc
  set_groups (x ∷ es) p e = ap (λ b. groups (cond b ((x.0, w) ∷ es) (x ∷ set_value (eq-value.it (key_of a)) es w))) (same_key a x.0)
      ∙ go (anchor_same a (anchor_of x.0)) refl (sym (ap (λ b. cond b (Some x.1) (lookup (eq-value.it (key_of a)) es)) (same_key a x.0)) ∙ e) (set_groups es p.1)
    where
      go : (b : Bool) → anchor_same a (anchor_of x.0) ≡ b → cond b (Some x.1) (lookup (eq-value.it (key_of a)) es) ≡ Some v
          → (lookup (eq-value.it (key_of a)) es ≡ Some v → groups (set_value (eq-value.it (key_of a)) es w) ≡ with_each (there a f) (groups es))
          → groups (cond b ((x.0, w) ∷ es) (x ∷ set_value (eq-value.it (key_of a)) es w)) ≡ (anchor_of x.0, cond (anchor_same a (anchor_of x.0)) (f (x.1).items) (x.1).items) ∷ with_each (there a f) (groups es)
      go true t s more = let same : x.1 ≡ v = cc in
          ap (λ hs. (anchor_of x.0, hs) ∷ groups es) (changed ∙ ap (λ u. f u.items) (sym same))
          ∙ ap (λ l. (anchor_of x.0, f (x.1).items) ∷ l) (sym (none_changed a f (groups es) (subst (λ c. NoneAt c (groups es)) (sym (anchor_true a (anchor_of x.0) t)) p.0)))
          ∙ ap (λ b. (anchor_of x.0, cond b (f (x.1).items) (x.1).items) ∷ with_each (there a f) (groups es)) (sym t)
      go false t s more = ap (λ l. (anchor_of x.0, (x.1).items) ∷ l) (more s) ∙ ap (λ b. (anchor_of x.0, cond b (f (x.1).items) (x.1).items) ∷ with_each (there a f) (groups es)) (sym t)

-- ---- the room on an anchor

module _ (a : Anchor) (v w : Vec Holder Global) where
  abbrev left : Vec Holder Global → ℕ
  left u = vec_capacity u - vec_len u

  -- where as much less is left there, by n at most, so is it everywhere
  pub set_spare : (n : ℕ) → left v ≤ left w + n → (b : Anchor) (es : Entries) → lookup (eq-value.it (key_of a)) es ≡ Some v → spare_on b es ≤ spare_on b (set_value (eq-value.it (key_of a)) es w) + n
  set_spare n less b [] e = omega arith
  set_spare n less b (x ∷ es) e = subst (λ t. spare_on b (x ∷ es) ≤ spare_on b (cond t ((x.0, w) ∷ es) (x ∷ set_value (eq-value.it (key_of a)) es w)) + n) (sym (same_key a x.0))
      (go (anchor_same a (anchor_of x.0)) refl (sym (ap (λ t. cond t (Some x.1) (lookup (eq-value.it (key_of a)) es)) (same_key a x.0)) ∙ e) (set_spare n less b es))
    where
      side : (t : Bool) (es' : Entries) (k l : ℕ) → k ≤ l + n → spare_on b es ≤ spare_on b es' + n → option_map_or left (cond t (Some x.1) (lookup (λ k. anchor_same b (anchor_of k)) es)) 0 ≤ option_map_or left (cond t (Some x.1) (lookup (λ k. anchor_same b (anchor_of k)) es')) 0 + n
      side true es' k l m more = omega arith
      side false es' k l m more = more

      own : (t : Bool) → left x.1 ≤ left w + n → option_map_or left (cond t (Some x.1) (lookup (λ k. anchor_same b (anchor_of k)) es)) 0 ≤ option_map_or left (cond t (Some w) (lookup (λ k. anchor_same b (anchor_of k)) es)) 0 + n
      own true m = m
      own false m = omega arith

      go : (t : Bool) → anchor_same a (anchor_of x.0) ≡ t → cond t (Some x.1) (lookup (eq-value.it (key_of a)) es) ≡ Some v
          → (lookup (eq-value.it (key_of a)) es ≡ Some v → spare_on b es ≤ spare_on b (set_value (eq-value.it (key_of a)) es w) + n)
          → spare_on b (x ∷ es) ≤ spare_on b (cond t ((x.0, w) ∷ es) (x ∷ set_value (eq-value.it (key_of a)) es w)) + n
      go true t s more = let same : x.1 ≡ v = cc in own (anchor_same b (anchor_of x.0)) (subst (λ u. left u ≤ left w + n) (sym same) less)
      go false t s more = side (anchor_same b (anchor_of x.0)) (set_value (eq-value.it (key_of a)) es w) 0 0 (omega arith) (more s)

-- the room on an anchor that is found, and on one that isn't
pub room_is : (a : Anchor) (es : Entries) (v : Vec Holder Global) → lookup (eq-value.it (key_of a)) es ≡ Some v → spare_on a es ≡ vec_capacity v - vec_len v
room_is a es v e = ap (λ o. option_map_or (λ u. vec_capacity u - vec_len u) o 0) (sym (found_same a es) ∙ e)

-- there is none on an anchor without a group
pub no_spare : (a : Anchor) (es : Entries) → NoneAt a (groups es) → spare_on a es ≡ 0
no_spare a [] n = refl
no_spare a (x ∷ es) n = ap (λ t. option_map_or (λ u. vec_capacity u - vec_len u) (cond t (Some x.1) (lookup (λ k. anchor_same a (anchor_of k)) es)) 0) n.0 ∙ no_spare a es n.1

-- ---- groups with other holders are apart as they were

pub none_each : (f : Anchor → List Holder → List Holder) (a : Anchor) (gs : Groups) → NoneAt a gs → NoneAt a (with_each f gs)
none_each f a [] n = tt
none_each f a (g ∷ gs) n = (n.0, none_each f a gs n.1)

pub apart_each : (f : Anchor → List Holder → List Holder) (gs : Groups) → Apart gs → Apart (with_each f gs)
apart_each f [] p = tt
apart_each f (g ∷ gs) p = (none_each f g.0 gs p.0, apart_each f gs p.1)

-- the room for those that are left
pub room_less : (k l : ℕ) (es fs : Entries) → k ≡ suc l → ((a : Anchor) → spare_on a es ≤ spare_on a fs + 1) → (ns : List Need) → AllByRecursion (λ n. k ≤ spare_on n.anchor es) ns → AllByRecursion (λ n. l ≤ spare_on n.anchor fs) ns
room_less k l es fs e r [] all = tt
room_less k l es fs e r (n ∷ ns) all = ((let here = r n.anchor in let was = all.0 in omega arith), room_less k l es fs e r ns all.1)

-- the same holders
pub same_each : (a : Anchor) (gs : Groups) → with_each (there a (λ hs. hs)) gs ≡ gs
same_each a [] = refl
same_each a (g ∷ gs) = go (anchor_same a g.0) ∙ ap (λ l. g ∷ l) (same_each a gs)
  where
    go : (b : Bool) → ◌≡◌ {A = Groups} ((g.0, cond b g.1 g.1) ∷ with_each (there a (λ hs. hs)) gs) (g ∷ with_each (there a (λ hs. hs)) gs)
    go true = refl
    go false = refl

-- the holders on an anchor where they change
pub group_each : (a : Anchor) (f : List Holder → List Holder) (gs : Groups) → f [] ≡ [] → group_at a (with_each (there a f) gs) ≡ f (group_at a gs)
group_each a f [] e = sym e
group_each a f (g ∷ gs) e = go (anchor_same a g.0) (group_each a f gs e)
  where
    go : (b : Bool) → group_at a (with_each (there a f) gs) ≡ f (group_at a gs) → cond b (cond b (f g.1) g.1) (group_at a (with_each (there a f) gs)) ≡ f (cond b g.1 (group_at a gs))
    go true more = refl
    go false more = more
