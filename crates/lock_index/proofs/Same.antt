-- Groups that are read alike have the same rows.
use Rattle.std.proofs.Common.{◌≡◌, refl, sym, ap, ◌∙◌, subst, ⊎_elim, ℕ, zero, suc, ◌+◌, ◌≤◌, Bool, true, false, cond, List, [], ◌∷◌, ◌++◌, length, Option, Some, None, is_some, Vec, vec_len, vec_capacity, ◌-◌, arith}
use Rattle.std.proofs.lemmas.Bool.{cases_Bool, both_ways}
use Rattle.std.specs.List.{IsDistinct, AllByRecursion}
use Rattle.std.specs.Option.{option_map_or}
use Rattle.std.specs.Map.{keys_of, lookup}
use Rattle.std.specs.declared.alloc.Global.{Global}
use Rattle.std.specs.declared.cmp.Ordering.{Ordering}
use Rattle.std.specs.declared.cmp.Ordering.TheVariants.{Less, Equal, Greater}
use Rattle.std.specs.Ordering.{is_eq}
use Rattle.clv_base.specs.declared.modes.Anchor.{Anchor}
use Rattle.clv_base.specs.declared.modes.Anchor.TheVariants.{Low as LowAnchor, At as AtAnchor}
use Rattle.clv_base.specs.declared.modes.Holder.{Holder}
use Rattle.clv_base.specs.Orders.{anchor_cmp, anchor_same}
use Rattle.lock_index.specs.declared.key.Key.{Key}
use Rattle.lock_index.specs.declared.key.Key.TheVariants.{Low, At}
use Rattle.lock_index.specs.contracts.key.KeyPartialEq.TheImpl.{eq-value}
use Rattle.lock_index.specs.Keys.{key_of, anchor_of}
use Rattle.lock_index.specs.Groups.{Groups, rows_on, rows_in, rows_of, by_anchor, group_at, NoneAt, Apart}
use Rattle.lock_index.specs.Rows.{Entries, groups, spare_on}
use Rattle.lock_index.proofs.Firsts.{same_key, found_group, found_same}
use Rattle.lock_index.proofs.Grouped.{no_group, at_by}
use Rattle.lock_index.proofs.GroupWrites.{Above, Rise, above_less, above_none, anchor_back, rise_by}
use Rattle.law_base.proofs.LockRows.{anchor_true, anchor_self}

abbrev Alike : Groups → Groups → Type 0
Alike gs hs = (a : Anchor) → group_at a gs ≡ group_at a hs

-- a first group without holders is read as no group
skip : (a : Anchor) (h : Anchor × List Holder) (hs : Groups) → h.1 ≡ [] → Above h.0 hs → group_at a (h ∷ hs) ≡ group_at a hs
skip a h hs e s = ⊎_elim own other (cases_Bool (anchor_same a h.0))
  where
    own : anchor_same a h.0 ≡ true → group_at a (h ∷ hs) ≡ group_at a hs
    own t = ap (λ b. cond b h.1 (group_at a hs)) t ∙ (e ∙ sym (no_group a hs (subst (λ c. NoneAt c hs) (sym (anchor_true a h.0 t)) (above_none h.0 hs s))))

    other : anchor_same a h.0 ≡ false → group_at a (h ∷ hs) ≡ group_at a hs
    other t = ap (λ b. cond b h.1 (group_at a hs)) t

mine : (h : Anchor × List Holder) (hs : Groups) → group_at h.0 (h ∷ hs) ≡ h.1
mine h hs = ap (λ b. cond b h.1 (group_at h.0 hs)) (anchor_self h.0)

no_rows : (h : Anchor × List Holder) (hs : Groups) → h.1 ≡ [] → rows_in (h ∷ hs) ≡ rows_in hs
no_rows h hs e = ap (λ l. rows_on h.0 l ++ rows_in hs) e

past : (g h : Anchor × List Holder) (hs : Groups) → anchor_cmp g.0 h.0 ≡ Less → Above h.0 hs → group_at g.0 (h ∷ hs) ≡ []
past g h hs e s = no_group g.0 (h ∷ hs) (ap is_eq e, above_none g.0 hs (above_less g.0 h.0 hs e s))

tails : (g h : Anchor × List Holder) (gs hs : Groups) → g.0 ≡ h.0 → Above g.0 gs → Above h.0 hs → Alike (g ∷ gs) (h ∷ hs) → Alike gs hs
tails g h gs hs e s t k = λ a. ⊎_elim (own a) (other a) (cases_Bool (anchor_same a g.0))
  where
    own : (a : Anchor) → anchor_same a g.0 ≡ true → group_at a gs ≡ group_at a hs
    own a i = no_group a gs (subst (λ c. NoneAt c gs) (sym (anchor_true a g.0 i)) (above_none g.0 gs s)) ∙ sym (no_group a hs (subst (λ c. NoneAt c hs) (sym (anchor_true a g.0 i ∙ e)) (above_none h.0 hs t)))

    other : (a : Anchor) → anchor_same a g.0 ≡ false → group_at a gs ≡ group_at a hs
    other a i = sym (ap (λ b. cond b g.1 (group_at a gs)) i) ∙ (k a ∙ ap (λ b. cond b h.1 (group_at a hs)) (ap (anchor_same a) (sym e) ∙ i))

same_in : (n : ℕ) (gs hs : Groups) → length gs + length hs ≤ n → Rise gs → Rise hs → Alike gs hs → rows_in gs ≡ rows_in hs
same_in n [] [] l s t k = refl
same_in zero [] (h ∷ hs) l s t k = absurd (omega arith)
same_in zero (g ∷ gs) hs l s t k = absurd (omega arith)
same_in (suc n) [] (h ∷ hs) l s t k = let e : h.1 ≡ [] = sym (mine h hs) ∙ sym (k h.0) in
    same_in n [] hs (omega arith) tt t.1 (λ a. k a ∙ skip a h hs e t.0) ∙ sym (no_rows h hs e)
same_in (suc n) (g ∷ gs) [] l s t k = let e : g.1 ≡ [] = sym (mine g gs) ∙ k g.0 in
    no_rows g gs e ∙ same_in n gs [] (omega arith) s.1 tt (λ a. sym (skip a g gs e s.0) ∙ k a)
same_in (suc n) (g ∷ gs) (h ∷ hs) l s t k = go (anchor_cmp g.0 h.0) refl (same_in n)
  where
    go : (o : Ordering) → anchor_cmp g.0 h.0 ≡ o → ((xs ys : Groups) → length xs + length ys ≤ n → Rise xs → Rise ys → Alike xs ys → rows_in xs ≡ rows_in ys) → rows_in (g ∷ gs) ≡ rows_in (h ∷ hs)
    go Less f more = let e : g.1 ≡ [] = sym (mine g gs) ∙ (k g.0 ∙ past g h hs f t.0) in
        no_rows g gs e ∙ more gs (h ∷ hs) (omega arith) s.1 t (λ a. sym (skip a g gs e s.0) ∙ k a)
    go Equal f more = let same : g.0 ≡ h.0 = anchor_true g.0 h.0 (ap is_eq f) in
        let held : g.1 ≡ h.1 = sym (mine g gs) ∙ (k g.0 ∙ (ap (λ a. group_at a (h ∷ hs)) same ∙ mine h hs)) in
        ap (λ a. rows_on a g.1 ++ rows_in gs) same ∙ (ap (λ m. rows_on h.0 m ++ rows_in gs) held ∙ ap (λ m. rows_on h.0 h.1 ++ m) (more gs hs (omega arith) s.1 t.1 (tails g h gs hs same s.0 t.0 k)))
    go Greater f more = let e : h.1 ≡ [] = sym (mine h hs) ∙ (sym (k h.0) ∙ past h g gs (anchor_back g.0 h.0 f) s.0) in
        more (g ∷ gs) hs (omega arith) s t.1 (λ a. k a ∙ skip a h hs e t.0) ∙ sym (no_rows h hs e)

pub same_rows : (gs hs : Groups) → Apart gs → Apart hs → Alike gs hs → rows_of gs ≡ rows_of hs
same_rows gs hs p q k = same_in (length (by_anchor gs) + length (by_anchor hs)) (by_anchor gs) (by_anchor hs) (omega arith) (rise_by gs p) (rise_by hs q) (λ a. at_by a gs p ∙ (k a ∙ sym (at_by a hs q)))

-- ---- keys that are all different

back_and_forth : (k : Key) → key_of (anchor_of k) ≡ k
back_and_forth Low = refl
back_and_forth (At k) = refl

pub distinct_apart : (es : Entries) → IsDistinct eq-value.it (keys_of es) → Apart (groups es)
unfolding IsDistinct
distinct_apart [] d = tt
distinct_apart (e ∷ es) d = (none es d.0, distinct_apart es d.1)
  where
    none : (fs : Entries) → AllByRecursion (λ y. eq-value.it e.0 y ≡ false) (keys_of fs) → NoneAt (anchor_of e.0) (groups fs)
    none [] a = tt
    none (f ∷ fs) a = (sym (ap (λ k. eq-value.it k f.0) (sym (back_and_forth e.0)) ∙ same_key (anchor_of e.0) f.0) ∙ a.0, none fs a.1)

-- ---- one entry changes

forth_and_back : (a : Anchor) → anchor_of (key_of a) ≡ a
forth_and_back LowAnchor = refl
forth_and_back (AtAnchor k) = refl

pub read_by_key : (a : Anchor) (es : Entries) → group_at a (groups es) ≡ option_map_or (λ v. v.items) (lookup (eq-value.it (key_of a)) es) []
read_by_key a es = sym (found_group (eq-value.it (key_of a)) a (same_key a) es)

-- an entry that comes or goes without holders changes nothing that is read
pub alike_changed : (a : Anchor) (es fs : Entries) (w : Option (Vec Holder Global)) → ((q : Key) → lookup (eq-value.it q) fs ≡ cond (eq-value.it (key_of a) q) w (lookup (eq-value.it q) es))
    → option_map_or (λ v. v.items) w [] ≡ [] → group_at a (groups es) ≡ [] → Alike (groups fs) (groups es)
alike_changed a es fs w now none nobody = λ b. read_by_key b fs ∙ (ap (λ o. option_map_or (λ v. v.items) o []) (now (key_of b)) ∙ go b (eq-value.it (key_of a) (key_of b)) refl)
  where
    go : (b : Anchor) (t : Bool) → eq-value.it (key_of a) (key_of b) ≡ t → option_map_or (λ v. v.items) (cond t w (lookup (eq-value.it (key_of b)) es)) [] ≡ group_at b (groups es)
    go b true e = let same : a ≡ b = anchor_true a b (ap (anchor_same a) (sym (forth_and_back b)) ∙ (sym (same_key a (key_of b)) ∙ e)) in none ∙ (sym nobody ∙ ap (λ c. group_at c (groups es)) same)
    go b false e = sym (read_by_key b es)

-- ---- what is found

pub lookup_none : (a : Anchor) (es : Entries) → NoneAt a (groups es) → lookup (eq-value.it (key_of a)) es ≡ None
lookup_none a [] n = refl
lookup_none a (x ∷ es) n = ap (λ b. cond b (Some x.1) (lookup (eq-value.it (key_of a)) es)) (same_key a x.0 ∙ n.0) ∙ lookup_none a es n.1

pub none_is : {X : Type 0} (o : Option X) → is_some o ≡ false → o ≡ None
none_is None e = refl
none_is (Some x) e = absurd (both_ways true e refl)

-- where an anchor comes, there is no less room on any
pub spare_changed : (a : Anchor) (es fs : Entries) (w : Option (Vec Holder Global)) → ((q : Key) → lookup (eq-value.it q) fs ≡ cond (eq-value.it (key_of a) q) w (lookup (eq-value.it q) es))
    → lookup (eq-value.it (key_of a)) es ≡ None → (b : Anchor) → spare_on b es ≤ spare_on b fs
spare_changed a es fs w now gone b = go (eq-value.it (key_of a) (key_of b)) refl
  where
    left : Option (Vec Holder Global) → ℕ
    left o = option_map_or (λ u. vec_capacity u - vec_len u) o 0

    before : spare_on b es ≡ left (lookup (eq-value.it (key_of b)) es)
    before = ap left (sym (found_same b es))

    after : spare_on b fs ≡ left (cond (eq-value.it (key_of a) (key_of b)) w (lookup (eq-value.it (key_of b)) es))
    after = ap left (sym (found_same b fs) ∙ now (key_of b))

    go : (t : Bool) → eq-value.it (key_of a) (key_of b) ≡ t → spare_on b es ≤ spare_on b fs
    go true e = let same : a ≡ b = anchor_true a b (ap (anchor_same a) (sym (forth_and_back b)) ∙ (sym (same_key a (key_of b)) ∙ e)) in
        let none : spare_on b es ≡ 0 = before ∙ ap left (subst (λ c. lookup (eq-value.it (key_of c)) es ≡ None) same gone) in omega arith
    go false e = let same : spare_on b fs ≡ spare_on b es = after ∙ (ap (λ t. left (cond t w (lookup (eq-value.it (key_of b)) es))) e ∙ sym before) in omega arith
