-- What one value tells of many rows: the oldest of them, or the transactions that they are of.
use Rattle.std.proofs.Common.{◌≡◌, ◌⊎◌, inl, inr, ⊎_elim, refl, sym, ap, ◌∙◌, subst, Bool, true, false, cond, ◌&&◌, List, [], ◌∷◌}
use Rattle.std.specs.List.{filter}
use Rattle.std.proofs.lemmas.Bool.{both_ways, and_parts, and_from, or_cases}
use Rattle.clv_base.specs.declared.modes.Mode.{Mode}
use Rattle.clv_base.specs.declared.modes.Anchor.{Anchor}
use Rattle.clv_base.specs.declared.modes.Need.{Need}
use Rattle.clv_base.specs.declared.modes.Holder.{Holder}
use Rattle.clv_base.specs.Orders.{anchor_same}
use Rattle.clv_base.specs.Locks.{Locks, meets}
use Rattle.clv_base.proofs.SameNames.{or_left, or_right}
use Rattle.lock_index.specs.Groups.{Groups, rows_on, rows_of, group_at, Apart}
use Rattle.lock_index.specs.Meeting.{along, visit}
use Rattle.lock_index.proofs.Grouped.{on, on_rows_of}

abbrev pub Row : Type 0
Row = Anchor × Holder

abbrev pub In : {X : Type 0} → X → List X → Type 0
In x [] = ⊥
In x (y ∷ ys) = (x ≡ y) ⊎ In x ys

pub in_filter : {X : Type 0} (p : X → Bool) (x : X) (xs : List X) → In x xs → p x ≡ true → In x (filter p xs)
in_filter p x [] i e = absurd i
in_filter p x (y ∷ ys) i e = go (p y) refl (in_filter p x ys)
  where
    go : (b : Bool) → p y ≡ b → (In x ys → p x ≡ true → In x (filter p ys)) → In x (cond b (y ∷ filter p ys) (filter p ys))
    go true q more = ⊎_elim (λ s. inl s) (λ j. inr (more j e)) i
    go false q more = ⊎_elim (λ s. absurd (both_ways (p x) (ap p s ∙ q) e)) (λ j. more j e) i

pub of_filter : {X : Type 0} (p : X → Bool) (x : X) (xs : List X) → In x (filter p xs) → In x xs × (p x ≡ true)
of_filter p x [] i = absurd i
of_filter p x (y ∷ ys) i = go (p y) refl i (of_filter p x ys)
  where
    go : (b : Bool) → p y ≡ b → In x (cond b (y ∷ filter p ys) (filter p ys)) → (In x (filter p ys) → In x ys × (p x ≡ true)) → In x (y ∷ ys) × (p x ≡ true)
    go true q i more = ⊎_elim (λ s. (inl s, ap p s ∙ q)) (λ j. let m = more j in (inr m.0, m.1)) i
    go false q i more = let m = more i in (inr m.0, m.1)

-- the rows on an anchor are among all of them
pub in_group : (a : Anchor) (r : Row) (gs : Groups) → Apart gs → In r (rows_of gs) → anchor_same a r.0 ≡ true → In r (rows_on a (group_at a gs))
in_group a r gs p i e = subst (In r) (on_rows_of a gs p) (in_filter (on a) r (rows_of gs) i e)

pub of_group : (a : Anchor) (r : Row) (gs : Groups) → Apart gs → In r (rows_on a (group_at a gs)) → In r (rows_of gs) × (anchor_same a r.0 ≡ true)
of_group a r gs p i = of_filter (on a) r (rows_of gs) (subst (In r) (sym (on_rows_of a gs p)) i)

-- sums S of rows: Sum s X tells that s is that of the rows X, and put adds a row
module _ {S : Type 0} (Sum : S → (Row → Type 0) → Type 1) (alike : (s : S) (X Y : Row → Type 0) → ((r : Row) → X r → Y r) → ((r : Row) → Y r → X r) → Sum s X → Sum s Y)
    (put : Row → S → S) (puts : (r : Row) (s : S) (X : Row → Type 0) → Sum s X → Sum (put r s) (λ q. (q ≡ r) ⊎ X q)) (other : Holder → Bool) (test : Mode → Mode → Bool) where
  abbrev step : Anchor → Mode → Holder → S → S
  step a m h s = cond (other h && test m h.mode) (put (a, h) s) s

  -- those of a list that pass
  abbrev Passing : Mode → List Row → Row → Type 0
  Passing m rs q = In q rs × ((other q.1 && test m (q.1).mode) ≡ true)

  along_sum : (a : Anchor) (m : Mode) (hs : List Holder) (s : S) (X : Row → Type 0) → Sum s X → Sum (along (step a m) hs s) (λ q. Passing m (rows_on a hs) q ⊎ X q)
  along_sum a m [] s X k = alike s X (λ q. Passing m [] q ⊎ X q) (λ r x. inr x) (λ r x. ⊎_elim (λ i. absurd i.0) (λ y. y) x) k
  along_sum a m (h ∷ hs) s X k = go (other h && test m h.mode) refl (along_sum a m hs)
    where
      go : (b : Bool) → (other h && test m h.mode) ≡ b → ((s : S) (X : Row → Type 0) → Sum s X → Sum (along (step a m) hs s) (λ q. Passing m (rows_on a hs) q ⊎ X q))
          → Sum (along (step a m) hs (cond b (put (a, h) s) s)) (λ q. Passing m (rows_on a (h ∷ hs)) q ⊎ X q)
      go true e more = alike _ (λ q. Passing m (rows_on a hs) q ⊎ ((q ≡ (a, h)) ⊎ X q)) _
          (λ r x. ⊎_elim (λ i. inl (inr i.0, i.1)) (λ y. ⊎_elim (λ z. inl (inl z, ap (λ (u : Row). other u.1 && test m (u.1).mode) z ∙ e)) (λ z. inr z) y) x)
          (λ r x. ⊎_elim (λ i. ⊎_elim (λ z. inr (inl z)) (λ j. inl (j, i.1)) i.0) (λ y. inr (inr y)) x)
          (more (put (a, h) s) (λ q. (q ≡ (a, h)) ⊎ X q) (puts (a, h) s X k))
      go false e more = alike _ (λ q. Passing m (rows_on a hs) q ⊎ X q) _
          (λ r x. ⊎_elim (λ i. inl (inr i.0, i.1)) (λ y. inr y) x)
          (λ r x. ⊎_elim (λ i. ⊎_elim (λ z. absurd (both_ways _ (ap (λ (u : Row). other u.1 && test m (u.1).mode) z ∙ e) i.1)) (λ j. inl (j, i.1)) i.0) (λ y. inr y) x)
          (more s X k)

  abbrev Asked : List Need → Groups → Row → Type 0
  Asked [] gs q = ⊥
  Asked (n ∷ ns) gs q = Passing n.mode (rows_on n.anchor (group_at n.anchor gs)) q ⊎ Asked ns gs q

  visit_sum : (ns : List Need) (gs : Groups) (s : S) (X : Row → Type 0) → Sum s X → Sum (visit step ns gs s) (λ q. Asked ns gs q ⊎ X q)
  visit_sum [] gs s X k = alike s X _ (λ r x. inr x) (λ r x. ⊎_elim (λ i. absurd i) (λ y. y) x) k
  visit_sum (n ∷ ns) gs s X k = alike _ (λ q. Asked ns gs q ⊎ (Passing n.mode (rows_on n.anchor (group_at n.anchor gs)) q ⊎ X q)) _
      (λ r x. ⊎_elim (λ i. inl (inr i)) (λ y. ⊎_elim (λ i. inl (inl i)) (λ z. inr z) y) x)
      (λ r x. ⊎_elim (λ y. ⊎_elim (λ i. inr (inl i)) (λ i. inl i) y) (λ z. inr (inr z)) x)
      (visit_sum ns gs _ _ (along_sum n.anchor n.mode (group_at n.anchor gs) s X k))

  -- the rows that some need meets
  abbrev Met : List Need → Locks → Row → Type 0
  Met ns rows q = In q rows × ((other q.1 && meets test ns q) ≡ true)

  asked_met : (ns : List Need) (gs : Groups) → Apart gs → (q : Row) → Asked ns gs q → Met ns (rows_of gs) q
  asked_met [] gs p q a = absurd a
  asked_met (n ∷ ns) gs p q a = ⊎_elim
      (λ i. let g = of_group n.anchor q gs p i.0 in let t = and_parts (other q.1) (test n.mode (q.1).mode) i.1 in
      (g.0, and_from (other q.1) _ t.0 (or_left _ _ (and_from (anchor_same n.anchor q.0) _ g.1 t.1))))
      (λ i. let m = asked_met ns gs p q i in let t = and_parts (other q.1) _ m.1 in (m.0, and_from (other q.1) _ t.0 (or_right _ _ t.1))) a

  met_asked : (ns : List Need) (gs : Groups) → Apart gs → (q : Row) → Met ns (rows_of gs) q → Asked ns gs q
  met_asked [] gs p q m = absurd (both_ways false refl (and_parts (other q.1) false m.1).1)
  met_asked (n ∷ ns) gs p q m = let t = and_parts (other q.1) _ m.1 in ⊎_elim
      (λ u. let v = and_parts (anchor_same n.anchor q.0) _ u in inl (in_group n.anchor q gs p m.0 v.0, and_from (other q.1) _ t.0 v.1))
      (λ u. inr (met_asked ns gs p q (m.0, and_from (other q.1) _ t.0 u)))
      (or_cases (anchor_same n.anchor q.0 && test n.mode (q.1).mode) (meets test ns q) t.1)

  -- going from need to need gives the sum of the rows that are met
  pub visited : (ns : List Need) (gs : Groups) → Apart gs → (s : S) → Sum s (λ q. ⊥) → Sum (visit step ns gs s) (Met ns (rows_of gs))
  visited ns gs p s k = alike _ _ _ (λ q x. ⊎_elim (λ a. asked_met ns gs p q a) (λ y. absurd y) x) (λ q m. inl (met_asked ns gs p q m)) (visit_sum ns gs s (λ q. ⊥) k)
