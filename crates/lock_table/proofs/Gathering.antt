-- Gathering the gap parts that are held on an anchor, row by row.
use Rattle.std.proofs.Common.{◌≡◌, ℕ, suc, ◌+◌, ◌<◌, ◌≤◌, Bool, true, false, cond, List, [], ◌∷◌, ◌++◌, length, drop, get_or, map, Vec, Global, vec_len, vec_capacity, refl, sym, ap, ◌∙◌, subst, arith, drop-cons, append_assoc, append-nil}
use Rattle.std.proofs.lemmas.List.{drop_all}
use Rattle.std.specs.List.{filter}
use Rattle.clv_base.specs.declared.modes.Anchor.{Anchor}
use Rattle.clv_base.specs.declared.modes.Holder.{Holder}
use Rattle.clv_base.specs.Locks.{Locks, gap_alone, holds_gap}
use Rattle.lock_table.specs.Rows.{gaps_held}
use Rattle.lock_table.proofs.Copies.{gap_parts}

-- the parts of the rows below this place are there, and there is room for the others
pub record Gathers (lower : Anchor) (rows : Locks) (capacity i : ℕ) (copies : Vec Holder Global) : Type 0 where
  pub left : copies.items ++ gap_parts lower (drop i rows) ≡ gap_parts lower rows
  pub room : vec_len copies + gaps_held lower (drop i rows) ≤ vec_capacity copies
  pub capacity_stays : vec_capacity copies ≡ capacity

module _ (lower : Anchor) (rows : Locks) (capacity i : ℕ) (d : Anchor × Holder) (low : i < length rows) (copies : Vec Holder Global) (so_far : Gathers lower rows capacity i copies) where
  held : (b : Bool) → b ≡ holds_gap lower (get_or rows i d) → filter (holds_gap lower) (drop i rows) ≡ cond b (get_or rows i d ∷ filter (holds_gap lower) (drop (i + 1) rows)) (filter (holds_gap lower) (drop (i + 1) rows))
  held b is =
      let next : suc i ≡ i + 1 = omega arith in
      let row : drop i rows ≡ get_or rows i d ∷ drop (i + 1) rows = drop-cons rows i d low ∙ ap (λ (n : ℕ). get_or rows i d ∷ drop n rows) next in
      ap (filter (holds_gap lower)) row ∙ ap (λ (t : Bool). cond t (get_or rows i d ∷ filter (holds_gap lower) (drop (i + 1) rows)) (filter (holds_gap lower) (drop (i + 1) rows))) (sym is)

  pub has_room : true ≡ holds_gap lower (get_or rows i d) → vec_len copies < vec_capacity copies
  has_room is = let room = so_far.room in let one = ap length (held true is) in omega arith

  pub takes : true ≡ holds_gap lower (get_or rows i d) → (more : Vec Holder Global) → more.items ≡ copies.items ++ gap_alone (get_or rows i d).1 ∷ [] → vec_len more ≡ vec_len copies + 1 → vec_capacity more ≡ vec_capacity copies → Gathers lower rows capacity (i + 1) more
  takes is more items len stays = let room = so_far.room in let one = ap length (held true is) in record {
    left = ap (λ (hs : List Holder). hs ++ gap_parts lower (drop (i + 1) rows)) items
        ∙ (append_assoc copies.items (gap_alone (get_or rows i d).1 ∷ []) (gap_parts lower (drop (i + 1) rows))
        ∙ (ap (λ (rs : Locks). copies.items ++ map (λ r. gap_alone r.1) rs) (sym (held true is)) ∙ so_far.left));
    room = omega arith;
    capacity_stays = stays ∙ so_far.capacity_stays;
  }

  pub passes : false ≡ holds_gap lower (get_or rows i d) → Gathers lower rows capacity (i + 1) copies
  passes is = record {
    left = ap (λ (rs : Locks). copies.items ++ map (λ r. gap_alone r.1) rs) (sym (held false is)) ∙ so_far.left;
    room = subst (λ (rs : Locks). vec_len copies + length rs ≤ vec_capacity copies) (held false is) so_far.room;
    capacity_stays = so_far.capacity_stays;
  }

module _ (lower : Anchor) (rows : Locks) (copies : Vec Holder Global) where
  pub begins : copies.items ≡ [] → gaps_held lower rows ≤ vec_capacity copies → vec_len copies ≡ 0 → Gathers lower rows (vec_capacity copies) 0 copies
  begins empty room none = record { left = ap (λ (hs : List Holder). hs ++ gap_parts lower rows) empty; room = omega arith; capacity_stays = refl }

  pub has_all : (capacity i : ℕ) → length rows ≤ i → Gathers lower rows capacity i copies → copies.items ≡ gap_parts lower rows
  has_all capacity i over so_far = sym (append-nil copies.items) ∙ (ap (λ (rs : Locks). copies.items ++ gap_parts lower rs) (sym (drop_all i rows over)) ∙ so_far.left)
