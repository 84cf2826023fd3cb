-- For how many locks there is room.
use Rattle.std.proofs.Common.{◌≡◌, refl, ap, ℕ, suc, ◌+◌, ◌-◌, ◌*◌, ◌/◌, ◌≤◌, min, Bool, true, false, cond, List, [], ◌∷◌, Some, vec_len, vec_capacity, slice_index_or, arith}
use Rattle.std.specs.List.{AllByRecursion, All, Contains}
use Rattle.std.specs.Option.{option_map_or}
use Rattle.std.specs.Map.{lookup}
use Rattle.clv_base.specs.declared.modes.Anchor.{Anchor}
use Rattle.clv_base.specs.declared.modes.Need.{Need}
use Rattle.clv_base.specs.Orders.{anchor_same}
use Rattle.lock_table.specs.Rows.{anchors_of}
use Rattle.lock_index.specs.Keys.{anchor_of}
use Rattle.lock_index.specs.Rows.{Entries, spare_on}
use Rattle.lock_index.specs.Kept.{spares, spare_at, room_at}
use Rattle.law_base.proofs.Numbers.{under_min as under_least}

pub spare_same : (a : Anchor) (es : Entries) → spare_at a (spares es) ≡ spare_on a es
spare_same a [] = refl
spare_same a (e ∷ es) = go (anchor_same a (anchor_of e.0)) (spare_same a es)
  where
    go : (b : Bool) → spare_at a (spares es) ≡ spare_on a es
        → option_map_or (λ n. n) (cond b (Some (vec_capacity e.1 - vec_len e.1)) (lookup (anchor_same a) (spares es))) 0 ≡ option_map_or (λ v. vec_capacity v - vec_len v) (cond b (Some e.1) (lookup (λ k. anchor_same a (anchor_of k)) es)) 0
    go true more = refl
    go false more = more

least_kept : (k l m n d : ℕ) → k ≤ l + d → m ≤ n + d → min k m ≤ min l n + d
least_kept k l m n d p q = omega (arith, p, q)

-- the room falls by no more than that of each anchor, and that in all
pub room_falls : (d k l : ℕ) (es fs : Entries) → k ≤ l + d → ((a : Anchor) → spare_on a es ≤ spare_on a fs + d) → (on : List Anchor) → room_at k (spares es) on ≤ room_at l (spares fs) on + d
room_falls d k l es fs p q [] = p
room_falls d k l es fs p q (a ∷ rest) = let here : spare_at a (spares es) ≤ spare_at a (spares fs) + d = (let e = spare_same a es in let f = spare_same a fs in let r = q a in omega arith) in
    least_kept (spare_at a (spares es)) (spare_at a (spares fs)) (room_at k (spares es) rest) (room_at l (spares fs) rest) d here (room_falls d k l es fs p q rest)

pub of_least : (c k m : ℕ) → c ≤ min k m → (c ≤ k) × (c ≤ m)
of_least c k m p = (omega (arith, p), omega (arith, p))

-- room that was made on each of the anchors
pub room_made : (c k : ℕ) (anchors : List Anchor) (es : Entries) → c ≤ k → All (λ a. c ≤ spare_on a es) anchors → (on : List Anchor) → All (Contains anchors) on → c ≤ room_at k (spares es) on
room_made c k anchors es p q [] all = p
room_made c k anchors es p q (a ∷ rest) all = under_least c (spare_at a (spares es)) (room_at k (spares es) rest) here (room_made c k anchors es p q rest (λ j d l. all (suc j) d (omega (arith, l))))
  where
    here : c ≤ spare_at a (spares es)
    here = let among = all 0 a (omega arith) in let made = q among.0 a among.1 in
        let same : spare_on (slice_index_or anchors among.0 a) es ≡ spare_on a es = ap (λ z. spare_on z es) among.2 in
        let e = spare_same a es in omega arith

-- the room for needs
pub room_for : (c k : ℕ) (es : Entries) (needs : List Need) → c ≤ room_at k (spares es) (anchors_of needs) → AllByRecursion (λ n. c ≤ spare_on n.anchor es) needs × (c ≤ k)
room_for c k es [] p = (tt, p)
room_for c k es (n ∷ ns) p = let q = of_least c (spare_at n.anchor (spares es)) (room_at k (spares es) (anchors_of ns)) p in
    let more = room_for c k es ns q.1 in (((let e = spare_same n.anchor es in let l = q.0 in omega arith), more.0), more.1)

-- ---- half of the places

pub half : (c s : ℕ) → c ≤ s / 2 → 2 * c ≤ s
half c s p = omega (arith, p)

-- ---- what changes of it

pub room_stays : (k l : ℕ) (es fs : Entries) → k ≤ l → ((a : Anchor) → spare_on a es ≤ spare_on a fs) → (on : List Anchor) → room_at k (spares es) on ≤ room_at l (spares fs) on
room_stays k l es fs p q on = let falls = room_falls 0 k l es fs (omega (arith, p)) (λ a. (let r = q a in omega arith)) on in omega arith

pub most_stays : (s t c d : ℕ) → s ≤ t → c ≤ d → min (s / 2) c ≤ min (t / 2) d
most_stays s t c d p q = omega (arith, p, q)

pub most_falls : (n s t c : ℕ) → s ≤ t + 2 * n → min (s / 2) c ≤ min (t / 2) c + n
most_falls n s t c p = omega (arith, p)

pub most_made : (n s c : ℕ) → 2 * n ≤ s → n ≤ c → n ≤ min (s / 2) c
most_made n s c p q = omega (arith, p, q)

pub of_most : (n s c : ℕ) → n ≤ min (s / 2) c → (2 * n ≤ s) × (n ≤ c)
of_most n s c p = (omega (arith, p), omega (arith, p))
