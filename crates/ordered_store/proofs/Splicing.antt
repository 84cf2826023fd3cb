-- Blocks with one of them replaced.
use Rattle.std.proofs.Common.{◌≡◌, ℕ, zero, suc, inl, inr, IsTrue, ◌||◌, ◌⊎◌, ◌+◌, ◌-◌, ◌*◌, ◌/◌, ◌<◌, ◌≤◌, Bool, true, false, cond, not, ◌==◌, nat_lt, nat_le, List, [], ◌∷◌, ◌++◌, length, get_or, set, take, drop, take-append-drop, Vec, vec_len, vec_capacity, Option, refl, sym, ap, subst, ◌∙◌, arith}
use Rattle.std.proofs.lemmas.Bool.{leb-true, leb-false, ltb-true, ltb-false, lt-ltb, ne_eqb, cond_both}
use Rattle.std.proofs.lemmas.List.{append-nil}
use Rattle.std.proofs.lemmas.List.Elements.{filter-append}
use Rattle.std.specs.List.{filter, insert, remove}
use Rattle.std.specs.declared.cmp.Ordering.{Ordering}
use Rattle.std.specs.declared.cmp.Ordering.TheVariants.{Less, Equal, Greater}
use Rattle.std.specs.Ordering.{nat_cmp, match_ordering}
use Rattle.std.specs.FinMap.{is_sorted}
use Rattle.std.proofs.lemmas.Bool.Decides.{nat_tests}
use Rattle.clv_base.specs.declared.values.Value.{Value as ValueType}
use Rattle.clv_base.specs.Needs.{Records, found_at, record_set}
use Rattle.ordered_store.proofs.Rising.{Above, Rises, rises_from, rises_to}
use Rattle.ordered_store.specs.declared.block.Block.{Block}
use Rattle.ordered_store.specs.Records.{Under, Begins, Starts}
use Rattle.ordered_store.specs.Blocks.{flat, Chain, Chained, Leads, Sized, Empties, excess, room_of, reached, slot_of}
use Rattle.ordered_store.proofs.Chains.{Least, above_least, flat_least, begun, sorted_of, lookup_among}
use Rattle.ordered_store.proofs.Writing.{all_others}

-- the blocks with others in place of the one at i
pub splice : List Block → ℕ → List Block → List Block
splice [] i new = new
splice (b ∷ bs) zero new = new ++ bs
splice (b ∷ bs) (suc i) new = b ∷ splice bs i new

pub set_splice : (bs : List Block) (i : ℕ) (b : Block) → i < length bs → set bs i b ≡ splice bs i (b ∷ [])
unfolding splice
set_splice [] i b l = absurd (omega arith)
set_splice (c ∷ bs) zero b l = refl
set_splice (c ∷ bs) (suc i) b l = ap (λ ys. c ∷ ys) (set_splice bs i b (omega arith))

insert_next : (bs : List Block) (i : ℕ) (b c : Block) → i < length bs → insert (set bs i b) (suc i) c ≡ splice bs i (b ∷ c ∷ [])
unfolding splice
insert_next [] i b c l = absurd (omega arith)
insert_next (a ∷ bs) zero b c l = refl
insert_next (a ∷ bs) (suc i) b c l = ap (λ ys. a ∷ ys) (insert_next bs i b c (omega arith))

pub insert_splice : (bs : List Block) (i j : ℕ) (b c : Block) → i < length bs → j ≡ suc i → insert (set bs i b) j c ≡ splice bs i (b ∷ c ∷ [])
insert_splice bs i j b c l e = ap (λ n. insert (set bs i b) n c) e ∙ insert_next bs i b c l

-- ---- what is changed at a key

append_assoc : (xs ys zs : Records) → (xs ++ ys) ++ zs ≡ xs ++ (ys ++ zs)
append_assoc [] ys zs = refl
append_assoc (x ∷ xs) ys zs = ap (λ rs. x ∷ rs) (append_assoc xs ys zs)

flat_append : (xs ys : List Block) → flat (xs ++ ys) ≡ flat xs ++ flat ys
flat_append [] ys = refl
flat_append (b ∷ xs) ys = ap (λ rs. b.rows.items ++ rs) (flat_append xs ys) ∙ sym (append_assoc b.rows.items (flat xs) (flat ys))

-- a change at k changes nothing of what lies to either side
pub record IsLocal (k : ℕ) (f : Records → Records) : Type 0 where
  pub past : (j : ℕ) (xs ys : Records) → Under j xs → j ≤ k → f (xs ++ ys) ≡ xs ++ f ys
  pub before : (xs ys : Records) → Above k ys → f (xs ++ ys) ≡ f xs ++ ys

module _ (k : ℕ) (f : Records → Records) (local : IsLocal k f) (d : Block) (new : List Block) where
  changed_in : (b : Block) (bs : List Block) → Chain b bs → flat new ≡ f (get_or (b ∷ bs) (reached k bs) d).rows.items → flat (splice (b ∷ bs) (reached k bs) new) ≡ f (flat (b ∷ bs))
  unfolding splice
  changed_in b [] h e = flat_append new [] ∙ (append-nil (flat new) ∙ (e ∙ ap f (sym (append-nil b.rows.items))))
  changed_in b (c ∷ cs) h e = at (nat_le c.fence k) refl (changed_in c cs h.1.1.1) e
    where
      at : (t : Bool) → nat_le c.fence k ≡ t → (flat new ≡ f (get_or (c ∷ cs) (reached k cs) d).rows.items → flat (splice (c ∷ cs) (reached k cs) new) ≡ f (flat (c ∷ cs)))
          → flat new ≡ f (get_or (b ∷ c ∷ cs) (cond t (suc (reached k cs)) 0) d).rows.items
          → flat (splice (b ∷ c ∷ cs) (cond t (suc (reached k cs)) 0) new) ≡ f (b.rows.items ++ flat (c ∷ cs))
      at true w more e = ap (λ rs. b.rows.items ++ rs) (more e) ∙ sym (local.past c.fence b.rows.items (flat (c ∷ cs)) h.1.0 (leb-true c.fence k w))
      at false w more e = flat_append new (c ∷ cs) ∙ (ap (λ rs. rs ++ flat (c ∷ cs)) e
          ∙ sym (local.before b.rows.items (flat (c ∷ cs)) (above_least k c.fence (flat (c ∷ cs)) (leb-false c.fence k w) (flat_least c cs h.1.1.0 h.1.1.1))))

  pub changed : (bs : List Block) → Chained bs → flat new ≡ f (get_or bs (slot_of k bs) d).rows.items → flat (splice bs (slot_of k bs) new) ≡ f (flat bs)
  changed [] h e = absurd h
  changed (b ∷ bs) h e = changed_in b bs h.1 e

-- ---- a value set

set_past : (k : ℕ) (v : Option ValueType) (j : ℕ) (xs ys : Records) → Under j xs → j ≤ k → record_set k v (xs ++ ys) ≡ xs ++ record_set k v ys
set_past k v j [] ys u l = refl
set_past k v j (x ∷ xs) ys u l = ap (λ o. match_ordering o ((k, v) ∷ x ∷ (xs ++ ys)) ((x.0, v) ∷ (xs ++ ys)) (x ∷ record_set k v (xs ++ ys))) (greater (omega (arith, u.0))) ∙ ap (λ rs. x ∷ rs) (set_past k v j xs ys u.1 l)
  where
    greater : x.0 < k → nat_cmp k x.0 ≡ Greater
    greater s = grind (arith, nat_tests)

first_new : (k : ℕ) (v : Option ValueType) (ys : Records) → Above k ys → record_set k v ys ≡ (k, v) ∷ ys
first_new k v [] h = refl
first_new k v (y ∷ ys) h = ap (λ o. match_ordering o ((k, v) ∷ y ∷ ys) ((y.0, v) ∷ ys) (y ∷ record_set k v ys)) (less h.0)
  where
    less : k < y.0 → nat_cmp k y.0 ≡ Less
    less s = grind (arith, nat_tests)

set_before : (k : ℕ) (v : Option ValueType) (xs ys : Records) → Above k ys → record_set k v (xs ++ ys) ≡ record_set k v xs ++ ys
set_before k v [] ys h = first_new k v ys h
set_before k v (x ∷ xs) ys h = at (nat_cmp k x.0) (set_before k v xs ys h)
  where
    at : (o : Ordering) → record_set k v (xs ++ ys) ≡ record_set k v xs ++ ys
        → match_ordering o ((k, v) ∷ x ∷ (xs ++ ys)) ((x.0, v) ∷ (xs ++ ys)) (x ∷ record_set k v (xs ++ ys)) ≡ match_ordering o ((k, v) ∷ x ∷ xs) ((x.0, v) ∷ xs) (x ∷ record_set k v xs) ++ ys
    at Less more = refl
    at Equal more = refl
    at Greater more = ap (λ rs. x ∷ rs) more

pub set_local : (k : ℕ) (v : Option ValueType) → IsLocal k (record_set k v)
set_local k v = record { past = set_past k v; before = set_before k v }

-- ---- a record taken away

stay_under : (k j : ℕ) (xs : Records) → Under j xs → j ≤ k → filter (λ (r : ℕ × Option ValueType). not (r.0 == k)) xs ≡ xs
stay_under k j [] u l = refl
stay_under k j (x ∷ xs) u l =
    ap (λ b. cond (not b) (x ∷ filter (λ (r : ℕ × Option ValueType). not (r.0 == k)) xs) (filter (λ (r : ℕ × Option ValueType). not (r.0 == k)) xs)) (ne_eqb x.0 k (λ e. absurd (omega (arith, u.0))))
    ∙ ap (λ rs. x ∷ rs) (stay_under k j xs u.1 l)

pub take_local : (k : ℕ) → IsLocal k (filter (λ (r : ℕ × Option ValueType). not (r.0 == k)))
take_local k = record {
  past = λ j xs ys u l. filter-append (λ (r : ℕ × Option ValueType). not (r.0 == k)) xs ys ∙ ap (λ rs. rs ++ filter (λ (r : ℕ × Option ValueType). not (r.0 == k)) ys) (stay_under k j xs u l);
  before = λ xs ys h. filter-append (λ (r : ℕ × Option ValueType). not (r.0 == k)) xs ys ∙ ap (λ rs. filter (λ (r : ℕ × Option ValueType). not (r.0 == k)) xs ++ rs) (all_others k ys h);
}

-- ---- order

pub under_less : (j k : ℕ) (rs : Records) → j ≤ k → Under j rs → Under k rs
under_less j k [] l h = tt
under_less j k (r ∷ rs) l h = (omega (arith, h.0), under_less j k rs l h.1)

-- blocks that go on from a fence
abbrev pub Follows : ℕ → List Block → Type 0
Follows j [] = Unit {0}
Follows j (c ∷ cs) = (j ≤ c.fence) × (Begins c.fence c.rows.items × Chain c cs)

-- the first fence is above k
abbrev pub Past : ℕ → List Block → Type 0
Past k [] = Unit {0}
Past k (c ∷ cs) = k < c.fence

link : (b : Block) (j : ℕ) (bs : List Block) → is_sorted nat_cmp b.rows.items ≡ true → Under j b.rows.items → Follows j bs → Chain b bs
link b j [] s u f = s
link b j (c ∷ cs) s u f = (s, (under_less j c.fence b.rows.items f.0 u, f.1))

leads_any : (b : Block) (bs cs : List Block) (c : Block) → Leads b (c ∷ cs) → Leads b bs
leads_any b [] cs c l = begins_starts b.fence b.rows.items l
  where
    begins_starts : (j : ℕ) (rs : Records) → Begins j rs → Starts j rs
    begins_starts j [] h = tt
    begins_starts j (r ∷ rs) h = h
leads_any b (e ∷ es) cs c l = l

module _ (k : ℕ) (new : List Block) (d : Block) where
  -- the new blocks go between what they stood between
  abbrev pub FitsAfter : Block → Type 0
  FitsAfter old = (bs : List Block) → Past k bs → Begins old.fence old.rows.items → Chain old bs → old.fence ≤ k → Follows old.fence (new ++ bs)

  abbrev pub FitsFirst : Block → List Block → Type 0
  FitsFirst old bs = Past k bs → Leads old bs → Chain old bs → Chained (new ++ bs)

  spliced_in : (c : Block) (cs : List Block) → Begins c.fence c.rows.items → Chain c cs → c.fence ≤ k → FitsAfter (get_or (c ∷ cs) (reached k cs) d) → Follows c.fence (splice (c ∷ cs) (reached k cs) new)
  unfolding splice
  spliced_in c [] b h l fits = fits [] tt b h l
  spliced_in c (e ∷ es) b h l fits = at (nat_le e.fence k) refl (spliced_in e es h.1.1.0 h.1.1.1) fits
    where
      at : (t : Bool) → nat_le e.fence k ≡ t → (e.fence ≤ k → FitsAfter (get_or (e ∷ es) (reached k es) d) → Follows e.fence (splice (e ∷ es) (reached k es) new))
          → FitsAfter (get_or (c ∷ e ∷ es) (cond t (suc (reached k es)) 0) d) → Follows c.fence (splice (c ∷ e ∷ es) (cond t (suc (reached k es)) 0) new)
      at true w more fits = (omega arith, (b, link c e.fence (splice (e ∷ es) (reached k es) new) h.0 h.1.0 (more (leb-true e.fence k w) fits)))
      at false w more fits = fits (e ∷ es) (leb-false e.fence k w) b h l

  pub spliced : (bs : List Block) → Chained bs → FitsAfter (get_or bs (slot_of k bs) d) → FitsFirst (get_or bs (slot_of k bs) d) (drop 1 bs) → Chained (splice bs (slot_of k bs) new)
  unfolding splice
  spliced [] h fits first = absurd h
  spliced (b ∷ []) h fits first = first tt h.0 h.1
  spliced (b ∷ e ∷ es) h fits first = at (nat_le e.fence k) refl fits first
    where
      at : (t : Bool) → nat_le e.fence k ≡ t → FitsAfter (get_or (b ∷ e ∷ es) (cond t (suc (reached k es)) 0) d) → FitsFirst (get_or (b ∷ e ∷ es) (cond t (suc (reached k es)) 0) d) (e ∷ es)
          → Chained (splice (b ∷ e ∷ es) (cond t (suc (reached k es)) 0) new)
      at true w fits first = (
        leads_any b (splice (e ∷ es) (reached k es) new) es e h.0,
        link b e.fence (splice (e ∷ es) (reached k es) new) h.1.0 h.1.1.0 (spliced_in e es h.1.1.1.0 h.1.1.1.1 (leb-true e.fence k w) fits),
      )
      at false w fits first = first (leb-false e.fence k w) h.0 h.1

-- ---- a chain put together

under_append : (k : ℕ) (xs ys : Records) → Under k (xs ++ ys) → Under k xs × Under k ys
under_append k [] ys u = (tt, u)
under_append k (x ∷ xs) ys u = let p = under_append k xs ys u.1 in ((u.0, p.0), p.1)

begins_least : (j k : ℕ) (rs : Records) → Begins k rs → Least j rs → j ≤ k
begins_least j k [] b l = absurd b
begins_least j k (r ∷ rs) b l = omega (arith, b, l.0)

least_front : (j : ℕ) (xs ys : Records) → Least j (xs ++ ys) → Least j xs
least_front j [] ys l = tt
least_front j (x ∷ xs) ys l = (l.0, least_front j xs ys l.1)

pub starts_begins : (k : ℕ) (rs : Records) → Starts k rs → (length rs ≡ 0 → ⊥) → Begins k rs
starts_begins k [] s n = absurd (n refl)
starts_begins k (r ∷ rs) s n = s

pub chain_append : (b : Block) (us : List Block) (c : Block) (cs : List Block) → Chain b us → Under c.fence (flat (b ∷ us)) → Begins c.fence c.rows.items → Chain c cs → Chain b (us ++ c ∷ cs)
chain_append b [] c cs h u g i = (h, ((under_append c.fence b.rows.items [] u).0, (g, i)))
chain_append b (a ∷ us) c cs h u g i = (h.0, (h.1.0, (h.1.1.0, chain_append a us c cs h.1.1.1 (under_append c.fence b.rows.items (flat (a ∷ us)) u).1 g i)))

list_end : (us : List Block) → us ++ [] ≡ us
list_end [] = refl
list_end (u ∷ us) = ap (λ ys. u ∷ ys) (list_end us)

leads_begins : (b : Block) (bs : List Block) → Begins b.fence b.rows.items → Leads b bs
leads_begins b [] g = leads_any b [] [] b g
leads_begins b (c ∷ cs) g = g

-- a block becomes one or more, with the records that a change at k leaves of it
module _ (k : ℕ) (f : Records → Records) (unders : (j : ℕ) (rs : Records) → k < j → Under j rs → Under j (f rs)) (leasts : (j : ℕ) (rs : Records) → j ≤ k → Least j rs → Least j (f rs)) (b : Block) (us : List Block) (old : Block)
    (chain : Chain b us) (begins : Begins b.fence b.rows.items) (parts : flat (b ∷ us) ≡ f old.rows.items) where
  onward : (bs : List Block) → Past k bs → Chain old bs → Chain b (us ++ bs)
  onward [] p h = subst (Chain b) (sym (list_end us)) chain
  onward (c ∷ cs) p h = chain_append b us c cs chain (subst (Under c.fence) (sym parts) (unders c.fence old.rows.items p h.1.0)) h.1.1.0 h.1.1.1

  pub fits_after : FitsAfter k (b ∷ us) b old
  fits_after bs p g h l = (
    begins_least old.fence b.fence b.rows.items begins (least_front old.fence b.rows.items (flat us) (subst (Least old.fence) (sym parts)
        (leasts old.fence old.rows.items l (begun old.fence old.rows.items g (rises_from old.rows.items (sorted_of old bs h)))))),
    (begins, onward bs p h),
  )

  pub fits_first : (bs : List Block) → FitsFirst k (b ∷ us) b old bs
  fits_first bs p l h = (leads_begins b (us ++ bs) begins, onward bs p h)

  pub renewed : (bs : List Block) (d : Block) → Chained bs → old ≡ get_or bs (slot_of k bs) d → Chained (splice bs (slot_of k bs) (b ∷ us))
  renewed bs d h e = spliced k (b ∷ us) d bs h (subst (FitsAfter k (b ∷ us) d) e fits_after) (subst (λ o. FitsFirst k (b ∷ us) d o (drop 1 bs)) e (fits_first (drop 1 bs)))

-- ---- what the two changes keep

pub under_set : (k : ℕ) (v : Option ValueType) (j : ℕ) (rs : Records) → k < j → Under j rs → Under j (record_set k v rs)
under_set k v j [] l u = (l, tt)
under_set k v j (r ∷ rs) l u = at (nat_cmp k r.0) (under_set k v j rs l u.1)
  where
    at : (o : Ordering) → Under j (record_set k v rs) → Under j (match_ordering o ((k, v) ∷ r ∷ rs) ((r.0, v) ∷ rs) (r ∷ record_set k v rs))
    at Less more = (l, u)
    at Equal more = u
    at Greater more = (u.0, more)

pub least_set : (k : ℕ) (v : Option ValueType) (j : ℕ) (rs : Records) → j ≤ k → Least j rs → Least j (record_set k v rs)
least_set k v j [] l u = (l, tt)
least_set k v j (r ∷ rs) l u = at (nat_cmp k r.0) (least_set k v j rs l u.1)
  where
    at : (o : Ordering) → Least j (record_set k v rs) → Least j (match_ordering o ((k, v) ∷ r ∷ rs) ((r.0, v) ∷ rs) (r ∷ record_set k v rs))
    at Less more = (l, u)
    at Equal more = u
    at Greater more = (u.0, more)

pub under_filter : (p : ℕ × Option ValueType → Bool) (j : ℕ) (rs : Records) → Under j rs → Under j (filter p rs)
under_filter p j [] u = tt
under_filter p j (r ∷ rs) u = cond_both (p r) (r ∷ filter p rs) (filter p rs) (Under j) (λ e. (u.0, under_filter p j rs u.1)) (λ e. under_filter p j rs u.1)

pub least_filter : (p : ℕ × Option ValueType → Bool) (j : ℕ) (rs : Records) → Least j rs → Least j (filter p rs)
least_filter p j [] u = tt
least_filter p j (r ∷ rs) u = cond_both (p r) (r ∷ filter p rs) (filter p rs) (Least j) (λ e. (u.0, least_filter p j rs u.1)) (λ e. least_filter p j rs u.1)

-- ---- sizes

sized_append : (xs ys : List Block) → Sized xs → Sized ys → Sized (xs ++ ys)
sized_append [] ys h g = g
sized_append (x ∷ xs) ys h g = (h.0, sized_append xs ys h.1 g)

pub sized_splice : (bs : List Block) (i : ℕ) (new : List Block) → Sized bs → Sized new → Sized (splice bs i new)
unfolding splice
sized_splice [] i new h g = g
sized_splice (b ∷ bs) zero new h g = sized_append new bs g h.1
sized_splice (b ∷ bs) (suc i) new h g = (h.0, sized_splice bs i new h.1 g)

pub sized_at : (bs : List Block) (i : ℕ) (d : Block) → Sized bs → i < length bs → (vec_len (get_or bs i d).rows ≤ 64) × (65 ≤ vec_capacity (get_or bs i d).rows)
sized_at [] i d h l = absurd (omega arith)
sized_at (b ∷ bs) zero d h l = h.0
sized_at (b ∷ bs) (suc i) d h l = sized_at bs i d h.1 (omega arith)

-- ---- a cut

cut_under : (k : ℕ) (xs ys : Records) → Rises (xs ++ ys) → Begins k ys → Under k xs
cut_under k [] ys h b = tt
cut_under k (x ∷ xs) ys h b = (below xs h.0, cut_under k xs ys h.1 b)
  where
    begun_above : (rs : Records) → Above x.0 rs → Begins k rs → x.0 < k
    begun_above [] a b = absurd b
    begun_above (r ∷ rs) a b = omega (arith, b, a.0)

    below : (zs : Records) → Above x.0 (zs ++ ys) → x.0 < k
    below [] a = begun_above ys a b
    below (z ∷ zs) a = below zs a.1

above_front : (k : ℕ) (xs ys : Records) → Above k (xs ++ ys) → Above k xs
above_front k [] ys h = tt
above_front k (x ∷ xs) ys h = (h.0, above_front k xs ys h.1)

rises_front : (xs ys : Records) → Rises (xs ++ ys) → Rises xs
rises_front [] ys h = tt
rises_front (x ∷ xs) ys h = (above_front x.0 xs ys h.0, rises_front xs ys h.1)

rises_back : (xs ys : Records) → Rises (xs ++ ys) → Rises ys
rises_back [] ys h = h
rises_back (x ∷ xs) ys h = rises_back xs ys h.1

pub cut_whole : (xs ys rs : Records) (n : ℕ) → xs ≡ take n rs → ys ≡ drop n rs → xs ++ (ys ++ []) ≡ rs
cut_whole xs ys rs n e f = ap (λ zs. xs ++ zs) (append-nil ys) ∙ (ap (λ zs. zs ++ ys) e ∙ (ap (λ zs. take n rs ++ zs) f ∙ take-append-drop n rs))

pub cut_chain : (b c : Block) (rs : Records) → is_sorted nat_cmp rs ≡ true → b.rows.items ++ (c.rows.items ++ []) ≡ rs → Begins c.fence c.rows.items → Chain b (c ∷ [])
cut_chain b c rs s e g =
    let rises : Rises (b.rows.items ++ c.rows.items) = subst Rises (sym e ∙ ap (λ zs. b.rows.items ++ zs) (append-nil c.rows.items)) (rises_from rs s) in
    (rises_to b.rows.items (rises_front b.rows.items c.rows.items rises), (cut_under c.fence b.rows.items c.rows.items rises g, (g, rises_to c.rows.items (rises_back b.rows.items c.rows.items rises))))

pub empties_last : {Z : Type 0} (es : List (Vec (ℕ × Option ValueType) Z)) (e : Vec (ℕ × Option ValueType) Z) → Empties (es ++ e ∷ []) → Empties es × ((length e.items ≡ 0) × (65 ≤ vec_capacity e))
empties_last [] e h = (tt, h.0)
empties_last (f ∷ es) e h = let p = empties_last es e h.1 in ((h.0, p.0), p.1)

-- ---- the blocks after a change

module _ (k : ℕ) (bs : List Block) (i : ℕ) (old b : Block) (chained : Chained bs) (sized : Sized bs) (at : i ≡ slot_of k bs) (is : old ≡ get_or bs i old) where
  here : old ≡ get_or bs (slot_of k bs) old
  here = is ∙ ap (λ j. get_or bs j old) at

  pub same_found : found_at k old.rows.items ≡ found_at k (flat bs)
  same_found = ap (λ (o : Block). found_at k o.rows.items) here ∙ lookup_among k bs old chained

  pub after_put : (v : Option ValueType) (us : List Block) → Chain b us → Begins b.fence b.rows.items → flat (b ∷ us) ≡ record_set k v old.rows.items → Sized (b ∷ us)
      → (flat (splice bs i (b ∷ us)) ≡ record_set k v (flat bs)) × (Chained (splice bs i (b ∷ us)) × Sized (splice bs i (b ∷ us)))
  after_put v us chain begins parts size = (
    ap (λ j. flat (splice bs j (b ∷ us))) at ∙ changed k (record_set k v) (set_local k v) old (b ∷ us) bs chained (parts ∙ ap (λ (o : Block). record_set k v o.rows.items) here),
    (
      subst (λ j. Chained (splice bs j (b ∷ us))) (sym at) (renewed k (record_set k v) (under_set k v) (least_set k v) b us old chain begins parts bs old chained here),
      sized_splice bs i (b ∷ us) sized size,
    ),
  )

  pub after_take : is_sorted nat_cmp b.rows.items ≡ true → Starts b.fence b.rows.items → b.rows.items ≡ filter (λ (r : ℕ × Option ValueType). not (r.0 == k)) old.rows.items → (vec_len b.rows ≤ 64) × (65 ≤ vec_capacity b.rows)
      → (flat (splice bs i (b ∷ [])) ≡ filter (λ (r : ℕ × Option ValueType). not (r.0 == k)) (flat bs)) × Sized (splice bs i (b ∷ []))
  after_take sorted starts parts size = (
    ap (λ j. flat (splice bs j (b ∷ []))) at
        ∙ changed k (filter (λ (r : ℕ × Option ValueType). not (r.0 == k))) (take_local k) old (b ∷ []) bs chained
        (append-nil b.rows.items ∙ (parts ∙ ap (λ (o : Block). filter (λ (r : ℕ × Option ValueType). not (r.0 == k)) o.rows.items) here)),
    sized_splice bs i (b ∷ []) sized (size, tt),
  )

  pub chained_take : is_sorted nat_cmp b.rows.items ≡ true → Starts b.fence b.rows.items → b.rows.items ≡ filter (λ (r : ℕ × Option ValueType). not (r.0 == k)) old.rows.items → (length b.rows.items ≡ 0 → ⊥) → Chained (splice bs i (b ∷ []))
  chained_take sorted starts parts some = subst (λ j. Chained (splice bs j (b ∷ []))) (sym at)
      (renewed k (filter (λ (r : ℕ × Option ValueType). not (r.0 == k))) (λ j rs l u. under_filter (λ (r : ℕ × Option ValueType). not (r.0 == k)) j rs u) (λ j rs l u. least_filter (λ (r : ℕ × Option ValueType). not (r.0 == k)) j rs u)
      b [] old sorted (starts_begins b.fence b.rows.items starts some) (append-nil b.rows.items ∙ parts) bs old chained here)

  -- a block with no record left goes
  pub after_gone : filter (λ (r : ℕ × Option ValueType). not (r.0 == k)) old.rows.items ≡ [] → 1 < length bs
      → (flat (splice bs i []) ≡ filter (λ (r : ℕ × Option ValueType). not (r.0 == k)) (flat bs)) × (Chained (splice bs i []) × Sized (splice bs i []))
  after_gone none more = (
    ap (λ j. flat (splice bs j [])) at
        ∙ changed k (filter (λ (r : ℕ × Option ValueType). not (r.0 == k))) (take_local k) old [] bs chained
        (sym none ∙ ap (λ (o : Block). filter (λ (r : ℕ × Option ValueType). not (r.0 == k)) o.rows.items) here),
    (
      subst (λ j. Chained (splice bs j [])) (sym at) (spliced k [] old bs chained (fits (get_or bs (slot_of k bs) old)) (first bs more (get_or bs (slot_of k bs) old))),
      sized_splice bs i [] sized tt,
    ),
  )
    where
      fits : (o : Block) → FitsAfter k [] old o
      fits o [] = λ p g h l. tt
      fits o (c ∷ cs) = λ p g h l. (let q : k < c.fence = p in omega (arith, q, l), (h.1.1.0, h.1.1.1))

      first : (xs : List Block) → 1 < length xs → (o : Block) → FitsFirst k [] old o (drop 1 xs)
      first [] m o = absurd (omega arith)
      first (x ∷ []) m o = absurd (omega arith)
      first (x ∷ y ∷ ys) m o = λ p l h. (leads_begins y ys h.1.1.0, h.1.1.1)

-- the only block may have no record
pub chained_alone : (k : ℕ) (bs : List Block) (i : ℕ) (b : Block) → Chained bs → i ≡ slot_of k bs → length bs ≤ 1 → is_sorted nat_cmp b.rows.items ≡ true → Starts b.fence b.rows.items → Chained (splice bs i (b ∷ []))
unfolding splice
chained_alone k [] i b h e l sorted starts = absurd h
chained_alone k (c ∷ []) i b h e l sorted starts = subst (λ j. Chained (splice (c ∷ []) j (b ∷ []))) (sym e) (starts, sorted)
chained_alone k (c ∷ a ∷ bs) i b h e l sorted starts = absurd (omega arith)

pub remove_set : (bs : List Block) (i : ℕ) (b : Block) → i < length bs → remove (set bs i b) i ≡ splice bs i []
unfolding splice
remove_set [] i b l = absurd (omega arith)
remove_set (c ∷ bs) zero b l = refl
remove_set (c ∷ bs) (suc i) b l = ap (λ ys. c ∷ ys) (remove_set bs i b (omega arith))

pub none_left : (rs : Records) → length rs ≡ 0 → rs ≡ []
none_left [] e = refl
none_left (r ∷ rs) e = absurd (omega arith)

pub empties_more : {Z : Type 0} (es : List (Vec (ℕ × Option ValueType) Z)) (e : Vec (ℕ × Option ValueType) Z) → Empties es → length e.items ≡ 0 → 65 ≤ vec_capacity e → Empties (es ++ e ∷ [])
empties_more [] e h n l = ((n, l), tt)
empties_more (f ∷ es) e h n l = (h.0, empties_more es e h.1 n l)

-- ---- room

excess_append : (xs ys : List Block) → excess (xs ++ ys) ≡ excess xs + excess ys
excess_append [] ys = omega arith
excess_append (x ∷ xs) ys = let h = excess_append xs ys in omega (arith, h)

pub excess_splice : (bs : List Block) (i : ℕ) (new : List Block) (d : Block) → i < length bs → excess (splice bs i new) + (vec_len (get_or bs i d).rows - 33) ≡ excess bs + excess new
unfolding splice
excess_splice [] i new d l = absurd (omega arith)
excess_splice (b ∷ bs) zero new d l = let h = excess_append new bs in omega (arith, h)
excess_splice (b ∷ bs) (suc i) new d l = let h = excess_splice bs i new d (omega arith) in omega (arith, h)

pub excess_at : (bs : List Block) (i : ℕ) (d : Block) → i < length bs → vec_len (get_or bs i d).rows - 33 ≤ excess bs
excess_at [] i d l = absurd (omega arith)
excess_at (b ∷ bs) zero d l = omega arith
excess_at (b ∷ bs) (suc i) d l = let h = excess_at bs i d (omega arith) in omega (arith, h)

pub excess_most : (bs : List Block) → Sized bs → excess bs ≤ 31 * length bs
excess_most [] h = omega arith
excess_most (b ∷ bs) h = let m = excess_most bs h.1 in let n = h.0.0 in omega (arith, m, n)

-- a change that cuts c times and puts at most n new keys
pub room_kept : (bs cs : List Block) (p q c n : ℕ) → excess cs + 32 * c ≤ excess bs + n → p ≡ q + c → p ≤ q + n → room_of bs p ≤ room_of cs q + n
room_kept bs cs p q c n e s l = omega arith

pub room_enough : (bs : List Block) (p n w : ℕ) → Sized bs → (n ≤ w) ⊎ (n / 32 + length bs + 1 ≤ w) → w ≤ p → n ≤ room_of bs p
room_enough bs p n w h (inl l) m = omega (arith, l, m)
room_enough bs p n w h (inr l) m = let e = excess_most bs h in omega (arith, e, l, m)

pub room_for : (t : Bool) (bs : List Block) (i : ℕ) (d : Block) (p : ℕ) → i < length bs → IsTrue (t || nat_lt 0 (room_of bs p)) → IsTrue (t || nat_lt 0 p || nat_lt (vec_len (get_or bs i d).rows) 64)
room_for true bs i d p l h = refl
room_for false bs i d p l h = by_test (nat_lt 0 p) refl
  where
    by_test : (b : Bool) → nat_lt 0 p ≡ b → IsTrue (false || b || nat_lt (vec_len (get_or bs i d).rows) 64)
    by_test true w = refl
    by_test false w = let none = ltb-false 0 p w in let some = ltb-true 0 (room_of bs p) h in let e = excess_at bs i d l in
        lt-ltb (vec_len (get_or bs i d).rows) 64 (omega (arith, none, some, e))

pub room_put : (bs : List Block) (i : ℕ) (old b : Block) (us : List Block) (p q n : ℕ) → i < length bs → old ≡ get_or bs i old → excess (b ∷ us) + 32 * length us ≤ (vec_len old.rows - 33) + n → p ≡ q + length us → p ≤ q + n → room_of bs p ≤ room_of (splice bs i (b ∷ us)) q + n
room_put bs i old b us p q n l is e s h = let x = excess_splice bs i (b ∷ us) old l in
    let y : vec_len old.rows - 33 ≡ vec_len (get_or bs i old).rows - 33 = ap (λ (o : Block). vec_len o.rows - 33) is in
    room_kept bs (splice bs i (b ∷ us)) p q (length us) n (omega (arith, x, y, e)) s h

pub excess_less : (bs : List Block) (i : ℕ) (old : Block) (new : List Block) → i < length bs → old ≡ get_or bs i old → excess new ≤ vec_len old.rows - 33 → excess (splice bs i new) ≤ excess bs
excess_less bs i old new l is e = let x = excess_splice bs i new old l in
    let y : vec_len old.rows - 33 ≡ vec_len (get_or bs i old).rows - 33 = ap (λ (o : Block). vec_len o.rows - 33) is in
    omega (arith, x, y, e)
