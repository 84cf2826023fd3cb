-- A transaction's locks are closed once they are on each anchor of its thread.
use Rattle.std.proofs.Common.{◌≡◌, inl, inr, ⊎_elim, refl, sym, ap, ◌∙◌, subst, ℕ, suc, ◌≤◌, Bool, true, false, cond, ◌||◌, List, [], ◌∷◌, ◌++◌, map, length, Option, Some, None, is_some, arith}
use Rattle.std.proofs.lemmas.Bool.{cases_Bool, both_ways, and_parts, and_from}
use Rattle.std.specs.Option.{option_flatten}
use Rattle.std.specs.Map.{lookup, remove_entry}
use Rattle.clv_base.specs.declared.names.TxId.{TxId}
use Rattle.clv_base.specs.declared.modes.Anchor.{Anchor}
use Rattle.clv_base.specs.declared.modes.Holder.{Holder}
use Rattle.clv_base.specs.Orders.{tx_same, anchor_same}
use Rattle.clv_base.specs.Locks.{Locks, close_holder, close_locks}
use Rattle.lock_table.specs.Rows.{is_lock_of, has_lock_on}
use Rattle.lock_index.specs.declared.links.Link.{Link}
use Rattle.lock_index.specs.Groups.{Groups, rows_on, rows_in, rows_of, by_anchor}
use Rattle.lock_index.specs.Writes.{with_each, there}
use Rattle.lock_index.specs.Rising.{row_order, Behind, Rising}
use Rattle.lock_index.specs.Links.{Links, Nexts, nexts, first, has, Path, Among, AllApart, Thread, Threaded, is_link, next_of, tx_of, place_of, same_place}
use Rattle.lock_index.specs.Kept.{Tied}
use Rattle.lock_index.specs.Closings.{close_row, close_over, Closing}
use Rattle.lock_index.proofs.Sums.{Row, In}
use Rattle.lock_index.proofs.GroupWrites.{by_with}
use Rattle.law_base.proofs.LockRows.{anchor_true, anchor_self}
use Rattle.law_base.proofs.Lists.{map_append}

-- ---- on one anchor

same_anchor : (tx : TxId) (a b : Anchor) (hs : List Holder) → map (λ r. (r.0, cond (anchor_same a b) (close_holder tx r.1) r.1)) (rows_on b hs) ≡ map (close_row tx a) (rows_on b hs)
same_anchor tx a b [] = refl
same_anchor tx a b (h ∷ hs) = ap (λ l. (b, cond (anchor_same a b) (close_holder tx h) h) ∷ l) (same_anchor tx a b hs)

on_one : (tx : TxId) (a b : Anchor) (hs : List Holder) → rows_on b (cond (anchor_same a b) (map (close_holder tx) hs) hs) ≡ map (close_row tx a) (rows_on b hs)
on_one tx a b hs = go (anchor_same a b) hs ∙ same_anchor tx a b hs
  where
    go : (t : Bool) (hs : List Holder) → rows_on b (cond t (map (close_holder tx) hs) hs) ≡ map (λ r. (r.0, cond t (close_holder tx r.1) r.1)) (rows_on b hs)
    go true [] = refl
    go true (h ∷ hs) = ap (λ l. (b, close_holder tx h) ∷ l) (go true hs)
    go false [] = refl
    go false (h ∷ hs) = ap (λ l. (b, h) ∷ l) (go false hs)

in_order : (tx : TxId) (a : Anchor) (gs : Groups) → rows_in (with_each (there a (map (close_holder tx))) gs) ≡ map (close_row tx a) (rows_in gs)
in_order tx a [] = refl
in_order tx a (g ∷ gs) = ap (λ l. l ++ rows_in (with_each (there a (map (close_holder tx))) gs)) (on_one tx a g.0 g.1) ∙ (ap (λ l. map (close_row tx a) (rows_on g.0 g.1) ++ l) (in_order tx a gs) ∙ sym (map_append (close_row tx a) (rows_on g.0 g.1) (rows_in gs)))

pub closed_there : (tx : TxId) (a : Anchor) (gs : Groups) → rows_of (with_each (there a (map (close_holder tx))) gs) ≡ map (close_row tx a) (rows_of gs)
closed_there tx a gs = ap rows_in (by_with (there a (map (close_holder tx))) gs) ∙ in_order tx a (by_anchor gs)

pub map_twice : {X Y Z : Type 0} (f : X → Y) (g : Y → Z) (xs : List X) → map g (map f xs) ≡ map (λ x. g (f x)) xs
map_twice f g [] = refl
map_twice f g (x ∷ xs) = ap (λ l. g (f x) ∷ l) (map_twice f g xs)

pub map_as_is : (rows : Locks) → map (λ r. r) rows ≡ rows
map_as_is [] = refl
map_as_is (r ∷ rs) = ap (λ l. r ∷ l) (map_as_is rs)

-- ---- on all anchors of the thread

map_alike : (f g : Row → Row) (rows : Locks) → ((r : Row) → In r rows → f r ≡ g r) → map f rows ≡ map g rows
map_alike f g [] same = refl
map_alike f g (r ∷ rs) same = ap (λ x. x ∷ map f rs) (same r (inl refl)) ∙ ap (λ l. g r ∷ l) (map_alike f g rs (λ q i. same q (inr i)))

others : (tx : TxId) (bs' : List Anchor) (a : Anchor) (h : Holder) → tx_same tx h.tx ≡ false → close_over tx bs' (a, h) ≡ (a, h)
others tx [] a h n = refl
others tx (b ∷ bs) a h n = ap (close_over tx bs) (go (anchor_same b a)) ∙ others tx bs a h n
  where
    go : (t : Bool) → ◌≡◌ {A = Row} (a, cond t (close_holder tx h) h) (a, h)
    go true = ap (λ s. (a, cond s (record h { closed = true }) h)) n
    go false = refl

abbrev as_closed : Holder → Holder
as_closed h = record h { closed = true }

still_closed : (tx : TxId) (bs' : List Anchor) (a : Anchor) (h : Holder) → tx_same tx h.tx ≡ true → close_over tx bs' (a, as_closed h) ≡ (a, as_closed h)
still_closed tx [] a h e = refl
still_closed tx (b ∷ bs) a h e = ap (close_over tx bs) (go (anchor_same b a)) ∙ still_closed tx bs a h e
  where
    go : (t : Bool) → ◌≡◌ {A = Row} (a, cond t (close_holder tx (as_closed h)) (as_closed h)) (a, as_closed h)
    go true = ap (λ s. (a, cond s (as_closed h) (as_closed h))) e
    go false = refl

own : (tx : TxId) (bs' : List Anchor) (a : Anchor) (h : Holder) → tx_same tx h.tx ≡ true → Among a bs' → close_over tx bs' (a, h) ≡ (a, as_closed h)
own tx [] a h e i = absurd i
own tx (b ∷ bs) a h e i = ⊎_elim
    (λ t. ap (λ s. close_over tx bs (a, cond s (close_holder tx h) h)) t ∙ (ap (λ s. close_over tx bs (a, cond s (as_closed h) h)) e ∙ still_closed tx bs a h e))
    (λ t. ap (λ s. close_over tx bs (a, cond s (close_holder tx h) h)) t ∙ own tx bs a h e (⊎_elim (λ s. absurd (both_ways (anchor_same b a) t (subst (λ z. anchor_same b z ≡ true) (sym s) (anchor_self b)))) (λ j. j) i))
    (cases_Bool (anchor_same b a))

in_lock : (t : TxId) (a : Anchor) (r : Row) (rows : Locks) → In r rows → is_lock_of t a r ≡ true → has_lock_on t a rows ≡ true
in_lock t a r [] i e = absurd i
in_lock t a r (q ∷ qs) i e = ⊎_elim (λ s. ap (λ x. x || has_lock_on t a qs) (sym (ap (is_lock_of t a) s) ∙ e)) (λ j. more (is_lock_of t a q) (in_lock t a r qs j e)) i
  where
    more : (x : Bool) → has_lock_on t a qs ≡ true → (x || has_lock_on t a qs) ≡ true
    more true f = refl
    more false f = f

all_closed : (tx : TxId) (ls : Links) (rows : Locks) → Tied ls rows → (k : Thread (nexts ls) tx) → map (close_over tx k.anchors) rows ≡ close_locks tx rows
all_closed tx ls rows tied k = map_alike (close_over tx k.anchors) (λ r. (r.0, close_holder tx r.1)) rows each
  where
    each : (r : Row) → In r rows → close_over tx k.anchors r ≡ (r.0, close_holder tx r.1)
    each r i = ⊎_elim
        (λ e. own tx k.anchors r.0 r.1 e (k.all r.0 (tied tx r.0 ∙ in_lock tx r.0 r rows i (and_from (anchor_same r.0 r.0) (tx_same tx (r.1).tx) (anchor_self r.0) e))) ∙ ap (λ s. (r.0, cond s (as_closed r.1) r.1)) (sym e))
        (λ e. others tx k.anchors r.0 r.1 e ∙ ap (λ s. (r.0, cond s (as_closed r.1) r.1)) (sym e))
        (cases_Bool (tx_same tx (r.1).tx))

-- ---- a thread is no longer than the map

taken : (test : Link → Bool) (ls : Links) → is_some (lookup test ls) ≡ true → suc (length (remove_entry test ls)) ≡ length ls
taken test [] e = absurd (both_ways false refl e)
taken test (x ∷ xs) e = go (test x.0) e (taken test xs)
  where
    go : (b : Bool) → is_some (cond b (Some x.1) (lookup test xs)) ≡ true → (is_some (lookup test xs) ≡ true → suc (length (remove_entry test xs)) ≡ length xs) → suc (length (cond b xs (x ∷ remove_entry test xs))) ≡ suc (length xs)
    go true f more = refl
    go false f more = ap suc (more f)

left_in : (test other : Link → Bool) → ((l : Link) → test l ≡ true → other l ≡ true → ⊥) → (ls : Links) → lookup other (remove_entry test ls) ≡ lookup other ls
left_in test other never [] = refl
left_in test other never (x ∷ xs) = go (test x.0) refl (left_in test other never xs)
  where
    go : (b : Bool) → test x.0 ≡ b → lookup other (remove_entry test xs) ≡ lookup other xs → lookup other (cond b xs (x ∷ remove_entry test xs)) ≡ cond (other x.0) (Some x.1) (lookup other xs)
    go true e more = side (other x.0) refl
      where
        side : (c : Bool) → other x.0 ≡ c → lookup other xs ≡ cond c (Some x.1) (lookup other xs)
        side true f = absurd (never x.0 e f)
        side false f = refl
    go false e more = ap (λ l. cond (other x.0) (Some x.1) l) more

never_both : (t : TxId) (a b : Anchor) → (a ≡ b → ⊥) → (l : Link) → is_link t (Some a) l ≡ true → is_link t (Some b) l ≡ true → ⊥
never_both t a b n l e f = go (place_of l.spot) (and_parts (tx_same t (tx_of l)) (same_place (Some a) (place_of l.spot)) e).1 (and_parts (tx_same t (tx_of l)) (same_place (Some b) (place_of l.spot)) f).1
  where
    go : (p : Option Anchor) → same_place (Some a) p ≡ true → same_place (Some b) p ≡ true → ⊥
    go None e f = both_ways false refl e
    go (Some c) e f = n (anchor_true a c e ∙ sym (anchor_true b c f))

few_apart : (t : TxId) (bs : List Anchor) (ls : Links) → AllApart bs → ((b : Anchor) → Among b bs → is_some (next_of t (Some b) ls) ≡ true) → length bs ≤ length ls
few_apart t [] ls alone all = omega arith
few_apart t (b ∷ bs) ls alone all =
    let shorter : suc (length (remove_entry (is_link t (Some b)) ls)) ≡ length ls = taken (is_link t (Some b)) ls (all b (inl refl)) in
    let more : length bs ≤ length (remove_entry (is_link t (Some b)) ls) = few_apart t bs (remove_entry (is_link t (Some b)) ls) alone.1
    (λ c i. ap is_some (left_in (is_link t (Some b)) (is_link t (Some c)) (never_both t b c (λ s. alone.0 (subst (λ z. Among z bs) (sym s) i))) ls) ∙ all c (inr i)) in
    omega arith

pub followed : (N : Nexts) (t : TxId) (p : Option Anchor) (bs : List Anchor) (b : Anchor) → Path N t p bs → Among b bs → has N t b ≡ true
followed N t p [] b path i = absurd i
followed N t p (c ∷ cs) b path i = ⊎_elim (λ s. ap (λ z. has N t z) s ∙ ap is_some path.1.1) (λ j. followed N t path.1.0 cs b path.1.2 j) i

-- ---- the walk

pub closing_begins : (tx : TxId) (ls : Links) (rows : Locks) → Threaded ls → Tied ls rows → Closing (nexts ls) tx (first (nexts ls) tx) (length ls) rows rows
closing_begins tx ls rows threaded tied = let k = threaded tx in record {
  rest = k.anchors;
  path = k.path;
  few = few_apart tx k.anchors ls k.apart (λ b i. followed (nexts ls) tx (first (nexts ls) tx) k.anchors b k.path i);
  done = all_closed tx ls rows tied k;
}

pub closing_goes_on : (tx : TxId) (N : Nexts) (a : Anchor) (left : ℕ) (before now : Locks) → Closing N tx (Some a) (suc left) before now → Closing N tx (option_flatten (N tx (Some a))) left before (map (close_row tx a) now)
closing_goes_on tx N a left before now k = go k.rest k.path k.few k.done
  where
    go : (bs : List Anchor) → Path N tx (Some a) bs → length bs ≤ suc left → map (close_over tx bs) now ≡ close_locks tx before → Closing N tx (option_flatten (N tx (Some a))) left before (map (close_row tx a) now)
    go [] path few done = let no : Some a ≡ None = path in absurd cc
    go (b ∷ bs) path few done = let same : a ≡ b = (let s : Some a ≡ Some b = path.0 in cc) in record {
      rest = bs;
      path = subst (λ o. Path N tx o bs) (sym (ap option_flatten (ap (λ z. N tx (Some z)) same ∙ path.1.1))) path.1.2;
      few = omega (arith, few);
      done = map_twice (close_row tx a) (close_over tx bs) now ∙ (ap (λ z. map (λ r. close_over tx bs (close_row tx z r)) now) same ∙ done);
    }

nothing_left : (tx : TxId) (bs : List Anchor) (before now : Locks) → length bs ≤ 0 → map (close_over tx bs) now ≡ close_locks tx before → now ≡ close_locks tx before
nothing_left tx [] before now few done = sym (map_as_is now) ∙ done
nothing_left tx (b ∷ bs) before now few done = absurd (omega (arith, few))

pub closing_ended : (tx : TxId) (N : Nexts) (at : Option Anchor) (before now : Locks) → Closing N tx at 0 before now → now ≡ close_locks tx before
closing_ended tx N at before now k = nothing_left tx k.rest before now k.few k.done

pub closing_at_end : (tx : TxId) (N : Nexts) (at : Option Anchor) (left : ℕ) (before now : Locks) → at ≡ None → Closing N tx at left before now → now ≡ close_locks tx before
closing_at_end tx N at left before now e k = go k.rest k.path k.done
  where
    go : (bs : List Anchor) → Path N tx at bs → map (close_over tx bs) now ≡ close_locks tx before → now ≡ close_locks tx before
    go [] path done = sym (map_as_is now) ∙ done
    go (b ∷ bs) path done = let no : None ≡ Some b = sym e ∙ path.0 in absurd cc

-- ---- closed rows rise as they did

behind_closed : (tx : TxId) (r : Row) (rows : Locks) → Behind r rows → Behind (r.0, close_holder tx r.1) (close_locks tx rows)
behind_closed tx r [] b = tt
behind_closed tx r (q ∷ qs) b = (go (tx_same tx (r.1).tx) (tx_same tx (q.1).tx) ∙ b.0, behind_closed tx r qs b.1)
  where
    go : (s t : Bool) → row_order (r.0, cond s (record r.1 { closed = true }) r.1) (q.0, cond t (record q.1 { closed = true }) q.1) ≡ row_order r q
    go true true = refl
    go true false = refl
    go false true = refl
    go false false = refl

pub rising_closed : (tx : TxId) (rows : Locks) → Rising rows → Rising (close_locks tx rows)
rising_closed tx [] s = tt
rising_closed tx (r ∷ rs) s = (behind_closed tx r rs s.0, rising_closed tx rs s.1)
