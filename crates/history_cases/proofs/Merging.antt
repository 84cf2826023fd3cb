-- Histories in order: which entries stand in one, and where.
use Rattle.std.proofs.Common.{◌≡◌, ◌⊎◌, inl, inr, ⊎_elim, refl, sym, ap, subst, ◌∙◌, ℕ, ◌<◌, ◌≤◌, true, false, cond, Bool, List, [], ◌∷◌, ◌++◌, ◌==◌, nat_lt, arith, eqb-true}
use Rattle.std.specs.List.{AllByRecursion}
use Rattle.std.specs.Ordering.{nat_cmp, ordering_then, is_lt}
use Rattle.std.proofs.lemmas.Bool.{both_ways, and_parts, ltb-true, eq-eqb}
use Rattle.std.specs.declared.cmp.Ordering.{Ordering}
use Rattle.std.specs.declared.cmp.Ordering.TheVariants.{Less, Equal, Greater}
use Rattle.clv_base.specs.declared.events.Entry.{Entry}
use Rattle.clv_base.specs.Journals.{History, comes_before, is_ordered, journal_of, own}
use Rattle.clv_base.specs.History.{IsAmong}
use Rattle.protocol_laws.specs.Growth.{IsPrefixOf}

abbrev pub Placed : Type 0
Placed = ℕ × Entry

-- ---- earlier, by stamp, then shard

abbrev pub Before : Placed → Placed → Type 0
Before a b = ((a.1).stamp < (b.1).stamp) ⊎ (((a.1).stamp ≡ (b.1).stamp) × (a.0 < b.0))

cmp_less : (a b : ℕ) (lt eq : Bool) (o : Ordering) → nat_lt a b ≡ lt → (a == b) ≡ eq → is_lt (ordering_then (cond lt Less (cond eq Equal Greater)) o) ≡ true
    → (a < b) ⊎ ((a ≡ b) × (is_lt o ≡ true))
cmp_less a b true eq o l e h = inl (ltb-true a b l)
cmp_less a b false true o l e h = inr (eqb-true a b e, h)
cmp_less a b false false o l e h = absurd (both_ways false refl h)

is_less : (a b : ℕ) (lt eq : Bool) → nat_lt a b ≡ lt → is_lt (cond lt Less (cond eq Equal Greater)) ≡ true → a < b
is_less a b true eq l h = ltb-true a b l
is_less a b false true l h = absurd (both_ways false refl h)
is_less a b false false l h = absurd (both_ways false refl h)

pub before_of : (a b : Placed) → comes_before a b ≡ true → Before a b
before_of a b h =
    ⊎_elim (λ l. inl l) (λ p. inr (p.0, is_less a.0 b.0 (nat_lt a.0 b.0) (a.0 == b.0) refl p.1))
    (cmp_less (a.1).stamp (b.1).stamp (nat_lt (a.1).stamp (b.1).stamp) ((a.1).stamp == (b.1).stamp) (nat_cmp a.0 b.0) refl refl h)

pub before_then : (a b c : Placed) → Before a b → Before b c → Before a c
before_then a b c (inl l) (inl m) = inl (omega arith)
before_then a b c (inl l) (inr m) = inl (omega arith)
before_then a b c (inr l) (inl m) = inl (omega arith)
before_then a b c (inr l) (inr m) = inr (omega arith, omega arith)

pub not_before_itself : (a b : Placed) → a ≡ b → Before a b → ⊥
not_before_itself a b e p = at (subst (λ z. Before a z) (sym e) p)
  where
    at : Before a a → ⊥
    at (inl l) = omega arith
    at (inr l) = omega (arith, l.1)

pub stamps_follow : (a b : Placed) → Before a b → (a.1).stamp ≤ (b.1).stamp
stamps_follow a b (inl l) = omega arith
stamps_follow a b (inr l) = omega arith

pub stamps_rise : (a b : Placed) → a.0 ≡ b.0 → Before a b → (a.1).stamp < (b.1).stamp
stamps_rise a b e (inl l) = l
stamps_rise a b e (inr l) = absurd (omega (arith, e, l.1))

-- each entry is before all later ones
abbrev pub InOrder : History → Type 0
InOrder [] = Unit {0}
InOrder (e ∷ es) = AllByRecursion (Before e) es × InOrder es

pub all_after : (e f : Placed) (es : History) → Before e f → AllByRecursion (Before f) es → AllByRecursion (Before e) es
all_after e f [] b a = tt
all_after e f (g ∷ gs) b a = (before_then e f g b a.0, all_after e f gs b a.1)

pub in_order : (h : History) → is_ordered h ≡ true → InOrder h
in_order [] o = tt
in_order (e ∷ []) o = (tt, tt)
in_order (e ∷ f ∷ es) o =
    let p = and_parts (comes_before e f) (is_ordered (f ∷ es)) o in
    let q = in_order (f ∷ es) p.1 in
    let b = before_of e f p.0 in
    ((b, all_after e f es b q.0), q)

-- ---- which entries stand in one

abbrev pub Among : {A : Type 0} → A → List A → Type 0
Among x [] = ⊥
Among x (y ∷ ys) = (y ≡ x) ⊎ Among x ys

pub among_all : {A : Type 0} (P : A → Type 0) (x : A) (xs : List A) → AllByRecursion P xs → Among x xs → P x
among_all P x [] a m = elim m [ ]
among_all P x (y ∷ ys) a (inl e) = subst P e a.0
among_all P x (y ∷ ys) a (inr m) = among_all P x ys a.1 m

pub among_left : {A : Type 0} (x : A) (xs ys : List A) → Among x xs → Among x (xs ++ ys)
among_left x [] ys m = elim m [ ]
among_left x (z ∷ zs) ys (inl e) = inl e
among_left x (z ∷ zs) ys (inr m) = inr (among_left x zs ys m)

pub among_right : {A : Type 0} (x : A) (xs ys : List A) → Among x ys → Among x (xs ++ ys)
among_right x [] ys m = m
among_right x (z ∷ zs) ys m = inr (among_right x zs ys m)

pub among_append : {A : Type 0} (x : A) (xs ys : List A) → Among x (xs ++ ys) → Among x xs ⊎ Among x ys
among_append x [] ys m = inr m
among_append x (z ∷ zs) ys (inl e) = inl (inl e)
among_append x (z ∷ zs) ys (inr m) = ⊎_elim (λ a. inl (inr a)) (λ b. inr b) (among_append x zs ys m)

pub among_front : {A : Type 0} (x : A) (xs ys : List A) → IsPrefixOf xs ys → Among x xs → Among x ys
among_front x xs ys (zs, e) m = subst (Among x) e (among_left x xs zs m)

pub among_is : (n : ℕ) (e : Entry) (h : History) → Among (n, e) h → IsAmong n e h
among_is n e [] m = elim m [ ]
among_is n e (f ∷ fs) (inl p) = inl p
among_is n e (f ∷ fs) (inr m) = inr (among_is n e fs m)

pub is_among : (n : ℕ) (e : Entry) (h : History) → IsAmong n e h → Among (n, e) h
is_among n e [] m = elim m [ ]
is_among n e (f ∷ fs) (inl p) = inl p
is_among n e (f ∷ fs) (inr m) = inr (is_among n e fs m)

-- in a shard's journal
journal_case : (x f : Placed) (fs : History) (b : Bool) → (f.0 == x.0) ≡ b → (f ≡ x) ⊎ Among x.1 (journal_of x.0 fs) → Among x.1 (cond b (f.1 ∷ journal_of x.0 fs) (journal_of x.0 fs))
journal_case x f fs true t (inl e) = inl (ap (λ z. z.1) e)
journal_case x f fs true t (inr m) = inr m
journal_case x f fs false t (inl e) = absurd (both_ways _ t (eq-eqb f.0 x.0 (ap (λ z. z.0) e)))
journal_case x f fs false t (inr m) = m

pub in_journal : (x : Placed) (h : History) → Among x h → Among x.1 (journal_of x.0 h)
in_journal x [] m = elim m [ ]
in_journal x (f ∷ fs) (inl e) = journal_case x f fs (f.0 == x.0) refl (inl e)
in_journal x (f ∷ fs) (inr m) = journal_case x f fs (f.0 == x.0) refl (inr (in_journal x fs m))

from_case : (n : ℕ) (e : Entry) (f : Placed) (fs : History) (b : Bool) → (f.0 == n) ≡ b → Among e (cond b (f.1 ∷ journal_of n fs) (journal_of n fs)) → (Among e (journal_of n fs) → Among (n, e) fs)
    → (f ≡ (n, e)) ⊎ Among (n, e) fs
from_case n e f fs true t (inl p) k = inl (pair (eqb-true f.0 n t) p)
  where
    pair : f.0 ≡ n → f.1 ≡ e → f ≡ (n, e)
    pair p q = ap (λ (z : ℕ). (z, f.1)) p ∙ ap (λ (z : Entry). (n, z)) q
from_case n e f fs true t (inr m) k = inr (k m)
from_case n e f fs false t m k = inr (k m)

pub from_journal : (n : ℕ) (e : Entry) (h : History) → Among e (journal_of n h) → Among (n, e) h
from_journal n e [] m = elim m [ ]
from_journal n e (f ∷ fs) m = from_case n e f fs (f.0 == n) refl m (from_journal n e fs)

-- in a walker's own entries
own_case : (x f : Placed) (fs : History) (b : Bool) → ((f.1).walker == (x.1).walker) ≡ b → (f ≡ x) ⊎ Among x (own (x.1).walker fs)
    → Among x (cond b (f ∷ own (x.1).walker fs) (own (x.1).walker fs))
own_case x f fs true t (inl e) = inl e
own_case x f fs true t (inr m) = inr m
own_case x f fs false t (inl e) = absurd (both_ways _ t (eq-eqb (f.1).walker (x.1).walker (ap (λ z. (z.1).walker) e)))
own_case x f fs false t (inr m) = m

pub in_own : (x : Placed) (h : History) → Among x h → Among x (own (x.1).walker h)
in_own x [] m = elim m [ ]
in_own x (f ∷ fs) (inl e) = own_case x f fs ((f.1).walker == (x.1).walker) refl (inl e)
in_own x (f ∷ fs) (inr m) = own_case x f fs ((f.1).walker == (x.1).walker) refl (inr (in_own x fs m))

all_own : (P : Placed → Type 0) (w : ℕ) (h : History) → AllByRecursion P h → AllByRecursion P (own w h)
all_own P w [] a = tt
all_own P w (f ∷ fs) a = at ((f.1).walker == w) (all_own P w fs a.1)
  where
    at : (b : Bool) → AllByRecursion P (own w fs) → AllByRecursion P (cond b (f ∷ own w fs) (own w fs))
    at true k = (a.0, k)
    at false k = k

pub own_in_order : (w : ℕ) (h : History) → InOrder h → InOrder (own w h)
own_in_order w [] o = tt
own_in_order w (f ∷ fs) o = at ((f.1).walker == w) (own_in_order w fs o.1)
  where
    at : (b : Bool) → InOrder (own w fs) → InOrder (cond b (f ∷ own w fs) (own w fs))
    at true k = (all_own (Before f) w fs o.0, k)
    at false k = k

-- ---- one after the other

-- the first stands in the list, and the second behind it
abbrev pub Precedes : {A : Type 0} → A → A → List A → Type 0
Precedes x y [] = ⊥
Precedes x y (z ∷ zs) = ((z ≡ x) × Among y zs) ⊎ Precedes x y zs

pub in_turn : {A : Type 0} (x y : A) (xs : List A) → Among x xs → Among y xs → (x ≡ y) ⊎ (Precedes x y xs ⊎ Precedes y x xs)
in_turn x y [] m n = elim m [ ]
in_turn x y (z ∷ zs) (inl e) (inl f) = inl (sym e ∙ f)
in_turn x y (z ∷ zs) (inl e) (inr m) = inr (inl (inl (e, m)))
in_turn x y (z ∷ zs) (inr m) (inl f) = inr (inr (inl (f, m)))
in_turn x y (z ∷ zs) (inr m) (inr n) = ⊎_elim (λ e. inl e) (λ p. inr (⊎_elim (λ a. inl (inr a)) (λ b. inr (inr b)) p)) (in_turn x y zs m n)

pub precedes_before : (x y : Placed) (h : History) → InOrder h → Precedes x y h → Before x y
precedes_before x y [] o p = elim p [ ]
precedes_before x y (z ∷ zs) o (inl p) = subst (λ w. Before w y) p.0 (among_all (Before z) y zs o.0 p.1)
precedes_before x y (z ∷ zs) o (inr q) = precedes_before x y zs o.1 q

-- what stands in the front of a journal is below what stands behind it
journal_precedes_case : (n : ℕ) (e f : Entry) (z : Placed) (zs : History) (b : Bool) → (z.0 == n) ≡ b → Precedes e f (cond b (z.1 ∷ journal_of n zs) (journal_of n zs))
    → (Precedes e f (journal_of n zs) → Precedes (n, e) (n, f) zs) → Precedes (n, e) (n, f) (z ∷ zs)
journal_precedes_case n e f z zs true t (inl p) k = inl (pair (eqb-true z.0 n t) p.0, from_journal n f zs p.1)
  where
    pair : z.0 ≡ n → z.1 ≡ e → z ≡ (n, e)
    pair p q = ap (λ (x : ℕ). (x, z.1)) p ∙ ap (λ (x : Entry). (n, x)) q
journal_precedes_case n e f z zs true t (inr m) k = inr (k m)
journal_precedes_case n e f z zs false t m k = inr (k m)

pub journal_precedes : (n : ℕ) (e f : Entry) (h : History) → Precedes e f (journal_of n h) → Precedes (n, e) (n, f) h
journal_precedes n e f [] p = elim p [ ]
journal_precedes n e f (z ∷ zs) p = journal_precedes_case n e f z zs (z.0 == n) refl p (journal_precedes n e f zs)

pub front_precedes : {A : Type 0} (x y : A) (xs ys : List A) → Among x xs → Among y ys → Precedes x y (xs ++ ys)
front_precedes x y [] ys m n = elim m [ ]
front_precedes x y (z ∷ zs) ys (inl e) m = inl (e, among_right y zs ys m)
front_precedes x y (z ∷ zs) ys (inr n) m = inr (front_precedes x y zs ys n m)
