-- The acts to which a transaction may still go back, as a list of their numbers.
use Rattle.std.proofs.Common.{◌≡◌, ℕ, suc, ◌+◌, ◌-◌, ◌<◌, ◌≤◌, Bool, true, false, cond, ◌&&◌, ◌||◌, ◌==◌, nat_lt, nat_le, List, [], ◌∷◌, ◌++◌, length, get_or, Option, Some, option_to_list, inl, inr, refl, sym, ap, ap₂, ◌∙◌, subst, arith, append-nil}
use Rattle.std.proofs.lemmas.Bool.{and_parts, and_from, or_cases, cases_eq, cases_lt, lt-ltb, le-ltb, le-leb, lt-leb, ltb-true, leb-true, eq-eqb, ne_eqb, eqb-true, both_ways}
use Rattle.std.specs.List.{list_all}
use Rattle.clv_base.specs.Backs.{stands_for_back, are_numbered}
use Rattle.session_books.specs.Done.{Done, Did, WentBack}
use Rattle.report_reading.specs.Told.{numbered_from}
use Rattle.report_reading.specs.Standing.{Rise, Follows, is_among, up_to}
use Rattle.report_reading.proofs.Lasts.{last_of_rest}

-- what is above all bounds isn't among the numbers below
low_rise : (low high : ℕ) (ns : List ℕ) → low ≤ high → Rise high ns → Rise low ns
low_rise low high [] h r = tt
low_rise low high (n ∷ ns) h r = let first = r.0 in (omega arith, r.1)

below_none : (u low : ℕ) (ns : List ℕ) → u < low → Rise low ns → is_among u ns ≡ false
below_none u low [] h r = refl
below_none u low (n ∷ ns) h r =
    let first = r.0 in
    let other : (n == u) ≡ false = ne_eqb n u (λ e. omega arith) in
    ap (λ b. b || is_among u ns) other ∙ below_none u (suc n) ns (omega arith) r.1

-- ---- numbers up to one

pub up_to_rises : (u low : ℕ) (ns : List ℕ) → Rise low ns → Rise low (up_to u ns)
up_to_rises u low [] r = tt
up_to_rises u low (n ∷ ns) r = at (nat_le n u) (up_to_rises u (suc n) ns r.1)
  where
    at : (b : Bool) → Rise (suc n) (up_to u ns) → Rise low (cond b (n ∷ up_to u ns) (up_to u ns))
    at true deeper = (r.0, deeper)
    at false deeper = (let first = r.0 in low_rise low (suc n) (up_to u ns) (omega arith) deeper)

-- those above it make no difference
pub none_above : (u low : ℕ) (ns : List ℕ) → u < low → Rise low ns → up_to u ns ≡ []
none_above u low [] h r = refl
none_above u low (n ∷ ns) h r =
    let first = r.0 in
    let above : nat_le n u ≡ false = lt-leb n u (omega arith) in
    ap (λ b. cond b (n ∷ up_to u ns) (up_to u ns)) above ∙ none_above u (suc n) ns (omega arith) r.1

and_none : (b : Bool) → false ≡ (b && false)
and_none true = refl
and_none false = refl

and_split : (a b c : Bool) → (a && (b || c)) ≡ ((a && b) || (a && c))
and_split true b c = refl
and_split false b c = refl

and_other : (a b c : Bool) → c ≡ false → (a && c) ≡ (b && c)
and_other a b c e = rw e (sym (and_none a) ∙ and_none b)

among_if : (b : Bool) (v n : ℕ) (ns : List ℕ) → is_among v (cond b (n ∷ ns) ns) ≡ ((b && (n == v)) || is_among v ns)
among_if true v n ns = refl
among_if false v n ns = refl

same_bound : (v u n : ℕ) → (nat_le n u && (n == v)) ≡ (nat_le v u && (n == v))
same_bound v u n = elim (cases_eq n v) [
  | inl e ↦ ap (λ (m : ℕ). nat_le m u && (n == v)) e
  | inr other ↦ and_other (nat_le n u) (nat_le v u) (n == v) (ne_eqb n v other)
]

pub among_up_to : (v u : ℕ) (ns : List ℕ) → is_among v (up_to u ns) ≡ (nat_le v u && is_among v ns)
among_up_to v u [] = and_none (nat_le v u)
among_up_to v u (n ∷ ns) =
    among_if (nat_le n u) v n (up_to u ns) ∙ ap₂ (λ a b. a || b) (same_bound v u n) (among_up_to v u ns) ∙ sym (and_split (nat_le v u) (n == v) (is_among v ns))

-- ---- one number more

pub push_rises : (low n : ℕ) (ns : List ℕ) → Rise low ns → list_all (λ m. nat_lt m n) ns ≡ true → low ≤ n → Rise low (ns ++ n ∷ [])
push_rises low n [] r below h = (h, tt)
push_rises low n (m ∷ ns) r below h =
    let parts = and_parts (nat_lt m n) (list_all (λ x. nat_lt x n) ns) below in
    let first = ltb-true m n parts.0 in
    (r.0, push_rises (suc m) n ns r.1 parts.1 (omega arith))

pub among_push : (u n : ℕ) (ns : List ℕ) → is_among u (ns ++ n ∷ []) ≡ (is_among u ns || (n == u))
among_push u n [] = at (n == u)
  where
    at : (b : Bool) → (b || false) ≡ (false || b)
    at true = refl
    at false = refl
among_push u n (m ∷ ns) = ap (λ b. (m == u) || b) (among_push u n ns) ∙ sym (regroup (m == u) (is_among u ns) (n == u))
  where
    regroup : (a b c : Bool) → ((a || b) || c) ≡ (a || (b || c))
    regroup true b c = refl
    regroup false b c = refl

-- ---- where a transaction may go back

-- the numbers that stand before act n are those to which it may go back
pub record Standing (n : ℕ) (ns : List ℕ) (backs : List (ℕ × ℕ)) : Type 0 where
  pub rises : Rise 0 ns
  pub below : list_all (λ m. nat_lt m n) ns ≡ true
  pub backs_below : list_all (λ b. nat_lt b.0 n) backs ≡ true
  pub same : (u : ℕ) → u < n → is_among u ns ≡ list_all (λ b. nat_le u b.1 || nat_le b.0 u) backs

pub standing_first : Standing 1 (0 ∷ []) []
standing_first = record { rises = (omega arith, tt); below = refl; backs_below = refl; same = λ u h. ap (λ b. b || false) (eq-eqb 0 u (omega arith)) }

more_below : (n : ℕ) (ns : List ℕ) → list_all (λ m. nat_lt m n) ns ≡ true → list_all (λ m. nat_lt m (suc n)) ns ≡ true
more_below n [] h = refl
more_below n (m ∷ ns) h =
    let parts = and_parts (nat_lt m n) (list_all (λ x. nat_lt x n) ns) h in
    let first = ltb-true m n parts.0 in
    and_from _ _ (lt-ltb m (suc n) (omega arith)) (more_below n ns parts.1)

pushed_below : (n : ℕ) (ns : List ℕ) → list_all (λ m. nat_lt m n) ns ≡ true → list_all (λ m. nat_lt m (suc n)) (ns ++ n ∷ []) ≡ true
pushed_below n [] h = and_from _ _ (lt-ltb n (suc n) (omega arith)) refl
pushed_below n (m ∷ ns) h =
    let parts = and_parts (nat_lt m n) (list_all (λ x. nat_lt x n) ns) h in
    let first = ltb-true m n parts.0 in
    and_from _ _ (lt-ltb m (suc n) (omega arith)) (pushed_below n ns parts.1)

more_backs : (n : ℕ) (backs : List (ℕ × ℕ)) → list_all (λ b. nat_lt b.0 n) backs ≡ true → list_all (λ b. nat_lt b.0 (suc n)) backs ≡ true
more_backs n [] h = refl
more_backs n (b ∷ bs) h =
    let parts = and_parts (nat_lt b.0 n) (list_all (λ x. nat_lt x.0 n) bs) h in
    let first = ltb-true b.0 n parts.0 in
    and_from _ _ (lt-ltb b.0 (suc n) (omega arith)) (more_backs n bs parts.1)

-- act n itself stands, whatever was gone back over before
all_passed : (n : ℕ) (backs : List (ℕ × ℕ)) → list_all (λ b. nat_lt b.0 n) backs ≡ true → list_all (λ b. nat_le n b.1 || nat_le b.0 n) backs ≡ true
all_passed n [] h = refl
all_passed n (b ∷ bs) h =
    let parts = and_parts (nat_lt b.0 n) (list_all (λ x. nat_lt x.0 n) bs) h in
    let first = ltb-true b.0 n parts.0 in
    and_from _ _ (ap (λ x. nat_le n b.1 || x) (le-leb b.0 n (omega arith)) ∙ or_true (nat_le n b.1)) (all_passed n bs parts.1)
  where
    or_true : (x : Bool) → (x || true) ≡ true
    or_true true = refl
    or_true false = refl

or_none : (x : Bool) → (x || false) ≡ x
or_none true = refl
or_none false = refl

or_all : (x : Bool) → (x || true) ≡ true
or_all true = refl
or_all false = refl

not_among : (n : ℕ) (ns : List ℕ) → list_all (λ m. nat_lt m n) ns ≡ true → is_among n ns ≡ false
not_among n [] h = refl
not_among n (m ∷ ns) h =
    let parts = and_parts (nat_lt m n) (list_all (λ x. nat_lt x n) ns) h in
    let first = ltb-true m n parts.0 in
    ap (λ b. b || is_among n ns) (ne_eqb m n (λ e. omega arith)) ∙ not_among n ns parts.1

-- after an operation
pub standing_op : (n : ℕ) (ns : List ℕ) (backs : List (ℕ × ℕ)) → Standing n ns backs → Standing (suc n) (ns ++ n ∷ []) backs
standing_op n ns backs s =
    record {
      rises = push_rises 0 n ns s.rises s.below (omega arith);
      below = pushed_below n ns s.below;
      backs_below = more_backs n backs s.backs_below;
      same = λ u h. among_push u n ns ∙ elim (cases_eq n u) [
        | inl e ↦ ap (λ b. is_among u ns || b) (eq-eqb n u e) ∙ or_all (is_among u ns) ∙ sym (subst (λ (m : ℕ). list_all (λ b. nat_le m b.1 || nat_le b.0 m) backs ≡ true) e (all_passed n backs s.backs_below))
        | inr other ↦ ap (λ b. is_among u ns || b) (ne_eqb n u other) ∙ or_none (is_among u ns) ∙ s.same u (omega arith)
      ];
    }

kept_below : (u n : ℕ) (ns : List ℕ) → list_all (λ m. nat_lt m n) ns ≡ true → list_all (λ m. nat_lt m n) (up_to u ns) ≡ true
kept_below u n [] h = refl
kept_below u n (m ∷ ns) h =
    let parts = and_parts (nat_lt m n) (list_all (λ x. nat_lt x n) ns) h in at (nat_le m u) parts.0 (kept_below u n ns parts.1)
  where
    at : (b : Bool) → nat_lt m n ≡ true → list_all (λ x. nat_lt x n) (up_to u ns) ≡ true → list_all (λ x. nat_lt x n) (cond b (m ∷ up_to u ns) (up_to u ns)) ≡ true
    at true p q = and_from _ _ p q
    at false p q = q

-- after a going back
pub standing_back : (n u : ℕ) (ns : List ℕ) (backs : List (ℕ × ℕ)) → u < n → Standing n ns backs → Standing (suc n) (up_to u ns ++ n ∷ []) ((n, u) ∷ backs)
standing_back n u ns backs h s =
    record {
      rises = push_rises 0 n (up_to u ns) (up_to_rises u 0 ns s.rises) (kept_below u n ns s.below) (omega arith);
      below = pushed_below n (up_to u ns) (kept_below u n ns s.below);
      backs_below = and_from _ _ (lt-ltb n (suc n) (omega arith)) (more_backs n backs s.backs_below);
      same = λ v l. among_push v n (up_to u ns) ∙ elim (cases_eq n v) [
        | inl e ↦
            ap (λ b. is_among v (up_to u ns) || b) (eq-eqb n v e) ∙ or_all (is_among v (up_to u ns))
            ∙ sym (and_from _ _ (ap (λ b. nat_le v u || b) (le-leb n v (omega arith)) ∙ or_all (nat_le v u)) (subst (λ (m : ℕ). list_all (λ b. nat_le m b.1 || nat_le b.0 m) backs ≡ true) e (all_passed n backs s.backs_below)))
        | inr other ↦
            ap (λ b. is_among v (up_to u ns) || b) (ne_eqb n v other) ∙ or_none (is_among v (up_to u ns)) ∙ among_up_to v u ns
            ∙ ap₂ (λ a b. a && b) (sym (ap (λ b. nat_le v u || b) (lt-leb n v (omega arith)) ∙ or_none (nat_le v u))) (s.same v (omega arith))
      ];
    }

-- whether an act may go back to a number below its own
pub may_go : (n u : ℕ) (ns : List ℕ) (backs : List (ℕ × ℕ)) → Standing n ns backs → stands_for_back n u backs ≡ is_among u ns
may_go n u ns backs s = elim (cases_lt u n) [
  | inl below ↦ ap (λ b. b && list_all (λ x. nat_le u x.1 || nat_le x.0 u) backs) (lt-ltb u n below) ∙ sym (s.same u below)
  | inr above ↦ ap (λ b. b && list_all (λ x. nat_le u x.1 || nat_le x.0 u) backs) (le-ltb u n above) ∙ sym (high u n ns above s.below)
]
  where
    high : (m k : ℕ) (ms : List ℕ) → k ≤ m → list_all (λ x. nat_lt x k) ms ≡ true → is_among m ms ≡ false
    high m k [] above below = refl
    high m k (x ∷ ms) above below =
        let parts = and_parts (nat_lt x k) (list_all (λ y. nat_lt y k) ms) below in
        let first = ltb-true x k parts.0 in
        ap (λ b. b || is_among m ms) (ne_eqb x m (λ e. omega arith)) ∙ high m k ms above parts.1

-- ---- the last number

pub up_to_below : (u : ℕ) (ns : List ℕ) → list_all (λ n. nat_le n u) (up_to u ns) ≡ true
up_to_below u [] = refl
up_to_below u (n ∷ ns) = at (nat_le n u) refl (up_to_below u ns)
  where
    at : (b : Bool) → nat_le n u ≡ b → list_all (λ m. nat_le m u) (up_to u ns) ≡ true → list_all (λ m. nat_le m u) (cond b (n ∷ up_to u ns) (up_to u ns)) ≡ true
    at true e h = and_from _ _ e h
    at false e h = h

-- of numbers that rise up to one, the last is that one exactly where it is among them
last_among : (u low : ℕ) (ns : List ℕ) (q : ℕ) → 0 < length ns → Rise low ns → list_all (λ n. nat_le n u) ns ≡ true → q ≡ get_or ns (length ns - 1) q → is_among u ns ≡ (q == u)
last_among u low [] q some r h at = absurd (omega arith)
last_among u low (n ∷ []) q some r h at = or_none (n == u) ∙ ap (λ (m : ℕ). m == u) (sym at)
last_among u low (n ∷ m ∷ ns) q some r h at =
    let next = (r.1).0 in
    let rest = (and_parts (nat_le n u) (nat_le m u && list_all (λ x. nat_le x u) ns) h).1 in
    let top = leb-true m u (and_parts (nat_le m u) (list_all (λ x. nat_le x u) ns) rest).0 in
    ap (λ b. b || is_among u (m ∷ ns)) (ne_eqb n u (λ e. omega arith)) ∙ last_among u (suc n) (m ∷ ns) q (omega arith) r.1 rest (last_of_rest n m ns q at)

pub among_last : (u : ℕ) (ns left : List ℕ) (q : ℕ) → Rise 0 ns → left ≡ up_to u ns → 0 < length left → q ≡ get_or left (length left - 1) q → (q == u) ≡ is_among u ns
among_last u ns left q r is some at =
    let own : is_among u (up_to u ns) ≡ (q == u) =
    subst (λ l. is_among u l ≡ (q == u)) is (last_among u 0 left q some (subst (Rise 0) (sym is) (up_to_rises u 0 ns r)) (subst (λ l. list_all (λ n. nat_le n u) l ≡ true) (sym is) (up_to_below u ns)) at) in
    sym own ∙ among_up_to u u ns ∙ ap (λ b. b && is_among u ns) (le-leb u u (omega arith))

pub among_none : (u : ℕ) (ns left : List ℕ) → left ≡ up_to u ns → length left ≡ 0 → false ≡ is_among u ns
among_none u ns left is none =
    let empty : is_among u left ≡ false = (empty_among left none) in
    sym empty ∙ ap (is_among u) is ∙ among_up_to u u ns ∙ ap (λ b. b && is_among u ns) (le-leb u u (omega arith))
  where
    empty_among : (xs : List ℕ) → length xs ≡ 0 → is_among u xs ≡ false
    empty_among [] h = refl
    empty_among (x ∷ xs) h = absurd (omega arith)

-- ---- numbers dropped from the end

up_to_append : (u : ℕ) (xs ys : List ℕ) → up_to u (xs ++ ys) ≡ up_to u xs ++ up_to u ys
up_to_append u [] ys = refl
up_to_append u (x ∷ xs) ys = at (nat_le x u) (up_to_append u xs ys)
  where
    at : (b : Bool) → up_to u (xs ++ ys) ≡ up_to u xs ++ up_to u ys → cond b (x ∷ up_to u (xs ++ ys)) (up_to u (xs ++ ys)) ≡ cond b (x ∷ up_to u xs) (up_to u xs) ++ up_to u ys
    at true e = ap (λ l. x ∷ l) e
    at false e = e

front_rises : (low : ℕ) (xs ys : List ℕ) → Rise low (xs ++ ys) → Rise low xs
front_rises low [] ys r = tt
front_rises low (x ∷ xs) ys r = (r.0, front_rises (suc x) xs ys r.1)

-- without the last one, which is above
pub dropped : (u : ℕ) (xs left : List ℕ) (x : ℕ) → Rise 0 xs → xs ≡ left ++ x ∷ [] → u < x → Rise 0 left × (up_to u left ≡ up_to u xs)
dropped u xs left x r is h = (
  front_rises 0 left (x ∷ []) (subst (Rise 0) is r),
  sym (ap (up_to u) is ∙ up_to_append u left (x ∷ []) ∙ ap (λ l. up_to u left ++ l) (ap (λ b. cond b (x ∷ []) []) (lt-leb x u h)) ∙ append-nil (up_to u left)),
)

-- so with what is popped
pub popped : (u : ℕ) (xs lent left : List ℕ) (n q : ℕ) (o : Option ℕ) → Rise 0 xs → lent ≡ xs → n ≡ length xs → q ≡ get_or lent (length lent - 1) q → u < q → xs ≡ left ++ option_to_list o → o ≡ Some (get_or xs (n - 1) q)
    → Rise 0 left × (up_to u left ≡ up_to u xs)
popped u xs lent left n q o r same size at h split top =
    let last : get_or xs (n - 1) q ≡ q = ap (λ (k : ℕ). get_or xs (k - 1) q) size ∙ sym (ap (λ (l : List ℕ). get_or l (length l - 1) q) same) ∙ sym at in
    dropped u xs left q r (split ∙ ap (λ (x : Option ℕ). left ++ option_to_list x) (top ∙ ap Some last)) h

-- where the last one isn't above, none is
pub none_dropped : (u : ℕ) (xs : List ℕ) (q : ℕ) → Rise 0 xs → 0 < length xs → q ≡ get_or xs (length xs - 1) q → q ≤ u → xs ≡ up_to u xs
none_dropped u xs q r some at h = sym (all_kept u xs (all_low u 0 xs q r some at h))
  where
    all_low : (u low : ℕ) (ys : List ℕ) (q : ℕ) → Rise low ys → 0 < length ys → q ≡ get_or ys (length ys - 1) q → q ≤ u → list_all (λ n. nat_le n u) ys ≡ true
    all_low u low [] q r some at h = absurd (omega arith)
    all_low u low (y ∷ []) q r some at h = and_from _ _ (le-leb y u (omega arith)) refl
    all_low u low (y ∷ z ∷ ys) q r some at h =
        let rest = all_low u (suc y) (z ∷ ys) q r.1 (omega arith) (last_of_rest y z ys q at) h in
        let next = (r.1).0 in
        let top = leb-true z u (and_parts (nat_le z u) (list_all (λ x. nat_le x u) ys) rest).0 in and_from _ _ (le-leb y u (omega arith)) rest

    all_kept : (u : ℕ) (ys : List ℕ) → list_all (λ n. nat_le n u) ys ≡ true → up_to u ys ≡ ys
    all_kept u [] h = refl
    all_kept u (y ∷ ys) h =
        let parts = and_parts (nat_le y u) (list_all (λ n. nat_le n u) ys) h in ap (λ b. cond b (y ∷ up_to u ys) (up_to u ys)) parts.0 ∙ ap (λ l. y ∷ l) (all_kept u ys parts.1)

-- ---- one act more

among_low : (u n : ℕ) (ns : List ℕ) → list_all (λ m. nat_lt m n) ns ≡ true → is_among u ns ≡ true → u < n
among_low u n [] h e = absurd (both_ways false refl e)
among_low u n (m ∷ ns) h e =
    let parts = and_parts (nat_lt m n) (list_all (λ x. nat_lt x n) ns) h in
    elim (or_cases (m == u) (is_among u ns) e) [
      | inl same ↦ (let here = eqb-true m u same in let low = ltb-true m n parts.0 in omega arith)
      | inr more ↦ among_low u n ns parts.1 more
    ]

pub goes_next :
    (i n m : ℕ) (d : Done) (ds : List Done) (ns new : List ℕ) (backs : List (ℕ × ℕ)) (may : Bool) → n ≡ i + 1 → m ≡ n + 1 → may ≡ true → Standing n ns backs → Follows d n ns may new
    → (later : List (ℕ × ℕ)) × Standing m new later × (are_numbered i backs (numbered_from n (d ∷ ds)) ≡ are_numbered n later (numbered_from m ds))
goes_next i n m (Did op a) ds ns new backs may en em true_ s f =
    let next : suc n ≡ m = omega arith in (
      backs,
      subst (λ l. Standing m l backs) (sym f.1) (subst (λ (k : ℕ). Standing k (ns ++ n ∷ []) backs) next (standing_op n ns backs s)),
      ap (λ b. b && are_numbered n backs (numbered_from (suc n) ds)) (le-leb i n (omega arith)) ∙ ap (λ (k : ℕ). are_numbered n backs (numbered_from k ds)) next,
    )
goes_next i n m (WentBack u) ds ns new backs may en em true_ s f =
    let next : suc n ≡ m = omega arith in
    let among : is_among u ns ≡ true = sym f.0 ∙ true_ in (
      (n, u) ∷ backs,
      subst (λ l. Standing m l ((n, u) ∷ backs)) (sym (f.1 true_)) (subst (λ (k : ℕ). Standing k (up_to u ns ++ n ∷ []) ((n, u) ∷ backs)) next (standing_back n u ns backs (among_low u n ns s.below among) s)),
      ap₂ (λ a b. (a && b) && are_numbered n ((n, u) ∷ backs) (numbered_from (suc n) ds)) (lt-ltb i n (omega arith)) (may_go n u ns backs s ∙ among) ∙ ap (λ (k : ℕ). are_numbered n ((n, u) ∷ backs) (numbered_from k ds)) next,
    )

pub goes_not :
    (i n : ℕ) (d : Done) (ds : List Done) (ns new : List ℕ) (backs : List (ℕ × ℕ)) (may : Bool) → n ≡ i + 1 → may ≡ false → Standing n ns backs → Follows d n ns may new
    → are_numbered i backs (numbered_from n (d ∷ ds)) ≡ false
goes_not i n (Did op a) ds ns new backs may en never s f = absurd (both_ways may never f.0)
goes_not i n (WentBack u) ds ns new backs may en never s f =
    ap₂ (λ a b. (a && b) && are_numbered n ((n, u) ∷ backs) (numbered_from (suc n) ds)) (lt-ltb i n (omega arith)) (may_go n u ns backs s ∙ sym f.0 ∙ never)
