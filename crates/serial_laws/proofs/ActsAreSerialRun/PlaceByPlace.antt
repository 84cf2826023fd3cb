-- What holds after acts: place by place, with an operation more, or with those that a going back takes away less.
use Rattle.std.proofs.Common.{◌≡◌, refl, sym, ap, subst, ◌∙◌, ℕ, zero, suc, ◌<◌, ⊎_elim, true, false, cond, Bool, not, ◌&&◌, List, [], ◌∷◌, map, ◌==◌, nat_lt, nat_le, arith}
use Rattle.std.specs.List.{AllByRecursion, filter}
use Rattle.std.proofs.lemmas.Bool.{both_ways, cases_order, cases_Bool, eqb-true, lt-ltb, le-ltb, leb-true, leb-false, false_from_ne_true, cond-true, cond-false}
use Rattle.clv_base.specs.Maps.{KeyMap, Act, Operates, GoesBack, op_after, acts_after}
use Rattle.clv_base.specs.Folding.{IsRising}
use Rattle.clv_base.specs.Backs.{PlacedAct, is_later_of, held_by, held_after, held_of, map_of, all_done}
use Rattle.law_base.specs.Items.{AllLater}
use Rattle.law_base.proofs.Lists.{all_mono, all_push, all_kept}
use Rattle.serial_laws.proofs.Held.OperationsAtPlaces.{HeldOp, pair, as_act, after_ops, at_, start, rising_ops}
use Rattle.serial_laws.proofs.Held.TrailsAreHeldMaps.{up_to, beyond, Kept}
use Rattle.serial_laws.proofs.ActsAreSerialRun.AnswersAreCarried.{acts_of, AllFit, trail_after, after_trail, AllCarry, carried}
use Rattle.serial_laws.proofs.ActsAreSerialRun.OneMoreAct.{own, last_after, backs_after}

-- ---- lists

pub all_of_filter : {X : Type 0} (P : X → Type 0) (p : X → Bool) (xs : List X) → AllByRecursion P (filter p xs) → AllByRecursion (λ x. p x ≡ true → P x) xs
all_of_filter P p [] a = tt
all_of_filter P p (x ∷ xs) a = at (p x) refl a (all_of_filter P p xs)
  where
    at : (b : Bool) → p x ≡ b → AllByRecursion P (cond b (x ∷ filter p xs) (filter p xs)) → (AllByRecursion P (filter p xs) → AllByRecursion (λ y. p y ≡ true → P y) xs) → AllByRecursion (λ y. p y ≡ true → P y) (x ∷ xs)
    at true e a k = ((λ t. a.0), k a.1)
    at false e a k = ((λ t. absurd (both_ways (p x) e t)), k a)

pub all_mapped : {X Y : Type 0} (P : Y → Type 0) (f : X → Y) (xs : List X) → AllByRecursion P (map f xs) → AllByRecursion (λ x. P (f x)) xs
all_mapped P f [] a = tt
all_mapped P f (x ∷ xs) a = (a.0, all_mapped P f xs a.1)

pub later_both : {X : Type 0} (P Q : X → X → Type 0) (xs : List X) → AllLater P xs → AllLater Q xs → AllLater (λ x y. P x y × Q x y) xs
later_both P Q [] a b = tt
later_both P Q (x ∷ xs) a b = (both xs a.0 b.0, later_both P Q xs a.1 b.1)
  where
    both : (ys : List _) → AllByRecursion (P x) ys → AllByRecursion (Q x) ys → AllByRecursion (λ y. P x y × Q x y) ys
    both [] a b = tt
    both (y ∷ ys) a b = ((a.0, b.0), both ys a.1 b.1)

-- what holds of each with each holds of each with each later one
pub later_all : {X : Type 0} (Q : X → X → Type 0) (xs : List X) → AllByRecursion (λ y. AllByRecursion (λ x. Q x y) xs) xs → AllLater Q xs
later_all Q [] a = tt
later_all Q (x ∷ xs) a = (all_mono _ (Q x) (λ y h. h.0) xs a.1, later_all Q xs (all_mono _ _ (λ y h. h.1) xs a.1))

-- ---- what holds

pub map_of_held : (m : KeyMap) (ds : List HeldOp) → map_of m (map as_act ds) ≡ after_ops m ds
map_of_held m [] = refl
map_of_held m (d ∷ ds) = map_of_held (op_after d.op m) ds

-- what holds is among the acts
all_held_by : (P : PlacedAct → Type 0) (so_far : List PlacedAct) (p : PlacedAct) (a : Act) → AllByRecursion P so_far → P p → AllByRecursion P (held_by so_far p a)
all_held_by P so_far p (Operates o) all h = all_push P so_far p all h
all_held_by P so_far p (GoesBack u) all h = all_kept P (λ q. not (is_later_of p.place u q)) so_far all

pub all_held : (P : PlacedAct → Type 0) (so_far ps : List PlacedAct) → AllByRecursion P so_far → AllByRecursion P ps → AllByRecursion P (held_of so_far ps)
all_held P so_far [] a b = a
all_held P so_far (p ∷ ps) a b = all_held P (held_after so_far p) ps (all_held_by P so_far p p.act a b.0) b.1

-- ---- those that a going back takes away

abbrev pub stays_by : ℕ → ℕ → HeldOp → Bool
stays_by n u d = not ((d.place == n) && nat_lt u d.number)

pub filter_held : (n u : ℕ) (ds : List HeldOp) → filter (λ q. not (is_later_of n u q)) (map as_act ds) ≡ map as_act (filter (stays_by n u) ds)
filter_held n u [] = refl
filter_held n u (d ∷ ds) = at (stays_by n u d) (filter_held n u ds)
  where
    at : (b : Bool) → filter (λ q. not (is_later_of n u q)) (map as_act ds) ≡ map as_act (filter (stays_by n u) ds)
        → cond b (as_act d ∷ filter (λ q. not (is_later_of n u q)) (map as_act ds)) (filter (λ q. not (is_later_of n u q)) (map as_act ds)) ≡ map as_act (cond b (d ∷ filter (stays_by n u) ds) (filter (stays_by n u) ds))
    at true e = ap (λ l. as_act d ∷ l) e
    at false e = e

pub done_later : (n u : ℕ) (ds : List HeldOp) → all_done (filter (is_later_of n u) (map as_act ds)) ≡ map pair (beyond u (at_ n ds))
done_later n u [] = refl
done_later n u (d ∷ ds) = at (d.place == n) (nat_lt u d.number) refl (done_later n u ds)
  where
    rest : List PlacedAct
    rest = filter (is_later_of n u) (map as_act ds)

    at : (b c : Bool) → nat_lt u d.number ≡ c → all_done rest ≡ map pair (beyond u (at_ n ds)) → all_done (cond (b && c) (as_act d ∷ rest) rest) ≡ map pair (beyond u (cond b (d ∷ at_ n ds) (at_ n ds)))
    at true true e h = ap (λ l. pair d ∷ l) h ∙ ap (map pair) (sym (cond-true (nat_lt u d.number) (d ∷ beyond u (at_ n ds)) (beyond u (at_ n ds)) e))
    at true false e h = h ∙ ap (map pair) (sym (cond-false (nat_lt u d.number) (d ∷ beyond u (at_ n ds)) (beyond u (at_ n ds)) e))
    at false true e h = h
    at false false e h = h

up_or_beyond : (u k : ℕ) → nat_le k u ≡ not (nat_lt u k)
up_or_beyond u k = ⊎_elim (λ e. e ∙ ap not (sym (le-ltb u k (leb-true k u e)))) (λ e. e ∙ ap not (sym (lt-ltb u k (leb-false k u e)))) (cases_Bool (nat_le k u))

-- at their place those up to the number stay
pub at_back : (n u : ℕ) (ds : List HeldOp) → at_ n (filter (stays_by n u) ds) ≡ up_to u (at_ n ds)
at_back n u [] = refl
at_back n u (d ∷ ds) = at (d.place == n) (nat_lt u d.number) refl refl (at_back n u ds)
  where
    rest : List HeldOp
    rest = filter (stays_by n u) ds

    at : (b c : Bool) → (d.place == n) ≡ b → nat_lt u d.number ≡ c → at_ n rest ≡ up_to u (at_ n ds) → at_ n (cond (not (b && c)) (d ∷ rest) rest) ≡ up_to u (cond b (d ∷ at_ n ds) (at_ n ds))
    at true true e f h = h ∙ sym (cond-false (nat_le d.number u) (d ∷ up_to u (at_ n ds)) (up_to u (at_ n ds)) (up_or_beyond u d.number ∙ ap not f))
    at true false e f h = cond-true (d.place == n) (d ∷ at_ n rest) (at_ n rest) e ∙ ap (λ l. d ∷ l) h ∙ sym (cond-true (nat_le d.number u) (d ∷ up_to u (at_ n ds)) (up_to u (at_ n ds)) (up_or_beyond u d.number ∙ ap not f))
    at false true e f h = cond-false (d.place == n) (d ∷ at_ n rest) (at_ n rest) e ∙ h
    at false false e f h = cond-false (d.place == n) (d ∷ at_ n rest) (at_ n rest) e ∙ h

-- and at another place all do
pub at_other : (n u j : ℕ) (ds : List HeldOp) → (n ≡ j → ⊥) → at_ j (filter (stays_by n u) ds) ≡ at_ j ds
at_other n u j [] other = refl
at_other n u j (d ∷ ds) other = at (d.place == n) (nat_lt u d.number) refl (at_other n u j ds other)
  where
    rest : List HeldOp
    rest = filter (stays_by n u) ds

    at : (b c : Bool) → (d.place == n) ≡ b → at_ j rest ≡ at_ j ds → at_ j (cond (not (b && c)) (d ∷ rest) rest) ≡ cond (d.place == j) (d ∷ at_ j ds) (at_ j ds)
    at true true e h = h ∙ sym (cond-false (d.place == j) (d ∷ at_ j ds) (at_ j ds) (false_from_ne_true (d.place == j) (λ t. other (sym (eqb-true d.place n e) ∙ eqb-true d.place j t))))
    at true false e h = ap (λ l. cond (d.place == j) (d ∷ l) l) h
    at false true e h = ap (λ l. cond (d.place == j) (d ∷ l) l) h
    at false false e h = ap (λ l. cond (d.place == j) (d ∷ l) l) h

-- ---- the maps before the places

pub rising_start : (m : KeyMap) (ds : List HeldOp) (n : ℕ) → IsRising m → IsRising (start m ds n)
rising_start m ds zero h = h
rising_start m ds (suc n) h = rising_ops (start m ds n) (at_ n ds) (rising_start m ds n h)

pub start_same : (m : KeyMap) (ds es : List HeldOp) (n : ℕ) → ((j : ℕ) → j < n → at_ j es ≡ at_ j ds) → start m es n ≡ start m ds n
start_same m ds es zero e = refl
start_same m ds es (suc n) e = ap (λ s. after_ops s (at_ n es)) (start_same m ds es n (λ j l. e j (omega arith))) ∙ ap (after_ops (start m ds n)) (e n (omega arith))

-- what holds of a place, by the trail of its acts
abbrev pub KeptBy : List PlacedAct → KeyMap → List HeldOp → Type 0
KeptBy qs s ds = Kept (last_after 0 (acts_of qs)) (backs_after [] (acts_of qs)) s (trail_after (acts_of qs) s []) ds

pub kept_after : (qs : List PlacedAct) (s : KeyMap) (ds : List HeldOp) → KeptBy qs s ds → acts_after (acts_of qs) s [] ≡ after_ops s ds
kept_after qs s ds k = after_trail (acts_of qs) s [] ∙ k.now

-- above a place where something changed, the maps before the places are alike, as the transactions there carry that on
pub above : (R : KeyMap → KeyMap → Type 0) (m : KeyMap) (ps : List PlacedAct) (ds es : List HeldOp) (n : ℕ)
    → ((j : ℕ) (s : KeyMap) → KeptBy (own j ps) s (at_ j ds)) → ((j : ℕ) → AllFit (start m ds j) [] (own j ps)) → ((j : ℕ) → (n ≡ j → ⊥) → at_ j es ≡ at_ j ds)
    → ((j : ℕ) → n < j → AllCarry R (own j ps)) → R (start m ds (suc n)) (start m es (suc n)) → (j : ℕ) → n < j → R (start m ds j) (start m es j)
above R m ps ds es n kept fits same carry r zero l = absurd (omega arith)
above R m ps ds es n kept fits same carry r (suc j) l =
    ⊎_elim
    (λ q. subst (λ i. R (start m ds (suc i)) (start m es (suc i))) q r)
    (λ q. let low : n < j = omega (arith, q, l) in next low (above R m ps ds es n kept fits same carry r j low))
    (cases_order n j)
  where
    next : n < j → R (start m ds j) (start m es j) → R (start m ds (suc j)) (start m es (suc j))
    next low h =
        let c = (carried R (own j ps) (start m ds j) (start m es j) [] [] h tt (carry j low) (fits j)).1 in
        subst (λ x. R (start m ds (suc j)) x) (ap (after_ops (start m es j)) (sym (same j (λ e. omega arith))))
        (subst (λ x. R x (after_ops (start m es j) (at_ j ds))) (kept_after (own j ps) (start m ds j) (at_ j ds) (kept j (start m ds j)))
        (subst (λ x. R (acts_after (acts_of (own j ps)) (start m ds j) []) x) (kept_after (own j ps) (start m es j) (at_ j ds) (kept j (start m es j))) c))
