-- The maps of a transaction's trail are those after the operations that hold.
use Rattle.std.proofs.Common.{◌≡◌, refl, sym, ap, ◌∙◌, ℕ, ◌<◌, ◌≤◌, true, false, cond, Bool, ◌&&◌, ◌||◌, List, [], ◌∷◌, ◌++◌, nat_lt, nat_le, arith, le_trans}
use Rattle.std.specs.List.{AllByRecursion, filter, list_all}
use Rattle.std.proofs.lemmas.Bool.{both_ways, leb-true, leb-false, le-leb, lt-leb, lt-ltb, le-ltb, cond-true, cond-false}
use Rattle.clv_base.specs.Maps.{KeyMap, Trail, op_after, map_now, map_up_to}
use Rattle.law_base.specs.Items.{AllLater}
use Rattle.law_base.proofs.Lists.{all_mono, all_push, all_kept}
use Rattle.serial_laws.proofs.Held.OperationsAtPlaces.{HeldOp, after_ops, after_append}

-- ---- operations up to a number, and beyond it

abbrev pub up_to : ℕ → List HeldOp → List HeldOp
up_to u ds = filter (λ d. nat_le d.number u) ds

abbrev pub beyond : ℕ → List HeldOp → List HeldOp
beyond u ds = filter (λ d. nat_lt u d.number) ds

abbrev pub AreLow : ℕ → List HeldOp → Type 0
AreLow last ds = AllByRecursion (λ d. d.number ≤ last) ds

pub filter_push : {X : Type 0} (p : X → Bool) (xs : List X) (x : X) (b : Bool) → p x ≡ b → filter p (xs ++ x ∷ []) ≡ cond b (filter p xs ++ x ∷ []) (filter p xs)
filter_push p [] x true e = cond-true (p x) (x ∷ []) [] e
filter_push p [] x false e = cond-false (p x) (x ∷ []) [] e
filter_push p (y ∷ ys) x true e = at (p y) (filter_push p ys x true e)
  where
    at : (c : Bool) → filter p (ys ++ x ∷ []) ≡ filter p ys ++ x ∷ [] → cond c (y ∷ filter p (ys ++ x ∷ [])) (filter p (ys ++ x ∷ [])) ≡ cond c (y ∷ filter p ys) (filter p ys) ++ x ∷ []
    at true ih = ap (λ l. y ∷ l) ih
    at false ih = ih
filter_push p (y ∷ ys) x false e = ap (λ l. cond (p y) (y ∷ l) l) (filter_push p ys x false e)

up_all : (u last : ℕ) (ds : List HeldOp) → AreLow last ds → last ≤ u → up_to u ds ≡ ds
up_all u last [] a l = refl
up_all u last (d ∷ ds) a l = cond-true (nat_le d.number u) _ _ (le-leb d.number u (le_trans a.0 l)) ∙ ap (λ xs. d ∷ xs) (up_all u last ds a.1 l)

up_up : (u v : ℕ) (ds : List HeldOp) → u ≤ v → up_to u (up_to v ds) ≡ up_to u ds
up_up u v [] l = refl
up_up u v (d ∷ ds) l = at (nat_le d.number v) (nat_le d.number u) refl refl (up_up u v ds l)
  where
    at : (b c : Bool) → nat_le d.number v ≡ b → nat_le d.number u ≡ c → up_to u (up_to v ds) ≡ up_to u ds → up_to u (cond b (d ∷ up_to v ds) (up_to v ds)) ≡ cond c (d ∷ up_to u ds) (up_to u ds)
    at true true e f ih = cond-true (nat_le d.number u) _ _ f ∙ ap (λ xs. d ∷ xs) ih
    at true false e f ih = cond-false (nat_le d.number u) _ _ f ∙ ih
    at false true e f ih = absurd (both_ways (nat_le d.number v) e (le-leb d.number v (le_trans (leb-true d.number u f) l)))
    at false false e f ih = ih

-- the later ones are beyond where one is
abbrev pub AreSorted : List HeldOp → Type 0
AreSorted ds = AllLater (λ x y. x.number ≤ y.number) ds

all_beyond : (u : ℕ) (ds : List HeldOp) → AllByRecursion (λ d. u < d.number) ds → (up_to u ds ≡ []) × (beyond u ds ≡ ds)
all_beyond u [] a = (refl, refl)
all_beyond u (d ∷ ds) a =
    let p = all_beyond u ds a.1 in
    (cond-false (nat_le d.number u) _ _ (lt-leb d.number u a.0) ∙ p.0, cond-true (nat_lt u d.number) _ _ (lt-ltb u d.number a.0) ∙ ap (λ xs. d ∷ xs) p.1)

pub split_at : (u : ℕ) (ds : List HeldOp) → AreSorted ds → up_to u ds ++ beyond u ds ≡ ds
split_at u [] s = refl
split_at u (d ∷ ds) s = at (nat_le d.number u) refl (split_at u ds s.1)
  where
    at : (b : Bool) → nat_le d.number u ≡ b → up_to u ds ++ beyond u ds ≡ ds → cond b (d ∷ up_to u ds) (up_to u ds) ++ cond (nat_lt u d.number) (d ∷ beyond u ds) (beyond u ds) ≡ d ∷ ds
    at true e ih = ap (λ l. d ∷ up_to u ds ++ l) (cond-false (nat_lt u d.number) _ _ (le-ltb u d.number (leb-true d.number u e))) ∙ ap (λ l. d ∷ l) ih
    at false e ih =
        let low : u < d.number = leb-false d.number u e in
        let p = all_beyond u ds (all_mono (λ y. d.number ≤ y.number) (λ y. u < y.number) (λ y h. omega (arith, h, low)) ds s.0) in
        ap (λ l. l ++ cond (nat_lt u d.number) (d ∷ beyond u ds) (beyond u ds)) p.0 ∙ cond-true (nat_lt u d.number) _ _ (lt-ltb u d.number low) ∙ ap (λ l. d ∷ l) p.1

-- ---- a trail and the operations that hold

-- no going back so far went over this number
abbrev pub stands : ℕ → List (ℕ × ℕ) → Bool
stands u backs = list_all (λ b. nat_le u b.1 || nat_le b.0 u) backs

pub record Kept (last : ℕ) (backs : List (ℕ × ℕ)) (m : KeyMap) (trail : Trail) (ds : List HeldOp) : Type 0 where
  pub low : AreLow last ds
  pub now : map_now m trail ≡ after_ops m ds
  pub back_to : (u : ℕ) → stands u backs ≡ true → map_up_to u m trail ≡ after_ops m (up_to u ds)

pub kept_none : (m : KeyMap) → Kept 0 [] m [] []
kept_none m = record { low = tt; now = refl; back_to = λ u s. refl }

pub kept_op : (last : ℕ) (backs : List (ℕ × ℕ)) (m : KeyMap) (trail : Trail) (ds : List HeldOp) (d : HeldOp) → Kept last backs m trail ds → last ≤ d.number
    → Kept d.number backs m ((d.number, op_after d.op (map_now m trail)) ∷ trail) (ds ++ d ∷ [])
kept_op last backs m trail ds d k l =
    record {
      low = low;
      now = new;
      back_to = λ u s. at u (nat_le d.number u) refl s;
    }
  where
    low : AreLow d.number (ds ++ d ∷ [])
    low = all_push (λ x. x.number ≤ d.number) ds d (all_mono (λ x. x.number ≤ last) (λ x. x.number ≤ d.number) (λ x h. le_trans h l) ds k.low) (omega arith)

    new : op_after d.op (map_now m trail) ≡ after_ops m (ds ++ d ∷ [])
    new = ap (op_after d.op) k.now ∙ sym (after_append m ds (d ∷ []))

    at : (u : ℕ) (b : Bool) → nat_le d.number u ≡ b → stands u backs ≡ true → cond b (op_after d.op (map_now m trail)) (map_up_to u m trail) ≡ after_ops m (up_to u (ds ++ d ∷ []))
    at u true e s = new ∙ ap (after_ops m) (sym (up_all u d.number (ds ++ d ∷ []) low (leb-true d.number u e)))
    at u false e s = k.back_to u s ∙ ap (after_ops m) (sym (filter_push (λ x. nat_le x.number u) ds d false e))

-- what stands behind a going back stood before it, and is behind its number or not behind where it goes
abbrev pub GoneBack : ℕ → ℕ → List (ℕ × ℕ) → List (ℕ × ℕ) → Type 0
GoneBack nth v backs later = (u : ℕ) → stands u later ≡ true → (stands u backs ≡ true) × (nat_le nth u ≡ false → u ≤ v)

pub kept_back : (last : ℕ) (backs later : List (ℕ × ℕ)) (m : KeyMap) (trail : Trail) (ds : List HeldOp) (nth v : ℕ) → Kept last backs m trail ds → last ≤ nth → stands v backs ≡ true → GoneBack nth v backs later
    → Kept nth later m ((nth, map_up_to v m trail) ∷ trail) (up_to v ds)
kept_back last backs later m trail ds nth v k l s g =
    record {
      low = low;
      now = k.back_to v s;
      back_to = λ u t. at u (nat_le nth u) refl (g u t);
    }
  where
    low : AreLow nth (up_to v ds)
    low = all_kept (λ x. x.number ≤ nth) (λ x. nat_le x.number v) ds (all_mono (λ x. x.number ≤ last) (λ x. x.number ≤ nth) (λ x h. le_trans h l) ds k.low)

    at : (u : ℕ) (b : Bool) → nat_le nth u ≡ b → (stands u backs ≡ true) × (nat_le nth u ≡ false → u ≤ v) → cond b (map_up_to v m trail) (map_up_to u m trail) ≡ after_ops m (up_to u (up_to v ds))
    at u true e p = k.back_to v s ∙ ap (after_ops m) (sym (up_all u nth (up_to v ds) low (leb-true nth u e)))
    at u false e p = k.back_to u p.0 ∙ ap (after_ops m) (sym (up_up u v ds (p.1 e)))

-- a going back elsewhere
pub kept_later : (last nth : ℕ) (backs later : List (ℕ × ℕ)) (m : KeyMap) (trail : Trail) (ds : List HeldOp) → Kept last backs m trail ds → last ≤ nth → ((u : ℕ) → stands u later ≡ true → stands u backs ≡ true)
    → Kept nth later m trail ds
kept_later last nth backs later m trail ds k l g =
    record {
      low = all_mono (λ x. x.number ≤ last) (λ x. x.number ≤ nth) (λ x h. le_trans h l) ds k.low;
      now = k.now;
      back_to = λ u t. k.back_to u (g u t);
    }

-- one more going back
pub gone_back : (nth v : ℕ) (backs : List (ℕ × ℕ)) → GoneBack nth v backs ((nth, v) ∷ backs)
gone_back nth v backs u s = at (nat_le u v) (nat_le nth u) refl refl s
  where
    at : (b c : Bool) → nat_le u v ≡ b → nat_le nth u ≡ c → ((b || c) && stands u backs) ≡ true → (stands u backs ≡ true) × (nat_le nth u ≡ false → u ≤ v)
    at true c e f s = (s, λ h. leb-true u v e)
    at false true e f s = (s, λ h. absurd (both_ways (nat_le nth u) h f))
    at false false e f s = absurd (both_ways false refl s)
