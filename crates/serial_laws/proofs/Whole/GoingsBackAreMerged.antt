-- Goings back under one number are one act, and no others.
use Rattle.std.proofs.Common.{◌≡◌, refl, sym, ap, ◌∙◌, ℕ, ◌<◌, ◌≤◌, Bool, true, false, cond, ◌&&◌, List, [], ◌∷◌, Some, None, ◌==◌, nat_lt, nat_le, eqb-true, eq-eqb, arith, ⊎_elim}
use Rattle.std.proofs.lemmas.Bool.{both_ways, false_from_ne_true, and_parts, or_cases, ltb-true, leb-true, cond-true, cond-false}
use Rattle.clv_base.specs.declared.ops.Op.{Op}
use Rattle.clv_base.specs.declared.ops.Answer.{Answer}
use Rattle.clv_base.specs.Maps.{Operates, GoesBack}
use Rattle.clv_base.specs.Backs.{stands_for_back}
use Rattle.clv_base.specs.Sessions.{is_back_whole, goes_on_back}
use Rattle.clv_base.specs.History.{DoneAct, goes_back_as, is_with_next, put_act}
use Rattle.serial_laws.specs.Shares.{ShardAct, OnShard, BackOn, whole, Progress, continues, may_follow, followed, goes_whole_from}

-- the first act isn't a going back under another number
two_numbers : (c n : ℕ) (d : DoneAct) → goes_back_as n d ≡ true → (c ≡ n → ⊥) → goes_back_as c d ≡ false
two_numbers c n (i, Operates o, a) e other = refl
two_numbers c n (i, GoesBack u, a) e other = false_from_ne_true (c == i) (λ t. other (eqb-true c i t ∙ sym (eqb-true n i e)))

pub with_one_number : (p q : DoneAct) (ws : List DoneAct) → is_with_next q ws ≡ true → (p.0 ≡ q.0 → ⊥) → is_with_next p ws ≡ false
with_one_number p q [] e other = absurd (both_ways false refl e)
with_one_number p q (w ∷ ws) e other = two_numbers p.0 q.0 w e other

-- an act before a going back under another number stays
pub before_back : (p : DoneAct) (k u : ℕ) (ws : List DoneAct) → (p.0 ≡ k → ⊥) → is_with_next p (put_act (k, GoesBack u, None) ws) ≡ false
before_back p k u ws other = at (is_with_next (k, GoesBack u, None) ws) refl
  where
    at : (b : Bool) → is_with_next (k, GoesBack u, None) ws ≡ b → is_with_next p (cond b ws ((k, GoesBack u, None) ∷ ws)) ≡ false
    at true e = with_one_number p (k, GoesBack u, None) ws e other
    at false e = false_from_ne_true (p.0 == k) (λ t. other (eqb-true p.0 k t))

-- a going back twice under one number is one
pub twice : (k u : ℕ) (ws : List DoneAct) → put_act (k, GoesBack u, None) (put_act (k, GoesBack u, None) ws) ≡ put_act (k, GoesBack u, None) ws
twice k u ws = at (is_with_next (k, GoesBack u, None) ws) refl
  where
    q : DoneAct
    q = (k, GoesBack u, None)

    at : (b : Bool) → is_with_next (k, GoesBack u, None) ws ≡ b → put_act (k, GoesBack u, None) (cond b ws ((k, GoesBack u, None) ∷ ws)) ≡ cond b ws ((k, GoesBack u, None) ∷ ws)
    at true e = cond-true (is_with_next (k, GoesBack u, None) ws) ws ((k, GoesBack u, None) ∷ ws) e
    at false e = cond-true (k == k) ((k, GoesBack u, None) ∷ ws) ((k, GoesBack u, None) ∷ (k, GoesBack u, None) ∷ ws) (eq-eqb k k refl)

-- ---- acts that go whole

pub first_follows : (p : Progress) (x : ShardAct) (xs : List ShardAct) → goes_whole_from p (x ∷ xs) ≡ true → (may_follow p x ≡ true) × (goes_whole_from (followed p x) xs ≡ true)
first_follows p x xs e = and_parts (may_follow p x) (goes_whole_from (followed p x) xs) e

pub record NewBack (p : Progress) (k u : ℕ) : Type 0 where
  pub is_whole : is_back_whole p.back p.written ≡ true
  pub later : p.nth < k
  pub stood : stands_for_back k u p.backs ≡ true

-- a going back that doesn't continue the last one is new
pub new_back : (p : Progress) (s k u : ℕ) → may_follow p (BackOn s k u) ≡ true → continues p s k u ≡ false → NewBack p k u
new_back p s k u e no_more =
    let f : (is_back_whole p.back p.written && nat_lt p.nth k && stands_for_back k u p.backs) ≡ true = ⊎_elim (λ c. absurd (both_ways (continues p s k u) no_more c)) (λ h. h) (or_cases (continues p s k u) _ e) in
    let a = and_parts (is_back_whole p.back p.written && nat_lt p.nth k) (stands_for_back k u p.backs) f in
    let b = and_parts (is_back_whole p.back p.written) (nat_lt p.nth k) a.0 in
    record { is_whole = b.0; later = ltb-true p.nth k b.1; stood = a.1 }

pub record NextOp (p : Progress) (k : ℕ) : Type 0 where
  pub is_whole : is_back_whole p.back p.written ≡ true
  pub later : p.nth ≤ k

pub next_op : (p : Progress) (s k : ℕ) (o : Op) (a : Answer) → may_follow p (OnShard s k o a) ≡ true → NextOp p k
next_op p s k o a e = let b = and_parts (is_back_whole p.back p.written) (nat_le p.nth k) e in record { is_whole = b.0; later = leb-true p.nth k b.1 }

-- behind an operation no going back has its number or a lower one
pub number_is_over : (p : Progress) (xs : List ShardAct) (d : DoneAct) → goes_whole_from p xs ≡ true → p.back ≡ None → d.0 ≤ p.nth → is_with_next d (whole xs) ≡ false
number_is_over p [] d e none l = refl
number_is_over p (OnShard s k o a ∷ xs) d e none l =
    let f = first_follows p (OnShard s k o a) xs e in
    let w : is_with_next (k, Operates o, Some a) (whole xs) ≡ false = number_is_over (followed p (OnShard s k o a)) xs (k, Operates o, Some a) f.1 refl (omega arith) in
    ap (is_with_next d) (cond-false (is_with_next (k, Operates o, Some a) (whole xs)) (whole xs) ((k, Operates o, Some a) ∷ whole xs) w)
number_is_over p (BackOn s k u ∷ xs) d e none l =
    let f = first_follows p (BackOn s k u) xs e in
    let no_more : continues p s k u ≡ false = ap (λ b. (k == p.nth) && goes_on_back b s u) none ∙ and_false (k == p.nth) in
    let n = (new_back p s k u f.0 no_more).later in
    before_back d k u (whole xs) (λ q. omega arith)
  where
    and_false : (b : Bool) → (b && false) ≡ false
    and_false true = refl
    and_false false = refl

-- so an operation stays where it is
pub op_stays : (p : Progress) (s k : ℕ) (o : Op) (a : Answer) (xs : List ShardAct) → goes_whole_from p (OnShard s k o a ∷ xs) ≡ true → whole (OnShard s k o a ∷ xs) ≡ (k, Operates o, Some a) ∷ whole xs
op_stays p s k o a xs e =
    cond-false (is_with_next (k, Operates o, Some a) (whole xs)) (whole xs) ((k, Operates o, Some a) ∷ whole xs)
    (number_is_over (followed p (OnShard s k o a)) xs (k, Operates o, Some a) (first_follows p (OnShard s k o a) xs e).1 refl (omega arith))
