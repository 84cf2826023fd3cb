-- A list of acts and one more act behind them.
use Rattle.std.proofs.Common.{◌≡◌, refl, sym, ap, subst, ◌∙◌, ℕ, ◌<◌, true, false, cond, Bool, not, ◌&&◌, ◌||◌, List, [], ◌∷◌, ◌++◌, ◌==◌, nat_lt, append_assoc}
use Rattle.std.specs.List.{AllByRecursion, filter, list_all}
use Rattle.std.proofs.lemmas.Bool.{both_ways, and_parts}
use Rattle.clv_base.specs.declared.ops.Op.{Op}
use Rattle.clv_base.specs.declared.ops.Answer.{Answer}
use Rattle.clv_base.specs.Maps.{KeyMap, Trail, Act, Operates, GoesBack, Acts, act_after, map_now}
use Rattle.clv_base.specs.Backs.{PlacedAct, held_after, held_of, map_of, AnswerFits, KeepsBase, done_of, met_by, mets, acts_clash, is_clear_of, keeps_order, backs_with, is_next, are_numbered, acts_at, answers_by, answers_at, AllActsBelow}
use Rattle.law_base.proofs.Lists.{append_nil}
use Rattle.serial_laws.proofs.ActsAreSerialRun.AnswersAreCarried.{acts_of, AllFit, trail_after}

-- ---- lists from their last element

along : {X : Type 0} (P : List X → Type 0) → ((xs : List X) (x : X) → P xs → P (xs ++ x ∷ [])) → (done xs : List X) → P done → P (done ++ xs)
along P step done [] p = subst P (sym (append_nil done)) p
along P step done (x ∷ xs) p = subst P (append_assoc done (x ∷ []) xs) (along P step (done ++ x ∷ []) xs (step done x p))

pub by_last : {X : Type 0} (P : List X → Type 0) → P [] → ((xs : List X) (x : X) → P xs → P (xs ++ x ∷ [])) → (xs : List X) → P xs
by_last P p step xs = along P step [] xs p

pub all_parts : {X : Type 0} (P : X → Type 0) (xs : List X) (x : X) → AllByRecursion P (xs ++ x ∷ []) → AllByRecursion P xs × P x
all_parts P [] x a = (tt, a.0)
all_parts P (y ∷ ys) x a = let p = all_parts P ys x a.1 in ((a.0, p.0), p.1)

-- ---- what holds, Base and Order

pub held_push : (so_far ps : List PlacedAct) (x : PlacedAct) → held_of so_far (ps ++ x ∷ []) ≡ held_after (held_of so_far ps) x
held_push so_far [] x = refl
held_push so_far (p ∷ ps) x = held_push (held_after so_far p) ps x

pub base_push : (m : KeyMap) (so_far ps : List PlacedAct) (x : PlacedAct) → KeepsBase m so_far (ps ++ x ∷ []) → KeepsBase m so_far ps × AnswerFits x (map_of m (held_of so_far ps)) x.act
base_push m so_far [] x b = (tt, b.0)
base_push m so_far (p ∷ ps) x b = let r = base_push m (held_after so_far p) ps x b.1 in ((b.0, r.0), r.1)

mets_push : (so_far ps : List PlacedAct) (x : PlacedAct) → mets so_far (ps ++ x ∷ []) ≡ mets so_far ps ++ (x.place, met_by (held_of so_far ps) x x.act) ∷ []
mets_push so_far [] x = refl
mets_push so_far (p ∷ ps) x = ap (λ l. (p.place, met_by so_far p p.act) ∷ l) (mets_push (held_after so_far p) ps x)

-- what an act is met by, with its place
abbrev Met : Type 0
Met = ℕ × List (Op × Answer)

abbrev pub IsClearOf : Met → Met → Type 0
IsClearOf a b = nat_lt b.0 a.0 ≡ true → acts_clash a.1 b.1 ≡ false

clear_parts : (a b : Bool) → (not a || not b) ≡ true → a ≡ true → b ≡ false
clear_parts true true e t = absurd (both_ways false refl e)
clear_parts true false e t = refl
clear_parts false b e t = absurd (both_ways false refl t)

one_clear : (a b : Met) (as_ : List Met) → is_clear_of a (as_ ++ b ∷ []) ≡ true → (is_clear_of a as_ ≡ true) × IsClearOf a b
one_clear a b [] e = (refl, clear_parts (nat_lt b.0 a.0) (acts_clash a.1 b.1) (and_parts (not (nat_lt b.0 a.0) || not (acts_clash a.1 b.1)) true e).0)
one_clear a b (c ∷ cs) e =
    let p = and_parts (not (nat_lt c.0 a.0) || not (acts_clash a.1 c.1)) (list_all (λ q. not (nat_lt q.0 a.0) || not (acts_clash a.1 q.1)) (cs ++ b ∷ [])) e in
    let r = one_clear a b cs p.1 in
    (and_from p.0 r.0, r.1)
  where
    and_from : {x y : Bool} → x ≡ true → y ≡ true → (x && y) ≡ true
    and_from {x = x} {y = y} p q = ap (λ z. z && y) p ∙ q

order_parts : (as_ : List Met) (b : Met) → keeps_order (as_ ++ b ∷ []) ≡ true → (keeps_order as_ ≡ true) × AllByRecursion (λ a. IsClearOf a b) as_
order_parts [] b e = (refl, tt)
order_parts (a ∷ as_) b e =
    let p = and_parts (is_clear_of a (as_ ++ b ∷ [])) (keeps_order (as_ ++ b ∷ [])) e in
    let c = one_clear a b as_ p.0 in
    let r = order_parts as_ b p.1 in
    (ap (λ z. z && keeps_order as_) c.0 ∙ r.0, (c.1, r.1))

-- of the operations among the acts
abbrev pub IsClearFor : Met → PlacedAct → Type 0
IsClearFor b q = nat_lt b.0 q.place ≡ true → acts_clash (done_of q.act q.answer) b.1 ≡ false

clear_acts : (b : Met) (so_far ps : List PlacedAct) → AllByRecursion (λ a. IsClearOf a b) (mets so_far ps) → AllByRecursion (IsClearFor b) ps
clear_acts b so_far [] a = tt
clear_acts b so_far (p ∷ ps) a = (at p.act refl a.0, clear_acts b (held_after so_far p) ps a.1)
  where
    at : (c : Act) → p.act ≡ c → IsClearOf (p.place, met_by so_far p c) b → nat_lt b.0 p.place ≡ true → acts_clash (done_of p.act p.answer) b.1 ≡ false
    at (Operates o) e k l = k l
    at (GoesBack u) e k l = ap (λ d. acts_clash (done_of d p.answer) b.1) e

pub order_push : (ps : List PlacedAct) (x : PlacedAct) → keeps_order (mets [] (ps ++ x ∷ [])) ≡ true
    → (keeps_order (mets [] ps) ≡ true) × AllByRecursion (IsClearFor (x.place, met_by (held_of [] ps) x x.act)) ps
order_push ps x o =
    let b : Met = (x.place, met_by (held_of [] ps) x x.act) in
    let r = order_parts (mets [] ps) b (subst (λ as_. keeps_order as_ ≡ true) (mets_push [] ps x) o) in
    (r.0, clear_acts b [] ps r.1)

pub below_push : (k : ℕ) (ps : List PlacedAct) (x : PlacedAct) → AllActsBelow k (ps ++ x ∷ []) → AllActsBelow k ps × (x.place < k)
below_push k [] x b = (tt, b.0)
below_push k (p ∷ ps) x b = let r = below_push k ps x b.1 in ((b.0, r.0), r.1)

-- ---- the acts of one place

abbrev pub own : ℕ → List PlacedAct → List PlacedAct
own n ps = filter (λ p. p.place == n) ps

pub acts_at_own : (n : ℕ) (ps : List PlacedAct) → acts_at n ps ≡ acts_of (own n ps)
acts_at_own n [] = refl
acts_at_own n (p ∷ ps) = at (p.place == n) (acts_at_own n ps)
  where
    at : (b : Bool) → acts_at n ps ≡ acts_of (own n ps) → cond b ((p.number, p.act) ∷ acts_at n ps) (acts_at n ps) ≡ acts_of (cond b (p ∷ own n ps) (own n ps))
    at true e = ap (λ l. (p.number, p.act) ∷ l) e
    at false e = e

abbrev pub answers_of_own : List PlacedAct → List Answer
answers_of_own [] = []
answers_of_own (q ∷ qs) = answers_by q.answer ++ answers_of_own qs

pub answers_at_own : (n : ℕ) (ps : List PlacedAct) → answers_at n ps ≡ answers_of_own (own n ps)
answers_at_own n [] = refl
answers_at_own n (p ∷ ps) = at (p.place == n) (answers_at_own n ps)
  where
    at : (b : Bool) → answers_at n ps ≡ answers_of_own (own n ps) → cond b (answers_by p.answer ++ answers_at n ps) (answers_at n ps) ≡ answers_of_own (cond b (p ∷ own n ps) (own n ps))
    at true e = ap (λ l. answers_by p.answer ++ l) e
    at false e = e

pub acts_push : (qs : List PlacedAct) (x : PlacedAct) → acts_of (qs ++ x ∷ []) ≡ acts_of qs ++ (x.number, x.act) ∷ []
acts_push [] x = refl
acts_push (q ∷ qs) x = ap (λ l. (q.number, q.act) ∷ l) (acts_push qs x)

pub trail_push : (qs : List PlacedAct) (x : PlacedAct) (m : KeyMap) (trail : Trail)
    → trail_after (acts_of (qs ++ x ∷ [])) m trail ≡ (x.number, act_after x.act m (trail_after (acts_of qs) m trail)) ∷ trail_after (acts_of qs) m trail
trail_push [] x m trail = refl
trail_push (q ∷ qs) x m trail = trail_push qs x m ((q.number, act_after q.act m trail) ∷ trail)

pub fits_push : (qs : List PlacedAct) (x : PlacedAct) (m : KeyMap) (trail : Trail) → AllFit m trail qs → AnswerFits x (map_now m (trail_after (acts_of qs) m trail)) x.act → AllFit m trail (qs ++ x ∷ [])
fits_push [] x m trail f g = (g, tt)
fits_push (q ∷ qs) x m trail f g = (f.0, fits_push qs x m ((q.number, act_after q.act m trail) ∷ trail) f.1 g)

-- ---- numbers

-- the number of the last act, and the goings back so far
abbrev pub last_after : ℕ → Acts → ℕ
last_after last [] = last
last_after last (a ∷ as_) = last_after a.0 as_

abbrev pub backs_after : List (ℕ × ℕ) → Acts → List (ℕ × ℕ)
backs_after backs [] = backs
backs_after backs (a ∷ as_) = backs_after (backs_with a.0 a.1 backs) as_

pub last_push : (last : ℕ) (as_ : Acts) (a : ℕ × Act) → last_after last (as_ ++ a ∷ []) ≡ a.0
last_push last [] a = refl
last_push last (b ∷ bs) a = last_push b.0 bs a

pub backs_push : (backs : List (ℕ × ℕ)) (as_ : Acts) (a : ℕ × Act) → backs_after backs (as_ ++ a ∷ []) ≡ backs_with a.0 a.1 (backs_after backs as_)
backs_push backs [] a = refl
backs_push backs (b ∷ bs) a = backs_push (backs_with b.0 b.1 backs) bs a

pub numbers_push : (last : ℕ) (backs : List (ℕ × ℕ)) (as_ : Acts) (a : ℕ × Act) → are_numbered last backs (as_ ++ a ∷ []) ≡ true
    → (are_numbered last backs as_ ≡ true) × (is_next (last_after last as_) a.0 a.1 (backs_after backs as_) ≡ true)
numbers_push last backs [] a e = (refl, (and_parts (is_next last a.0 a.1 backs) true e).0)
numbers_push last backs (b ∷ bs) a e =
    let p = and_parts (is_next last b.0 b.1 backs) (are_numbered b.0 (backs_with b.0 b.1 backs) (bs ++ a ∷ [])) e in
    let r = numbers_push b.0 (backs_with b.0 b.1 backs) bs a p.1 in
    (ap (λ z. z && are_numbered b.0 (backs_with b.0 b.1 backs) bs) p.0 ∙ r.0, r.1)
