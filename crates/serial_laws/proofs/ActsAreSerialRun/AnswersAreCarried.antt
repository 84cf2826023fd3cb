-- A transaction's acts over two maps of which one comes of the other by operations with which it doesn't clash: the same answers.
use Rattle.std.proofs.Common.{◌≡◌, refl, ap, subst, ◌∙◌, ℕ, true, false, cond, Bool, List, [], ◌∷◌, map, Some, nat_le}
use Rattle.std.specs.List.{AllByRecursion, list_any}
use Rattle.std.proofs.lemmas.Bool.{or_parts}
use Rattle.clv_base.specs.Maps.{KeyMap, Trail, Act, Operates, GoesBack, Acts, op_answer, op_after, map_now, map_up_to, act_after, acts_after}
use Rattle.clv_base.specs.Backs.{PlacedAct, AnswerFits, done_of, ops_clash, acts_clash}
use Rattle.serial_laws.proofs.Held.OperationsAtPlaces.{HeldOp, pair}
use Rattle.serial_laws.proofs.Held.OperationsPassOthers.{Between, MeetsNone, Passed, passes_on, passes_back}

-- ---- a transaction's acts

abbrev pub acts_of : List PlacedAct → Acts
acts_of qs = map (λ q. (q.number, q.act)) qs

-- each answer is that of the map that it finds
abbrev pub AllFit : KeyMap → Trail → List PlacedAct → Type 0
AllFit m trail [] = Unit {0}
AllFit m trail (q ∷ qs) = AnswerFits q (map_now m trail) q.act × AllFit m ((q.number, act_after q.act m trail) ∷ trail) qs

-- the trail after some acts
abbrev pub trail_after : Acts → KeyMap → Trail → Trail
trail_after [] m trail = trail
trail_after (a ∷ as_) m trail = trail_after as_ m ((a.0, act_after a.1 m trail) ∷ trail)

pub after_trail : (as_ : Acts) (m : KeyMap) (trail : Trail) → acts_after as_ m trail ≡ map_now m (trail_after as_ m trail)
after_trail [] m trail = refl
after_trail (a ∷ as_) m trail = after_trail as_ m ((a.0, act_after a.1 m trail) ∷ trail)

-- ---- two maps, and two trails

abbrev pub Alike : (KeyMap → KeyMap → Type 0) → Trail → Trail → Type 0
Alike R [] [] = Unit {0}
Alike R (p ∷ ps) (q ∷ qs) = (p.0 ≡ q.0) × R p.1 q.1 × Alike R ps qs
Alike R [] (q ∷ qs) = ⊥
Alike R (p ∷ ps) [] = ⊥

alike_now : (R : KeyMap → KeyMap → Type 0) (m n : KeyMap) (s t : Trail) → R m n → Alike R s t → R (map_now m s) (map_now n t)
alike_now R m n [] [] r a = r
alike_now R m n (p ∷ ps) (q ∷ qs) r a = a.1
alike_now R m n [] (q ∷ qs) r a = absurd a
alike_now R m n (p ∷ ps) [] r a = absurd a

alike_up_to : (R : KeyMap → KeyMap → Type 0) (u : ℕ) (m n : KeyMap) (s t : Trail) → R m n → Alike R s t → R (map_up_to u m s) (map_up_to u n t)
alike_up_to R u m n [] [] r a = r
alike_up_to R u m n (p ∷ ps) (q ∷ qs) r a = at (nat_le p.0 u) (nat_le q.0 u) (ap (λ k. nat_le k u) a.0) (alike_up_to R u m n ps qs r a.2)
  where
    at : (b c : Bool) → b ≡ c → R (map_up_to u m ps) (map_up_to u n qs) → R (cond b p.1 (map_up_to u m ps)) (cond c q.1 (map_up_to u n qs))
    at true true e h = a.1
    at false false e h = h
    at true false e h = absurd cc
    at false true e h = absurd cc
alike_up_to R u m n [] (q ∷ qs) r a = absurd a
alike_up_to R u m n (p ∷ ps) [] r a = absurd a

-- an operation is answered so over both, and what it makes of them is alike
abbrev pub CarriesBy : (KeyMap → KeyMap → Type 0) → PlacedAct → Act → Type 0
CarriesBy R q (Operates o) = (m n : KeyMap) → R m n → q.answer ≡ Some (op_answer o m) → (q.answer ≡ Some (op_answer o n)) × R (op_after o m) (op_after o n)
CarriesBy R q (GoesBack u) = Unit {0}

abbrev pub AllCarry : (KeyMap → KeyMap → Type 0) → List PlacedAct → Type 0
AllCarry R qs = AllByRecursion (λ q. CarriesBy R q q.act) qs

one_carried : (R : KeyMap → KeyMap → Type 0) (q : PlacedAct) (a : Act) (m n : KeyMap) (s t : Trail) → R m n → Alike R s t → CarriesBy R q a → AnswerFits q (map_now m s) a
    → AnswerFits q (map_now n t) a × R (act_after a m s) (act_after a n t)
one_carried R q (Operates o) m n s t r a c f = c (map_now m s) (map_now n t) (alike_now R m n s t r a) f
one_carried R q (GoesBack u) m n s t r a c f = (f, alike_up_to R u m n s t r a)

pub carried : (R : KeyMap → KeyMap → Type 0) (qs : List PlacedAct) (m n : KeyMap) (s t : Trail) → R m n → Alike R s t → AllCarry R qs → AllFit m s qs
    → AllFit n t qs × R (acts_after (acts_of qs) m s) (acts_after (acts_of qs) n t)
carried R [] m n s t r a c f = (tt, alike_now R m n s t r a)
carried R (q ∷ qs) m n s t r a c f =
    let p = one_carried R q q.act m n s t r a c.0 f.0 in
    let rest = carried R qs m n ((q.number, act_after q.act m s) ∷ s) ((q.number, act_after q.act n t) ∷ t) r (refl, p.1, a) c.1 f.1 in
    ((p.0, rest.0), rest.1)

-- ---- by operations with which it doesn't clash

pub meets_none : (x : HeldOp) (rs : List HeldOp) → acts_clash (pair x ∷ []) (map pair rs) ≡ false → MeetsNone x rs
meets_none x rs c = each rs (or_parts (list_any (ops_clash (pair x)) (map pair rs)) false c).0
  where
    each : (ys : List HeldOp) → list_any (ops_clash (pair x)) (map pair ys) ≡ false → MeetsNone x ys
    each [] e = tt
    each (y ∷ ys) e = let p = or_parts (ops_clash (pair x) (pair y)) (list_any (ops_clash (pair x)) (map pair ys)) e in (p.0, each ys p.1)

pub carries_on : (q : PlacedAct) (a : Act) (rs : List HeldOp) → acts_clash (done_of a q.answer) (map pair rs) ≡ false → CarriesBy (Between rs) q a
carries_on q (GoesBack u) rs c = tt
carries_on q (Operates o) rs c = λ m n b f.
    let x : HeldOp = record { place = q.place; number = q.number; op = o; answer = op_answer o m } in
    let none : MeetsNone x rs = meets_none x rs (subst (λ w. acts_clash (done_of (Operates o) w) (map pair rs) ≡ false) f c) in
    let p : Passed x rs m n = passes_on x rs m n b none refl in
    (f ∙ ap Some p.behind, p.between)

pub carries_back : (q : PlacedAct) (a : Act) (rs : List HeldOp) → acts_clash (done_of a q.answer) (map pair rs) ≡ false → CarriesBy (λ m n. Between rs n m) q a
carries_back q (GoesBack u) rs c = tt
carries_back q (Operates o) rs c = λ m n b f.
    let x : HeldOp = record { place = q.place; number = q.number; op = o; answer = op_answer o m } in
    let none : MeetsNone x rs = meets_none x rs (subst (λ w. acts_clash (done_of (Operates o) w) (map pair rs) ≡ false) f c) in
    let p : Passed x rs n m = passes_back x rs n m b none refl in
    (f ∙ ap Some p.before, p.between)
