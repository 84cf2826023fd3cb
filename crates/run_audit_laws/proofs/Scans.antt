-- What is told of a transaction whose acts are whole: the parts of its scans are whole.
use Rattle.std.proofs.Common.{◌≡◌, inl, inr, refl, sym, ap, subst, ◌∙◌, ℕ, suc, Bool, true, false, cond, ◌==◌, List, [], ◌∷◌, Option, Some, arith}
use Rattle.std.proofs.lemmas.Bool.{eqb-true, ne_eqb}
use Rattle.clv_base.specs.declared.ops.Op.{Op}
use Rattle.clv_base.specs.declared.ops.Op.TheVariants.{Scan}
use Rattle.clv_base.specs.declared.ops.Answer.{Answer}
use Rattle.clv_base.specs.Maps.{Operates, GoesBack}
use Rattle.clv_base.specs.History.{DoneAct, goes_back_as, is_with_next, put_act}
use Rattle.session_books.specs.Done.{Done, Did, WentBack}
use Rattle.session_books.specs.declared.told.Told.{Told}
use Rattle.script_runs.specs.Acts.{numbered}
use Rattle.audit_laws.specs.Reports.{GoesOnBy, ScansAreWhole}
use Rattle.audit_laws.proofs.NumbersHaveNoGap.{scans, backs, NextBy, AreNumbered}
use Rattle.audit_laws.proofs.JoinedRuns.{done_act, did_all}
use Rattle.run_audit_laws.proofs.Parts.{ActsAreWhole}

-- ---- the first act

-- whether it is a going back of this number
abbrev goes_first : ℕ → List DoneAct → Bool
goes_first m [] = false
goes_first m (q ∷ qs) = goes_back_as m q

with_next : (p : DoneAct) (ps : List DoneAct) → is_with_next p ps ≡ goes_first p.0 ps
with_next p [] = refl
with_next p (q ∷ qs) = refl

other_back : (m w : ℕ) (q : DoneAct) → (m == w) ≡ false → goes_back_as w q ≡ true → goes_back_as m q ≡ false
other_back m w (n, Operates o, a) e f = refl
other_back m w (n, GoesBack u, a) e f = subst (λ (k : ℕ). (m == k) ≡ false) (eqb-true w n f) e

other_first : (m w : ℕ) (ds : List DoneAct) → (m == w) ≡ false → goes_first w ds ≡ true → goes_first m ds ≡ false
other_first m w [] e f = refl
other_first m w (q ∷ qs) e f = other_back m w q e f

own_first : (m w : ℕ) (d : Done) (ds : List DoneAct) → (m == w) ≡ false → goes_first m (done_act w d ∷ ds) ≡ false
own_first m w (Did op a) ds e = refl
own_first m w (WentBack u) ds e = e

number_is : (w : ℕ) (d : Done) → (done_act w d).0 ≡ w
number_is w (Did op a) = refl
number_is w (WentBack u) = refl

first_of : (m w : ℕ) (d : Done) (ds : List DoneAct) → (m == w) ≡ false → goes_first m (put_act (done_act w d) ds) ≡ false
first_of m w d ds e = at (is_with_next (done_act w d) ds) refl
  where
    at : (b : Bool) → is_with_next (done_act w d) ds ≡ b → goes_first m (cond b ds (done_act w d ∷ ds)) ≡ false
    at true f = other_first m w ds e (subst (λ (k : ℕ). goes_first k ds ≡ true) (number_is w d) (sym (with_next (done_act w d) ds) ∙ f))
    at false f = own_first m w d ds e

unequal : (n m : ℕ) → m ≡ suc n → (n == m) ≡ false
unequal n m e = ne_eqb n m (λ f. omega (arith, e, f))

-- ---- an operation is an act of its own

did_first : (m w : ℕ) (d : Done) (op : Op) (a : Answer) (ds : List DoneAct) → d ≡ Did op a → is_with_next (done_act w d) ds ≡ false → goes_first m (put_act (done_act w d) ds) ≡ false
did_first m w d op a ds e f = ap (λ (b : Bool). goes_first m (cond b ds (done_act w d ∷ ds))) f ∙ ap (λ (x : Done). goes_first m (done_act w x ∷ ds)) e

not_back : {A : Type 0} (d : Done) (op : Op) (a : Answer) (upto : ℕ) → d ≡ Did op a → d ≡ WentBack upto → A
not_back d op a upto e f = absurd (let g = sym e ∙ f in cc)

stays : (v : Told) (vs : List Told) (op : Op) (a : Answer) → v.done ≡ Did op a → AreNumbered (Some v) vs → goes_first v.nth (did_all vs) ≡ false
stays v [] op a d n = refl
stays v (w ∷ ws) op a d n = at n.0 (λ o b e. stays w ws o b e n.1)
  where
    at : NextBy (Some v) w → ((o : Op) (b : Answer) → w.done ≡ Did o b → goes_first w.nth (did_all ws) ≡ false) → goes_first v.nth (did_all (w ∷ ws)) ≡ false
    at (inl e) rec = first_of v.nth w.nth w.done (did_all ws) (unequal v.nth w.nth e)
    at (inr (e, backs upto x y)) rec = not_back v.done op a upto d x
    at (inr (e, scans lo hi lo2 hi2 b c x y)) rec =
        did_first v.nth w.nth w.done (Scan lo2 hi2) c (did_all ws) y
        (with_next (done_act w.nth w.done) (did_all ws) ∙ ap (λ (k : ℕ). goes_first k (did_all ws)) (number_is w.nth w.done) ∙ rec (Scan lo2 hi2) c y)

own_act : (v : Told) (vs : List Told) (op : Op) (a : Answer) → v.done ≡ Did op a → AreNumbered (Some v) vs → did_all (v ∷ vs) ≡ (v.nth, Operates op, Some a) ∷ did_all vs
own_act v vs op a d n =
    let alone = with_next (done_act v.nth v.done) (did_all vs) ∙ ap (λ (k : ℕ). goes_first k (did_all vs)) (number_is v.nth v.done) ∙ stays v vs op a d n in
    ap (λ (b : Bool). cond b (did_all vs) (done_act v.nth v.done ∷ did_all vs)) alone ∙ ap (λ (x : Done). done_act v.nth x ∷ did_all vs) d

-- ---- all that is told

behind : (p : DoneAct) (ds : List DoneAct) → ActsAreWhole (numbered (put_act p ds)) → ActsAreWhole (numbered ds)
behind p ds w = at (is_with_next p ds) w
  where
    at : (b : Bool) → ActsAreWhole (numbered (cond b ds (p ∷ ds))) → ActsAreWhole (numbered ds)
    at true k = k
    at false k = k.1

pub scans_are_whole : (l : Option Told) (ts : List Told) → AreNumbered l ts → ActsAreWhole (numbered (did_all ts)) → ScansAreWhole ts
scans_are_whole l [] n w = tt
scans_are_whole l (t ∷ ts) n w = (first ts n.1 w, scans_are_whole (Some t) ts n.1 (behind (done_act t.nth t.done) (did_all ts) w))
  where
    first : (us : List Told) → AreNumbered (Some t) us → ActsAreWhole (numbered (did_all (t ∷ us))) → GoesOnBy t us
    first [] m k = tt
    first (u ∷ us) m k = λ same lo hi lo2 hi2 a b x y.
        let both = own_act t (u ∷ us) (Scan lo hi) a x m ∙ ap (λ (l : List DoneAct). (t.nth, Operates (Scan lo hi), Some a) ∷ l) (own_act u us (Scan lo2 hi2) b y m.1) in
        (subst (λ (l : List DoneAct). ActsAreWhole (numbered l)) both k).0 same lo hi lo2 hi2 refl refl
