-- What an entry makes of a session that it goes on.
use Rattle.std.proofs.Common.{◌≡◌, refl, sym, ap, subst, ◌∙◌, ℕ, true, false, cond, ◌&&◌, Bool, List, [], ◌∷◌, Option, Some, None, ◌==◌, map, nat_lt, eqb-true, suc, ◌+◌, ◌<◌, length, drop, get_or, drop-cons, arith}
use Rattle.std.specs.List.{list_all, list_any}
use Rattle.std.specs.Map.{lookup}
use Rattle.std.proofs.lemmas.Bool.{both_ways, and_parts, and_from, eq-eqb, ne_eqb}
use Rattle.clv_base.specs.declared.names.TxId.{TxId}
use Rattle.clv_base.specs.declared.names.Birth.{Birth}
use Rattle.clv_base.specs.declared.ops.Op.{Op}
use Rattle.clv_base.specs.declared.events.Outcome.{Outcome}
use Rattle.clv_base.specs.declared.events.Entry.{Entry}
use Rattle.clv_base.specs.FileRules.{numbers_rise}
use Rattle.clv_base.specs.LogRules.{same_option}
use Rattle.clv_base.specs.Orders.{tx_same}
use Rattle.clv_base.specs.Journals.{History, own}
use Rattle.clv_base.specs.Sessions.{SessionState, goes_on, begins, begun, session_for, is_number, lies_in, same_touched, is_lowest, op_answered, op_in_session, session_after}
use Rattle.cluster_turns.specs.States.{after_from}
use Rattle.interleaving_core.specs.Naming.{shards_fit}
use Rattle.law_base.proofs.Lists.{lowest_any}

none_some : {A X : Type 0} {t : A} → ◌≡◌ {A = Option A} None (Some t) → X
none_some h = absurd cc

-- what is taken under a test was taken, and passed it
pub passed : {A : Type 0} (b : Bool) (x : Option A) (t : A) → cond b x None ≡ Some t → (b ≡ true) × (x ≡ Some t)
passed true x t h = (refl, h)
passed false x t h = none_some h

pub record Answered (n nth : ℕ) (op : Op) (o : Outcome) (v : Option SessionState) (t : SessionState) : Type 0 where
  pub before : SessionState
  pub is : v ≡ Some before
  pub answered : op_answered n nth op before o ≡ Some t

pub op_goes_on : (splits : List ℕ) (n nth : ℕ) (seen : Option ℕ) (op : Op) (o : Outcome) (v : Option SessionState) (t : SessionState) → op_in_session splits n nth seen op o v ≡ Some t → Answered n nth op o v t
op_goes_on splits n nth seen op o None t h = none_some h
op_goes_on splits n nth seen op o (Some u) t h =
    record { before = u; is = refl; answered = (passed (is_number u n nth op && lies_in splits n op && same_option seen (lookup (◌==◌ n) u.touched)) (op_answered n nth op u o) t h).1 }

some_same : {A : Type 0} {x y : A} → Some x ≡ Some y → x ≡ y
some_same e = cc

-- an operation of the last transaction, and of the next one
pub for_last : (u t : SessionState) (tx : TxId) (birth : Birth) → tx_same tx u.tx ≡ true → session_for u tx birth ≡ Some t → u ≡ t
for_last u t tx birth same h =
    let p = passed (goes_on u tx birth) (Some u) t (sym (ap (λ b. cond b (cond (goes_on u tx birth) (Some u) None) (cond (begins u tx birth) (Some (begun u tx birth)) None)) same) ∙ h) in
    some_same p.1

pub for_next : (u t : SessionState) (tx : TxId) (birth : Birth) → tx_same tx u.tx ≡ false → session_for u tx birth ≡ Some t → (begins u tx birth ≡ true) × (begun u tx birth ≡ t)
for_next u t tx birth same h =
    let p = passed (begins u tx birth) (Some (begun u tx birth)) t (sym (ap (λ b. cond b (cond (goes_on u tx birth) (Some u) None) (cond (begins u tx birth) (Some (begun u tx birth)) None)) same) ∙ h) in
    (p.0, some_same p.1)

-- ---- entry by entry

after_none : (splits : List ℕ) (es : History) (t : SessionState) {X : Type 0} → after_from splits None es ≡ Some t → X
after_none splits [] t h = none_some h
after_none splits (e ∷ es) t h = none_some h

pub after_first : (splits : List ℕ) (u t : SessionState) (e : ℕ × Entry) (es : History) → after_from splits (Some u) (e ∷ es) ≡ Some t
    → (v : SessionState) × (session_after splits e.0 u (e.1).event (e.1).outcome ≡ Some v) × (after_from splits (Some v) es ≡ Some t)
after_first splits u t e es h = at (session_after splits e.0 u (e.1).event (e.1).outcome) h
  where
    at : (x : Option SessionState) → after_from splits x es ≡ Some t → (v : SessionState) × (x ≡ Some v) × (after_from splits (Some v) es ≡ Some t)
    at None k = after_none splits es t k
    at (Some v) k = (v, refl, k)

-- an entry of the walker, and one of another
pub own_first : (walker : ℕ) (e : ℕ × Entry) (es : History) → (e.1).walker ≡ walker → own walker (e ∷ es) ≡ e ∷ own walker es
own_first walker e es h = ap (λ b. cond b (e ∷ own walker es) (own walker es)) (eq-eqb (e.1).walker walker h)

pub own_other : (walker : ℕ) (e : ℕ × Entry) (es : History) → ((e.1).walker ≡ walker → ⊥) → own walker (e ∷ es) ≡ own walker es
own_other walker e es h = ap (λ b. cond b (e ∷ own walker es) (own walker es)) (ne_eqb (e.1).walker walker h)

-- touched shards that are the same
pub same_list : (as_ bs : List (ℕ × ℕ)) → same_touched as_ bs ≡ true → as_ ≡ bs
same_list [] [] h = refl
same_list [] (b ∷ bs) h = absurd (both_ways false refl h)
same_list (a ∷ as_) [] h = absurd (both_ways false refl h)
same_list (a ∷ as_) (b ∷ bs) h =
    let p = and_parts ((a.0 == b.0) && (a.1 == b.1)) (same_touched as_ bs) h in
    let q = and_parts (a.0 == b.0) (a.1 == b.1) p.0 in
    same_first a b (eqb-true a.0 b.0 q.0) (eqb-true a.1 b.1 q.1) (same_list as_ bs p.1)
  where
    same_first : (a b : ℕ × ℕ) → a.0 ≡ b.0 → a.1 ≡ b.1 → as_ ≡ bs → a ∷ as_ ≡ b ∷ bs
    same_first (n, m) (k, l) e f g = cc

pub asked_fit : (n : ℕ) (touched own : List (ℕ × ℕ)) → same_touched touched own ≡ true → is_lowest n touched ≡ true → numbers_rise (map (λ t. t.0) own) ≡ true → list_all (λ t. nat_lt t.0 16) own ≡ true → shards_fit n touched ≡ true
asked_fit n touched own s l r w =
    let e = sym (same_list touched own s) in
    and_from (numbers_rise (map (λ t. t.0) touched) && list_all (λ t. nat_lt t.0 16) touched) (list_any (λ t. t.0 == n) touched)
    (and_from (numbers_rise (map (λ t. t.0) touched)) (list_all (λ t. nat_lt t.0 16) touched) (subst (λ ts. numbers_rise (map (λ t. t.0) ts) ≡ true) e r) (subst (λ ts. list_all (λ t. nat_lt t.0 16) ts ≡ true) e w)) (lowest_any n touched l)

-- the next entry of a history
pub cut : (h : History) (i : ℕ) (e : ℕ × Entry) → i < length h → e ≡ get_or h i e → drop i h ≡ e ∷ drop (i + 1) h
cut h i e l is = drop-cons h i e l ∙ ap (λ x. x ∷ drop (suc i) h) (sym is) ∙ (let k : suc i ≡ i + 1 = omega arith in ap (λ n. e ∷ drop n h) k)
