-- Sums over a table by a test of each transaction, and which changes of the parts leave those finished that are, and those idle.
use Rattle.std.proofs.Common.{◌≡◌, refl, sym, ap, subst, ◌∙◌, ◌⊎◌, inl, inr, ⊎_elim, ℕ, ◌+◌, ◌≤◌, Bool, true, false, cond, List, [], ◌∷◌, Option, Some, None, is_some, arith}
use Rattle.std.proofs.lemmas.Bool.{both_ways, false_from_ne_true}
use Rattle.std.specs.declared.cmp.Ordering.{Ordering}
use Rattle.std.specs.declared.cmp.Ordering.TheVariants.{Less, Equal, Greater}
use Rattle.std.specs.Ordering.{match_ordering, is_eq}
use Rattle.clv_base.specs.declared.changes.Change.{Change}
use Rattle.clv_base.specs.declared.names.TxId.{TxId}
use Rattle.clv_base.specs.declared.names.Birth.{Birth}
use Rattle.clv_base.specs.declared.ops.Op.{Op}
use Rattle.clv_base.specs.declared.state.Held.{Held}
use Rattle.clv_base.specs.declared.state.Stage.{Stage}
use Rattle.clv_base.specs.declared.state.Stage.TheVariants.{Active, Closed, Gone}
use Rattle.clv_base.specs.Orders.{Table, tx_same, tx_in, tx_cmp, tx_get, tx_put, tx_set}
use Rattle.clv_base.specs.State.{Local, is_present}
use Rattle.clv_base.specs.Undo.{stage_of, doomed_by, doomed_here, gone_part, gone_in, roll_back}
use Rattle.clv_base.specs.Needs.{writes_of, value_at, key_of}
use Rattle.clv_base.specs.OneShard.{new_part, closed_in, marked_in, dropped_part, rolled_back_if, without_part, drop_part, written, locked, performed}
use Rattle.clv_base.proofs.SameNames.{tx_true}
use Rattle.law_base.proofs.Sets.{in_filter}
use Rattle.law_base.proofs.Stages.{get_gone, get_other, get_marked, get_closed_other, other_part}
use Rattle.protocol_laws.specs.Left.{is_finished_stage, is_over, is_finished, is_idle, total_by}

-- ---- sums

-- what a changed value does to the sum, by the value that was there
SetBy : {X : Type 0} → (Bool → X → ℕ) → (TxId → Bool) → TxId → Table X → Table X → X → Option X → Type 0
SetBy f test tx t u w None = total_by f test u ≡ total_by f test t
SetBy f test tx t u w (Some x) = total_by f test u + f (test tx) x ≡ total_by f test t + f (test tx) w

set_later : {X : Type 0} (f : Bool → X → ℕ) (test : TxId → Bool) (tx : TxId) (e : TxId × X) (t u : Table X) (w : X) (o : Option X) → SetBy f test tx t u w o → SetBy f test tx (e ∷ t) (e ∷ u) w o
unfolding SetBy
set_later f test tx e t u w None h = ap (λ n. f (test e.0) e.1 + n) h
set_later f test tx e t u w (Some x) h = omega (arith, h)

set_by : {X : Type 0} (f : Bool → X → ℕ) (test : TxId → Bool) (tx : TxId) (t : Table X) (w : X) → SetBy f test tx t (tx_set tx w t) w (tx_get tx t)
unfolding SetBy
set_by f test tx [] w = refl
set_by f test tx (e ∷ es) w = at (tx_same tx e.0) refl (set_by f test tx es w)
  where
    at : (b : Bool) → tx_same tx e.0 ≡ b → SetBy f test tx es (tx_set tx w es) w (tx_get tx es) → SetBy f test tx (e ∷ es) (cond b ((e.0, w) ∷ es) (e ∷ tx_set tx w es)) w (cond b (Some e.1) (tx_get tx es))
    at true s more =
        let old = ap (λ x. f (test x) e.1) (tx_true tx e.0 s) in let new = ap (λ x. f (test x) w) (tx_true tx e.0 s) in
        omega (arith, old, new)
    at false s more = set_later f test tx e es (tx_set tx w es) w (tx_get tx es) more

-- the sum where the transaction's value is known
pub total_by_at : {X : Type 0} (f : Bool → X → ℕ) (test : TxId → Bool) (tx : TxId) (t : Table X) (x w : X) → tx_get tx t ≡ Some x
    → total_by f test (tx_set tx w t) + f (test tx) x ≡ total_by f test t + f (test tx) w
unfolding SetBy
total_by_at f test tx t x w e = subst (λ o. SetBy f test tx t (tx_set tx w t) w o) e (set_by f test tx t w)

-- one row more
pub put_total_by : {X : Type 0} (f : Bool → X → ℕ) (test : TxId → Bool) (t : TxId) (v : X) (rs : Table X) → total_by f test (tx_put t v rs) ≤ total_by f test rs + f (test t) v
put_total_by f test t v [] = omega arith
put_total_by f test t v (r ∷ rs) = at (tx_cmp t r.0) refl (put_total_by f test t v rs)
  where
    at : (o : Ordering) → tx_cmp t r.0 ≡ o → total_by f test (tx_put t v rs) ≤ total_by f test rs + f (test t) v
        → total_by f test (match_ordering o ((t, v) ∷ r ∷ rs) ((r.0, v) ∷ rs) (r ∷ tx_put t v rs)) ≤ f (test r.0) r.1 + total_by f test rs + f (test t) v
    at Less e more = omega arith
    at Equal e more = let own = ap (λ x. f (test x) v) (tx_true t r.0 (ap is_eq e)) in omega (arith, own)
    at Greater e more = omega (arith, more)

-- who counts no more where the test passes
abbrev pub FallsBy : {X : Type 0} → (Bool → X → ℕ) → Type 0
FallsBy {X} f = (x : X) → f true x ≤ f false x

abbrev pub Stay : (TxId → Bool) → (TxId → Bool) → Type 0
Stay test now = (tx : TxId) → test tx ≡ true → now tx ≡ true

pub stay_total : {X : Type 0} (f : Bool → X → ℕ) (test now : TxId → Bool) (rs : Table X) → FallsBy f → Stay test now → total_by f now rs ≤ total_by f test rs
stay_total f test now [] falls stay = omega arith
stay_total f test now (r ∷ rs) falls stay = let one = at (test r.0) (now r.0) (stay r.0) in let rest = stay_total f test now rs falls stay in omega (arith, one, rest)
  where
    at : (a b : Bool) → (a ≡ true → b ≡ true) → f b r.1 ≤ f a r.1
    at true true h = omega arith
    at true false h = absurd (both_ways false refl (h refl))
    at false true h = falls r.1
    at false false h = omega arith

-- ---- parts that change

abbrev over : Bool → Table Held → TxId → Bool
over u parts tx = is_over u (tx_get tx parts)

-- finished ones stay so, and idle ones
pub record PartsStay (parts more : Table Held) : Type 0 where
  pub finished : Stay (is_finished parts) (is_finished more)
  pub idle : Stay (is_idle parts) (is_idle more)

abbrev StayBoth : Table Held → Table Held → Type 0
StayBoth parts more = (u : Bool) → Stay (over u parts) (over u more)

both : (parts more : Table Held) → StayBoth parts more → PartsStay parts more
both parts more h = record { finished = h false; idle = h true }

-- one that is over is neither active nor closed, and no abort took it away
finished_not : (st : Stage) → is_finished_stage st ≡ true → st ≡ Gone None
finished_not Active e = absurd (both_ways false refl e)
finished_not Closed e = absurd (both_ways false refl e)
finished_not (Gone None) e = refl
finished_not (Gone (Some d)) e = absurd (both_ways false refl e)

pub finished_stage : (l : Local) (tx : TxId) → is_finished l.parts tx ≡ true → stage_of l tx ≡ Some (Gone None)
finished_stage l tx e = at (tx_get tx l.parts) e
  where
    at : (o : Option Held) → is_over false o ≡ true → elim o [ Some h ↦ Some h.stage | None ↦ None ] ≡ Some (Gone None)
    at None e = absurd (both_ways false refl e)
    at (Some h) e = ap Some (finished_not h.stage e)

pub idle_stage : (l : Local) (tx : TxId) → is_idle l.parts tx ≡ true → (stage_of l tx ≡ None) ⊎ (stage_of l tx ≡ Some (Gone None))
idle_stage l tx e = at (tx_get tx l.parts) e
  where
    at : (o : Option Held) → is_over true o ≡ true
        → (elim o [ Some h ↦ Some h.stage | None ↦ None ] ≡ None) ⊎ (elim o [ Some h ↦ Some h.stage | None ↦ None ] ≡ Some (Gone None))
    at None e = inl refl
    at (Some h) e = inr (ap Some (finished_not h.stage e))

finished_idle : (parts : Table Held) (u : Bool) (tx : TxId) → over u parts tx ≡ true → is_idle parts tx ≡ true
finished_idle parts u tx e = at (tx_get tx parts) e
  where
    at : (o : Option Held) → is_over u o ≡ true → is_over true o ≡ true
    at None e = refl
    at (Some h) e = e

over_absent : (l : Local) (u : Bool) (tx : TxId) → over u l.parts tx ≡ true → is_present (stage_of l tx) ≡ false
over_absent l u tx e = ⊎_elim (λ h. ap is_present h) (λ h. ap is_present h) (idle_stage l tx (finished_idle l.parts u tx e))

pub stay_same : (parts : Table Held) → PartsStay parts parts
stay_same parts = record { finished = λ tx e. e; idle = λ tx e. e }

-- finished parts
pub finish_stay : (set : List TxId) (parts : Table Held) → PartsStay parts (gone_in set None parts)
finish_stay set parts = both parts (gone_in set None parts) (λ u tx e. ap (is_over u) (get_gone set None tx parts) ∙ at u (tx_get tx parts) e (tx_in tx set))
  where
    at : (u : Bool) (o : Option Held) → is_over u o ≡ true → (b : Bool) → is_over u (elim o [ Some h ↦ Some (cond b (gone_part None h) h) | None ↦ None ]) ≡ true
    at u None e b = e
    at u (Some h) e true = refl
    at u (Some h) e false = e

-- an abort
rolled_both : (tx : TxId) (l : Local) → StayBoth l.parts (roll_back tx l).parts
rolled_both tx l u x e = ap (is_over u) (get_other (doomed_here l tx) (Some tx) x l.parts out) ∙ e
  where
    out : tx_in x (doomed_here l tx) ≡ false
    out = false_from_ne_true _ (λ i. both_ways _ (over_absent l u x e) (in_filter (λ t. is_present (stage_of l t)) x (doomed_by l tx) i).1)

without_both : (tx : TxId) (l : Local) → StayBoth l.parts (without_part tx l).parts
without_both tx l = at (is_present (stage_of l tx))
  where
    at : (b : Bool) → StayBoth l.parts (rolled_back_if b tx l).parts
    at true = rolled_both tx l
    at false = λ u x e. e

marked_both : (tx : TxId) (parts : Table Held) → StayBoth parts (marked_in tx parts)
marked_both tx parts u x e = ap (is_over u) (get_marked tx x parts) ∙ at (tx_get x parts) e (tx_same tx x)
  where
    at : (o : Option Held) → is_over u o ≡ true → (b : Bool) → is_over u (elim o [ Some h ↦ Some (cond b (dropped_part h) h) | None ↦ None ]) ≡ true
    at None e b = e
    at (Some h) e true = e
    at (Some h) e false = e

pub rolled_stay : (tx : TxId) (l : Local) → PartsStay l.parts (roll_back tx l).parts
rolled_stay tx l = both l.parts (roll_back tx l).parts (rolled_both tx l)

-- a death, and a drop
pub without_stay : (tx : TxId) (l : Local) → PartsStay l.parts (without_part tx l).parts
without_stay tx l = both l.parts (without_part tx l).parts (without_both tx l)

pub dropped_stay : (tx : TxId) (l : Local) → PartsStay l.parts (drop_part tx l).parts
dropped_stay tx l = both l.parts (drop_part tx l).parts (λ u x e. marked_both tx (without_part tx l).parts u x (without_both tx l u x e))

-- an active part that closes
pub closed_stay : (tx : TxId) (l : Local) → stage_of l tx ≡ Some Active → PartsStay l.parts (closed_in tx l.parts)
closed_stay tx l active = both l.parts (closed_in tx l.parts) (λ u x e. ap (is_over u) (get_closed_other tx x l.parts (other u x e)) ∙ e)
  where
    other : (u : Bool) (x : TxId) → is_over u (tx_get x l.parts) ≡ true → tx_same tx x ≡ false
    other u x e = false_from_ne_true _ (λ i. both_ways _ (over_absent l u x e) (ap is_present (sym (ap (stage_of l) (tx_true tx x i)) ∙ active)))

-- a granted operation of a part that is known: all parts stay; of one that isn't: all others
written_parts : (tx : TxId) (birth : Birth) (op : Op) (l : Local) (w : Option (ℕ × Change)) → (written tx w (locked tx birth op l)).parts ≡ new_part tx birth (tx_get tx l.parts) l.parts
written_parts tx birth op l None = refl
written_parts tx birth op l (Some w) = refl

pub performed_known : (tx : TxId) (birth : Birth) (op : Op) (l : Local) → is_some (stage_of l tx) ≡ true → (performed tx birth op l).parts ≡ l.parts
performed_known tx birth op l e = written_parts tx birth op l (writes_of op (value_at (key_of op) l.records)) ∙ at (tx_get tx l.parts) e
  where
    at : (o : Option Held) → is_some (elim o [ Some h ↦ Some h.stage | None ↦ None ]) ≡ true → new_part tx birth o l.parts ≡ l.parts
    at (Some h) e = refl
    at None e = absurd (both_ways false refl e)

pub performed_other : (tx : TxId) (birth : Birth) (op : Op) (l : Local) (x : TxId) → tx_same x tx ≡ false → tx_get x (performed tx birth op l).parts ≡ tx_get x l.parts
performed_other tx birth op l x e = ap (tx_get x) (written_parts tx birth op l (writes_of op (value_at (key_of op) l.records))) ∙ other_part tx birth l.parts x (tx_get tx l.parts) e
