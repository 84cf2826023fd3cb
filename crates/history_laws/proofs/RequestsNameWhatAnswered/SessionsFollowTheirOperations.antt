-- What a session's entries say of its operations, its request and its drops.
use Rattle.std.proofs.Common.{◌≡◌, ◌⊎◌, inl, inr, refl, sym, ap, subst, ◌∙◌, ℕ, ◌<◌, true, false, cond, Bool, List, [], ◌∷◌, Option, Some, None, is_some, ◌&&◌, ◌==◌, nat_lt, arith, eqb-true}
use Rattle.std.specs.Map.{lookup}
use Rattle.std.specs.BTreeMap.{insert_entry}
use Rattle.std.specs.Ordering.{nat_cmp, match_ordering, is_eq}
use Rattle.std.specs.declared.cmp.Ordering.{Ordering}
use Rattle.std.specs.declared.cmp.Ordering.TheVariants.{Less, Equal, Greater}
use Rattle.std.proofs.lemmas.Bool.{both_ways, and_parts, ltb-true, eq-eqb}
use Rattle.clv_base.specs.declared.names.TxId.{TxId}
use Rattle.clv_base.specs.declared.names.Birth.{Birth}
use Rattle.clv_base.specs.declared.ops.Op.{Op}
use Rattle.clv_base.specs.declared.ops.Answer.{Answer}
use Rattle.clv_base.specs.declared.events.Event.{Event}
use Rattle.clv_base.specs.declared.events.Event.TheVariants.{Op as OpEvent, Request, Look, Drop, RollTo}
use Rattle.clv_base.specs.declared.events.Outcome.{Outcome}
use Rattle.clv_base.specs.declared.events.Outcome.TheVariants.{Answered, Dead, Asked, Acknowledged, Aborted}
use Rattle.clv_base.specs.Orders.{tx_same, birth_cmp}
use Rattle.clv_base.specs.LogRules.{same_option}
use Rattle.clv_base.specs.Sessions.{Phase, SessionState, is_number, lies_in, is_touching, same_birth, follows_birth, goes_on, begins, begun, session_for, touch, scan_shard, op_answered, op_in_session, requested, looked, session_after, makes_from, numbered, with_written}
use Rattle.clv_base.proofs.SameNames.{tx_true, nat_cmp_true, then_eq}
use Rattle.clv_base.specs.Backs.{has_written}
use Rattle.law_base.proofs.Options.{option_true}
use Rattle.history_cases.proofs.Merging.{Placed, Among, Precedes}
use Rattle.history_laws.proofs.Entries.GoingsBackOfSessions.{Back, no_back, went, died, back_after}

-- ---- whose session an operation finds

pub data For (t : SessionState) (tx : TxId) (birth : Birth) : Option SessionState → Type 0 where
  nobody : For t tx birth None
  the_same : tx ≡ t.tx → t.birth ≡ Some birth → For t tx birth (Some t)
  a_new_one : (t.tx).serial < tx.serial → For t tx birth (Some (begun t tx birth))

same_fields : (r s t a b c : ℕ) → r ≡ a → s ≡ b → t ≡ c → ◌≡◌ {A = Birth} (record { stamp = r; session = s; serial = t }) (record { stamp = a; session = b; serial = c })
same_fields r s t a b c e f g = cc

birth_true : (a b : Birth) → is_eq (birth_cmp a b) ≡ true → a ≡ b
birth_true a b e =
    let p = then_eq (nat_cmp a.stamp b.stamp) _ e in
    let q = then_eq (nat_cmp a.session b.session) _ p.1 in
    same_fields a.stamp a.session a.serial b.stamp b.session b.serial (nat_cmp_true _ _ p.0) (nat_cmp_true _ _ q.0) (nat_cmp_true _ _ q.1)

born : (o : Option Birth) (b : Birth) → same_birth o b ≡ true → o ≡ Some b
born None b e = absurd (both_ways false refl e)
born (Some a) b e = ap (λ z. Some z) (birth_true a b e)

for_on : (t : SessionState) (tx : TxId) (birth : Birth) (b : Bool) → goes_on t tx birth ≡ b → tx ≡ t.tx → For t tx birth (cond b (Some t) None)
for_on t tx birth true e q = the_same q (born t.birth birth (and_parts (is_touching t.phase) (same_birth t.birth birth) e).1)
for_on t tx birth false e q = nobody

for_new : (t : SessionState) (tx : TxId) (birth : Birth) (b : Bool) → begins t tx birth ≡ b → For t tx birth (cond b (Some (begun t tx birth)) None)
for_new t tx birth true e =
    let p = and_parts ((tx.run == (t.tx).run) && (tx.session == (t.tx).session) && nat_lt (t.tx).serial tx.serial && (birth.session == tx.session)) (follows_birth t.birth birth t.phase) e in
    let q = and_parts ((tx.run == (t.tx).run) && (tx.session == (t.tx).session) && nat_lt (t.tx).serial tx.serial) (birth.session == tx.session) p.0 in
    let r = and_parts ((tx.run == (t.tx).run) && (tx.session == (t.tx).session)) (nat_lt (t.tx).serial tx.serial) q.0 in
    a_new_one (ltb-true _ _ r.1)
for_new t tx birth false e = nobody

pub for_by : (t : SessionState) (tx : TxId) (birth : Birth) (b : Bool) → tx_same tx t.tx ≡ b
    → For t tx birth (cond b (cond (goes_on t tx birth) (Some t) None) (cond (begins t tx birth) (Some (begun t tx birth)) None))
for_by t tx birth true e = for_on t tx birth (goes_on t tx birth) refl (tx_true tx t.tx e)
for_by t tx birth false e = for_new t tx birth (begins t tx birth) refl

-- ---- touched shards with their epochs

abbrev pub epoch_at : ℕ → List (ℕ × ℕ) → Option ℕ
epoch_at m ts = lookup (◌==◌ m) ts

at_key : (b : Bool) (v : ℕ) (o : Option ℕ) → b ≡ true → cond b (Some v) o ≡ Some v
at_key true v o e = refl
at_key false v o e = absurd (both_ways false refl e)

put_new : (o : Ordering) (n v : ℕ) (r : ℕ × ℕ) (rs qs : List (ℕ × ℕ)) → (o ≡ Equal → n ≡ r.0) → epoch_at n (r ∷ rs) ≡ None → epoch_at n qs ≡ Some v → epoch_at n (match_ordering o ((n, v) ∷ r ∷ rs) ((r.0, v) ∷ rs) (r ∷ qs)) ≡ Some v
put_new Less n v r rs qs e f g = at_key (n == n) v _ (eq-eqb n n refl)
put_new Equal n v r rs qs e f g = at_key (n == r.0) v _ (eq-eqb n r.0 (e refl))
put_new Greater n v r rs qs e f g = at (n == r.0) f g
  where
    at : (b : Bool) → ◌≡◌ {A = Option ℕ} (cond b (Some r.1) (epoch_at n rs)) None → epoch_at n qs ≡ Some v → cond b (Some r.1) (epoch_at n qs) ≡ Some v
    at true x y = absurd cc
    at false x y = y

none_later : (n : ℕ) (r : ℕ × ℕ) (rs : List (ℕ × ℕ)) → epoch_at n (r ∷ rs) ≡ None → epoch_at n rs ≡ None
none_later n r rs e = at (n == r.0) e
  where
    at : (b : Bool) → ◌≡◌ {A = Option ℕ} (cond b (Some r.1) (epoch_at n rs)) None → epoch_at n rs ≡ None
    at true x = absurd cc
    at false x = x

insert_new : (n v : ℕ) (ts : List (ℕ × ℕ)) → epoch_at n ts ≡ None → epoch_at n (insert_entry nat_cmp ts n v) ≡ Some v
insert_new n v [] e = at_key (n == n) v None (eq-eqb n n refl)
insert_new n v (r ∷ rs) e = put_new (nat_cmp n r.0) n v r rs (insert_entry nat_cmp rs n v) (λ q. nat_cmp_true n r.0 (ap is_eq q)) e (insert_new n v rs (none_later n r rs e))

put_old : (o : Ordering) (m n v e : ℕ) (r : ℕ × ℕ) (rs qs : List (ℕ × ℕ)) → (o ≡ Equal → n ≡ r.0) → (m ≡ n → ⊥) → epoch_at m (r ∷ rs) ≡ Some e → (epoch_at m rs ≡ Some e → epoch_at m qs ≡ Some e)
    → epoch_at m (match_ordering o ((n, v) ∷ r ∷ rs) ((r.0, v) ∷ rs) (r ∷ qs)) ≡ Some e
put_old Less m n v e r rs qs k f g h = at (m == n) refl
  where
    at : (b : Bool) → (m == n) ≡ b → cond b (Some v) (epoch_at m (r ∷ rs)) ≡ Some e
    at true q = absurd (f (eqb-true m n q))
    at false q = g
put_old Equal m n v e r rs qs k f g h = at (m == r.0) refl g
  where
    at : (b : Bool) → (m == r.0) ≡ b → cond b (Some r.1) (epoch_at m rs) ≡ Some e → cond b (Some v) (epoch_at m rs) ≡ Some e
    at true q x = absurd (f (eqb-true m r.0 q ∙ sym (k refl)))
    at false q x = x
put_old Greater m n v e r rs qs k f g h = at (m == r.0) g
  where
    at : (b : Bool) → cond b (Some r.1) (epoch_at m rs) ≡ Some e → cond b (Some r.1) (epoch_at m qs) ≡ Some e
    at true x = x
    at false x = h x

insert_old : (m n v e : ℕ) (ts : List (ℕ × ℕ)) → (m ≡ n → ⊥) → epoch_at m ts ≡ Some e → epoch_at m (insert_entry nat_cmp ts n v) ≡ Some e
insert_old m n v e [] f g = absurd cc
insert_old m n v e (r ∷ rs) f g = put_old (nat_cmp n r.0) m n v e r rs (insert_entry nat_cmp rs n v) (λ q. nat_cmp_true n r.0 (ap is_eq q)) f g (insert_old m n v e rs f)

touch_old : (m n v e : ℕ) (ts : List (ℕ × ℕ)) → epoch_at m ts ≡ Some e → epoch_at m (touch n v ts) ≡ Some e
touch_old m n v e ts g = at (epoch_at n ts) refl
  where
    at : (o : Option ℕ) → epoch_at n ts ≡ o → epoch_at m (cond (is_some o) ts (insert_entry nat_cmp ts n v)) ≡ Some e
    at (Some x) q = g
    at None q = insert_old m n v e ts (λ s. differ (sym (subst (λ z. epoch_at z ts ≡ Some e) s g) ∙ q)) g
      where
        differ : Some e ≡ None → ⊥
        differ h = absurd cc

-- an operation that was answered had seen nothing, or the epoch that answered it
abbrev pub SeenIs : Option ℕ → ℕ → Type 0
SeenIs seen epoch = (seen ≡ None) ⊎ (seen ≡ Some epoch)

touch_new : (n epoch : ℕ) (seen : Option ℕ) (ts : List (ℕ × ℕ)) → seen ≡ epoch_at n ts → SeenIs seen epoch → epoch_at n (touch n epoch ts) ≡ Some epoch
touch_new n epoch seen ts e (inl q) = at (epoch_at n ts) refl
  where
    at : (o : Option ℕ) → epoch_at n ts ≡ o → epoch_at n (cond (is_some o) ts (insert_entry nat_cmp ts n epoch)) ≡ Some epoch
    at None f = insert_new n epoch ts f
    at (Some x) f = absurd (differ (sym f ∙ sym e ∙ q))
      where
        differ : Some x ≡ None → ⊥
        differ h = absurd cc
touch_new n epoch seen ts e (inr q) = touch_old n n epoch epoch ts (sym e ∙ q)

-- ---- a later operation has seen the same epoch, and is of the same birth

pub Held : TxId → ℕ → ℕ → Birth → SessionState → Type 0
Held tx m e b t = ((t.tx ≡ tx) × (t.birth ≡ Some b) × (epoch_at m t.touched ≡ Some e)) ⊎ (tx.serial < (t.tx).serial)

data HeldIn (tx : TxId) (m e : ℕ) (b : Birth) : Option SessionState → Type 0 where
  gone : HeldIn tx m e b None
  held : {u : SessionState} → Held tx m e b u → HeldIn tx m e b (Some u)

held_if : (tx : TxId) (m e : ℕ) (b : Birth) (c : Bool) (o : Option SessionState) → HeldIn tx m e b o → HeldIn tx m e b (cond c o None)
held_if tx m e b true o h = h
held_if tx m e b false o h = gone

held_answered : (tx u : TxId) (m e : ℕ) (b : Birth) (t v : SessionState) (birth : Birth) (n nth : ℕ) (op : Op) (o : Outcome) → Held tx m e b t → For t u birth (Some v) → HeldIn tx m e b (op_answered n nth op v o)
unfolding Held
held_answered tx u m e b t _ birth n nth op (Answered a epoch) (inl p) (the_same q r) = held (inl (p.0, p.1, touch_old m n epoch e t.touched p.2))
held_answered tx u m e b t _ birth n nth op (Answered a epoch) (inr l) (the_same q r) = held (inr l)
held_answered tx u m e b t _ birth n nth op (Answered a epoch) (inl p) (a_new_one k) = held (inr (subst (λ z. z.serial < u.serial) p.0 k))
held_answered tx u m e b t _ birth n nth op (Answered a epoch) (inr l) (a_new_one k) = held (inr (omega (arith, l, k)))
held_answered tx u m e b t _ birth n nth op (Dead cause) (inl p) (the_same q r) = held (inl p)
held_answered tx u m e b t _ birth n nth op (Dead cause) (inr l) (the_same q r) = held (inr l)
held_answered tx u m e b t _ birth n nth op (Dead cause) (inl p) (a_new_one k) = held (inr (subst (λ z. z.serial < u.serial) p.0 k))
held_answered tx u m e b t _ birth n nth op (Dead cause) (inr l) (a_new_one k) = held (inr (omega (arith, l, k)))
held_answered tx u m e b t v birth n nth op _ h f = gone

held_op : (splits : List ℕ) (tx u : TxId) (m e : ℕ) (b : Birth) (t : SessionState) (birth : Birth) (n nth : ℕ) (seen : Option ℕ) (op : Op) (o : Outcome) (v : Option SessionState) → Held tx m e b t → For t u birth v
    → HeldIn tx m e b (op_in_session splits n nth seen op o v)
held_op splits tx u m e b t birth n nth seen op o None h f = gone
held_op splits tx u m e b t birth n nth seen op o (Some v) h f =
    held_if tx m e b (is_number v n nth op && lies_in splits n op && same_option seen (epoch_at n v.touched)) _ (held_answered tx u m e b t v birth n nth op o h f)

same_held : (tx : TxId) (m e : ℕ) (b : Birth) (t : SessionState) (p : Phase) → Held tx m e b t → Held tx m e b (record t { phase = p })
unfolding Held
same_held tx m e b t p (inl q) = inl q
same_held tx m e b t p (inr l) = inr l

held_request : (tx : TxId) (m e : ℕ) (b : Birth) (t : SessionState) (n : ℕ) (o : Outcome) → Held tx m e b t → HeldIn tx m e b (requested n t o)
held_request tx m e b t n Asked h = held (same_held tx m e b t _ h)
held_request tx m e b t n (Dead cause) h = held (same_held tx m e b t _ h)
held_request tx m e b t n _ h = gone

held_back : (tx u : TxId) (m e : ℕ) (b : Birth) (t : SessionState) (n : ℕ) (o : Outcome) (v : Option SessionState) → Held tx m e b t → Back t u n o v → HeldIn tx m e b v
unfolding Held
held_back tx u m e b t n o _ h no_back = gone
held_back tx u m e b t n _ _ (inl p) (went k q f) = held (inl (q.tx ∙ p.0, q.birth ∙ p.1, ap (epoch_at m) q.touched ∙ p.2))
held_back tx u m e b t n _ _ (inr l) (went k q f) = held (inr (subst (λ z. tx.serial < z.serial) (sym q.tx) l))
held_back tx u m e b t n _ _ (inl p) (died c k q f) = held (inl (q.tx ∙ p.0, q.birth ∙ p.1, ap (epoch_at m) q.touched ∙ p.2))
held_back tx u m e b t n _ _ (inr l) (died c k q f) = held (inr (subst (λ z. tx.serial < z.serial) (sym q.tx) l))

held_look : (tx : TxId) (m e : ℕ) (b : Birth) (t : SessionState) (o : Outcome) → Held tx m e b t → HeldIn tx m e b (looked t o)
held_look tx m e b t Acknowledged h = held (same_held tx m e b t _ h)
held_look tx m e b t (Aborted cause) h = held (same_held tx m e b t _ h)
held_look tx m e b t _ h = gone

held_next : (splits : List ℕ) (tx : TxId) (m e : ℕ) (b : Birth) (n : ℕ) (t : SessionState) (ev : Event) (o : Outcome) → Held tx m e b t → HeldIn tx m e b (session_after splits n t ev o)
held_next splits tx m e b n t (OpEvent u birth nth seen op) o h = held_op splits tx u m e b t birth n nth seen op o (session_for t u birth) h (for_by t u birth (tx_same u t.tx) refl)
held_next splits tx m e b n t (RollTo u nth seen upto) o h = held_back tx u m e b t n o _ h (back_after splits n t u nth seen upto o)
held_next splits tx m e b n t (Request u ts) o h = held_if tx m e b _ _ (held_request tx m e b t n o h)
held_next splits tx m e b n t (Look u) o h = held_if tx m e b _ _ (held_look tx m e b t o h)
held_next splits tx m e b n t (Drop u) o h = held_if tx m e b _ _ (held (same_held tx m e b t _ h))
held_next splits tx m e b n t _ o h = held h

goes : (splits : List ℕ) (v : Option SessionState) (es : List Placed) (tx : TxId) (m e : ℕ) (b : Birth) {X : Type 0} → HeldIn tx m e b v → makes_from splits v es ≡ true → ((u : SessionState) → Held tx m e b u → makes_from splits (Some u) es ≡ true → X) → X
goes splits None es tx m e b gone h k = absurd (both_ways false refl h)
goes splits (Some u) es tx m e b (held p) h k = k u p h

passes : (splits : List ℕ) (c : Bool) (o : Option SessionState) (es : List Placed) → makes_from splits (cond c o None) es ≡ true → c ≡ true
passes splits true o es h = refl
passes splits false o es h = absurd (both_ways false refl h)

-- what an operation of the transaction has seen, and its birth
op_seen_by : (splits : List ℕ) (tx : TxId) (m e : ℕ) (b : Birth) (t : SessionState) (birth : Birth) (nth : ℕ) (seen : Option ℕ) (op : Op) (o : Outcome) (v : Option SessionState) (es : List Placed) → Held tx m e b t → For t tx birth v
    → makes_from splits (op_in_session splits m nth seen op o v) es ≡ true → (seen ≡ Some e) × (b ≡ birth)
unfolding Held
op_seen_by splits tx m e b t birth nth seen op o None es k f h = absurd (both_ways false refl h)
op_seen_by splits tx m e b t birth nth seen op o (Some _) es (inl p) (the_same q r) h =
    let c = passes splits (is_number t m nth op && lies_in splits m op && same_option seen (epoch_at m t.touched)) (op_answered m nth op t o) es h in
    (option_true seen (epoch_at m t.touched) (and_parts (is_number t m nth op && lies_in splits m op) _ c).1 ∙ p.2, one_birth b birth (sym p.1 ∙ r))
  where
    one_birth : (a c : Birth) → Some a ≡ Some c → a ≡ c
    one_birth a c h = cc
op_seen_by splits tx m e b t birth nth seen op o (Some _) es (inr l) (the_same q r) h = absurd (apart (ap (λ z. z.serial) q) l)
  where
    apart : tx.serial ≡ (t.tx).serial → tx.serial < (t.tx).serial → ⊥
    apart a c = omega (arith, a, c)
op_seen_by splits tx m e b t birth nth seen op o (Some _) es (inl p) (a_new_one k) h = absurd (apart (ap (λ z. z.serial) p.0) k)
  where
    apart : (t.tx).serial ≡ tx.serial → (t.tx).serial < tx.serial → ⊥
    apart a c = omega (arith, a, c)
op_seen_by splits tx m e b t birth nth seen op o (Some _) es (inr l) (a_new_one k) h = absurd (omega (arith, l, k))

-- an entry that is an operation, with what it was answered
pub record OpAt (y : Placed) (tx : TxId) (birth : Birth) (seen : Option ℕ) : Type 0 where
  pub nth : ℕ
  pub op : Op
  pub is : (y.1).event ≡ OpEvent tx birth nth seen op

pub record AnswersAt (y : Placed) (tx : TxId) (birth : Birth) (epoch : ℕ) : Type 0 where
  pub seen : Option ℕ
  pub answer : Answer
  pub at : OpAt y tx birth seen
  pub outcome : (y.1).outcome ≡ Answered answer epoch
  pub saw : SeenIs seen epoch

later_seen : (splits : List ℕ) (es : List Placed) (t : SessionState) (x : Placed) (tx : TxId) (e : ℕ) (b birth : Birth) (seen : Option ℕ) → Held tx x.0 e b t → makes_from splits (Some t) es ≡ true → Among x es → OpAt x tx birth seen
    → (seen ≡ Some e) × (b ≡ birth)
later_seen splits [] t x tx e b birth seen k h i a = elim i [ ]
later_seen splits (z ∷ zs) t x tx e b birth seen k h (inl i) a =
    op_seen_by splits tx x.0 e b t birth a.nth seen a.op (x.1).outcome (session_for t tx birth) zs k (for_by t tx birth (tx_same tx t.tx) refl)
    (subst (λ c. makes_from splits (session_after splits x.0 t c (x.1).outcome) zs ≡ true) a.is (subst (λ c. makes_from splits (session_after splits c.0 t (c.1).event (c.1).outcome) zs ≡ true) i h))
later_seen splits (z ∷ zs) t x tx e b birth seen k h (inr i) a =
    goes splits (session_after splits z.0 t (z.1).event (z.1).outcome) zs tx x.0 e b (held_next splits tx x.0 e b z.0 t (z.1).event (z.1).outcome k) h (λ u q g. later_seen splits zs u x tx e b birth seen q g i a)

abbrev after_answer : SessionState → ℕ → ℕ → Op → Answer → ℕ → SessionState
after_answer v n nth op a epoch = record (numbered nth v) { scanned = scan_shard n op; touched = touch n epoch v.touched; written = with_written n nth (has_written op a) v.written }

first_held : (tx : TxId) (n nth : ℕ) (op : Op) (t v : SessionState) (birth : Birth) (seen : Option ℕ) (a : Answer) (epoch : ℕ) → For t tx birth (Some v) → seen ≡ epoch_at n v.touched → SeenIs seen epoch
    → Held tx n epoch birth (after_answer v n nth op a epoch)
unfolding Held
first_held tx n nth op t _ birth seen a epoch (the_same q r) e s = inl (sym q, r, touch_new n epoch seen t.touched e s)
first_held tx n nth op t _ birth seen a epoch (a_new_one k) e s = inl (refl, refl, touch_new n epoch seen [] e s)

held_first : (splits : List ℕ) (tx : TxId) (n nth : ℕ) (op : Op) (t : SessionState) (birth : Birth) (seen : Option ℕ) (a : Answer) (epoch : ℕ) (v : Option SessionState) (es : List Placed) {X : Type 0} → For t tx birth v → SeenIs seen epoch
    → makes_from splits (op_in_session splits n nth seen op (Answered a epoch) v) es ≡ true → ((u : SessionState) → Held tx n epoch birth u → makes_from splits (Some u) es ≡ true → X) → X
held_first splits tx n nth op t birth seen a epoch None es f s h k = absurd (both_ways false refl h)
held_first splits tx n nth op t birth seen a epoch (Some v) es {X} f s h k = at (is_number v n nth op && lies_in splits n op && same_option seen (epoch_at n v.touched)) refl h
  where
    at : (c : Bool) → (is_number v n nth op && lies_in splits n op && same_option seen (epoch_at n v.touched)) ≡ c → makes_from splits (cond c (op_answered n nth op v (Answered a epoch)) None) es ≡ true → X
    at true q g =
        k (after_answer v n nth op a epoch)
        (first_held tx n nth op t v birth seen a epoch f (option_true seen (epoch_at n v.touched) (and_parts (is_number v n nth op && lies_in splits n op) _ q).1) s) g
    at false q g = absurd (both_ways false refl g)

-- of two operations of a transaction on a shard, the later has seen the epoch that answered the earlier, and is of its birth
pub has_seen : (splits : List ℕ) (es : List Placed) (t : SessionState) (y x : Placed) (tx : TxId) (b birth : Birth) (e : ℕ) (seen : Option ℕ) → makes_from splits (Some t) es ≡ true → Precedes y x es → y.0 ≡ x.0 → AnswersAt y tx b e
    → OpAt x tx birth seen → (seen ≡ Some e) × (b ≡ birth)
has_seen splits [] t y x tx b birth e seen h p q a c = elim p [ ]
has_seen splits (z ∷ zs) t y x tx b birth e seen h (inl p) q a c =
    let h1 = subst (λ w. makes_from splits (session_after splits w.0 t (w.1).event (w.1).outcome) zs ≡ true) p.0 h in
    let h2 = subst (λ w. makes_from splits (session_after splits y.0 t w (y.1).outcome) zs ≡ true) (a.at).is h1 in
    let h3 = subst (λ w. makes_from splits (session_after splits y.0 t (OpEvent tx b (a.at).nth a.seen (a.at).op) w) zs ≡ true) a.outcome h2 in
    held_first splits tx y.0 (a.at).nth (a.at).op t b a.seen a.answer e (session_for t tx b) zs (for_by t tx b (tx_same tx t.tx) refl) a.saw h3
    (λ u k g. later_seen splits zs u x tx e b birth seen (subst (λ w. Held tx w e b u) q k) g p.1 c)
has_seen splits (z ∷ zs) t y x tx b birth e seen h (inr p) q a c = at (session_after splits z.0 t (z.1).event (z.1).outcome) h (λ u g. has_seen splits zs u y x tx b birth e seen g p q a c)
  where
    at : (v : Option SessionState) → makes_from splits v zs ≡ true → ((u : SessionState) → makes_from splits (Some u) zs ≡ true → (seen ≡ Some e) × (b ≡ birth)) → (seen ≡ Some e) × (b ≡ birth)
    at None g k = absurd (both_ways false refl g)
    at (Some u) g k = k u g
