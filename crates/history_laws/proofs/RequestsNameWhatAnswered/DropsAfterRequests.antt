-- A session drops a transaction that made its request only where a look found it aborted.
use Rattle.std.proofs.Common.{◌≡◌, ◌⊎◌, inl, inr, refl, sym, ap, subst, ◌∙◌, ℕ, ◌<◌, true, false, cond, Bool, List, [], ◌∷◌, Option, Some, None, not, ◌&&◌, ◌==◌, nat_lt, arith}
use Rattle.std.specs.Map.{lookup}
use Rattle.std.proofs.lemmas.Bool.{both_ways, and_parts, ltb-true}
use Rattle.clv_base.specs.declared.names.TxId.{TxId}
use Rattle.clv_base.specs.declared.names.Birth.{Birth}
use Rattle.clv_base.specs.declared.ops.Op.{Op}
use Rattle.clv_base.specs.declared.causes.AbortCause.{AbortCause}
use Rattle.clv_base.specs.declared.events.Event.{Event}
use Rattle.clv_base.specs.declared.events.Event.TheVariants.{Op as OpEvent, Request, Look, Drop, RollTo}
use Rattle.clv_base.specs.declared.events.Outcome.{Outcome}
use Rattle.clv_base.specs.declared.events.Outcome.TheVariants.{Answered, Dead, Asked, Acknowledged, Aborted}
use Rattle.clv_base.specs.Orders.{tx_same}
use Rattle.clv_base.specs.LogRules.{same_option}
use Rattle.clv_base.specs.Sessions.{Phase, Touching, Ended, Standing, Told, Refused, SessionState, is_number, lies_in, is_touching, same_birth, follows_birth, goes_on, begins, begun, session_for, op_in_session, same_touched, is_lowest, requested, looked, stands_at, may_drop, after_drop, session_after, makes_from, is_whole_now}
use Rattle.clv_base.proofs.SameNames.{tx_true}
use Rattle.history_cases.proofs.Merging.{Placed, Among, Precedes}
use Rattle.history_laws.proofs.Entries.GoingsBackOfSessions.{Back, no_back, went, died, back_after}

-- its request stands, or it was told that it is acknowledged
stands : Phase → Bool
stands Touching = false
stands Ended = false
stands (Standing home) = true
stands Told = true
stands Refused = false

not_touching : (p : Phase) → stands p ≡ true → is_touching p ≡ false
unfolding stands
not_touching Touching e = absurd (both_ways false refl e)
not_touching Ended e = absurd (both_ways false refl e)
not_touching (Standing home) e = refl
not_touching Told e = refl
not_touching Refused e = absurd (both_ways false refl e)

not_dropping : (p : Phase) → stands p ≡ true → may_drop p ≡ false
unfolding stands
not_dropping Touching e = absurd (both_ways false refl e)
not_dropping Ended e = absurd (both_ways false refl e)
not_dropping (Standing home) e = refl
not_dropping Told e = refl
not_dropping Refused e = absurd (both_ways false refl e)

Stands : TxId → SessionState → Type 0
Stands tx t = ((t.tx ≡ tx) × (stands t.phase ≡ true)) ⊎ (tx.serial < (t.tx).serial)

-- where it goes on: a look that found it aborted, or it stands still, and it isn't dropped
data Goes (tx : TxId) : Event → Outcome → Option SessionState → Type 0 where
  gone : {e : Event} {o : Outcome} → Goes tx e o None
  aborts : {c : AbortCause} {u : SessionState} → Goes tx (Look tx) (Aborted c) (Some u)
  on : {e : Event} {o : Outcome} {u : SessionState} → (e ≡ Drop tx → ⊥) → Stands tx u → Goes tx e o (Some u)

goes_if : (tx : TxId) (e : Event) (o : Outcome) (b : Bool) (v : Option SessionState) → (b ≡ true → Goes tx e o v) → Goes tx e o (cond b v None)
goes_if tx e o true v k = k refl
goes_if tx e o false v k = gone

-- whose session an operation finds: one that may go on, or a later one
pub data ForOn (t : SessionState) (u : TxId) (birth : Birth) : Option SessionState → Type 0 where
  nobody_on : ForOn t u birth None
  same_on : u ≡ t.tx → is_touching t.phase ≡ true → ForOn t u birth (Some t)
  new_on : (t.tx).serial < u.serial → ForOn t u birth (Some (begun t u birth))

on_if : (t : SessionState) (u : TxId) (birth : Birth) (b : Bool) → goes_on t u birth ≡ b → u ≡ t.tx → ForOn t u birth (cond b (Some t) None)
on_if t u birth true e q = same_on q (and_parts (is_touching t.phase) (same_birth t.birth birth) e).0
on_if t u birth false e q = nobody_on

new_if : (t : SessionState) (u : TxId) (birth : Birth) (b : Bool) → begins t u birth ≡ b → ForOn t u birth (cond b (Some (begun t u birth)) None)
new_if t u birth true e =
    let p = and_parts ((u.run == (t.tx).run) && (u.session == (t.tx).session) && nat_lt (t.tx).serial u.serial && (birth.session == u.session)) (follows_birth t.birth birth t.phase) e in
    let q = and_parts ((u.run == (t.tx).run) && (u.session == (t.tx).session) && nat_lt (t.tx).serial u.serial) (birth.session == u.session) p.0 in
    let r = and_parts ((u.run == (t.tx).run) && (u.session == (t.tx).session)) (nat_lt (t.tx).serial u.serial) q.0 in
    new_on (ltb-true _ _ r.1)
new_if t u birth false e = nobody_on

pub on_by : (t : SessionState) (u : TxId) (birth : Birth) (b : Bool) → tx_same u t.tx ≡ b
    → ForOn t u birth (cond b (cond (goes_on t u birth) (Some t) None) (cond (begins t u birth) (Some (begun t u birth)) None))
on_by t u birth true e = on_if t u birth (goes_on t u birth) refl (tx_true u t.tx e)
on_by t u birth false e = new_if t u birth (begins t u birth) refl

data Later (tx : TxId) : Option SessionState → Type 0 where
  no_one : Later tx None
  later : {v : SessionState} → tx.serial < (v.tx).serial → Later tx (Some v)

-- an operation goes on only where it is of another transaction, or later
op_goes : (splits : List ℕ) (tx u : TxId) (t : SessionState) (birth : Birth) (n nth : ℕ) (seen : Option ℕ) (op : Op) (o : Outcome) (v : Option SessionState) → Later tx v
    → Goes tx (OpEvent u birth nth seen op) o (op_in_session splits n nth seen op o v)
unfolding Stands
op_goes splits tx u t birth n nth seen op o None k = gone
op_goes splits tx u t birth n nth seen op (Answered a e) (Some v) (later l) =
    goes_if tx _ _ (is_number v n nth op && lies_in splits n op && same_option seen (lookup (◌==◌ n) v.touched)) _ (λ b. on (no_drop u birth nth seen op) (inr l))
  where
    no_drop : (u : TxId) (birth : Birth) (nth : ℕ) (seen : Option ℕ) (op : Op) → OpEvent u birth nth seen op ≡ Drop tx → ⊥
    no_drop u birth nth seen op z = absurd cc
op_goes splits tx u t birth n nth seen op (Dead c) (Some v) (later l) =
    goes_if tx _ _ (is_number v n nth op && lies_in splits n op && same_option seen (lookup (◌==◌ n) v.touched)) _ (λ b. on (no_drop u birth nth seen op) (inr l))
  where
    no_drop : (u : TxId) (birth : Birth) (nth : ℕ) (seen : Option ℕ) (op : Op) → OpEvent u birth nth seen op ≡ Drop tx → ⊥
    no_drop u birth nth seen op z = absurd cc
op_goes splits tx u t birth n nth seen op _ (Some v) k = goes_if tx _ _ (is_number v n nth op && lies_in splits n op && same_option seen (lookup (◌==◌ n) v.touched)) None (λ b. gone)

later_on : (tx u : TxId) (t : SessionState) (birth : Birth) (v : Option SessionState) → Stands tx t → ForOn t u birth v → Later tx v
unfolding Stands
later_on tx u t birth None s f = no_one
later_on tx u t birth (Some _) (inl p) (same_on q h) = absurd (both_ways _ (not_touching t.phase p.1) h)
later_on tx u t birth (Some _) (inr l) (same_on q h) = later l
later_on tx u t birth (Some _) (inl p) (new_on k) = later (subst (λ z. z.serial < u.serial) p.0 k)
later_on tx u t birth (Some _) (inr l) (new_on k) = later (omega (arith, l, k))

request_goes : (tx u : TxId) (t : SessionState) (ts : List (ℕ × ℕ)) (n : ℕ) (o : Outcome) → Stands tx t → is_touching t.phase ≡ true → Goes tx (Request u ts) o (requested n t o)
unfolding Stands
request_goes tx u t ts n o (inl p) h = absurd (both_ways _ (not_touching t.phase p.1) h)
request_goes tx u t ts n Asked (inr l) h = on (no_drop u ts) (inr l)
  where
    no_drop : (u : TxId) (ts : List (ℕ × ℕ)) → Request u ts ≡ Drop tx → ⊥
    no_drop u ts z = absurd cc
request_goes tx u t ts n (Dead c) (inr l) h = on (no_drop u ts) (inr l)
  where
    no_drop : (u : TxId) (ts : List (ℕ × ℕ)) → Request u ts ≡ Drop tx → ⊥
    no_drop u ts z = absurd cc
request_goes tx u t ts n _ (inr l) h = gone

look_goes : (tx u : TxId) (t : SessionState) (o : Outcome) → Stands tx t → u ≡ t.tx → Goes tx (Look u) o (looked t o)
unfolding Stands stands
look_goes tx u t Acknowledged (inl p) q = on (no_drop u) (inl (p.0, refl))
  where
    no_drop : (u : TxId) → Look u ≡ Drop tx → ⊥
    no_drop u z = absurd cc
look_goes tx u t (Aborted c) (inl p) q = subst (λ z. Goes tx (Look z) (Aborted c) (looked t (Aborted c))) (sym p.0 ∙ sym q) aborts
look_goes tx u t Acknowledged (inr l) q = on (no_drop u) (inr l)
  where
    no_drop : (u : TxId) → Look u ≡ Drop tx → ⊥
    no_drop u z = absurd cc
look_goes tx u t (Aborted c) (inr l) q = on (no_drop u) (inr l)
  where
    no_drop : (u : TxId) → Look u ≡ Drop tx → ⊥
    no_drop u z = absurd cc
look_goes tx u t _ s q = gone

-- so does a going back
back_goes : (tx u : TxId) (t : SessionState) (n nth seen upto : ℕ) (o : Outcome) (v : Option SessionState) → Stands tx t → Back t u n o v → Goes tx (RollTo u nth seen upto) o v
unfolding Stands
back_goes tx u t n nth seen upto o _ s no_back = gone
back_goes tx u t n nth seen upto _ _ (inl p) (went m q e) = absurd (both_ways _ (not_touching t.phase p.1) m.touching)
back_goes tx u t n nth seen upto _ _ (inr l) (went m q e) = on (no_drop u nth seen upto) (inr (subst (λ z. tx.serial < z.serial) (sym q.tx) l))
  where
    no_drop : (u : TxId) (nth seen upto : ℕ) → RollTo u nth seen upto ≡ Drop tx → ⊥
    no_drop u nth seen upto z = absurd cc
back_goes tx u t n nth seen upto _ _ (inl p) (died c m q e) = absurd (both_ways _ (not_touching t.phase p.1) m.touching)
back_goes tx u t n nth seen upto _ _ (inr l) (died c m q e) = on (no_drop u nth seen upto) (inr (subst (λ z. tx.serial < z.serial) (sym q.tx) l))
  where
    no_drop : (u : TxId) (nth seen upto : ℕ) → RollTo u nth seen upto ≡ Drop tx → ⊥
    no_drop u nth seen upto z = absurd cc

drop_goes : (tx u : TxId) (t : SessionState) (o : Outcome) → Stands tx t → u ≡ t.tx → may_drop t.phase ≡ true → Goes tx (Drop u) o (Some (record t { phase = after_drop t.phase }))
unfolding Stands
drop_goes tx u t o (inl p) q h = absurd (both_ways _ (not_dropping t.phase p.1) h)
drop_goes tx u t o (inr l) q h = on (λ z. apart (ap (λ w. w.serial) (sym q ∙ one_name u z)) l) (inr l)
  where
    one_name : (u : TxId) → Drop u ≡ Drop tx → u ≡ tx
    one_name u z = cc

    apart : (t.tx).serial ≡ tx.serial → tx.serial < (t.tx).serial → ⊥
    apart a b = omega (arith, a, b)

goes_next : (splits : List ℕ) (tx : TxId) (n : ℕ) (t : SessionState) (e : Event) (o : Outcome) → Stands tx t → Goes tx e o (session_after splits n t e o)
goes_next splits tx n t (OpEvent u birth nth seen op) o s = op_goes splits tx u t birth n nth seen op o (session_for t u birth) (later_on tx u t birth (session_for t u birth) s (on_by t u birth (tx_same u t.tx) refl))
goes_next splits tx n t (RollTo u nth seen upto) o s = back_goes tx u t n nth seen upto o _ s (back_after splits n t u nth seen upto o)
goes_next splits tx n t (Request u ts) o s =
    goes_if tx (Request u ts) o (tx_same u t.tx && is_touching t.phase && is_whole_now t && same_touched ts t.touched && is_lowest n ts) (requested n t o)
    (λ e.
    let p = and_parts (tx_same u t.tx && is_touching t.phase && is_whole_now t && same_touched ts t.touched) (is_lowest n ts) e in
    let q = and_parts (tx_same u t.tx && is_touching t.phase && is_whole_now t) (same_touched ts t.touched) p.0 in
    let w = and_parts (tx_same u t.tx && is_touching t.phase) (is_whole_now t) q.0 in
    request_goes tx u t ts n o s (and_parts (tx_same u t.tx) (is_touching t.phase) w.0).1)
goes_next splits tx n t (Look u) o s = goes_if tx (Look u) o (tx_same u t.tx && stands_at n t.phase) (looked t o) (λ e. look_goes tx u t o s (tx_true u t.tx (and_parts (tx_same u t.tx) (stands_at n t.phase) e).0))
goes_next splits tx n t (Drop u) o s =
    goes_if tx (Drop u) o (tx_same u t.tx && may_drop t.phase && not ((t.tx).serial == 0)) (Some (record t { phase = after_drop t.phase }))
    (λ e.
    let p = and_parts (tx_same u t.tx && may_drop t.phase) (not ((t.tx).serial == 0)) e in
    let q = and_parts (tx_same u t.tx) (may_drop t.phase) p.0 in
    drop_goes tx u t o s (tx_true u t.tx q.0) q.1)
goes_next splits tx n t _ o s = on (λ z. absurd cc) s

-- ---- along a session

abbrev pub AbortedBefore : TxId → Placed → List Placed → Type 0
AbortedBefore tx x es = (y : Placed) × (c : AbortCause) × Precedes y x es × ((y.1).event ≡ Look tx) × ((y.1).outcome ≡ Aborted c)

further : (tx : TxId) (x z : Placed) (zs : List Placed) → AbortedBefore tx x zs → AbortedBefore tx x (z ∷ zs)
further tx x z zs (y, c, p, e, f) = (y, c, inr p, e, f)

drop_case : (splits : List ℕ) (tx : TxId) (x z : Placed) (zs : List Placed) (e : Event) (o : Outcome) (v : Option SessionState) → (z.1).event ≡ e → (z.1).outcome ≡ o → Goes tx e o v → makes_from splits v zs ≡ true
    → (z ≡ x) ⊎ Among x zs → (x.1).event ≡ Drop tx → ((u : SessionState) → Stands tx u → makes_from splits (Some u) zs ≡ true → Among x zs → AbortedBefore tx x zs) → AbortedBefore tx x (z ∷ zs)
drop_case splits tx x z zs e o None f g gone h i d k = absurd (both_ways false refl h)
drop_case splits tx x z zs _ _ (Some u) f g (aborts {c = c}) h (inl i) d k = absurd (other (sym f ∙ ap (λ w. (w.1).event) i ∙ d))
  where
    other : Look tx ≡ Drop tx → ⊥
    other q = absurd cc
drop_case splits tx x z zs _ _ (Some u) f g (aborts {c = c}) h (inr i) d k = (z, c, inl (refl, i), f, g)
drop_case splits tx x z zs e o (Some u) f g (on n s) h (inl i) d k = absurd (n (sym f ∙ ap (λ w. (w.1).event) i ∙ d))
drop_case splits tx x z zs e o (Some u) f g (on n s) h (inr i) d k = further tx x z zs (k u s h i)

dropped_later : (splits : List ℕ) (es : List Placed) (t : SessionState) (tx : TxId) (x : Placed) → Stands tx t → makes_from splits (Some t) es ≡ true → Among x es → (x.1).event ≡ Drop tx → AbortedBefore tx x es
dropped_later splits [] t tx x s h i d = elim i [ ]
dropped_later splits (z ∷ zs) t tx x s h i d =
    drop_case splits tx x z zs (z.1).event (z.1).outcome (session_after splits z.0 t (z.1).event (z.1).outcome) refl refl (goes_next splits tx z.0 t (z.1).event (z.1).outcome s) h i d
    (λ u k g j. dropped_later splits zs u tx x k g j d)

asks_first : (splits : List ℕ) (tx : TxId) (t : SessionState) (ts : List (ℕ × ℕ)) (n : ℕ) (es : List Placed) (b : Bool) {X : Type 0} → (tx_same tx t.tx && is_touching t.phase && is_whole_now t && same_touched ts t.touched && is_lowest n ts) ≡ b
    → makes_from splits (cond b (Some (record t { phase = Standing n })) None) es ≡ true → ((u : SessionState) → Stands tx u → makes_from splits (Some u) es ≡ true → X) → X
unfolding Stands stands
asks_first splits tx t ts n es true e h k =
    let p = and_parts (tx_same tx t.tx && is_touching t.phase && is_whole_now t && same_touched ts t.touched) (is_lowest n ts) e in
    let q = and_parts (tx_same tx t.tx && is_touching t.phase && is_whole_now t) (same_touched ts t.touched) p.0 in
    let w = and_parts (tx_same tx t.tx && is_touching t.phase) (is_whole_now t) q.0 in
    k (record t { phase = Standing n }) (inl (sym (tx_true tx t.tx (and_parts (tx_same tx t.tx) (is_touching t.phase) w.0).0), refl)) h
asks_first splits tx t ts n es false e h k = absurd (both_ways false refl h)

-- a drop after a request: between them a look found the transaction aborted
pub drop_after_request : (splits : List ℕ) (es : List Placed) (t : SessionState) (r x : Placed) (tx : TxId) (ts : List (ℕ × ℕ)) → makes_from splits (Some t) es ≡ true → Precedes r x es → (r.1).event ≡ Request tx ts → (r.1).outcome ≡ Asked
    → (x.1).event ≡ Drop tx → AbortedBefore tx x es
drop_after_request splits [] t r x tx ts h p e o d = elim p [ ]
drop_after_request splits (z ∷ zs) t r x tx ts h (inl p) e o d =
    let h1 = subst (λ w. makes_from splits (session_after splits w.0 t (w.1).event (w.1).outcome) zs ≡ true) p.0 h in
    let h2 = subst (λ w. makes_from splits (session_after splits r.0 t w (r.1).outcome) zs ≡ true) e h1 in
    let h3 = subst (λ w. makes_from splits (session_after splits r.0 t (Request tx ts) w) zs ≡ true) o h2 in
    further tx x z zs
    (asks_first splits tx t ts r.0 zs (tx_same tx t.tx && is_touching t.phase && is_whole_now t && same_touched ts t.touched && is_lowest r.0 ts) refl h3 (λ u s g. dropped_later splits zs u tx x s g p.1 d))
drop_after_request splits (z ∷ zs) t r x tx ts h (inr p) e o d =
    at (session_after splits z.0 t (z.1).event (z.1).outcome) h (λ u g. drop_after_request splits zs u r x tx ts g p e o d)
  where
    at : (v : Option SessionState) → makes_from splits v zs ≡ true → ((u : SessionState) → makes_from splits (Some u) zs ≡ true → AbortedBefore tx x zs) → AbortedBefore tx x (z ∷ zs)
    at None g k = absurd (both_ways false refl g)
    at (Some u) g k = further tx x z zs (k u g)
