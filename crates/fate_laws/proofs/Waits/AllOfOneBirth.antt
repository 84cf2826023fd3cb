-- All operations of a transaction are of one birth, on whatever shards.
use Rattle.std.proofs.Common.{◌≡◌, ◌⊎◌, inl, inr, refl, sym, ap, subst, ◌∙◌, ℕ, ◌<◌, true, false, cond, Bool, List, [], ◌∷◌, Option, Some, None, ◌&&◌, arith}
use Rattle.std.proofs.lemmas.Bool.{both_ways}
use Rattle.clv_base.specs.declared.names.TxId.{TxId}
use Rattle.clv_base.specs.declared.names.Birth.{Birth}
use Rattle.clv_base.specs.declared.ops.Op.{Op}
use Rattle.clv_base.specs.declared.events.Event.{Event}
use Rattle.clv_base.specs.declared.events.Event.TheVariants.{Op as OpEvent, RollTo, Request as RequestEvent, Look, Drop}
use Rattle.clv_base.specs.declared.events.Outcome.{Outcome}
use Rattle.clv_base.specs.declared.events.Outcome.TheVariants.{Answered, Dead, Asked, Acknowledged, Aborted}
use Rattle.clv_base.specs.Orders.{tx_same}
use Rattle.clv_base.specs.Sessions.{SessionState, is_number, lies_in, begun, session_for, op_answered, op_in_session, requested, looked, session_after, makes_from}
use Rattle.clv_base.specs.LogRules.{same_option}
use Rattle.history_cases.proofs.Merging.{Placed, Among, Precedes}
use Rattle.history_laws.proofs.Entries.GoingsBackOfSessions.{Same, Back, no_back, went, died, back_after}
use Rattle.history_laws.proofs.RequestsNameWhatAnswered.SessionsFollowTheirOperations.{For, the_same, a_new_one, for_by, epoch_at}

-- the session's transaction is this one, of this birth, or a later one
abbrev Is : TxId → Birth → SessionState → Type 0
Is tx b t = ((t.tx ≡ tx) × (t.birth ≡ Some b)) ⊎ (tx.serial < (t.tx).serial)

data IsIn (tx : TxId) (b : Birth) : Option SessionState → Type 0 where
  gone : IsIn tx b None
  is_in : {u : SessionState} → Is tx b u → IsIn tx b (Some u)

if_in : (tx : TxId) (b : Birth) (c : Bool) (o : Option SessionState) → IsIn tx b o → IsIn tx b (cond c o None)
if_in tx b true o h = h
if_in tx b false o h = gone

found_in : (tx u : TxId) (b birth : Birth) (t v : SessionState) → Is tx b t → For t u birth (Some v) → Is tx b v
found_in tx u b birth t _ (inl p) (the_same q r) = inl p
found_in tx u b birth t _ (inr l) (the_same q r) = inr l
found_in tx u b birth t _ (inl p) (a_new_one k) = inr (subst (λ z. z.serial < u.serial) p.0 k)
found_in tx u b birth t _ (inr l) (a_new_one k) = inr (omega (arith, l, k))

answered_in : (tx : TxId) (b : Birth) (v : SessionState) (n nth : ℕ) (op : Op) (o : Outcome) → Is tx b v → IsIn tx b (op_answered n nth op v o)
answered_in tx b v n nth op (Answered a epoch) h = is_in h
answered_in tx b v n nth op (Dead cause) h = is_in h
answered_in tx b v n nth op _ h = gone

op_in : (splits : List ℕ) (tx u : TxId) (b birth : Birth) (t : SessionState) (n nth : ℕ) (seen : Option ℕ) (op : Op) (o : Outcome) (v : Option SessionState) → Is tx b t → For t u birth v → IsIn tx b (op_in_session splits n nth seen op o v)
op_in splits tx u b birth t n nth seen op o None h f = gone
op_in splits tx u b birth t n nth seen op o (Some v) h f =
    if_in tx b (is_number v n nth op && lies_in splits n op && same_option seen (epoch_at n v.touched)) _ (answered_in tx b v n nth op o (found_in tx u b birth t v h f))

request_in : (tx : TxId) (b : Birth) (t : SessionState) (n : ℕ) (o : Outcome) → Is tx b t → IsIn tx b (requested n t o)
request_in tx b t n Asked h = is_in h
request_in tx b t n (Dead cause) h = is_in h
request_in tx b t n _ h = gone

look_in : (tx : TxId) (b : Birth) (t : SessionState) (o : Outcome) → Is tx b t → IsIn tx b (looked t o)
look_in tx b t Acknowledged h = is_in h
look_in tx b t (Aborted cause) h = is_in h
look_in tx b t _ h = gone

same_is : (tx : TxId) (b : Birth) (u t : SessionState) → Same u t → Is tx b t → Is tx b u
same_is tx b u t s (inl p) = inl (s.tx ∙ p.0, s.birth ∙ p.1)
same_is tx b u t s (inr l) = inr (subst (λ z. tx.serial < z.serial) (sym s.tx) l)

back_in : (tx : TxId) (b : Birth) (t : SessionState) (u : TxId) (n : ℕ) (o : Outcome) (v : Option SessionState) → Is tx b t → Back t u n o v → IsIn tx b v
back_in tx b t u n o _ h no_back = gone
back_in tx b t u n _ _ h (went m s p) = is_in (same_is tx b _ t s h)
back_in tx b t u n _ _ h (died cause m s p) = is_in (same_is tx b _ t s h)

next_in : (splits : List ℕ) (tx : TxId) (b : Birth) (n : ℕ) (t : SessionState) (e : Event) (o : Outcome) → Is tx b t → IsIn tx b (session_after splits n t e o)
next_in splits tx b n t (OpEvent u birth nth seen op) o h = op_in splits tx u b birth t n nth seen op o (session_for t u birth) h (for_by t u birth (tx_same u t.tx) refl)
next_in splits tx b n t (RollTo u nth seen upto) o h = back_in tx b t u n o _ h (back_after splits n t u nth seen upto o)
next_in splits tx b n t (RequestEvent u ts) o h = if_in tx b _ _ (request_in tx b t n o h)
next_in splits tx b n t (Look u) o h = if_in tx b _ _ (look_in tx b t o h)
next_in splits tx b n t (Drop u) o h = if_in tx b _ _ (is_in h)
next_in splits tx b n t _ o h = is_in h

goes : (splits : List ℕ) (tx : TxId) (b : Birth) (v : Option SessionState) (es : List Placed) {X : Type 0} → IsIn tx b v → makes_from splits v es ≡ true → ((u : SessionState) → Is tx b u → makes_from splits (Some u) es ≡ true → X) → X
goes splits tx b None es gone h k = absurd (both_ways false refl h)
goes splits tx b (Some u) es (is_in p) h k = k u p h

-- an operation of it is of this birth
born_so : (splits : List ℕ) (tx : TxId) (b birth : Birth) (t : SessionState) (n nth : ℕ) (seen : Option ℕ) (op : Op) (o : Outcome) (v : Option SessionState) (es : List Placed) → Is tx b t → For t tx birth v → makes_from splits (op_in_session splits n nth seen op o v) es ≡ true → b ≡ birth
born_so splits tx b birth t n nth seen op o None es h f m = absurd (both_ways false refl m)
born_so splits tx b birth t n nth seen op o (Some _) es (inl p) (the_same q r) m = one_birth b birth (sym p.1 ∙ r)
  where
    one_birth : (a c : Birth) → Some a ≡ Some c → a ≡ c
    one_birth a c h = cc
born_so splits tx b birth t n nth seen op o (Some _) es (inr l) (the_same q r) m = absurd (apart (ap (λ z. z.serial) q) l)
  where
    apart : tx.serial ≡ (t.tx).serial → tx.serial < (t.tx).serial → ⊥
    apart a c = omega (arith, a, c)
born_so splits tx b birth t n nth seen op o (Some _) es (inl p) (a_new_one k) m = absurd (apart (ap (λ z. z.serial) p.0) k)
  where
    apart : (t.tx).serial ≡ tx.serial → (t.tx).serial < tx.serial → ⊥
    apart a c = omega (arith, a, c)
born_so splits tx b birth t n nth seen op o (Some _) es (inr l) (a_new_one k) m = absurd (omega (arith, l, k))

-- an entry that is an operation of this transaction and birth
abbrev pub IsOpOf : TxId → Birth → Placed → Type 0
IsOpOf tx b x = (nth : ℕ) × (seen : Option ℕ) × (op : Op) × ((x.1).event ≡ OpEvent tx b nth seen op)

later_born : (splits : List ℕ) (es : List Placed) (t : SessionState) (x : Placed) (tx : TxId) (b birth : Birth) → Is tx b t → makes_from splits (Some t) es ≡ true → Among x es → IsOpOf tx birth x → b ≡ birth
later_born splits [] t x tx b birth k h i a = elim i [ ]
later_born splits (z ∷ zs) t x tx b birth k h (inl i) (nth, seen, op, e) =
    born_so splits tx b birth t x.0 nth seen op (x.1).outcome (session_for t tx birth) zs k (for_by t tx birth (tx_same tx t.tx) refl)
    (subst (λ c. makes_from splits (session_after splits x.0 t c (x.1).outcome) zs ≡ true) e (subst (λ c. makes_from splits (session_after splits c.0 t (c.1).event (c.1).outcome) zs ≡ true) i h))
later_born splits (z ∷ zs) t x tx b birth k h (inr i) a =
    goes splits tx b (session_after splits z.0 t (z.1).event (z.1).outcome) zs (next_in splits tx b z.0 t (z.1).event (z.1).outcome k) h (λ u q g. later_born splits zs u x tx b birth q g i a)

first_in : (tx : TxId) (b : Birth) (t v : SessionState) (n nth : ℕ) (op : Op) (o : Outcome) → For t tx b (Some v) → IsIn tx b (op_answered n nth op v o)
first_in tx b t _ n nth op o (the_same q r) = answered_in tx b t n nth op o (inl (sym q, r))
first_in tx b t _ n nth op o (a_new_one k) = answered_in tx b (begun t tx b) n nth op o (inl (refl, refl))

first_op : (splits : List ℕ) (tx : TxId) (b : Birth) (t : SessionState) (n nth : ℕ) (seen : Option ℕ) (op : Op) (o : Outcome) (v : Option SessionState) → For t tx b v → IsIn tx b (op_in_session splits n nth seen op o v)
first_op splits tx b t n nth seen op o None f = gone
first_op splits tx b t n nth seen op o (Some v) f = if_in tx b (is_number v n nth op && lies_in splits n op && same_option seen (epoch_at n v.touched)) _ (first_in tx b t v n nth op o f)

-- two operations of a transaction, one after the other, are of one birth
pub one_birth : (splits : List ℕ) (es : List Placed) (t : SessionState) (y x : Placed) (tx : TxId) (b birth : Birth) → makes_from splits (Some t) es ≡ true → Precedes y x es → IsOpOf tx b y → IsOpOf tx birth x → b ≡ birth
one_birth splits [] t y x tx b birth h p a c = elim p [ ]
one_birth splits (z ∷ zs) t y x tx b birth h (inl p) (nth, seen, op, e) c =
    let h1 = subst (λ w. makes_from splits (session_after splits w.0 t (w.1).event (w.1).outcome) zs ≡ true) p.0 h in
    let h2 = subst (λ w. makes_from splits (session_after splits y.0 t w (y.1).outcome) zs ≡ true) e h1 in
    goes splits tx b (op_in_session splits y.0 nth seen op (y.1).outcome (session_for t tx b)) zs (first_op splits tx b t y.0 nth seen op (y.1).outcome (session_for t tx b) (for_by t tx b (tx_same tx t.tx) refl)) h2
    (λ u k g. later_born splits zs u x tx b birth k g p.1 c)
one_birth splits (z ∷ zs) t y x tx b birth h (inr p) a c = at (session_after splits z.0 t (z.1).event (z.1).outcome) h (λ u g. one_birth splits zs u y x tx b birth g p a c)
  where
    at : (v : Option SessionState) → makes_from splits v zs ≡ true → ((u : SessionState) → makes_from splits (Some u) zs ≡ true → b ≡ birth) → b ≡ birth
    at None g k = absurd (both_ways false refl g)
    at (Some u) g k = k u g
