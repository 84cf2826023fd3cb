-- Each entry of a legal history that only sessions make is named after its walker, and born there.
use Rattle.std.proofs.Common.{◌≡◌, inl, inr, refl, sym, ap, subst, ◌∙◌, ℕ, suc, Bool, true, false, cond, List, [], ◌∷◌, Option, Some, None, ◌&&◌, ◌==◌, nat_lt, eqb-true}
use Rattle.std.specs.List.{list_all}
use Rattle.std.specs.Ordering.{nat_cmp}
use Rattle.std.proofs.lemmas.Bool.{both_ways, and_parts}
use Rattle.clv_base.specs.declared.names.TxId.{TxId}
use Rattle.clv_base.specs.declared.names.Birth.{Birth}
use Rattle.clv_base.specs.declared.logs.LogRecord.{LogRecord}
use Rattle.clv_base.specs.declared.ops.Op.{Op}
use Rattle.clv_base.specs.declared.events.Event.{Event}
use Rattle.clv_base.specs.declared.events.Event.TheVariants.{Op as OpEvent, RollTo, Request, Look, Drop}
use Rattle.clv_base.specs.declared.events.Outcome.{Outcome}
use Rattle.clv_base.specs.declared.events.Outcome.TheVariants.{Answered, Rolled, Dead, Asked, Acknowledged, Aborted}
use Rattle.clv_base.specs.Orders.{tx_same}
use Rattle.clv_base.specs.Backs.{stands_for_back}
use Rattle.clv_base.specs.Restarts.{run_after}
use Rattle.clv_base.specs.Journals.{History, own}
use Rattle.clv_base.specs.History.{Legal}
use Rattle.clv_base.specs.Sessions.{SessionState, no_session, is_touching, same_birth, follows_birth, goes_on, begins, begun, session_for, op_answered, op_in_session, goes_on_back, numbered, is_whole_now, back_for, went_back, back_in_session, same_touched, is_lowest, requested, looked, stands_at, session_after, makes_from, is_session}
use Rattle.clv_base.proofs.SameNames.{tx_true, nat_cmp_true, then_eq}
use Rattle.history_cases.proofs.Merging.{Placed, Among, in_own}

-- an operation, a going back, a request or a look of this walker's
abbrev pub IsOfWalker : ℕ → Event → Type 0
IsOfWalker w (OpEvent tx birth nth seen op) = (tx.session ≡ w) × (birth.session ≡ w)
IsOfWalker w (RollTo tx nth seen upto) = tx.session ≡ w
IsOfWalker w (Request tx touched) = tx.session ≡ w
IsOfWalker w (Look tx) = tx.session ≡ w
IsOfWalker w _ = Unit {0}

-- a session of the walker's
record IsItsOwn (w : ℕ) (t : SessionState) : Type 0 where
  named : (t.tx).session ≡ w
  born : (b : Birth) → t.birth ≡ Some b → b.session ≡ w

data Goes (w : ℕ) (e : Event) : Option SessionState → Type 0 where
  gone : Goes w e None
  goes : {u : SessionState} → IsOfWalker w e → IsItsOwn w u → Goes w e (Some u)

-- for an operation
data For (w : ℕ) (tx : TxId) (birth : Birth) : Option SessionState → Type 0 where
  nobody : For w tx birth None
  one : {u : SessionState} → tx.session ≡ w → birth.session ≡ w → IsItsOwn w u → For w tx birth (Some u)

same_one : {A : Type 0} {a b : A} → Some a ≡ Some b → a ≡ b
same_one e = cc

sessions_are : (a b : Birth) → same_birth (Some a) b ≡ true → b.session ≡ a.session
sessions_are a b e = sym (nat_cmp_true a.session b.session (then_eq (nat_cmp a.session b.session) _ (then_eq (nat_cmp a.stamp b.stamp) _ e).1).0)

born_there : (w : ℕ) (t : SessionState) (o : Option Birth) (birth : Birth) → t.birth ≡ o → IsItsOwn w t → same_birth o birth ≡ true → birth.session ≡ w
born_there w t None birth e i h = absurd (both_ways false refl h)
born_there w t (Some b) birth e i h = sessions_are b birth h ∙ i.born b e

for_on : (w : ℕ) (t : SessionState) (tx : TxId) (birth : Birth) (b : Bool) → goes_on t tx birth ≡ b → tx ≡ t.tx → IsItsOwn w t → For w tx birth (cond b (Some t) None)
for_on w t tx birth true e s i = one (ap (λ x. x.session) s ∙ i.named) (born_there w t t.birth birth refl i (and_parts (is_touching t.phase) (same_birth t.birth birth) e).1) i
for_on w t tx birth false e s i = nobody

its_new : (w : ℕ) (t : SessionState) (tx : TxId) (birth : Birth) → tx.session ≡ w → birth.session ≡ w → IsItsOwn w (begun t tx birth)
its_new w t tx birth e f = record { named = e; born = λ b s. subst (λ c. c.session ≡ w) (same_one s) f }

for_new : (w : ℕ) (t : SessionState) (tx : TxId) (birth : Birth) (b : Bool) → begins t tx birth ≡ b → IsItsOwn w t → For w tx birth (cond b (Some (begun t tx birth)) None)
for_new w t tx birth true e i =
    let p = and_parts ((tx.run == (t.tx).run) && (tx.session == (t.tx).session) && nat_lt (t.tx).serial tx.serial && (birth.session == tx.session)) (follows_birth t.birth birth t.phase) e in
    let q = and_parts ((tx.run == (t.tx).run) && (tx.session == (t.tx).session) && nat_lt (t.tx).serial tx.serial) (birth.session == tx.session) p.0 in
    let r = and_parts ((tx.run == (t.tx).run) && (tx.session == (t.tx).session)) (nat_lt (t.tx).serial tx.serial) q.0 in
    let named : tx.session ≡ w = eqb-true _ _ (and_parts (tx.run == (t.tx).run) (tx.session == (t.tx).session) r.0).1 ∙ i.named in
    let born : birth.session ≡ w = eqb-true _ _ q.1 ∙ named in
    one named born (its_new w t tx birth named born)
for_new w t tx birth false e i = nobody

for_by : (w : ℕ) (t : SessionState) (tx : TxId) (birth : Birth) (b : Bool) → tx_same tx t.tx ≡ b → IsItsOwn w t → For w tx birth (cond b (cond (goes_on t tx birth) (Some t) None) (cond (begins t tx birth) (Some (begun t tx birth)) None))
for_by w t tx birth true e i = for_on w t tx birth (goes_on t tx birth) refl (tx_true tx t.tx e) i
for_by w t tx birth false e i = for_new w t tx birth (begins t tx birth) refl i

goes_if : (w : ℕ) (e : Event) (c : Bool) (o : Option SessionState) → (c ≡ true → Goes w e o) → Goes w e (cond c o None)
goes_if w e true o g = g refl
goes_if w e false o g = gone

op_out : (w n nth : ℕ) (op : Op) (v : SessionState) (o : Outcome) (e : Event) → IsOfWalker w e → IsItsOwn w v → Goes w e (op_answered n nth op v o)
op_out w n nth op v (Answered answer epoch) e k i = goes k (record { named = i.named; born = i.born })
op_out w n nth op v (Dead cause) e k i = goes k (record { named = i.named; born = i.born })
op_out w n nth op v _ e k i = gone

op_goes : (splits : List ℕ) (w n nth : ℕ) (seen : Option ℕ) (op : Op) (o : Outcome) (tx : TxId) (birth : Birth) (v : Option SessionState) → For w tx birth v → Goes w (OpEvent tx birth nth seen op) (op_in_session splits n nth seen op o v)
op_goes splits w n nth seen op o tx birth None f = gone
op_goes splits w n nth seen op o tx birth (Some v) (one a b i) = goes_if w (OpEvent tx birth nth seen op) _ _ (λ c. op_out w n nth op v o (OpEvent tx birth nth seen op) (a, b) i)

back_out : (w n upto : ℕ) (t : SessionState) (o : Outcome) (e : Event) → IsOfWalker w e → IsItsOwn w t → Goes w e (went_back n upto t o)
back_out w n upto t Rolled e k i = goes k (record { named = i.named; born = i.born })
back_out w n upto t (Dead cause) e k i = goes k (record { named = i.named; born = i.born })
back_out w n upto t _ e k i = gone

-- the session as a going back finds it
back_goes : (w n nth upto : ℕ) (t : SessionState) (o : Outcome) (e : Event) → IsOfWalker w e → IsItsOwn w t → Goes w e (back_in_session n upto o (back_for t n nth upto))
back_goes w n nth upto t o e k i = at (nth == suc t.nth) (nat_lt upto nth) ((nth == t.nth) && goes_on_back t.back n upto)
  where
    new : SessionState
    new = record (numbered nth t) { is_whole = is_whole_now t && stands_for_back nth upto t.backs; backs = (nth, upto) ∷ t.backs }

    at : (a b c : Bool) → Goes w e (back_in_session n upto o (cond a (cond b (Some new) None) (cond c (Some t) None)))
    at true true c = back_out w n upto new o e k (record { named = i.named; born = i.born })
    at true false c = gone
    at false b true = back_out w n upto t o e k i
    at false b false = gone

request_out : (w n : ℕ) (t : SessionState) (o : Outcome) (e : Event) → IsOfWalker w e → IsItsOwn w t → Goes w e (requested n t o)
request_out w n t Asked e k i = goes k (record { named = i.named; born = i.born })
request_out w n t (Dead cause) e k i = goes k (record { named = i.named; born = i.born })
request_out w n t _ e k i = gone

look_out : (w : ℕ) (t : SessionState) (o : Outcome) (e : Event) → IsOfWalker w e → IsItsOwn w t → Goes w e (looked t o)
look_out w t Acknowledged e k i = goes k (record { named = i.named; born = i.born })
look_out w t (Aborted cause) e k i = goes k (record { named = i.named; born = i.born })
look_out w t _ e k i = gone

its_name : (w : ℕ) (t : SessionState) (tx : TxId) → tx_same tx t.tx ≡ true → IsItsOwn w t → tx.session ≡ w
its_name w t tx e i = ap (λ x. x.session) (tx_true tx t.tx e) ∙ i.named

next_goes : (splits : List ℕ) (w n : ℕ) (t : SessionState) (e : Event) (o : Outcome) → IsItsOwn w t → Goes w e (session_after splits n t e o)
next_goes splits w n t (OpEvent tx birth nth seen op) o i = op_goes splits w n nth seen op o tx birth (session_for t tx birth) (for_by w t tx birth (tx_same tx t.tx) refl i)
next_goes splits w n t (RollTo tx nth seen upto) o i =
    goes_if w (RollTo tx nth seen upto) _ _ (λ c.
    let p = and_parts (tx_same tx t.tx && is_touching t.phase) _ c in
    back_goes w n nth upto t o (RollTo tx nth seen upto) (its_name w t tx (and_parts (tx_same tx t.tx) (is_touching t.phase) p.0).0 i) i)
next_goes splits w n t (Request tx touched) o i =
    goes_if w (Request tx touched) _ _ (λ c.
    let p = and_parts (tx_same tx t.tx && is_touching t.phase && is_whole_now t && same_touched touched t.touched) (is_lowest n touched) c in
    let q = and_parts (tx_same tx t.tx && is_touching t.phase && is_whole_now t) (same_touched touched t.touched) p.0 in
    let r = and_parts (tx_same tx t.tx && is_touching t.phase) (is_whole_now t) q.0 in
    request_out w n t o (Request tx touched) (its_name w t tx (and_parts (tx_same tx t.tx) (is_touching t.phase) r.0).0 i) i)
next_goes splits w n t (Look tx) o i = goes_if w (Look tx) _ _ (λ c. look_out w t o (Look tx) (its_name w t tx (and_parts (tx_same tx t.tx) (stands_at n t.phase) c).0 i) i)
next_goes splits w n t (Drop tx) o i = goes_if w (Drop tx) _ _ (λ c. goes tt (record { named = i.named; born = i.born }))
next_goes splits w n t _ o i = goes tt i

-- each of a session's entries is its walker's
one_of : (splits : List ℕ) (w : ℕ) (es : List Placed) (t : SessionState) (x : Placed) → IsItsOwn w t → makes_from splits (Some t) es ≡ true → Among x es → IsOfWalker w (x.1).event
one_of splits w [] t x i h m = elim m [ ]
one_of splits w (e ∷ es) t x i h m =
    at (session_after splits e.0 t (e.1).event (e.1).outcome) (next_goes splits w e.0 t (e.1).event (e.1).outcome i) h (λ u j g n. one_of splits w es u x j g n) m
  where
    at : (o : Option SessionState) → Goes w (e.1).event o → makes_from splits o es ≡ true → ((u : SessionState) → IsItsOwn w u → makes_from splits (Some u) es ≡ true → Among x es → IsOfWalker w (x.1).event) → Among x (e ∷ es) → IsOfWalker w (x.1).event
    at None g h k m = absurd (both_ways false refl h)
    at (Some u) (goes o j) h k (inl p) = subst (λ (z : Placed). IsOfWalker w (z.1).event) p o
    at (Some u) (goes o j) h k (inr n) = k u j h n

its_first : (run w : ℕ) → IsItsOwn w (no_session run w)
its_first run w = record { named = refl; born = λ b e. absurd cc }

pub all_at : (p : Placed → Bool) (x : Placed) (xs : List Placed) → list_all p xs ≡ true → Among x xs → p x ≡ true
all_at p x [] h m = elim m [ ]
all_at p x (y ∷ ys) h (inl e) = subst (λ (z : Placed). p z ≡ true) e (and_parts (p y) (list_all p ys) h).0
all_at p x (y ∷ ys) h (inr m) = all_at p x ys (and_parts (p y) (list_all p ys) h).1 m

-- each entry of a legal history is its walker's
abbrev pub AreTheirs : History → Type 0
AreTheirs h = (x : Placed) → Among x h → IsOfWalker (x.1).walker (x.1).event

pub are_theirs : (splits : List ℕ) (before : List (List LogRecord)) (h : History) (after : List (List LogRecord)) → Legal splits before h after → AreTheirs h
are_theirs splits before h after l x m =
    one_of splits (x.1).walker (own (x.1).walker h) (no_session (run_after before) (x.1).walker) x (its_first (run_after before) (x.1).walker)
    (all_at (λ e. is_session splits (run_after before) (e.1).walker (own (e.1).walker h)) x h l.sessions m)
    (in_own x h m)
