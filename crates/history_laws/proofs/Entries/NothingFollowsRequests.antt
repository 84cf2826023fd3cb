-- What the entries of one session have to do with each other: whose they are, that nothing of a transaction follows its request, and that
-- the request names the shards of its operations.
use Rattle.std.proofs.Common.{◌≡◌, ◌⊎◌, inl, inr, refl, sym, ap, subst, ◌∙◌, ℕ, suc, ◌<◌, ◌≤◌, true, false, cond, Bool, List, [], ◌∷◌, Option, Some, None, is_some, ◌&&◌, ◌==◌, nat_lt, arith, eqb-true}
use Rattle.std.specs.Map.{lookup}
use Rattle.std.specs.BTreeMap.{insert_entry}
use Rattle.std.specs.Ordering.{nat_cmp, match_ordering}
use Rattle.std.specs.declared.cmp.Ordering.{Ordering}
use Rattle.std.specs.declared.cmp.Ordering.TheVariants.{Less, Equal, Greater}
use Rattle.std.proofs.lemmas.Bool.{both_ways, and_parts, ltb-true, eq-eqb, cond_both}
use Rattle.clv_base.specs.declared.names.TxId.{TxId}
use Rattle.clv_base.specs.declared.names.Birth.{Birth}
use Rattle.clv_base.specs.declared.ops.Op.{Op}
use Rattle.clv_base.specs.declared.ops.Answer.{Answer}
use Rattle.clv_base.specs.declared.events.Event.{Event}
use Rattle.clv_base.specs.declared.events.Event.TheVariants.{Op as OpEvent, RollTo, Request, Look, Drop}
use Rattle.clv_base.specs.declared.events.Outcome.{Outcome}
use Rattle.clv_base.specs.declared.events.Outcome.TheVariants.{Answered, Rolled, Dead, Asked, Acknowledged, Aborted}
use Rattle.clv_base.specs.Orders.{tx_same}
use Rattle.clv_base.specs.LogRules.{same_option}
use Rattle.clv_base.specs.Backs.{has_written}
use Rattle.clv_base.specs.Sessions.{SessionState, is_number, lies_in, goes_on, begins, begun, session_for, touch, scan_shard, op_answered, op_in_session, same_touched, is_lowest, requested, looked, is_touching, session_after, makes_from, is_session, follows_birth, is_whole_now, numbered, with_written, goes_on_back, back_for, went_back, back_in_session}
use Rattle.clv_base.proofs.SameNames.{tx_true}
use Rattle.law_base.proofs.Anchors.{cmp_equal}
use Rattle.protocol_laws.specs.SessionLaws.{tx_of, SerialsRise, works_on, ended_by, NoneWorksOn, EndsStay}
use Rattle.protocol_laws.proofs.SessionsKeepOrder.{sessions_keep_order}
use Rattle.history_cases.proofs.Merging.{Placed, Among, Precedes}

-- ---- whose the entries are

abbrev IsOf : ℕ → ℕ → ℕ → TxId → Type 0
IsOf run session serial tx = (tx.run ≡ run) × (tx.session ≡ session) × (serial ≤ tx.serial)

abbrev RisesAt : ℕ → ℕ → ℕ → List Placed → Option TxId → Type 0
RisesAt run session serial es o =
    elim o [ Some tx ↦ (tx.run ≡ run) × (tx.session ≡ session) × (serial ≤ tx.serial) × SerialsRise run session tx.serial es | None ↦ SerialsRise run session serial es ]

rises_here : (run session serial : ℕ) (es : List Placed) (o : Option TxId) (tx : TxId) → RisesAt run session serial es o → o ≡ Some tx → IsOf run session serial tx
rises_here run session serial es None tx r e = absurd cc
rises_here run session serial es (Some u) tx r e = subst (IsOf run session serial) (same_one e) (r.0, r.1, r.2)
  where
    same_one : {a b : TxId} → Some a ≡ Some b → a ≡ b
    same_one h = cc

rises_later : (run session serial : ℕ) (es : List Placed) (o : Option TxId) (tx : TxId) → RisesAt run session serial es o → ((n : ℕ) → SerialsRise run session n es → IsOf run session n tx)
    → IsOf run session serial tx
rises_later run session serial es None tx r k = k serial r
rises_later run session serial es (Some u) tx r k = let p = k u.serial r.3 in (p.0, p.1, omega (arith, p.2, r.2))

pub of_rising : (run session serial : ℕ) (es : List Placed) (x : Placed) (tx : TxId) → SerialsRise run session serial es → Among x es → tx_of (x.1).event ≡ Some tx → IsOf run session serial tx
of_rising run session serial [] x tx r m e = elim m [ ]
of_rising run session serial (y ∷ ys) x tx r (inl p) e = rises_here run session serial ys (tx_of (y.1).event) tx r (ap (λ z. tx_of (z.1).event) p ∙ e)
of_rising run session serial (y ∷ ys) x tx r (inr m) e = rises_later run session serial ys (tx_of (y.1).event) tx r (λ n s. of_rising run session n ys x tx s m e)

pub of_session : (splits : List ℕ) (run session : ℕ) (es : List Placed) (x : Placed) (tx : TxId) → is_session splits run session es ≡ true → Among x es → tx_of (x.1).event ≡ Some tx
    → (tx.run ≡ run) × (tx.session ≡ session)
of_session splits run session es x tx h m e = let p = of_rising run session 0 es x tx (sessions_keep_order splits run session es h).0 m e in (p.0, p.1)

-- serials do not fall
pub serials_follow : (run session serial : ℕ) (es : List Placed) (x y : Placed) (tx u : TxId) → SerialsRise run session serial es → Precedes x y es → tx_of (x.1).event ≡ Some tx → tx_of (y.1).event ≡ Some u
    → tx.serial ≤ u.serial
serials_follow run session serial [] x y tx u r p e f = elim p [ ]
serials_follow run session serial (z ∷ zs) x y tx u r (inl p) e f = at (tx_of (z.1).event) r (ap (λ w. tx_of (w.1).event) p.0 ∙ e)
  where
    at : (o : Option TxId) → RisesAt run session serial zs o → o ≡ Some tx → tx.serial ≤ u.serial
    at None r g = absurd cc
    at (Some v) r g = let q = of_rising run session v.serial zs y u r.3 p.1 f in let s = serial_of g in omega (arith, q.2, s)
      where
        serial_of : Some v ≡ Some tx → v.serial ≡ tx.serial
        serial_of h = cc
serials_follow run session serial (z ∷ zs) x y tx u r (inr p) e f = at (tx_of (z.1).event) r (λ n s. serials_follow run session n zs x y tx u s p e f)
  where
    at : (o : Option TxId) → RisesAt run session serial zs o → ((n : ℕ) → SerialsRise run session n zs → tx.serial ≤ u.serial) → tx.serial ≤ u.serial
    at None r k = k serial r
    at (Some v) r k = k v.serial r.3

-- ---- nothing of a transaction follows its request

none_works : (serial : ℕ) (es : List Placed) (y : Placed) → NoneWorksOn serial es → Among y es → works_on serial (y.1).event ≡ false
none_works serial [] y n m = elim m [ ]
none_works serial (z ∷ zs) y n (inl e) = subst (λ w. works_on serial (w.1).event ≡ false) e n.0
none_works serial (z ∷ zs) y n (inr m) = none_works serial zs y n.1 m

abbrev EndsAt : List Placed → Option ℕ → Type 0
EndsAt es o = elim o [ Some serial ↦ NoneWorksOn serial es × EndsStay es | None ↦ EndsStay es ]

ends_here : (es : List Placed) (o : Option ℕ) (serial : ℕ) → EndsAt es o → o ≡ Some serial → NoneWorksOn serial es
ends_here es None serial a e = absurd cc
ends_here es (Some n) serial a e = subst (λ k. NoneWorksOn k es) (same_one e) a.0
  where
    same_one : {a b : ℕ} → Some a ≡ Some b → a ≡ b
    same_one h = cc

ends_later : (es : List Placed) (o : Option ℕ) → EndsAt es o → EndsStay es
ends_later es None a = a
ends_later es (Some n) a = a.1

pub nothing_follows : (es : List Placed) (x y : Placed) (serial : ℕ) → EndsStay es → Precedes x y es → ended_by (x.1).event (x.1).outcome ≡ Some serial → works_on serial (y.1).event ≡ false
nothing_follows [] x y serial a p e = elim p [ ]
nothing_follows (z ∷ zs) x y serial a (inl p) e = none_works serial zs y (ends_here zs (ended_by (z.1).event (z.1).outcome) serial a (ap (λ w. ended_by (w.1).event (w.1).outcome) p.0 ∙ e)) p.1
nothing_follows (z ∷ zs) x y serial a (inr p) e = nothing_follows zs x y serial (ends_later zs (ended_by (z.1).event (z.1).outcome) a) p e

-- ---- touched shards

abbrev pub has : ℕ → List (ℕ × ℕ) → Bool
has n ts = is_some (lookup (◌==◌ n) ts)

some_if : {X : Type 0} (b : Bool) (x : X) (o : Option X) → is_some o ≡ true → is_some (cond b (Some x) o) ≡ true
some_if true x o h = refl
some_if false x o h = h

some_at : {X : Type 0} (b : Bool) (x : X) (o : Option X) → b ≡ true → is_some (cond b (Some x) o) ≡ true
some_at true x o h = refl
some_at false x o h = absurd (both_ways false refl h)

put_has : (o : Ordering) (n v : ℕ) (r : ℕ × ℕ) (rs qs : List (ℕ × ℕ)) → (o ≡ Equal → n ≡ r.0) → has n qs ≡ true → has n (match_ordering o ((n, v) ∷ r ∷ rs) ((r.0, v) ∷ rs) (r ∷ qs)) ≡ true
put_has Less n v r rs qs e h = some_at (n == n) v _ (eq-eqb n n refl)
put_has Equal n v r rs qs e h = some_at (n == r.0) v _ (eq-eqb n r.0 (e refl))
put_has Greater n v r rs qs e h = some_if (n == r.0) r.1 _ h

insert_has : (n v : ℕ) (ts : List (ℕ × ℕ)) → has n (insert_entry nat_cmp ts n v) ≡ true
insert_has n v [] = some_at (n == n) v None (eq-eqb n n refl)
insert_has n v (r ∷ rs) = put_has (nat_cmp n r.0) n v r rs (insert_entry nat_cmp rs n v) (cmp_equal n r.0) (insert_has n v rs)

some_row : {X : Type 0} (b : Bool) (x y : X) (o : Option X) → is_some (cond b (Some x) o) ≡ true → is_some (cond b (Some y) o) ≡ true
some_row true x y o h = refl
some_row false x y o h = h

some_next : {X : Type 0} (b : Bool) (x : X) (o o' : Option X) → (is_some o ≡ true → is_some o' ≡ true) → is_some (cond b (Some x) o) ≡ true → is_some (cond b (Some x) o') ≡ true
some_next true x o o' k h = refl
some_next false x o o' k h = k h

put_keeps : (o : Ordering) (m n v : ℕ) (r : ℕ × ℕ) (rs qs : List (ℕ × ℕ)) → (has m rs ≡ true → has m qs ≡ true) → has m (r ∷ rs) ≡ true → has m (match_ordering o ((n, v) ∷ r ∷ rs) ((r.0, v) ∷ rs) (r ∷ qs)) ≡ true
put_keeps Less m n v r rs qs k h = some_if (m == n) v _ h
put_keeps Equal m n v r rs qs k h = some_row (m == r.0) r.1 v _ h
put_keeps Greater m n v r rs qs k h = some_next (m == r.0) r.1 (lookup (◌==◌ m) rs) (lookup (◌==◌ m) qs) k h

insert_keeps : (m n v : ℕ) (ts : List (ℕ × ℕ)) → has m ts ≡ true → has m (insert_entry nat_cmp ts n v) ≡ true
insert_keeps m n v [] h = absurd (both_ways false refl h)
insert_keeps m n v (r ∷ rs) h = put_keeps (nat_cmp n r.0) m n v r rs (insert_entry nat_cmp rs n v) (insert_keeps m n v rs) h

touch_has : (n v : ℕ) (ts : List (ℕ × ℕ)) → has n (touch n v ts) ≡ true
touch_has n v ts = cond_both (has n ts) ts (insert_entry nat_cmp ts n v) (λ z. has n z ≡ true) (λ h. h) (λ h. insert_has n v ts)

touch_keeps : (m n v : ℕ) (ts : List (ℕ × ℕ)) → has m ts ≡ true → has m (touch n v ts) ≡ true
touch_keeps m n v ts h = cond_both (has n ts) ts (insert_entry nat_cmp ts n v) (λ z. has m z ≡ true) (λ e. h) (λ e. insert_keeps m n v ts h)

same_has : (m : ℕ) (as_ bs : List (ℕ × ℕ)) → same_touched as_ bs ≡ true → has m bs ≡ true → has m as_ ≡ true
same_has m [] [] s h = h
same_has m [] (b ∷ bs) s h = absurd (both_ways false refl s)
same_has m (a ∷ as_) [] s h = absurd (both_ways false refl s)
same_has m (a ∷ as_) (b ∷ bs) s h =
    let p = and_parts ((a.0 == b.0) && (a.1 == b.1)) (same_touched as_ bs) s in
    let q = and_parts (a.0 == b.0) (a.1 == b.1) p.0 in
    at (eqb-true a.0 b.0 q.0) (same_has m as_ bs p.1)
  where
    at : a.0 ≡ b.0 → (has m bs ≡ true → has m as_ ≡ true) → is_some (cond (m == a.0) (Some a.1) (lookup (◌==◌ m) as_)) ≡ true
    at e k = some_row (m == a.0) b.1 a.1 _ (some_next (m == a.0) b.1 (lookup (◌==◌ m) bs) (lookup (◌==◌ m) as_) k (subst (λ z. is_some (cond (m == z) (Some b.1) (lookup (◌==◌ m) bs)) ≡ true) (sym e) h))

-- ---- a session keeps its transaction and what it touched, or goes on to a later one

pub data Keeps (t : SessionState) : Option SessionState → Type 0 where
  gone : Keeps t None
  stays : {u : SessionState} → u.tx ≡ t.tx → ((m : ℕ) → has m t.touched ≡ true → has m u.touched ≡ true) → Keeps t (Some u)
  later : {u : SessionState} → (t.tx).serial < (u.tx).serial → Keeps t (Some u)

same_session : (t : SessionState) → Keeps t (Some t)
same_session t = stays refl (λ m h. h)

-- for an operation of the transaction
data For (t : SessionState) (tx : TxId) : Option SessionState → Type 0 where
  nobody : For t tx None
  the_same : tx ≡ t.tx → For t tx (Some t)
  a_new_one : {u : SessionState} → u.tx ≡ tx → (t.tx).serial < tx.serial → For t tx (Some u)

for_new : (t : SessionState) (tx : TxId) (birth : Birth) (b : Bool) → begins t tx birth ≡ b → For t tx (cond b (Some (begun t tx birth)) None)
for_new t tx birth true e =
    let p = and_parts ((tx.run == (t.tx).run) && (tx.session == (t.tx).session) && nat_lt (t.tx).serial tx.serial && (birth.session == tx.session)) (follows_birth t.birth birth t.phase) e in
    let q = and_parts ((tx.run == (t.tx).run) && (tx.session == (t.tx).session) && nat_lt (t.tx).serial tx.serial) (birth.session == tx.session) p.0 in
    let r = and_parts ((tx.run == (t.tx).run) && (tx.session == (t.tx).session)) (nat_lt (t.tx).serial tx.serial) q.0 in
    a_new_one refl (ltb-true _ _ r.1)
for_new t tx birth false e = nobody

for_on : (t : SessionState) (tx : TxId) (b : Bool) → tx ≡ t.tx → For t tx (cond b (Some t) None)
for_on t tx true e = the_same e
for_on t tx false e = nobody

for_by : (t : SessionState) (tx : TxId) (birth : Birth) (b : Bool) → tx_same tx t.tx ≡ b → For t tx (cond b (cond (goes_on t tx birth) (Some t) None) (cond (begins t tx birth) (Some (begun t tx birth)) None))
for_by t tx birth true e = for_on t tx (goes_on t tx birth) (tx_true tx t.tx e)
for_by t tx birth false e = for_new t tx birth (begins t tx birth) refl

keeps_op : (t v : SessionState) (tx : TxId) (n nth : ℕ) (op : Op) (o : Outcome) → For t tx (Some v) → Keeps t (op_answered n nth op v o)
keeps_op t _ tx n nth op (Answered a epoch) (the_same e) = stays refl (λ m h. touch_keeps m n epoch t.touched h)
keeps_op t _ tx n nth op (Answered a epoch) (a_new_one {u = u} e l) = later (subst (λ z. (t.tx).serial < z.serial) (sym e) l)
keeps_op t _ tx n nth op (Dead cause) (the_same e) = stays refl (λ m h. h)
keeps_op t _ tx n nth op (Dead cause) (a_new_one {u = u} e l) = later (subst (λ z. (t.tx).serial < z.serial) (sym e) l)
keeps_op t v tx n nth op _ f = gone

keeps_in : (splits : List ℕ) (t : SessionState) (tx : TxId) (n nth : ℕ) (seen : Option ℕ) (op : Op) (o : Outcome) (v : Option SessionState) → For t tx v → Keeps t (op_in_session splits n nth seen op o v)
keeps_in splits t tx n nth seen op o None f = gone
keeps_in splits t tx n nth seen op o (Some v) f = at (is_number v n nth op && lies_in splits n op && same_option seen (lookup (◌==◌ n) v.touched)) (keeps_op t v tx n nth op o f)
  where
    at : (b : Bool) → Keeps t (op_answered n nth op v o) → Keeps t (cond b (op_answered n nth op v o) None)
    at true k = k
    at false k = gone

keeps_if : (t : SessionState) (b : Bool) (o : Option SessionState) → Keeps t o → Keeps t (cond b o None)
keeps_if t true o k = k
keeps_if t false o k = gone

keeps_request : (t : SessionState) (n : ℕ) (o : Outcome) → Keeps t (requested n t o)
keeps_request t n Asked = stays refl (λ m h. h)
keeps_request t n (Dead cause) = stays refl (λ m h. h)
keeps_request t n _ = gone

keeps_look : (t : SessionState) (o : Outcome) → Keeps t (looked t o)
keeps_look t Acknowledged = stays refl (λ m h. h)
keeps_look t (Aborted cause) = stays refl (λ m h. h)
keeps_look t _ = gone

keeps_went : (t u : SessionState) (n upto : ℕ) (o : Outcome) → Keeps t (Some u) → Keeps t (went_back n upto u o)
keeps_went t u n upto Rolled (stays e k) = stays e k
keeps_went t u n upto Rolled (later l) = later l
keeps_went t u n upto (Dead cause) (stays e k) = stays e k
keeps_went t u n upto (Dead cause) (later l) = later l
keeps_went t u n upto _ k = gone

keeps_back : (t : SessionState) (n upto : ℕ) (o : Outcome) (v : Option SessionState) → Keeps t v → Keeps t (back_in_session n upto o v)
keeps_back t n upto o None k = gone
keeps_back t n upto o (Some u) k = keeps_went t u n upto o k

-- as a going back finds it
pub back_kept : (t : SessionState) (n nth upto : ℕ) → Keeps t (back_for t n nth upto)
back_kept t n nth upto =
    cond_both (nth == suc t.nth) _ _ (Keeps t) (λ e. keeps_if t (nat_lt upto nth) _ (stays refl (λ m h. h))) (λ e. keeps_if t ((nth == t.nth) && goes_on_back t.back n upto) _ (same_session t))

pub keeps : (splits : List ℕ) (n : ℕ) (t : SessionState) (e : Event) (o : Outcome) → Keeps t (session_after splits n t e o)
keeps splits n t (OpEvent tx birth nth seen op) o = keeps_in splits t tx n nth seen op o (session_for t tx birth) (for_by t tx birth (tx_same tx t.tx) refl)
keeps splits n t (RollTo tx nth seen upto) o = keeps_if t _ _ (keeps_back t n upto o (back_for t n nth upto) (back_kept t n nth upto))
keeps splits n t (Request tx ts) o = keeps_if t _ _ (keeps_request t n o)
keeps splits n t (Look tx) o = keeps_if t _ _ (keeps_look t o)
keeps splits n t (Drop tx) o = keeps_if t _ _ (stays refl (λ m h. h))
keeps splits n t _ o = same_session t

-- ---- the request names what was touched

-- the shard is touched by the transaction, or that is past
abbrev pub Touched : TxId → ℕ → SessionState → Type 0
Touched tx m t = ((t.tx ≡ tx) × (has m t.touched ≡ true)) ⊎ (tx.serial < (t.tx).serial)

touched_on : (tx : TxId) (m : ℕ) (t u : SessionState) → Touched tx m t → Keeps t (Some u) → Touched tx m u
touched_on tx m t u (inl p) (stays e k) = inl (e ∙ p.0, k m p.1)
touched_on tx m t u (inr l) (stays e k) = inr (subst (λ z. tx.serial < z.serial) (sym e) l)
touched_on tx m t u (inl p) (later l) = inr (subst (λ z. z.serial < (u.tx).serial) p.0 l)
touched_on tx m t u (inr l) (later k) = inr (omega (arith, l, k))

-- a request that the session makes
asks_at : (t : SessionState) (tx : TxId) (ts : List (ℕ × ℕ)) (n : ℕ) (o : Outcome) (b : Bool) → (tx_same tx t.tx && is_touching t.phase && is_whole_now t && same_touched ts t.touched && is_lowest n ts) ≡ b
    → (es : List Placed) (splits : List ℕ) → makes_from splits (cond b (requested n t o) None) es ≡ true → (tx ≡ t.tx) × (same_touched ts t.touched ≡ true)
asks_at t tx ts n o true e es splits h =
    let p = and_parts (tx_same tx t.tx && is_touching t.phase && is_whole_now t && same_touched ts t.touched) (is_lowest n ts) e in
    let q = and_parts (tx_same tx t.tx && is_touching t.phase && is_whole_now t) (same_touched ts t.touched) p.0 in
    let w = and_parts (tx_same tx t.tx && is_touching t.phase) (is_whole_now t) q.0 in
    let r = and_parts (tx_same tx t.tx) (is_touching t.phase) w.0 in
    (tx_true tx t.tx r.0, q.1)
asks_at t tx ts n o false e es splits h = absurd (both_ways false refl h)

touched_asks : (splits : List ℕ) (t : SessionState) (tx : TxId) (m n : ℕ) (ts : List (ℕ × ℕ)) (o : Outcome) (es : List Placed) → Touched tx m t
    → makes_from splits (session_after splits n t (Request tx ts) o) es ≡ true → has m ts ≡ true
touched_asks splits t tx m n ts o es (inl p) h =
    let q = asks_at t tx ts n o _ refl es splits h in same_has m ts t.touched q.1 p.1
touched_asks splits t tx m n ts o es (inr l) h =
    let q = asks_at t tx ts n o _ refl es splits h in absurd (apart (ap (λ z. z.serial) q.0) l)
  where
    apart : tx.serial ≡ (t.tx).serial → tx.serial < (t.tx).serial → ⊥
    apart e k = omega (arith, e, k)

goes : (splits : List ℕ) (o : Option SessionState) (t : SessionState) (tx : TxId) (m : ℕ) (es : List Placed) {X : Type 0} → Keeps t o → Touched tx m t → makes_from splits o es ≡ true
    → ((u : SessionState) → Touched tx m u → makes_from splits (Some u) es ≡ true → X) → X
goes splits None t tx m es k p h f = absurd (both_ways false refl h)
goes splits (Some u) t tx m es k p h f = f u (touched_on tx m t u p k) h

names_later : (splits : List ℕ) (es : List Placed) (t : SessionState) (tx : TxId) (m : ℕ) (x : Placed) (ts : List (ℕ × ℕ)) → Touched tx m t → makes_from splits (Some t) es ≡ true
    → Among x es → (x.1).event ≡ Request tx ts → has m ts ≡ true
names_later splits [] t tx m x ts p h i e = elim i [ ]
names_later splits (y ∷ ys) t tx m x ts p h (inl i) e =
    touched_asks splits t tx m y.0 ts (y.1).outcome ys p (subst (λ z. makes_from splits (session_after splits y.0 t z (y.1).outcome) ys ≡ true) (ap (λ z. (z.1).event) i ∙ e) h)
names_later splits (y ∷ ys) t tx m x ts p h (inr i) e =
    goes splits (session_after splits y.0 t (y.1).event (y.1).outcome) t tx m ys (keeps splits y.0 t (y.1).event (y.1).outcome) p h (λ u q k. names_later splits ys u tx m x ts q k i e)

-- an answered operation touches its shard
abbrev after_answer : SessionState → ℕ → ℕ → Op → Answer → ℕ → SessionState
after_answer v n nth op a epoch = record (numbered nth v) { scanned = scan_shard n op; touched = touch n epoch v.touched; written = with_written n nth (has_written op a) v.written }

answers_by : (t v : SessionState) (tx : TxId) (n nth : ℕ) (op : Op) (a : Answer) (epoch : ℕ) → For t tx (Some v) → Touched tx n (after_answer v n nth op a epoch)
answers_by t _ tx n nth op a epoch (the_same e) = inl (sym e, touch_has n epoch t.touched)
answers_by t _ tx n nth op a epoch (a_new_one {u = u} e l) = inl (e, touch_has n epoch u.touched)

answers_in : (splits : List ℕ) (t : SessionState) (tx : TxId) (n nth : ℕ) (seen : Option ℕ) (op : Op) (a : Answer) (epoch : ℕ) (v : Option SessionState) (es : List Placed) {X : Type 0} → For t tx v
    → makes_from splits (op_in_session splits n nth seen op (Answered a epoch) v) es ≡ true → ((u : SessionState) → Touched tx n u → makes_from splits (Some u) es ≡ true → X) → X
answers_in splits t tx n nth seen op a epoch None es f h k = absurd (both_ways false refl h)
answers_in splits t tx n nth seen op a epoch (Some v) es {X} f h k = at (is_number v n nth op && lies_in splits n op && same_option seen (lookup (◌==◌ n) v.touched)) h
  where
    at : (b : Bool) → makes_from splits (cond b (op_answered n nth op v (Answered a epoch)) None) es ≡ true → X
    at true g = k (after_answer v n nth op a epoch) (answers_by t v tx n nth op a epoch f) g
    at false g = absurd (both_ways false refl g)

-- the request of a transaction names the shard of each answered operation before it
pub request_names :
    (splits : List ℕ) (es : List Placed) (t : SessionState) (x y : Placed) (tx : TxId) (birth : Birth) (nth : ℕ) (seen : Option ℕ) (op : Op) (a : Answer) (epoch : ℕ) (ts : List (ℕ × ℕ))
    → makes_from splits (Some t) es ≡ true → Precedes x y es → (x.1).event ≡ OpEvent tx birth nth seen op → (x.1).outcome ≡ Answered a epoch → (y.1).event ≡ Request tx ts → has x.0 ts ≡ true
request_names splits [] t x y tx birth nth seen op a epoch ts h p e o f = elim p [ ]
request_names splits (z ∷ zs) t x y tx birth nth seen op a epoch ts h (inl p) e o f =
    let h2 : makes_from splits (session_after splits x.0 t (OpEvent tx birth nth seen op) (Answered a epoch)) zs ≡ true =
    subst (λ c. makes_from splits (session_after splits x.0 t (OpEvent tx birth nth seen op) c) zs ≡ true) o
    (subst (λ c. makes_from splits (session_after splits x.0 t c (x.1).outcome) zs ≡ true) e
    (subst (λ c. makes_from splits (session_after splits c.0 t (c.1).event (c.1).outcome) zs ≡ true) p.0 h)) in
    answers_in splits t tx x.0 nth seen op a epoch (session_for t tx birth) zs (for_by t tx birth (tx_same tx t.tx) refl) h2
    (λ u q k. names_later splits zs u tx x.0 y ts q k p.1 f)
request_names splits (z ∷ zs) t x y tx birth nth seen op a epoch ts h (inr p) e o f =
    at (session_after splits z.0 t (z.1).event (z.1).outcome) h (λ u k. request_names splits zs u x y tx birth nth seen op a epoch ts k p e o f)
  where
    at : (v : Option SessionState) → makes_from splits v zs ≡ true → ((u : SessionState) → makes_from splits (Some u) zs ≡ true → has x.0 ts ≡ true) → has x.0 ts ≡ true
    at None g k = absurd (both_ways false refl g)
    at (Some u) g k = k u g

-- a going back stands where its shard is touched
back_has : (t : SessionState) (tx : TxId) (n seen : ℕ) (b : Bool) {X : Type 0} → (tx_same tx t.tx && is_touching t.phase && same_option (Some seen) (lookup (◌==◌ n) t.touched)) ≡ b
    → ((tx ≡ t.tx) → has n t.touched ≡ true → X) → (b ≡ false → X) → X
back_has t tx n seen true e f g =
    let p = and_parts (tx_same tx t.tx && is_touching t.phase) (same_option (Some seen) (lookup (◌==◌ n) t.touched)) e in
    let q = and_parts (tx_same tx t.tx) (is_touching t.phase) p.0 in
    f (tx_true tx t.tx q.0) (some_seen (lookup (◌==◌ n) t.touched) p.1)
  where
    some_seen : (o : Option ℕ) → same_option (Some seen) o ≡ true → is_some o ≡ true
    some_seen None h = absurd (both_ways false refl h)
    some_seen (Some k) h = refl
back_has t tx n seen false e f g = g refl

-- the request of a transaction names the shard of each going back before it
pub request_names_back :
    (splits : List ℕ) (es : List Placed) (t : SessionState) (x y : Placed) (tx : TxId) (nth seen upto : ℕ) (ts : List (ℕ × ℕ))
    → makes_from splits (Some t) es ≡ true → Precedes x y es → (x.1).event ≡ RollTo tx nth seen upto → (y.1).event ≡ Request tx ts → has x.0 ts ≡ true
request_names_back splits [] t x y tx nth seen upto ts h p e f = elim p [ ]
request_names_back splits (z ∷ zs) t x y tx nth seen upto ts h (inl p) e f =
    let h2 : makes_from splits (session_after splits x.0 t (RollTo tx nth seen upto) (x.1).outcome) zs ≡ true =
    subst (λ c. makes_from splits (session_after splits x.0 t c (x.1).outcome) zs ≡ true) e
    (subst (λ c. makes_from splits (session_after splits c.0 t (c.1).event (c.1).outcome) zs ≡ true) p.0 h) in
    back_has t tx x.0 seen _ refl
    (λ q m. goes splits (session_after splits x.0 t (RollTo tx nth seen upto) (x.1).outcome) t tx x.0 zs (keeps splits x.0 t (RollTo tx nth seen upto) (x.1).outcome) (inl (sym q, m)) h2
    (λ u g k. names_later splits zs u tx x.0 y ts g k p.1 f))
    (λ q. absurd (both_ways false refl (subst (λ b. makes_from splits (cond b (back_in_session x.0 upto (x.1).outcome (back_for t x.0 nth upto)) None) zs ≡ true) q h2)))
request_names_back splits (z ∷ zs) t x y tx nth seen upto ts h (inr p) e f =
    at (session_after splits z.0 t (z.1).event (z.1).outcome) h (λ u k. request_names_back splits zs u x y tx nth seen upto ts k p e f)
  where
    at : (v : Option SessionState) → makes_from splits v zs ≡ true → ((u : SessionState) → makes_from splits (Some u) zs ≡ true → has x.0 ts ≡ true) → has x.0 ts ≡ true
    at None g k = absurd (both_ways false refl g)
    at (Some u) g k = k u g
