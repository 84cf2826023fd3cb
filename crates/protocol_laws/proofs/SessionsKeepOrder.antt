-- The entries of a session keep to what is said of them.
use Rattle.std.proofs.Common.{◌≡◌, ◌⊎◌, inl, inr, ⊎_elim, refl, sym, subst, ◌∙◌, ℕ, suc, ◌<◌, ◌≤◌, true, false, cond, Bool, List, [], ◌∷◌, Option, Some, None, not, ◌&&◌, ◌||◌, ◌==◌, nat_lt, arith, eqb-true}
use Rattle.std.specs.Map.{lookup}
use Rattle.std.proofs.lemmas.Bool.{both_ways, and_parts, or_cases, ltb-true}
use Rattle.std.specs.Ordering.{nat_cmp}
use Rattle.clv_base.specs.declared.names.TxId.{TxId}
use Rattle.clv_base.specs.declared.names.Birth.{Birth}
use Rattle.clv_base.specs.declared.ops.Op.{Op}
use Rattle.clv_base.specs.declared.ops.Answer.{Answer}
use Rattle.clv_base.specs.declared.causes.AbortCause.{AbortCause}
use Rattle.clv_base.specs.declared.events.Event.{Event}
use Rattle.clv_base.specs.declared.events.Event.TheVariants.{Op as OpEvent, RollTo, Request, Look, Drop}
use Rattle.clv_base.specs.declared.events.Outcome.{Outcome}
use Rattle.clv_base.specs.declared.events.Outcome.TheVariants.{Answered, Rolled, Dead, Asked, Acknowledged, Aborted}
use Rattle.clv_base.specs.declared.events.Entry.{Entry}
use Rattle.clv_base.specs.Orders.{tx_same}
use Rattle.clv_base.specs.LogRules.{same_option}
use Rattle.clv_base.specs.Backs.{stands_for_back}
use Rattle.clv_base.specs.Sessions.{SessionState, no_session, is_touching, may_drop, same_birth, follows_birth, goes_on, begins, begun, session_for, is_number, goes_on_scan, scan_shard, lies_in, op_answered, op_in_session, same_touched, is_lowest, is_whole_now, numbered as numbered_as, goes_on_back, back_for, went_back, back_in_session, requested, looked, stands_at, after_drop, session_after, makes_from}
use Rattle.clv_base.proofs.SameNames.{nat_cmp_true, then_eq}
use Rattle.protocol_laws.specs.SessionLaws.{tx_of, works_on, ended_by, number_of, SerialsRise, NoneWorksOn, EndsStay, IsNext, AreNumbered, SessionsKeepOrder}
use Rattle.law_base.proofs.Shards.{drop_ends}
use Rattle.law_base.proofs.Bools.{and_three as parts3}

-- ---- names that are the same are equal

record SameNames (a b : TxId) : Type 0 where
  runs : a.run ≡ b.run
  sessions : a.session ≡ b.session
  serials : a.serial ≡ b.serial

names : (a b : TxId) → tx_same a b ≡ true → SameNames a b
names a b e =
    let p = then_eq (nat_cmp a.run b.run) _ e in
    let q = then_eq (nat_cmp a.session b.session) _ p.1 in
    record { runs = nat_cmp_true _ _ p.0; sessions = nat_cmp_true _ _ q.0; serials = nat_cmp_true _ _ q.1 }

-- ---- parts of a test

-- ---- what an entry does to a session

-- an operation is of the session's transaction, which goes on, or of a new one
data OpFrom (t : SessionState) (tx : TxId) (nth : ℕ) : Type 0 where
  goes : SameNames tx t.tx → is_touching t.phase ≡ true → (nth ≡ suc t.nth) ⊎ (nth ≡ t.nth) → OpFrom t tx nth
  starts : tx.run ≡ (t.tx).run → tx.session ≡ (t.tx).session → (t.tx).serial < tx.serial → nth ≡ 1 → OpFrom t tx nth

-- entries of other kinds leave it as it is
IsOther : Event → Type 0
IsOther (OpEvent tx birth nth seen op) = ⊥
IsOther (RollTo tx nth seen upto) = ⊥
IsOther (Request tx touched) = ⊥
IsOther (Look tx) = ⊥
IsOther (Drop tx) = ⊥
IsOther _ = Unit {0}

data Moves (t : SessionState) : Event → Outcome → Option SessionState → Type 0 where
  refuses : {e : Event} {o : Outcome} → Moves t e o None
  stays : {e : Event} {o : Outcome} → IsOther e → Moves t e o (Some t)
  answers :
      {tx : TxId} {birth : Birth} {nth : ℕ} {seen : Option ℕ} {op : Op} {a : Answer} {epoch : ℕ} {u : SessionState} → OpFrom t tx nth → SameNames u.tx tx → u.nth ≡ nth
      → Moves t (OpEvent tx birth nth seen op) (Answered a epoch) (Some u)
  dies :
      {tx : TxId} {birth : Birth} {nth : ℕ} {seen : Option ℕ} {op : Op} {c : AbortCause} {u : SessionState} → OpFrom t tx nth → SameNames u.tx tx → u.nth ≡ nth
      → is_touching u.phase ≡ false → Moves t (OpEvent tx birth nth seen op) (Dead c) (Some u)
  rolls :
      {tx : TxId} {nth seen upto : ℕ} {u : SessionState} → OpFrom t tx nth → SameNames u.tx tx → u.nth ≡ nth → Moves t (RollTo tx nth seen upto) Rolled (Some u)
  rolls_dead :
      {tx : TxId} {nth seen upto : ℕ} {c : AbortCause} {u : SessionState} → OpFrom t tx nth → SameNames u.tx tx → u.nth ≡ nth
      → is_touching u.phase ≡ false → Moves t (RollTo tx nth seen upto) (Dead c) (Some u)
  asks :
      {tx : TxId} {touched : List (ℕ × ℕ)} {o : Outcome} {u : SessionState} → SameNames tx t.tx → is_touching t.phase ≡ true → SameNames u.tx tx → u.nth ≡ t.nth
      → is_touching u.phase ≡ false → Moves t (Request tx touched) o (Some u)
  looks : {tx : TxId} {o : Outcome} {u : SessionState} → SameNames tx t.tx → SameNames u.tx tx → u.nth ≡ t.nth → is_touching u.phase ≡ false → Moves t (Look tx) o (Some u)
  drops : {tx : TxId} {o : Outcome} {u : SessionState} → SameNames tx t.tx → SameNames u.tx tx → u.nth ≡ t.nth → is_touching u.phase ≡ false → Moves t (Drop tx) o (Some u)

turned : (a b : TxId) → SameNames a b → SameNames b a
turned a b s = record { runs = sym s.runs; sessions = sym s.sessions; serials = sym s.serials }

same_tx : (a : TxId) → SameNames a a
same_tx a = record { runs = refl; sessions = refl; serials = refl }

-- whose an operation is
data For (t : SessionState) (tx : TxId) (birth : Birth) : Option SessionState → Type 0 where
  nobody : For t tx birth None
  the_same : SameNames tx t.tx → is_touching t.phase ≡ true → For t tx birth (Some t)
  a_new_one : tx.run ≡ (t.tx).run → tx.session ≡ (t.tx).session → (t.tx).serial < tx.serial → For t tx birth (Some (begun t tx birth))

for_on : (t : SessionState) (tx : TxId) (birth : Birth) (b : Bool) → goes_on t tx birth ≡ b → SameNames tx t.tx → For t tx birth (cond b (Some t) None)
for_on t tx birth true e s = the_same s (and_parts (is_touching t.phase) (same_birth t.birth birth) e).0
for_on t tx birth false e s = nobody

for_new : (t : SessionState) (tx : TxId) (birth : Birth) (b : Bool) → begins t tx birth ≡ b → For t tx birth (cond b (Some (begun t tx birth)) None)
for_new t tx birth true e =
    let p = and_parts ((tx.run == (t.tx).run) && (tx.session == (t.tx).session) && nat_lt (t.tx).serial tx.serial && (birth.session == tx.session)) (follows_birth t.birth birth t.phase) e in
    let q = and_parts ((tx.run == (t.tx).run) && (tx.session == (t.tx).session) && nat_lt (t.tx).serial tx.serial) (birth.session == tx.session) p.0 in
    let r = parts3 (tx.run == (t.tx).run) (tx.session == (t.tx).session) (nat_lt (t.tx).serial tx.serial) q.0 in
    a_new_one (eqb-true _ _ r.0) (eqb-true _ _ r.1) (ltb-true _ _ r.2)
for_new t tx birth false e = nobody

for_by : (t : SessionState) (tx : TxId) (birth : Birth) (b : Bool) → tx_same tx t.tx ≡ b
    → For t tx birth (cond b (cond (goes_on t tx birth) (Some t) None) (cond (begins t tx birth) (Some (begun t tx birth)) None))
for_by t tx birth true e = for_on t tx birth (goes_on t tx birth) refl (names tx t.tx e)
for_by t tx birth false e = for_new t tx birth (begins t tx birth) refl

-- where it comes from, by its number
number_goes : (t : SessionState) (n nth : ℕ) (op : Op) → is_number t n nth op ≡ true → (nth ≡ suc t.nth) ⊎ (nth ≡ t.nth)
number_goes t n nth op e =
    ⊎_elim (λ h. inl (eqb-true _ _ h)) (λ h. inr (eqb-true _ _ (and_parts (nth == t.nth) (goes_on_scan t.scanned (scan_shard n op)) h).0))
    (or_cases (nth == suc t.nth) ((nth == t.nth) && goes_on_scan t.scanned (scan_shard n op)) e)

number_starts : (n nth : ℕ) (op : Op) → ((nth == 1) || ((nth == 0) && goes_on_scan None (scan_shard n op))) ≡ true → nth ≡ 1
number_starts n nth op e =
    ⊎_elim (λ h. eqb-true _ _ h) (λ h. absurd (both_ways false refl (and_parts (nth == 0) false h).1)) (or_cases (nth == 1) ((nth == 0) && false) e)

record Comes (t u : SessionState) (tx : TxId) (nth : ℕ) : Type 0 where
  from : OpFrom t tx nth
  of : SameNames u.tx tx

comes : (t v : SessionState) (tx : TxId) (birth : Birth) (n nth : ℕ) (op : Op) → For t tx birth (Some v) → is_number v n nth op ≡ true → Comes t v tx nth
comes t v tx birth n nth op (the_same s h) e = record { from = goes s h (number_goes t n nth op e); of = turned tx t.tx s }
comes t v tx birth n nth op (a_new_one r s l) e = record { from = starts r s l (number_starts n nth op e); of = same_tx tx }

op_out : (t v : SessionState) (tx : TxId) (birth : Birth) (n nth : ℕ) (seen : Option ℕ) (op : Op) (o : Outcome) → Comes t v tx nth → Moves t (OpEvent tx birth nth seen op) o (op_answered n nth op v o)
op_out t v tx birth n nth seen op (Answered a epoch) c = answers c.from c.of refl
op_out t v tx birth n nth seen op (Dead cause) c = dies c.from c.of refl refl
op_out t v tx birth n nth seen op _ c = refuses

op_test : (splits : List ℕ) (t v : SessionState) (tx : TxId) (birth : Birth) (n nth : ℕ) (seen : Option ℕ) (op : Op) (o : Outcome) (b : Bool)
    → (is_number v n nth op && lies_in splits n op && same_option seen (lookup (◌==◌ n) v.touched)) ≡ b → For t tx birth (Some v)
    → Moves t (OpEvent tx birth nth seen op) o (cond b (op_answered n nth op v o) None)
op_test splits t v tx birth n nth seen op o true e f =
    op_out t v tx birth n nth seen op o
    (comes t v tx birth n nth op f (parts3 (is_number v n nth op) (lies_in splits n op) (same_option seen (lookup (◌==◌ n) v.touched)) e).0)
op_test splits t v tx birth n nth seen op o false e f = refuses

op_moves : (splits : List ℕ) (t : SessionState) (tx : TxId) (birth : Birth) (n nth : ℕ) (seen : Option ℕ) (op : Op) (o : Outcome) (v : Option SessionState) → For t tx birth v
    → Moves t (OpEvent tx birth nth seen op) o (op_in_session splits n nth seen op o v)
op_moves splits t tx birth n nth seen op o None f = refuses
op_moves splits t tx birth n nth seen op o (Some v) f = op_test splits t v tx birth n nth seen op o _ refl f

-- where a going back comes from, by its number
data BackFrom (t : SessionState) (nth : ℕ) : Option SessionState → Type 0 where
  no_back : BackFrom t nth None
  found : {v : SessionState} → (nth ≡ suc t.nth) ⊎ (nth ≡ t.nth) → v.tx ≡ t.tx → v.nth ≡ nth → BackFrom t nth (Some v)

back_new : (t v : SessionState) (nth : ℕ) (b : Bool) → nth ≡ suc t.nth → v.tx ≡ t.tx → v.nth ≡ nth → BackFrom t nth (cond b (Some v) None)
back_new t v nth true e s m = found (inl e) s m
back_new t v nth false e s m = no_back

back_on : (t : SessionState) (nth : ℕ) (b : Bool) → (b ≡ true → nth ≡ t.nth) → BackFrom t nth (cond b (Some t) None)
back_on t nth true e = found (inr (e refl)) refl (sym (e refl))
back_on t nth false e = no_back

back_by : (t v : SessionState) (nth : ℕ) (b c d : Bool) → (b ≡ true → nth ≡ suc t.nth) → (d ≡ true → nth ≡ t.nth) → v.tx ≡ t.tx → v.nth ≡ nth → BackFrom t nth (cond b (cond c (Some v) None) (cond d (Some t) None))
back_by t v nth true c d e f s m = back_new t v nth c (e refl) s m
back_by t v nth false c d e f s m = back_on t nth d f

back_found : (t : SessionState) (n nth upto : ℕ) → BackFrom t nth (back_for t n nth upto)
back_found t n nth upto =
    back_by t (record (numbered_as nth t) { is_whole = is_whole_now t && stands_for_back nth upto t.backs; backs = (nth, upto) ∷ t.backs }) nth
    (nth == suc t.nth) (nat_lt upto nth) ((nth == t.nth) && goes_on_back t.back n upto)
    (λ e. eqb-true _ _ e) (λ e. eqb-true _ _ (and_parts (nth == t.nth) (goes_on_back t.back n upto) e).0) refl refl

same_as : (t v : SessionState) (tx : TxId) → SameNames tx t.tx → v.tx ≡ t.tx → SameNames v.tx tx
same_as t v tx s e = subst (λ z. SameNames z tx) (sym e) (turned tx t.tx s)

back_out : (t v : SessionState) (tx : TxId) (n nth seen upto : ℕ) (o : Outcome) → SameNames tx t.tx → is_touching t.phase ≡ true → (nth ≡ suc t.nth) ⊎ (nth ≡ t.nth) → v.tx ≡ t.tx → v.nth ≡ nth
    → Moves t (RollTo tx nth seen upto) o (went_back n upto v o)
back_out t v tx n nth seen upto Rolled s h k e m = rolls (goes s h k) (same_as t v tx s e) m
back_out t v tx n nth seen upto (Dead cause) s h k e m = rolls_dead (goes s h k) (same_as t v tx s e) m refl
back_out t v tx n nth seen upto _ s h k e m = refuses

back_moves : (t : SessionState) (tx : TxId) (n nth seen upto : ℕ) (o : Outcome) (v : Option SessionState) → SameNames tx t.tx → is_touching t.phase ≡ true → BackFrom t nth v
    → Moves t (RollTo tx nth seen upto) o (back_in_session n upto o v)
back_moves t tx n nth seen upto o None s h b = refuses
back_moves t tx n nth seen upto o (Some v) s h (found k e m) = back_out t v tx n nth seen upto o s h k e m

back_test : (t : SessionState) (tx : TxId) (n nth seen upto : ℕ) (o : Outcome) (b : Bool) → (tx_same tx t.tx && is_touching t.phase && same_option (Some seen) (lookup (◌==◌ n) t.touched)) ≡ b
    → Moves t (RollTo tx nth seen upto) o (cond b (back_in_session n upto o (back_for t n nth upto)) None)
back_test t tx n nth seen upto o true e =
    let q = parts3 (tx_same tx t.tx) (is_touching t.phase) (same_option (Some seen) (lookup (◌==◌ n) t.touched)) e in
    back_moves t tx n nth seen upto o (back_for t n nth upto) (names tx t.tx q.0) q.1 (back_found t n nth upto)
back_test t tx n nth seen upto o false e = refuses

request_out : (t : SessionState) (tx : TxId) (touched : List (ℕ × ℕ)) (n : ℕ) (o : Outcome) → SameNames tx t.tx → is_touching t.phase ≡ true → Moves t (Request tx touched) o (requested n t o)
request_out t tx touched n Asked s h = asks s h (turned tx t.tx s) refl refl
request_out t tx touched n (Dead cause) s h = asks s h (turned tx t.tx s) refl refl
request_out t tx touched n _ s h = refuses

request_test : (t : SessionState) (tx : TxId) (touched : List (ℕ × ℕ)) (n : ℕ) (o : Outcome) (b : Bool)
    → (tx_same tx t.tx && is_touching t.phase && is_whole_now t && same_touched touched t.touched && is_lowest n touched) ≡ b → Moves t (Request tx touched) o (cond b (requested n t o) None)
request_test t tx touched n o true e =
    let p = and_parts (tx_same tx t.tx && is_touching t.phase && is_whole_now t && same_touched touched t.touched) (is_lowest n touched) e in
    let r = and_parts (tx_same tx t.tx && is_touching t.phase && is_whole_now t) (same_touched touched t.touched) p.0 in
    let q = parts3 (tx_same tx t.tx) (is_touching t.phase) (is_whole_now t) r.0 in
    request_out t tx touched n o (names tx t.tx q.0) q.1
request_test t tx touched n o false e = refuses

look_out : (t : SessionState) (tx : TxId) (o : Outcome) → SameNames tx t.tx → Moves t (Look tx) o (looked t o)
look_out t tx Acknowledged s = looks s (turned tx t.tx s) refl refl
look_out t tx (Aborted cause) s = looks s (turned tx t.tx s) refl refl
look_out t tx _ s = refuses

look_test : (t : SessionState) (tx : TxId) (n : ℕ) (o : Outcome) (b : Bool) → (tx_same tx t.tx && stands_at n t.phase) ≡ b → Moves t (Look tx) o (cond b (looked t o) None)
look_test t tx n o true e = look_out t tx o (names tx t.tx (and_parts (tx_same tx t.tx) (stands_at n t.phase) e).0)
look_test t tx n o false e = refuses

drop_test : (t : SessionState) (tx : TxId) (o : Outcome) (b : Bool) → (tx_same tx t.tx && may_drop t.phase && not ((t.tx).serial == 0)) ≡ b
    → Moves t (Drop tx) o (cond b (Some (record t { phase = after_drop t.phase })) None)
drop_test t tx o true e =
    let s = names tx t.tx (parts3 (tx_same tx t.tx) (may_drop t.phase) (not ((t.tx).serial == 0)) e).0 in
    drops s (turned tx t.tx s) refl (drop_ends t.phase)
drop_test t tx o false e = refuses

moves : (splits : List ℕ) (n : ℕ) (t : SessionState) (e : Event) (o : Outcome) → Moves t e o (session_after splits n t e o)
unfolding IsOther
moves splits n t (OpEvent tx birth nth seen op) o = op_moves splits t tx birth n nth seen op o (session_for t tx birth) (for_by t tx birth (tx_same tx t.tx) refl)
moves splits n t (RollTo tx nth seen upto) o = back_test t tx n nth seen upto o _ refl
moves splits n t (Request tx touched) o = request_test t tx touched n o _ refl
moves splits n t (Look tx) o = look_test t tx n o _ refl
moves splits n t (Drop tx) o = drop_test t tx o _ refl
moves splits n t _ o = stays tt

-- ---- serials rise

RisesAt : ℕ → ℕ → ℕ → List (ℕ × Entry) → Option TxId → Type 0
RisesAt run session serial es o =
    elim o [ Some tx ↦ (tx.run ≡ run) × (tx.session ≡ session) × (serial ≤ tx.serial) × SerialsRise run session tx.serial es | None ↦ SerialsRise run session serial es ]

rise_along : (a b : TxId) (es : List (ℕ × Entry)) (s : ℕ) → SameNames a b → b.serial ≡ s → SerialsRise a.run a.session a.serial es → SerialsRise b.run b.session s es
rise_along a b es s n e h =
    subst (λ x. SerialsRise b.run b.session x es) (n.serials ∙ e) (subst (λ x. SerialsRise b.run x a.serial es) n.sessions (subst (λ x. SerialsRise x a.session a.serial es) n.runs h))

from_names : (t : SessionState) (tx : TxId) (nth : ℕ) → OpFrom t tx nth → (tx.run ≡ (t.tx).run) × (tx.session ≡ (t.tx).session) × ((t.tx).serial ≤ tx.serial)
from_names t tx nth (goes s h k) = (s.runs, s.sessions, omega (arith, s.serials))
from_names t tx nth (starts r s l k) = (r, s, omega (arith, l))

rise_stays : (ev : Event) (t : SessionState) (es : List (ℕ × Entry)) → IsOther ev → SerialsRise (t.tx).run (t.tx).session (t.tx).serial es
    → RisesAt (t.tx).run (t.tx).session (t.tx).serial es (tx_of ev)
unfolding IsOther RisesAt
rise_stays (OpEvent tx birth nth seen op) t es i h = absurd i
rise_stays (RollTo tx nth seen upto) t es i h = absurd i
rise_stays (Request tx touched) t es i h = absurd i
rise_stays (Look tx) t es i h = absurd i
rise_stays (Drop tx) t es i h = absurd i
rise_stays _ t es i h = h

rise_same : (t u : SessionState) (tx : TxId) (es : List (ℕ × Entry)) → (tx.run ≡ (t.tx).run) × (tx.session ≡ (t.tx).session) × ((t.tx).serial ≤ tx.serial) → SameNames u.tx tx
    → SerialsRise (u.tx).run (u.tx).session (u.tx).serial es → RisesAt (t.tx).run (t.tx).session (t.tx).serial es (Some tx)
unfolding RisesAt
rise_same t u tx es f n h =
    (f.0, f.1, f.2, subst (λ x. SerialsRise (t.tx).run x tx.serial es) f.1 (subst (λ x. SerialsRise x tx.session tx.serial es) f.0 (rise_along u.tx tx es tx.serial n refl h)))

rise_names : (t : SessionState) (tx : TxId) → SameNames tx t.tx → (tx.run ≡ (t.tx).run) × (tx.session ≡ (t.tx).session) × ((t.tx).serial ≤ tx.serial)
rise_names t tx s = (s.runs, s.sessions, omega (arith, s.serials))

rise_by : (splits : List ℕ) (t : SessionState) (ev : Event) (o : Outcome) (v : Option SessionState) (es : List (ℕ × Entry)) → Moves t ev o v → makes_from splits v es ≡ true
    → ((u : SessionState) → makes_from splits (Some u) es ≡ true → SerialsRise (u.tx).run (u.tx).session (u.tx).serial es)
    → RisesAt (t.tx).run (t.tx).session (t.tx).serial es (tx_of ev)
rise_by splits t ev o v es refuses h k = absurd (both_ways false refl h)
rise_by splits t ev o v es (stays i) h k = rise_stays ev t es i (k t h)
rise_by splits t ev o v es (answers {tx = tx} {nth = nth} {u = u} f n m) h k = rise_same t u tx es (from_names t tx nth f) n (k u h)
rise_by splits t ev o v es (dies {tx = tx} {nth = nth} {u = u} f n m d) h k = rise_same t u tx es (from_names t tx nth f) n (k u h)
rise_by splits t ev o v es (rolls {tx = tx} {nth = nth} {u = u} f n m) h k = rise_same t u tx es (from_names t tx nth f) n (k u h)
rise_by splits t ev o v es (rolls_dead {tx = tx} {nth = nth} {u = u} f n m d) h k = rise_same t u tx es (from_names t tx nth f) n (k u h)
rise_by splits t ev o v es (asks {tx = tx} {u = u} s p n m d) h k = rise_same t u tx es (rise_names t tx s) n (k u h)
rise_by splits t ev o v es (looks {tx = tx} {u = u} s n m d) h k = rise_same t u tx es (rise_names t tx s) n (k u h)
rise_by splits t ev o v es (drops {tx = tx} {u = u} s n m d) h k = rise_same t u tx es (rise_names t tx s) n (k u h)

rise : (splits : List ℕ) (t : SessionState) (es : List (ℕ × Entry)) → makes_from splits (Some t) es ≡ true → SerialsRise (t.tx).run (t.tx).session (t.tx).serial es
unfolding RisesAt
rise splits t [] h = tt
rise splits t (e ∷ es) h = rise_by splits t (e.1).event (e.1).outcome (session_after splits e.0 t (e.1).event (e.1).outcome) es (moves splits e.0 t (e.1).event (e.1).outcome) h (λ u. rise splits u es)

-- ---- ends stay

-- the transaction with this serial is past: a later one is the session's, or it is over
IsPast : ℕ → SessionState → Type 0
IsPast serial t = (serial < (t.tx).serial) ⊎ (((t.tx).serial ≡ serial) × (is_touching t.phase ≡ false))

not_equal : (a b : ℕ) (c : Bool) → (a == b) ≡ c → b < a → c ≡ false
not_equal a b true e l = let q : a ≡ b = eqb-true a b e in absurd (omega (arith, q))
not_equal a b false e l = refl

-- what goes on is later
past_touching : (serial : ℕ) (t : SessionState) → IsPast serial t → is_touching t.phase ≡ true → serial < (t.tx).serial
unfolding IsPast
past_touching serial t (inl l) h = l
past_touching serial t (inr p) h = absurd (both_ways _ p.1 h)

past_from : (serial : ℕ) (t : SessionState) (tx : TxId) (nth : ℕ) → IsPast serial t → OpFrom t tx nth → serial < tx.serial
unfolding IsPast
past_from serial t tx nth p (goes s h k) = let l = past_touching serial t p h in omega (arith, l, s.serials)
past_from serial t tx nth (inl l) (starts r s m k) = omega (arith, l, m)
past_from serial t tx nth (inr p) (starts r s m k) = omega (arith, p.0, m)

past_later : (serial : ℕ) (u : SessionState) (tx : TxId) → serial < tx.serial → SameNames u.tx tx → IsPast serial u
unfolding IsPast
past_later serial u tx l n = inl (omega (arith, l, n.serials))

past_over : (serial : ℕ) (t u : SessionState) (tx : TxId) → IsPast serial t → SameNames tx t.tx → SameNames u.tx tx → is_touching u.phase ≡ false → IsPast serial u
unfolding IsPast
past_over serial t u tx (inl l) s n d = inl (omega (arith, l, n.serials, s.serials))
past_over serial t u tx (inr p) s n d = inr (n.serials ∙ s.serials ∙ p.0, d)

other_works : (serial : ℕ) (ev : Event) → IsOther ev → works_on serial ev ≡ false
unfolding IsOther
other_works serial (OpEvent tx birth nth seen op) i = absurd i
other_works serial (RollTo tx nth seen upto) i = absurd i
other_works serial (Request tx touched) i = absurd i
other_works serial (Look tx) i = absurd i
other_works serial (Drop tx) i = absurd i
other_works serial _ i = refl

none_by : (splits : List ℕ) (serial : ℕ) (t : SessionState) (ev : Event) (o : Outcome) (v : Option SessionState) (es : List (ℕ × Entry)) → Moves t ev o v → IsPast serial t
    → makes_from splits v es ≡ true → ((u : SessionState) → IsPast serial u → makes_from splits (Some u) es ≡ true → NoneWorksOn serial es)
    → (works_on serial ev ≡ false) × NoneWorksOn serial es
none_by splits serial t ev o v es refuses p h k = absurd (both_ways false refl h)
none_by splits serial t ev o v es (stays i) p h k = (other_works serial ev i, k t p h)
none_by splits serial t ev o v es (answers {tx = tx} {nth = nth} {u = u} f n m) p h k =
    let l = past_from serial t tx nth p f in (not_equal tx.serial serial _ refl l, k u (past_later serial u tx l n) h)
none_by splits serial t ev o v es (dies {tx = tx} {nth = nth} {u = u} f n m d) p h k =
    let l = past_from serial t tx nth p f in (not_equal tx.serial serial _ refl l, k u (past_later serial u tx l n) h)
none_by splits serial t ev o v es (rolls {tx = tx} {nth = nth} {u = u} f n m) p h k =
    let l = past_from serial t tx nth p f in (not_equal tx.serial serial _ refl l, k u (past_later serial u tx l n) h)
none_by splits serial t ev o v es (rolls_dead {tx = tx} {nth = nth} {u = u} f n m d) p h k =
    let l = past_from serial t tx nth p f in (not_equal tx.serial serial _ refl l, k u (past_later serial u tx l n) h)
none_by splits serial t ev o v es (asks {tx = tx} {u = u} s q n m d) p h k =
    let l0 = past_touching serial t p q in
    let l : serial < tx.serial = omega (arith, l0, s.serials) in
    (not_equal tx.serial serial _ refl l, k u (past_later serial u tx l n) h)
none_by splits serial t ev o v es (looks {tx = tx} {u = u} s n m d) p h k = (refl, k u (past_over serial t u tx p s n d) h)
none_by splits serial t ev o v es (drops {tx = tx} {u = u} s n m d) p h k = (refl, k u (past_over serial t u tx p s n d) h)

none : (splits : List ℕ) (serial : ℕ) (es : List (ℕ × Entry)) (t : SessionState) → IsPast serial t → makes_from splits (Some t) es ≡ true → NoneWorksOn serial es
none splits serial [] t p h = tt
none splits serial (e ∷ es) t p h =
    none_by splits serial t (e.1).event (e.1).outcome (session_after splits e.0 t (e.1).event (e.1).outcome) es (moves splits e.0 t (e.1).event (e.1).outcome) p h (none splits serial es)

EndsAt : List (ℕ × Entry) → Option ℕ → Type 0
EndsAt es o = elim o [ Some serial ↦ NoneWorksOn serial es × EndsStay es | None ↦ EndsStay es ]

ends_other : (ev : Event) (o : Outcome) (es : List (ℕ × Entry)) → IsOther ev → EndsStay es → EndsAt es (ended_by ev o)
unfolding IsOther EndsAt
ends_other (OpEvent tx birth nth seen op) o es i h = absurd i
ends_other (RollTo tx nth seen upto) o es i h = absurd i
ends_other (Request tx touched) o es i h = absurd i
ends_other (Look tx) o es i h = absurd i
ends_other (Drop tx) o es i h = absurd i
ends_other _ o es i h = h

over : (u : SessionState) (tx : TxId) → SameNames u.tx tx → is_touching u.phase ≡ false → IsPast tx.serial u
unfolding IsPast
over u tx n d = inr (n.serials, d)

ends_by : (splits : List ℕ) (t : SessionState) (ev : Event) (o : Outcome) (v : Option SessionState) (es : List (ℕ × Entry)) → Moves t ev o v → makes_from splits v es ≡ true
    → ((u : SessionState) → makes_from splits (Some u) es ≡ true → EndsStay es) → EndsAt es (ended_by ev o)
unfolding EndsAt
ends_by splits t ev o v es refuses h k = absurd (both_ways false refl h)
ends_by splits t ev o v es (stays i) h k = ends_other ev o es i (k t h)
ends_by splits t ev o v es (answers {u = u} f n m) h k = k u h
ends_by splits t ev o v es (dies {tx = tx} {u = u} f n m d) h k = (none splits tx.serial es u (over u tx n d) h, k u h)
ends_by splits t ev o v es (rolls {u = u} f n m) h k = k u h
ends_by splits t ev o v es (rolls_dead {tx = tx} {u = u} f n m d) h k = (none splits tx.serial es u (over u tx n d) h, k u h)
ends_by splits t ev o v es (asks {tx = tx} {u = u} s q n m d) h k = (none splits tx.serial es u (over u tx n d) h, k u h)
ends_by splits t ev o v es (looks {u = u} s n m d) h k = k u h
ends_by splits t ev o v es (drops {tx = tx} {u = u} s n m d) h k = (none splits tx.serial es u (over u tx n d) h, k u h)

ends : (splits : List ℕ) (es : List (ℕ × Entry)) (t : SessionState) → makes_from splits (Some t) es ≡ true → EndsStay es
unfolding EndsAt
ends splits [] t h = tt
ends splits (e ∷ es) t h = ends_by splits t (e.1).event (e.1).outcome (session_after splits e.0 t (e.1).event (e.1).outcome) es (moves splits e.0 t (e.1).event (e.1).outcome) h (ends splits es)

-- ---- operations are numbered

NumberedAt : ℕ → ℕ → List (ℕ × Entry) → Option (ℕ × ℕ) → Type 0
NumberedAt serial nth es o = elim o [ Some p ↦ IsNext serial nth p.0 p.1 × AreNumbered p.0 p.1 es | None ↦ AreNumbered serial nth es ]

numbered_along : (a b c d : ℕ) (es : List (ℕ × Entry)) → a ≡ c → b ≡ d → AreNumbered a b es → AreNumbered c d es
numbered_along a b c d es e f h = subst (λ x. AreNumbered c x es) f (subst (λ x. AreNumbered x b es) e h)

numbered_other : (ev : Event) (serial nth : ℕ) (es : List (ℕ × Entry)) → IsOther ev → AreNumbered serial nth es → NumberedAt serial nth es (number_of ev)
unfolding IsOther NumberedAt
numbered_other (OpEvent tx birth n seen op) serial nth es i h = absurd i
numbered_other (RollTo tx n seen upto) serial nth es i h = absurd i
numbered_other (Request tx touched) serial nth es i h = absurd i
numbered_other (Look tx) serial nth es i h = absurd i
numbered_other (Drop tx) serial nth es i h = absurd i
numbered_other _ serial nth es i h = h

is_next : (t : SessionState) (tx : TxId) (nth : ℕ) → OpFrom t tx nth → IsNext (t.tx).serial t.nth tx.serial nth
is_next t tx nth (goes s h k) = inl (s.serials, k)
is_next t tx nth (starts r s l k) = inr (l, k)

numbered_by : (splits : List ℕ) (t : SessionState) (ev : Event) (o : Outcome) (v : Option SessionState) (es : List (ℕ × Entry)) → Moves t ev o v → makes_from splits v es ≡ true
    → ((u : SessionState) → makes_from splits (Some u) es ≡ true → AreNumbered (u.tx).serial u.nth es) → NumberedAt (t.tx).serial t.nth es (number_of ev)
unfolding NumberedAt
numbered_by splits t ev o v es refuses h k = absurd (both_ways false refl h)
numbered_by splits t ev o v es (stays i) h k = numbered_other ev (t.tx).serial t.nth es i (k t h)
numbered_by splits t ev o v es (answers {tx = tx} {nth = nth} {u = u} f n m) h k = (is_next t tx nth f, numbered_along _ _ tx.serial nth es n.serials m (k u h))
numbered_by splits t ev o v es (dies {tx = tx} {nth = nth} {u = u} f n m d) h k = (is_next t tx nth f, numbered_along _ _ tx.serial nth es n.serials m (k u h))
numbered_by splits t ev o v es (rolls {tx = tx} {nth = nth} {u = u} f n m) h k = (is_next t tx nth f, numbered_along _ _ tx.serial nth es n.serials m (k u h))
numbered_by splits t ev o v es (rolls_dead {tx = tx} {nth = nth} {u = u} f n m d) h k = (is_next t tx nth f, numbered_along _ _ tx.serial nth es n.serials m (k u h))
numbered_by splits t ev o v es (asks {u = u} s q n m d) h k = numbered_along _ _ (t.tx).serial t.nth es (n.serials ∙ s.serials) m (k u h)
numbered_by splits t ev o v es (looks {u = u} s n m d) h k = numbered_along _ _ (t.tx).serial t.nth es (n.serials ∙ s.serials) m (k u h)
numbered_by splits t ev o v es (drops {u = u} s n m d) h k = numbered_along _ _ (t.tx).serial t.nth es (n.serials ∙ s.serials) m (k u h)

numbered : (splits : List ℕ) (es : List (ℕ × Entry)) (t : SessionState) → makes_from splits (Some t) es ≡ true → AreNumbered (t.tx).serial t.nth es
unfolding NumberedAt
numbered splits [] t h = tt
numbered splits (e ∷ es) t h =
    numbered_by splits t (e.1).event (e.1).outcome (session_after splits e.0 t (e.1).event (e.1).outcome) es (moves splits e.0 t (e.1).event (e.1).outcome) h (numbered splits es)

before_all : (run session : ℕ) → IsPast 0 (no_session run session)
unfolding IsPast
before_all run session = inr (refl, refl)

pub sessions_keep_order : SessionsKeepOrder
sessions_keep_order splits run session es h =
    let t = no_session run session in (rise splits t es h, none splits 0 es t (before_all run session) h, ends splits es t h, numbered splits es t h)
