-- What a session is told of a transaction in the end is the last of it, and what it drops was not acknowledged.
use Rattle.std.proofs.Common.{◌≡◌, ◌⊎◌, inl, inr, refl, sym, ap, subst, ◌∙◌, ℕ, ◌<◌, ◌≤◌, true, false, cond, not, Bool, List, [], ◌∷◌, Option, Some, None, ◌==◌, ◌&&◌, ◌||◌, nat_lt, arith}
use Rattle.std.specs.Map.{lookup}
use Rattle.std.proofs.lemmas.Bool.{both_ways, and_parts, ltb-true, false_from_ne_true}
use Rattle.clv_base.specs.declared.names.TxId.{TxId}
use Rattle.clv_base.specs.declared.names.Birth.{Birth}
use Rattle.clv_base.specs.declared.ops.Op.{Op}
use Rattle.clv_base.specs.declared.events.Event.{Event}
use Rattle.clv_base.specs.declared.events.Event.TheVariants.{Op as OpEvent, Request, Look, Drop, RollTo}
use Rattle.clv_base.specs.declared.events.Outcome.{Outcome}
use Rattle.clv_base.specs.declared.events.Outcome.TheVariants.{Answered, Asked, Acknowledged, Aborted, Dead, Dropped}
use Rattle.clv_base.specs.Orders.{tx_same}
use Rattle.clv_base.specs.LogRules.{same_option}
use Rattle.clv_base.specs.Sessions.{Phase, Touching, Ended, Standing, Told, Refused, SessionState, may_drop, is_number, lies_in, is_touching, same_birth, follows_birth, goes_on, begins, begun, session_for, op_answered, op_in_session, same_touched, is_lowest, requested, looked, stands_at, after_drop, session_after, makes_from, is_whole_now}
use Rattle.clv_base.specs.History.{is_acknowledgement}
use Rattle.clv_base.proofs.SameNames.{tx_true}
use Rattle.history_laws.specs.Outcomes.{is_abort}
use Rattle.history_laws.proofs.Entries.GoingsBackOfSessions.{Back, no_back, went, died, back_after}
use Rattle.history_cases.proofs.Merging.{Placed, Among, Precedes}

-- a phase that nothing but drops follows
is_over : Phase → Bool
is_over Touching = false
is_over Ended = true
is_over (Standing home) = false
is_over Told = true
is_over Refused = true

-- after the word of success: not even a drop follows
is_told : Phase → Bool
is_told Touching = false
is_told Ended = false
is_told (Standing home) = false
is_told Told = true
is_told Refused = false

-- whether an event is an operation, a going back, a request or a look of the transaction, or, where they count, a drop
abbrev pub names : Bool → TxId → Event → Bool
names drops t (OpEvent tx birth nth seen op) = tx_same t tx
names drops t (RollTo tx nth seen upto) = tx_same t tx
names drops t (Request tx touched) = tx_same t tx
names drops t (Look tx) = tx_same t tx
names drops t (Drop tx) = drops && tx_same t tx
names drops t _ = false

-- phases that only drops follow, or, where these count, nothing
record Last (over : Phase → Bool) (drops : Bool) : Type 0 where
  not_touching : (p : Phase) → over p ≡ true → is_touching p ≡ false
  not_standing : (n : ℕ) (p : Phase) → over p ≡ true → stands_at n p ≡ false
  still_over : (p : Phase) → over p ≡ true → over (after_drop p) ≡ true
  not_dropped : drops ≡ true → (p : Phase) → over p ≡ true → may_drop p ≡ false

over_last : Last is_over false
unfolding is_over
over_last = record { not_touching = touching; not_standing = standing; still_over = still; not_dropped = λ d p e. absurd (both_ways false refl d) }
  where
    touching : (p : Phase) → is_over p ≡ true → is_touching p ≡ false
    touching Touching e = absurd (both_ways false refl e)
    touching _ e = refl

    standing : (n : ℕ) (p : Phase) → is_over p ≡ true → stands_at n p ≡ false
    standing n (Standing home) e = absurd (both_ways false refl e)
    standing n _ e = refl

    still : (p : Phase) → is_over p ≡ true → is_over (after_drop p) ≡ true
    still Touching e = absurd (both_ways false refl e)
    still (Standing home) e = absurd (both_ways false refl e)
    still _ e = refl

told_last : Last is_told true
unfolding is_told
told_last = record { not_touching = touching; not_standing = standing; still_over = still; not_dropped = λ d p e. dropped p e }
  where
    touching : (p : Phase) → is_told p ≡ true → is_touching p ≡ false
    touching Touching e = absurd (both_ways false refl e)
    touching _ e = refl

    standing : (n : ℕ) (p : Phase) → is_told p ≡ true → stands_at n p ≡ false
    standing n (Standing home) e = absurd (both_ways false refl e)
    standing n _ e = refl

    still : (p : Phase) → is_told p ≡ true → is_told (after_drop p) ≡ true
    still Told e = refl
    still _ e = absurd (both_ways false refl e)

    dropped : (p : Phase) → is_told p ≡ true → may_drop p ≡ false
    dropped Told e = refl
    dropped _ e = absurd (both_ways false refl e)

-- a later transaction is another
other : (t u : TxId) → t.serial < u.serial → tx_same t u ≡ false
other t u l = false_from_ne_true (tx_same t u) (λ e. apart (ap (λ z. z.serial) (tx_true t u e)))
  where
    apart : t.serial ≡ u.serial → ⊥
    apart e = omega (arith, e, l)

data For (t tx : TxId) : Option SessionState → Type 0 where
  nobody : For t tx None
  somebody : {s : SessionState} → s.tx ≡ tx → t.serial < tx.serial → For t tx (Some s)

for_new : (t : TxId) (s : SessionState) (tx : TxId) (birth : Birth) (b : Bool) → begins s tx birth ≡ b → t.serial ≤ (s.tx).serial → For t tx (cond b (Some (begun s tx birth)) None)
for_new t s tx birth true e l =
    let p = and_parts ((tx.run == (s.tx).run) && (tx.session == (s.tx).session) && nat_lt (s.tx).serial tx.serial && (birth.session == tx.session)) (follows_birth s.birth birth s.phase) e in
    let q = and_parts ((tx.run == (s.tx).run) && (tx.session == (s.tx).session) && nat_lt (s.tx).serial tx.serial) (birth.session == tx.session) p.0 in
    let r = and_parts ((tx.run == (s.tx).run) && (tx.session == (s.tx).session)) (nat_lt (s.tx).serial tx.serial) q.0 in
    let k = ltb-true (s.tx).serial tx.serial r.1 in
    somebody refl (omega (arith, k, l))
for_new t s tx birth false e l = nobody

-- ---- behind such a phase

module _ (over : Phase → Bool) (drops : Bool) (last : Last over drops) where
  -- the transaction is over in the session, or past
  abbrev Over : TxId → SessionState → Type 0
  Over t s = ((s.tx ≡ t) × (over s.phase ≡ true)) ⊎ (t.serial < (s.tx).serial)

  data Next (t : TxId) (e : Event) : Option SessionState → Type 0 where
    gone : Next t e None
    on : {s : SessionState} → names drops t e ≡ false → Over t s → Next t e (Some s)

  for_on : (t : TxId) (s : SessionState) (tx : TxId) (birth : Birth) (b : Bool) → goes_on s tx birth ≡ b → tx ≡ s.tx → Over t s → For t tx (cond b (Some s) None)
  for_on t s tx birth true e q (inl p) = absurd (both_ways _ (last.not_touching s.phase p.1) (and_parts (is_touching s.phase) (same_birth s.birth birth) e).0)
  for_on t s tx birth true e q (inr l) = somebody (sym q) (subst (λ z. t.serial < z.serial) (sym q) l)
  for_on t s tx birth false e q o = nobody

  at_most : (t : TxId) (s : SessionState) → Over t s → t.serial ≤ (s.tx).serial
  at_most t s (inl p) = let e = ap (λ z. z.serial) p.0 in omega (arith, e)
  at_most t s (inr l) = omega (arith, l)

  for_by : (t : TxId) (s : SessionState) (tx : TxId) (birth : Birth) (b : Bool) → tx_same tx s.tx ≡ b → Over t s
      → For t tx (cond b (cond (goes_on s tx birth) (Some s) None) (cond (begins s tx birth) (Some (begun s tx birth)) None))
  for_by t s tx birth true e o = for_on t s tx birth (goes_on s tx birth) refl (tx_true tx s.tx e) o
  for_by t s tx birth false e o = for_new t s tx birth (begins s tx birth) refl (at_most t s o)

  next_answered : (t tx : TxId) (birth : Birth) (n nth : ℕ) (seen : Option ℕ) (op : Op) (s : SessionState) (o : Outcome) → s.tx ≡ tx → t.serial < tx.serial → Next t (OpEvent tx birth nth seen op) (op_answered n nth op s o)
  next_answered t tx birth n nth seen op s (Answered a epoch) e l = on (other t tx l) (inr (subst (λ z. t.serial < z.serial) (sym e) l))
  next_answered t tx birth n nth seen op s (Dead cause) e l = on (other t tx l) (inr (subst (λ z. t.serial < z.serial) (sym e) l))
  next_answered t tx birth n nth seen op s _ e l = gone

  next_if : (t : TxId) (e : Event) (b : Bool) (o : Option SessionState) → (b ≡ true → Next t e o) → Next t e (cond b o None)
  next_if t e true o k = k refl
  next_if t e false o k = gone

  next_op : (splits : List ℕ) (t tx : TxId) (birth : Birth) (n nth : ℕ) (seen : Option ℕ) (op : Op) (o : Outcome) (v : Option SessionState) → For t tx v
      → Next t (OpEvent tx birth nth seen op) (op_in_session splits n nth seen op o v)
  next_op splits t tx birth n nth seen op o None f = gone
  next_op splits t tx birth n nth seen op o (Some s) (somebody e l) = next_if t _ _ (op_answered n nth op s o) (λ b. next_answered t tx birth n nth seen op s o e l)

  -- a request or a look is of the session's transaction, which isn't the one that is over
  next_request : (t : TxId) (s : SessionState) (tx : TxId) (ts : List (ℕ × ℕ)) (n : ℕ) (o : Outcome) → tx ≡ s.tx → is_touching s.phase ≡ true → Over t s → Next t (Request tx ts) (requested n s o)
  next_request t s tx ts n o e p (inl q) = absurd (both_ways _ (last.not_touching s.phase q.1) p)
  next_request t s tx ts n Asked e p (inr l) = on (other t tx (subst (λ z. t.serial < z.serial) (sym e) l)) (inr l)
  next_request t s tx ts n (Dead cause) e p (inr l) = on (other t tx (subst (λ z. t.serial < z.serial) (sym e) l)) (inr l)
  next_request t s tx ts n _ e p (inr l) = gone

  next_back : (t : TxId) (s : SessionState) (tx : TxId) (n nth seen upto : ℕ) (o : Outcome) (v : Option SessionState) → Over t s → Back s tx n o v → Next t (RollTo tx nth seen upto) v
  next_back t s tx n nth seen upto o _ k no_back = gone
  next_back t s tx n nth seen upto _ _ (inl q) (went m e f) = absurd (both_ways _ (last.not_touching s.phase q.1) m.touching)
  next_back t s tx n nth seen upto _ _ (inr l) (went m e f) = on (other t tx (subst (λ z. t.serial < z.serial) (sym m.own) l)) (inr (subst (λ z. t.serial < z.serial) (sym e.tx) l))
  next_back t s tx n nth seen upto _ _ (inl q) (died c m e f) = absurd (both_ways _ (last.not_touching s.phase q.1) m.touching)
  next_back t s tx n nth seen upto _ _ (inr l) (died c m e f) = on (other t tx (subst (λ z. t.serial < z.serial) (sym m.own) l)) (inr (subst (λ z. t.serial < z.serial) (sym e.tx) l))

  next_look : (t : TxId) (s : SessionState) (tx : TxId) (n : ℕ) (o : Outcome) → tx ≡ s.tx → stands_at n s.phase ≡ true → Over t s → Next t (Look tx) (looked s o)
  next_look t s tx n o e p (inl q) = absurd (both_ways _ (last.not_standing n s.phase q.1) p)
  next_look t s tx n Acknowledged e p (inr l) = on (other t tx (subst (λ z. t.serial < z.serial) (sym e) l)) (inr l)
  next_look t s tx n (Aborted cause) e p (inr l) = on (other t tx (subst (λ z. t.serial < z.serial) (sym e) l)) (inr l)
  next_look t s tx n _ e p (inr l) = gone

  over_dropped : (t : TxId) (s : SessionState) → Over t s → Over t (record s { phase = after_drop s.phase })
  over_dropped t s (inl p) = inl (p.0, last.still_over s.phase p.1)
  over_dropped t s (inr l) = inr l

  unnamed : (t : TxId) (s : SessionState) (tx : TxId) → tx ≡ s.tx → may_drop s.phase ≡ true → Over t s → (b : Bool) → drops ≡ b → (b && tx_same t tx) ≡ false
  unnamed t s tx e p k false d = refl
  unnamed t s tx e p (inl q) true d = absurd (both_ways _ (last.not_dropped d s.phase q.1) p)
  unnamed t s tx e p (inr l) true d = other t tx (subst (λ z. t.serial < z.serial) (sym e) l)

  next : (splits : List ℕ) (t : TxId) (n : ℕ) (s : SessionState) (e : Event) (o : Outcome) → Over t s → Next t e (session_after splits n s e o)
  next splits t n s (OpEvent tx birth nth seen op) o k = next_op splits t tx birth n nth seen op o (session_for s tx birth) (for_by t s tx birth (tx_same tx s.tx) refl k)
  next splits t n s (RollTo tx nth seen upto) o k = next_back t s tx n nth seen upto o _ k (back_after splits n s tx nth seen upto o)
  next splits t n s (Request tx ts) o k =
      next_if t _ _ (requested n s o)
      (λ e.
      let p = and_parts (tx_same tx s.tx && is_touching s.phase && is_whole_now s && same_touched ts s.touched) (is_lowest n ts) e in
      let q = and_parts (tx_same tx s.tx && is_touching s.phase && is_whole_now s) (same_touched ts s.touched) p.0 in
      let w = and_parts (tx_same tx s.tx && is_touching s.phase) (is_whole_now s) q.0 in
      let r = and_parts (tx_same tx s.tx) (is_touching s.phase) w.0 in
      next_request t s tx ts n o (tx_true tx s.tx r.0) r.1 k)
  next splits t n s (Look tx) o k =
      next_if t _ _ (looked s o) (λ e. let p = and_parts (tx_same tx s.tx) (stands_at n s.phase) e in next_look t s tx n o (tx_true tx s.tx p.0) p.1 k)
  next splits t n s (Drop tx) o k =
      next_if t _ _ (Some (record s { phase = after_drop s.phase }))
      (λ e.
      let p = and_parts (tx_same tx s.tx && may_drop s.phase) (not ((s.tx).serial == 0)) e in
      let q = and_parts (tx_same tx s.tx) (may_drop s.phase) p.0 in
      on (unnamed t s tx (tx_true tx s.tx q.0) q.1 k drops refl) (over_dropped t s k))
  next splits t n s _ o k = on refl k

  nothing_by : (splits : List ℕ) (t : TxId) (e : Event) (v : Option SessionState) (es : List Placed) {X : Type 0} → Next t e v → makes_from splits v es ≡ true
      → (names drops t e ≡ false → (s : SessionState) → Over t s → makes_from splits (Some s) es ≡ true → X) → X
  nothing_by splits t e None es gone h k = absurd (both_ways false refl h)
  nothing_by splits t e (Some s) es (on n o) h k = k n s o h

  nothing_more : (splits : List ℕ) (t : TxId) (es : List Placed) (s : SessionState) (y : Placed) → Over t s → makes_from splits (Some s) es ≡ true → Among y es → names drops t (y.1).event ≡ false
  nothing_more splits t [] s y o h i = elim i [ ]
  nothing_more splits t (z ∷ zs) s y o h (inl e) =
      subst (λ w. names drops t (w.1).event ≡ false) e (nothing_by splits t (z.1).event (session_after splits z.0 s (z.1).event (z.1).outcome) zs (next splits t z.0 s (z.1).event (z.1).outcome o) h (λ n u p k. n))
  nothing_more splits t (z ∷ zs) s y o h (inr i) =
      nothing_by splits t (z.1).event (session_after splits z.0 s (z.1).event (z.1).outcome) zs (next splits t z.0 s (z.1).event (z.1).outcome o) h (λ n u p k. nothing_more splits t zs u y p k i)

-- ---- the entry that tells the end

abbrev pub tells_end : TxId → Event → Outcome → Bool
tells_end t e o = is_acknowledgement t e o || is_abort t e o

data Ends (over : Phase → Bool) (t : TxId) : Option SessionState → Type 0 where
  refuses : Ends over t None
  ends : {s : SessionState} → s.tx ≡ t → over s.phase ≡ true → Ends over t (Some s)

ends_if : (over : Phase → Bool) (t : TxId) (b : Bool) (o : Option SessionState) → (b ≡ true → Ends over t o) → Ends over t (cond b o None)
ends_if over t true o k = k refl
ends_if over t false o k = refuses

ends_by : (t tx : TxId) (s : SessionState) → tx_same t tx ≡ true → tx ≡ s.tx → s.tx ≡ t
ends_by t tx s a b = sym b ∙ sym (tx_true t tx a)

-- whose session an operation finds
data Whose (tx : TxId) : Option SessionState → Type 0 where
  none : Whose tx None
  its : {s : SessionState} → s.tx ≡ tx → Whose tx (Some s)

whose_if : (tx : TxId) (b : Bool) (s : SessionState) → s.tx ≡ tx → Whose tx (cond b (Some s) None)
whose_if tx true s e = its e
whose_if tx false s e = none

whose : (s : SessionState) (tx : TxId) (birth : Birth) (b : Bool) → tx_same tx s.tx ≡ b → Whose tx (cond b (cond (goes_on s tx birth) (Some s) None) (cond (begins s tx birth) (Some (begun s tx birth)) None))
whose s tx birth true e = whose_if tx (goes_on s tx birth) s (sym (tx_true tx s.tx e))
whose s tx birth false e = whose_if tx (begins s tx birth) (begun s tx birth) refl

ends_op : (splits : List ℕ) (t tx : TxId) (birth : Birth) (n nth : ℕ) (seen : Option ℕ) (op : Op) (o : Outcome) (v : Option SessionState) → tells_end t (OpEvent tx birth nth seen op) o ≡ true → Whose tx v
    → Ends is_over t (op_in_session splits n nth seen op o v)
unfolding is_over
ends_op splits t tx birth n nth seen op o None e w = refuses
ends_op splits t tx birth n nth seen op (Dead cause) (Some s) e (its f) =
    ends_if is_over t (is_number s n nth op && lies_in splits n op && same_option seen (lookup (◌==◌ n) s.touched)) _ (λ b. ends (f ∙ sym (tx_true t tx e)) refl)
ends_op splits t tx birth n nth seen op _ (Some s) e w = absurd (both_ways false refl e)

ends_request : (t tx : TxId) (s : SessionState) (ts : List (ℕ × ℕ)) (n : ℕ) (o : Outcome) → tells_end t (Request tx ts) o ≡ true → tx ≡ s.tx → Ends is_over t (requested n s o)
unfolding is_over
ends_request t tx s ts n (Dead cause) e f = ends (ends_by t tx s e f) refl
ends_request t tx s ts n _ e f = absurd (both_ways false refl e)

ends_back : (t tx : TxId) (s : SessionState) (n nth seen upto : ℕ) (o : Outcome) (v : Option SessionState) → tells_end t (RollTo tx nth seen upto) o ≡ true → Back s tx n o v → Ends is_over t v
unfolding is_over
ends_back t tx s n nth seen upto o _ k no_back = refuses
ends_back t tx s n nth seen upto _ _ k (went m e f) = absurd (both_ways false refl k)
ends_back t tx s n nth seen upto _ _ k (died c m e f) = ends (e.tx ∙ ends_by t tx s k m.own) (ap is_over f)

ends_look : (t tx : TxId) (s : SessionState) (o : Outcome) → tells_end t (Look tx) o ≡ true → tx ≡ s.tx → Ends is_over t (looked s o)
unfolding is_over
ends_look t tx s Acknowledged e f = ends (ends_by t tx s (or_false (tx_same t tx) e) f) refl
  where
    or_false : (b : Bool) → (b || false) ≡ true → b ≡ true
    or_false true g = refl
    or_false false g = g
ends_look t tx s (Aborted cause) e f = ends (ends_by t tx s e f) refl
ends_look t tx s _ e f = absurd (both_ways false refl e)

drop_over : (p : Phase) → may_drop p ≡ true → is_over (after_drop p) ≡ true
unfolding is_over
drop_over Touching e = refl
drop_over Ended e = refl
drop_over Refused e = refl
drop_over _ e = absurd (both_ways false refl e)

ends_at : (splits : List ℕ) (t : TxId) (n : ℕ) (s : SessionState) (e : Event) (o : Outcome) → tells_end t e o ≡ true → Ends is_over t (session_after splits n s e o)
ends_at splits t n s (OpEvent tx birth nth seen op) o k = ends_op splits t tx birth n nth seen op o (session_for s tx birth) k (whose s tx birth (tx_same tx s.tx) refl)
ends_at splits t n s (RollTo tx nth seen upto) o k = ends_back t tx s n nth seen upto o _ k (back_after splits n s tx nth seen upto o)
ends_at splits t n s (Request tx ts) o k =
    ends_if is_over t _ (requested n s o)
    (λ e.
    let p = and_parts (tx_same tx s.tx && is_touching s.phase && is_whole_now s && same_touched ts s.touched) (is_lowest n ts) e in
    let q = and_parts (tx_same tx s.tx && is_touching s.phase && is_whole_now s) (same_touched ts s.touched) p.0 in
    let w = and_parts (tx_same tx s.tx && is_touching s.phase) (is_whole_now s) q.0 in
    ends_request t tx s ts n o k (tx_true tx s.tx (and_parts (tx_same tx s.tx) (is_touching s.phase) w.0).0))
ends_at splits t n s (Look tx) o k = ends_if is_over t _ (looked s o) (λ e. ends_look t tx s o k (tx_true tx s.tx (and_parts (tx_same tx s.tx) (stands_at n s.phase) e).0))
ends_at splits t n s (Drop tx) o k =
    ends_if is_over t _ (Some (record s { phase = after_drop s.phase }))
    (λ e.
    let p = and_parts (tx_same tx s.tx && may_drop s.phase) (not ((s.tx).serial == 0)) e in
    let q = and_parts (tx_same tx s.tx) (may_drop s.phase) p.0 in
    ends (ends_by t tx s (drop_of o k) (tx_true tx s.tx q.0)) (drop_over s.phase q.1))
  where
    drop_of : (o : Outcome) → tells_end t (Drop tx) o ≡ true → tx_same t tx ≡ true
    drop_of Dropped e = e
    drop_of _ e = absurd (both_ways false refl e)
ends_at splits t n s _ o k = absurd (both_ways false refl k)

-- ---- the entry that tells of success

told_look : (t tx : TxId) (s : SessionState) (o : Outcome) → is_acknowledgement t (Look tx) o ≡ true → tx ≡ s.tx → Ends is_told t (looked s o)
unfolding is_told
told_look t tx s Acknowledged e f = ends (ends_by t tx s e f) refl
told_look t tx s _ e f = absurd (both_ways false refl e)

told_at : (splits : List ℕ) (t : TxId) (n : ℕ) (s : SessionState) (e : Event) (o : Outcome) → is_acknowledgement t e o ≡ true → Ends is_told t (session_after splits n s e o)
told_at splits t n s (Look tx) o k = ends_if is_told t _ (looked s o) (λ e. told_look t tx s o k (tx_true tx s.tx (and_parts (tx_same tx s.tx) (stands_at n s.phase) e).0))
told_at splits t n s _ o k = absurd (both_ways false refl k)

-- ---- what follows

goes : (splits : List ℕ) (v : Option SessionState) (es : List Placed) {X : Type 0} → makes_from splits v es ≡ true → ((s : SessionState) → makes_from splits (Some s) es ≡ true → X) → X
goes splits None es h k = absurd (both_ways false refl h)
goes splits (Some s) es h k = k s h

module _ (over : Phase → Bool) (drops : Bool) (last : Last over drops) (splits : List ℕ) (t : TxId) (tells : Event → Outcome → Bool) (ends_so : (n : ℕ) (s : SessionState) (e : Event) (o : Outcome) → tells e o ≡ true → Ends over t (session_after splits n s e o)) where
  ended : (v : Option SessionState) (es : List Placed) (y : Placed) → Ends over t v → makes_from splits v es ≡ true → Among y es → names drops t (y.1).event ≡ false
  ended None es y e h i = absurd (both_ways false refl h)
  ended (Some s) es y (ends f o) h i = nothing_more over drops last splits t es s y (inl (f, o)) h i

  follows : (es : List Placed) (s : SessionState) (x y : Placed) → makes_from splits (Some s) es ≡ true → Precedes x y es → tells (x.1).event (x.1).outcome ≡ true → names drops t (y.1).event ≡ false
  follows [] s x y h p e = elim p [ ]
  follows (z ∷ zs) s x y h (inl p) e =
      ended (session_after splits z.0 s (z.1).event (z.1).outcome) zs y
      (ends_so z.0 s (z.1).event (z.1).outcome (subst (λ w. tells (w.1).event (w.1).outcome ≡ true) (sym p.0) e)) h p.1
  follows (z ∷ zs) s x y h (inr p) e = goes splits (session_after splits z.0 s (z.1).event (z.1).outcome) zs h (λ u k. follows zs u x y k p e)

-- nothing but drops follows what tells the end of a transaction
pub nothing_after_end : (splits : List ℕ) (es : List Placed) (s : SessionState) (x y : Placed) (t : TxId) → makes_from splits (Some s) es ≡ true → Precedes x y es → tells_end t (x.1).event (x.1).outcome ≡ true
    → names false t (y.1).event ≡ false
nothing_after_end splits es s x y t h p e = follows is_over false over_last splits t (tells_end t) (λ n z f o k. ends_at splits t n z f o k) es s x y h p e

-- and nothing at all, not even a drop, what tells of success
pub nothing_after_success : (splits : List ℕ) (es : List Placed) (s : SessionState) (x y : Placed) (t : TxId) → makes_from splits (Some s) es ≡ true → Precedes x y es → is_acknowledgement t (x.1).event (x.1).outcome ≡ true
    → names true t (y.1).event ≡ false
nothing_after_success splits es s x y t h p e = follows is_told true told_last splits t (is_acknowledgement t) (λ n z f o k. told_at splits t n z f o k) es s x y h p e
