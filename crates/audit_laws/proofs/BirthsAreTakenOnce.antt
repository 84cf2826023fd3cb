-- Behind a request that was told of no abort, and behind an acknowledgement, all that the session begins has a later birth.
use Rattle.std.proofs.Common.{◌≡◌, ◌⊎◌, inl, inr, refl, sym, ap, subst, ◌∙◌, ℕ, ◌<◌, true, false, cond, not, Bool, List, [], ◌∷◌, Option, Some, None, ◌==◌, ◌&&◌, nat_lt, arith}
use Rattle.std.specs.Map.{lookup}
use Rattle.std.specs.Cmp.{IsTotalOrder}
use Rattle.std.specs.Ordering.{is_eq, is_lt, nat_cmp}
use Rattle.std.specs.declared.cmp.Ordering.{Ordering}
use Rattle.std.specs.declared.cmp.Ordering.TheVariants.{Less, Equal, Greater}
use Rattle.std.proofs.lemmas.Bool.{both_ways, and_parts, or_cases, ltb-true}
use Rattle.std.proofs.lemmas.Cmp.{then_total, on_total, nat_cmp_total}
use Rattle.clv_base.specs.declared.names.TxId.{TxId}
use Rattle.clv_base.specs.declared.names.Birth.{Birth}
use Rattle.clv_base.specs.declared.ops.Op.{Op}
use Rattle.clv_base.specs.declared.events.Event.{Event}
use Rattle.clv_base.specs.declared.events.Event.TheVariants.{Op as OpEvent, Request, Look, Drop, RollTo}
use Rattle.clv_base.specs.declared.events.Outcome.{Outcome}
use Rattle.clv_base.specs.declared.events.Outcome.TheVariants.{Answered, Asked, Acknowledged, Aborted, Dead}
use Rattle.clv_base.specs.Orders.{tx_same, birth_cmp, is_older}
use Rattle.clv_base.specs.LogRules.{same_option}
use Rattle.clv_base.specs.Sessions.{Phase, Touching, Ended, Standing, Told, Refused, SessionState, may_drop, is_number, lies_in, is_touching, same_birth, follows_birth, goes_on, begins, begun, session_for, op_answered, op_in_session, same_touched, is_lowest, requested, looked, stands_at, after_drop, session_after, makes_from, is_whole_now}
use Rattle.clv_base.proofs.SameNames.{tx_true, tx_eq, then_eq, then_both, nat_cmp_true, nat_cmp_self}
use Rattle.law_base.proofs.Bools.{less_is}
use Rattle.history_laws.specs.Outcomes.{is_abort}
use Rattle.history_laws.proofs.Entries.GoingsBackOfSessions.{Back, no_back, went, died, back_after}
use Rattle.history_cases.proofs.Merging.{Placed, Among, Precedes}

-- ---- births

birth_order : IsTotalOrder birth_cmp
birth_order = then_total (on_total (λ t. t.stamp) nat_cmp_total) (then_total (on_total (λ t. t.session) nat_cmp_total) (on_total (λ t. t.serial) nat_cmp_total))

older_then : (a b c : Birth) → is_older a b ≡ true → is_older b c ≡ true → is_older a c ≡ true
older_then a b c e f = ap is_lt (birth_order.trans a b c (less_is _ e) (less_is _ f))

pub same_births : (a b : Birth) → is_eq (birth_cmp a b) ≡ true → a ≡ b
same_births a b e =
    let p = then_eq (nat_cmp a.stamp b.stamp) _ e in
    let q = then_eq (nat_cmp a.session b.session) _ p.1 in
    fields a.stamp a.session a.serial b.stamp b.session b.serial (nat_cmp_true _ _ p.0) (nat_cmp_true _ _ q.0) (nat_cmp_true _ _ q.1)
  where
    fields : (i j k l m n : ℕ) → i ≡ l → j ≡ m → k ≡ n → ◌≡◌ {A = Birth} (record { stamp = i; session = j; serial = k }) (record { stamp = l; session = m; serial = n })
    fields i j k l m n f g h = cc

pub not_older : (a b : Birth) → a ≡ b → is_older a b ≡ true → ⊥
not_older a b same e = at (birth_cmp a a) (subst (λ c. is_older a c ≡ true) (sym same) e) (self_eq a)
  where
    self_eq : (c : Birth) → is_eq (birth_cmp c c) ≡ true
    self_eq c = then_both _ _ (nat_cmp_self c.stamp) (then_both _ _ (nat_cmp_self c.session) (nat_cmp_self c.serial))

    at : (o : Ordering) → is_lt o ≡ true → is_eq o ≡ true → ⊥
    at Less f g = both_ways false refl g
    at Equal f g = both_ways false refl f
    at Greater f g = both_ways false refl f

-- ---- phases that no try of the same birth follows

abbrev is_kept : Phase → Bool
is_kept Touching = false
is_kept Ended = false
is_kept (Standing home) = true
is_kept Told = true
is_kept Refused = false

kept_not_touching : (p : Phase) → is_kept p ≡ true → is_touching p ≡ false
kept_not_touching Touching e = absurd (both_ways false refl e)
kept_not_touching _ e = refl

kept_not_dropped : (p : Phase) → is_kept p ≡ true → may_drop p ≡ false
kept_not_dropped Touching e = absurd (both_ways false refl e)
kept_not_dropped Ended e = absurd (both_ways false refl e)
kept_not_dropped Refused e = absurd (both_ways false refl e)
kept_not_dropped _ e = refl

-- ---- what an entry makes of a session: it stays with its transaction, or begins a later one

data Moves (s : SessionState) : Option SessionState → Type 0 where
  no_move : Moves s None
  stays : {u : SessionState} → u.tx ≡ s.tx → u.birth ≡ s.birth → Moves s (Some u)
  goes_up : {u : SessionState} → (s.tx).serial < (u.tx).serial → Moves s (Some u)

move_if : (s : SessionState) (c : Bool) (v : Option SessionState) → Moves s v → Moves s (cond c v None)
move_if s true v m = m
move_if s false v m = no_move

-- an operation's session
data For (s : SessionState) (tx : TxId) (birth : Birth) : Option SessionState → Type 0 where
  nobody : For s tx birth None
  the_same : {u : SessionState} → u.tx ≡ tx → u.birth ≡ Some birth → u ≡ s → is_touching s.phase ≡ true → For s tx birth (Some u)
  a_new_one : {u : SessionState} → u.tx ≡ tx → u.birth ≡ Some birth → (s.tx).serial < (u.tx).serial → follows_birth s.birth birth s.phase ≡ true → For s tx birth (Some u)

birth_is : (o : Option Birth) (birth : Birth) → same_birth o birth ≡ true → o ≡ Some birth
birth_is None birth e = absurd (both_ways false refl e)
birth_is (Some a) birth e = ap (λ b. Some b) (same_births a birth e)

for_on : (s : SessionState) (tx : TxId) (birth : Birth) (c : Bool) → goes_on s tx birth ≡ c → tx ≡ s.tx → For s tx birth (cond c (Some s) None)
for_on s tx birth true e own = let p = and_parts (is_touching s.phase) (same_birth s.birth birth) e in the_same (sym own) (birth_is s.birth birth p.1) refl p.0
for_on s tx birth false e own = nobody

for_new : (s : SessionState) (tx : TxId) (birth : Birth) (c : Bool) → begins s tx birth ≡ c → For s tx birth (cond c (Some (begun s tx birth)) None)
for_new s tx birth true e =
    let p = and_parts ((tx.run == (s.tx).run) && (tx.session == (s.tx).session) && nat_lt (s.tx).serial tx.serial && (birth.session == tx.session)) (follows_birth s.birth birth s.phase) e in
    let q = and_parts ((tx.run == (s.tx).run) && (tx.session == (s.tx).session) && nat_lt (s.tx).serial tx.serial) (birth.session == tx.session) p.0 in
    let r = and_parts ((tx.run == (s.tx).run) && (tx.session == (s.tx).session)) (nat_lt (s.tx).serial tx.serial) q.0 in
    a_new_one refl refl (ltb-true (s.tx).serial tx.serial r.1) p.1
for_new s tx birth false e = nobody

for_by : (s : SessionState) (tx : TxId) (birth : Birth) (c : Bool) → tx_same tx s.tx ≡ c → For s tx birth (cond c (cond (goes_on s tx birth) (Some s) None) (cond (begins s tx birth) (Some (begun s tx birth)) None))
for_by s tx birth true e = for_on s tx birth (goes_on s tx birth) refl (tx_true tx s.tx e)
for_by s tx birth false e = for_new s tx birth (begins s tx birth) refl

-- an answered or a fatal operation leaves the session with the operation's transaction and birth
data Did (tx : TxId) (birth : Birth) : Option SessionState → Type 0 where
  undone : Did tx birth None
  did : {u : SessionState} → u.tx ≡ tx → u.birth ≡ Some birth → Did tx birth (Some u)

did_if : (tx : TxId) (birth : Birth) (c : Bool) (v : Option SessionState) → Did tx birth v → Did tx birth (cond c v None)
did_if tx birth true v d = d
did_if tx birth false v d = undone

did_so : (tx : TxId) (birth : Birth) (n nth : ℕ) (op : Op) (u : SessionState) (o : Outcome) → u.tx ≡ tx → u.birth ≡ Some birth → Did tx birth (op_answered n nth op u o)
did_so tx birth n nth op u (Answered answer epoch) e f = did e f
did_so tx birth n nth op u (Dead cause) e f = did e f
did_so tx birth n nth op u _ e f = undone

did_in : (splits : List ℕ) (s : SessionState) (tx : TxId) (birth : Birth) (n nth : ℕ) (seen : Option ℕ) (op : Op) (o : Outcome) (v : Option SessionState) → For s tx birth v → Did tx birth (op_in_session splits n nth seen op o v)
did_in splits s tx birth n nth seen op o None f = undone
did_in splits s tx birth n nth seen op o (Some u) (the_same e f g k) = did_if tx birth (is_number u n nth op && lies_in splits n op && same_option seen (lookup (◌==◌ n) u.touched)) _ (did_so tx birth n nth op u o e f)
did_in splits s tx birth n nth seen op o (Some u) (a_new_one e f g k) = did_if tx birth (is_number u n nth op && lies_in splits n op && same_option seen (lookup (◌==◌ n) u.touched)) _ (did_so tx birth n nth op u o e f)

did_op : (splits : List ℕ) (n : ℕ) (s : SessionState) (tx : TxId) (birth : Birth) (nth : ℕ) (seen : Option ℕ) (op : Op) (o : Outcome) → Did tx birth (session_after splits n s (OpEvent tx birth nth seen op) o)
did_op splits n s tx birth nth seen op o = did_in splits s tx birth n nth seen op o (session_for s tx birth) (for_by s tx birth (tx_same tx s.tx) refl)

moves_op : (splits : List ℕ) (s : SessionState) (tx : TxId) (birth : Birth) (n nth : ℕ) (seen : Option ℕ) (op : Op) (o : Outcome) (v : Option SessionState) → For s tx birth v → Moves s (op_in_session splits n nth seen op o v)
moves_op splits s tx birth n nth seen op o None f = no_move
moves_op splits s tx birth n nth seen op o (Some u) (the_same e f g k) = move_if s (is_number u n nth op && lies_in splits n op && same_option seen (lookup (◌==◌ n) u.touched)) _ (at o)
  where
    at : (p : Outcome) → Moves s (op_answered n nth op u p)
    at (Answered answer epoch) = stays (ap (λ z. z.tx) g) (ap (λ z. z.birth) g)
    at (Dead cause) = stays (ap (λ z. z.tx) g) (ap (λ z. z.birth) g)
    at _ = no_move
moves_op splits s tx birth n nth seen op o (Some u) (a_new_one e f g k) = move_if s (is_number u n nth op && lies_in splits n op && same_option seen (lookup (◌==◌ n) u.touched)) _ (at o)
  where
    at : (p : Outcome) → Moves s (op_answered n nth op u p)
    at (Answered answer epoch) = goes_up g
    at (Dead cause) = goes_up g
    at _ = no_move

moves : (splits : List ℕ) (n : ℕ) (s : SessionState) (e : Event) (o : Outcome) → Moves s (session_after splits n s e o)
moves splits n s (OpEvent tx birth nth seen op) o = moves_op splits s tx birth n nth seen op o (session_for s tx birth) (for_by s tx birth (tx_same tx s.tx) refl)
moves splits n s (RollTo tx nth seen upto) o = at _ _ (back_after splits n s tx nth seen upto o)
  where
    at : (p : Outcome) (v : Option SessionState) → Back s tx n p v → Moves s v
    at p _ no_back = no_move
    at _ _ (went m e f) = stays e.tx e.birth
    at _ _ (died c m e f) = stays e.tx e.birth
moves splits n s (Request tx ts) o = move_if s (tx_same tx s.tx && is_touching s.phase && is_whole_now s && same_touched ts s.touched && is_lowest n ts) (requested n s o) (at o)
  where
    at : (p : Outcome) → Moves s (requested n s p)
    at Asked = stays refl refl
    at (Dead cause) = stays refl refl
    at _ = no_move
moves splits n s (Look tx) o = move_if s (tx_same tx s.tx && stands_at n s.phase) (looked s o) (at o)
  where
    at : (p : Outcome) → Moves s (looked s p)
    at Acknowledged = stays refl refl
    at (Aborted cause) = stays refl refl
    at _ = no_move
moves splits n s (Drop tx) o = move_if s (tx_same tx s.tx && may_drop s.phase && not ((s.tx).serial == 0)) _ (stays refl refl)
moves splits n s _ o = stays refl refl

-- ---- behind such a phase

-- an operation's birth is later than this one
abbrev pub IsLaterOp : Birth → Event → Type 0
IsLaterOp b (OpEvent tx birth nth seen op) = is_older b birth ≡ true
IsLaterOp b _ = Unit {0}

-- the transaction has this birth, and the session is at it; or it is past it
record Kept (t : TxId) (b : Birth) (s : SessionState) : Type 0 where
  own : s.tx ≡ t
  born : s.birth ≡ Some b
  kept : is_kept s.phase ≡ true

record Later (b : Birth) (s : SessionState) : Type 0 where
  birth : Birth
  born : s.birth ≡ Some birth
  later : is_older b birth ≡ true

some_birth : {a b : Birth} → Some a ≡ Some b → a ≡ b
some_birth e = cc

module _ (t : TxId) (b : Birth) where
  abbrev Past : SessionState → Type 0
  Past s = Kept t b s ⊎ Later b s

  data Next (e : Event) : Option SessionState → Type 0 where
    gone : Next e None
    on : {s : SessionState} → IsLaterOp b e → Past s → Next e (Some s)

  next_if : (e : Event) (c : Bool) (v : Option SessionState) → (c ≡ true → Next e v) → Next e (cond c v None)
  next_if e true v k = k refl
  next_if e false v k = gone

  rises_by : (s : SessionState) (birth : Birth) → Past s → follows_birth s.birth birth s.phase ≡ true → is_older b birth ≡ true
  rises_by s birth (inl k) f = at (or_cases (is_older b birth) (is_eq (birth_cmp b birth) && may_drop s.phase) (subst (λ o. follows_birth o birth s.phase ≡ true) k.born f))
    where
      at : (is_older b birth ≡ true) ⊎ ((is_eq (birth_cmp b birth) && may_drop s.phase) ≡ true) → is_older b birth ≡ true
      at (inl e) = e
      at (inr e) = absurd (both_ways _ (kept_not_dropped s.phase k.kept) (and_parts (is_eq (birth_cmp b birth)) (may_drop s.phase) e).1)
  rises_by s birth (inr l) f = at (or_cases (is_older l.birth birth) (is_eq (birth_cmp l.birth birth) && may_drop s.phase) (subst (λ o. follows_birth o birth s.phase ≡ true) l.born f))
    where
      at : (is_older l.birth birth ≡ true) ⊎ ((is_eq (birth_cmp l.birth birth) && may_drop s.phase) ≡ true) → is_older b birth ≡ true
      at (inl e) = older_then b l.birth birth l.later e
      at (inr e) = subst (λ c. is_older b c ≡ true) (same_births l.birth birth (and_parts (is_eq (birth_cmp l.birth birth)) (may_drop s.phase) e).0) l.later

  -- an operation goes on with a later transaction, or begins one
  later_for : (s : SessionState) (tx : TxId) (birth : Birth) (u : SessionState) → Past s → For s tx birth (Some u) → is_older b birth ≡ true
  later_for s tx birth u (inl p) (the_same f g same touching) = absurd (both_ways _ (kept_not_touching s.phase p.kept) touching)
  later_for s tx birth u (inr l) (the_same f g same touching) = subst (λ c. is_older b c ≡ true) (some_birth (sym l.born ∙ sym (ap (λ z. z.birth) same) ∙ g)) l.later
  later_for s tx birth u p (a_new_one f g up follows) = rises_by s birth p follows

  next_op :
      (splits : List ℕ) (s : SessionState) (tx : TxId) (birth : Birth) (n nth : ℕ) (seen : Option ℕ) (op : Op) (o : Outcome) (v : Option SessionState) → Past s → For s tx birth v
      → Next (OpEvent tx birth nth seen op) (op_in_session splits n nth seen op o v)
  next_op splits s tx birth n nth seen op o None p f = gone
  next_op splits s tx birth n nth seen op o (Some u) p f = by _ (did_in splits s tx birth n nth seen op o (Some u) f) (later_for s tx birth u p f)
    where
      by : (w : Option SessionState) → Did tx birth w → is_older b birth ≡ true → Next (OpEvent tx birth nth seen op) w
      by None undone e = gone
      by (Some x) (did g h) e = on e (inr (record { birth = birth; born = h; later = e }))

  -- where the session stays with its transaction
  later_still : (s u : SessionState) → Later b s → u.birth ≡ s.birth → Later b u
  later_still s u l e = record { birth = l.birth; born = e ∙ l.born; later = l.later }

  next_back : (s : SessionState) (tx : TxId) (n nth seen upto : ℕ) (o : Outcome) (v : Option SessionState) → Past s → Back s tx n o v → Next (RollTo tx nth seen upto) v
  next_back s tx n nth seen upto o _ p no_back = gone
  next_back s tx n nth seen upto _ _ (inl k) (went m e f) = absurd (both_ways _ (kept_not_touching s.phase k.kept) m.touching)
  next_back s tx n nth seen upto _ _ (inr l) (went m e f) = on tt (inr (later_still s _ l e.birth))
  next_back s tx n nth seen upto _ _ (inl k) (died c m e f) = absurd (both_ways _ (kept_not_touching s.phase k.kept) m.touching)
  next_back s tx n nth seen upto _ _ (inr l) (died c m e f) = on tt (inr (later_still s _ l e.birth))

  next_request : (s : SessionState) (tx : TxId) (ts : List (ℕ × ℕ)) (n : ℕ) (o : Outcome) → is_touching s.phase ≡ true → Past s → Next (Request tx ts) (requested n s o)
  next_request s tx ts n o e (inl k) = absurd (both_ways _ (kept_not_touching s.phase k.kept) e)
  next_request s tx ts n Asked e (inr l) = on tt (inr (later_still s _ l refl))
  next_request s tx ts n (Dead cause) e (inr l) = on tt (inr (later_still s _ l refl))
  next_request s tx ts n _ e (inr l) = gone

  -- no look tells of the transaction's abort
  next_look : (s : SessionState) (tx : TxId) (o : Outcome) → tx ≡ s.tx → is_abort t (Look tx) o ≡ false → Past s → Next (Look tx) (looked s o)
  next_look s tx Acknowledged e a (inl k) = on tt (inl (record { own = k.own; born = k.born; kept = refl }))
  next_look s tx Acknowledged e a (inr l) = on tt (inr (later_still s _ l refl))
  next_look s tx (Aborted cause) e a (inl k) = absurd (both_ways _ a (tx_eq t tx (sym (e ∙ k.own))))
  next_look s tx (Aborted cause) e a (inr l) = on tt (inr (later_still s _ l refl))
  next_look s tx _ e a p = gone

  next_drop : (s : SessionState) (tx : TxId) → may_drop s.phase ≡ true → Past s → Next (Drop tx) (Some (record s { phase = after_drop s.phase }))
  next_drop s tx e (inl k) = absurd (both_ways _ (kept_not_dropped s.phase k.kept) e)
  next_drop s tx e (inr l) = on tt (inr (later_still s _ l refl))

  next : (splits : List ℕ) (n : ℕ) (s : SessionState) (e : Event) (o : Outcome) → is_abort t e o ≡ false → Past s → Next e (session_after splits n s e o)
  next splits n s (OpEvent tx birth nth seen op) o a p = next_op splits s tx birth n nth seen op o (session_for s tx birth) p (for_by s tx birth (tx_same tx s.tx) refl)
  next splits n s (RollTo tx nth seen upto) o a p = next_back s tx n nth seen upto o _ p (back_after splits n s tx nth seen upto o)
  next splits n s (Request tx ts) o a p =
      next_if (Request tx ts) (tx_same tx s.tx && is_touching s.phase && is_whole_now s && same_touched ts s.touched && is_lowest n ts) (requested n s o)
      (λ e.
      let q = and_parts (tx_same tx s.tx && is_touching s.phase && is_whole_now s && same_touched ts s.touched) (is_lowest n ts) e in
      let r = and_parts (tx_same tx s.tx && is_touching s.phase && is_whole_now s) (same_touched ts s.touched) q.0 in
      let w = and_parts (tx_same tx s.tx && is_touching s.phase) (is_whole_now s) r.0 in
      next_request s tx ts n o (and_parts (tx_same tx s.tx) (is_touching s.phase) w.0).1 p)
  next splits n s (Look tx) o a p =
      next_if (Look tx) (tx_same tx s.tx && stands_at n s.phase) (looked s o) (λ e. next_look s tx o (tx_true tx s.tx (and_parts (tx_same tx s.tx) (stands_at n s.phase) e).0) a p)
  next splits n s (Drop tx) o a p =
      next_if (Drop tx) (tx_same tx s.tx && may_drop s.phase && not ((s.tx).serial == 0)) (Some (record s { phase = after_drop s.phase }))
      (λ e. let q = and_parts (tx_same tx s.tx && may_drop s.phase) (not ((s.tx).serial == 0)) e in next_drop s tx (and_parts (tx_same tx s.tx) (may_drop s.phase) q.0).1 p)
  next splits n s _ o a p = on tt p

  abbrev NotAborted : List Placed → Type 0
  NotAborted es = (z : Placed) → Among z es → is_abort t (z.1).event (z.1).outcome ≡ false

  behind : (splits : List ℕ) (es : List Placed) (s : SessionState) (y : Placed) → Past s → makes_from splits (Some s) es ≡ true → NotAborted es → Among y es → IsLaterOp b (y.1).event
  behind splits [] s y p h a i = elim i [ ]
  behind splits (z ∷ zs) s y p h a i =
      at (session_after splits z.0 s (z.1).event (z.1).outcome) (next splits z.0 s (z.1).event (z.1).outcome (a z (inl refl)) p) h (λ u q g j. behind splits zs u y q g (λ x m. a x (inr m)) j) i
    where
      at : (v : Option SessionState) → Next (z.1).event v → makes_from splits v zs ≡ true → ((u : SessionState) → Past u → makes_from splits (Some u) zs ≡ true → Among y zs → IsLaterOp b (y.1).event) → (z ≡ y) ⊎ Among y zs → IsLaterOp b (y.1).event
      at None g k rec j = absurd (both_ways false refl k)
      at (Some u) (on e q) k rec (inl same) = subst (λ (w : Placed). IsLaterOp b (w.1).event) same e
      at (Some u) (on e q) k rec (inr j) = rec u q k j

  -- ---- where it begins: a request that was taken, or an acknowledgement

  pub data IsMark (e : Event) (o : Outcome) : Type 0 where
    asked : (ts : List (ℕ × ℕ)) → e ≡ Request t ts → o ≡ Asked → IsMark e o
    told : e ≡ Look t → o ≡ Acknowledged → IsMark e o

  -- the session is at the transaction, which has this birth, or past it
  abbrev AtLeast : SessionState → Type 0
  AtLeast s = ((s.tx ≡ t) × (s.birth ≡ Some b)) ⊎ (t.serial < (s.tx).serial)

  data Marked : Option SessionState → Type 0 where
    unmarked : Marked None
    marked : {u : SessionState} → Kept t b u → Marked (Some u)

  marked_if : (c : Bool) (v : Option SessionState) → (c ≡ true → Marked v) → Marked (cond c v None)
  marked_if true v k = k refl
  marked_if false v k = unmarked

  own_birth : (s : SessionState) → t ≡ s.tx → AtLeast s → s.birth ≡ Some b
  own_birth s e (inl k) = k.1
  own_birth s e (inr l) = absurd (let same = ap (λ z. z.serial) e in omega (arith, l, same))

  request_marks : (splits : List ℕ) (n : ℕ) (s : SessionState) (ts : List (ℕ × ℕ)) → AtLeast s → Marked (session_after splits n s (Request t ts) Asked)
  request_marks splits n s ts k =
      marked_if (tx_same t s.tx && is_touching s.phase && is_whole_now s && same_touched ts s.touched && is_lowest n ts) (requested n s Asked)
      (λ e.
      let q = and_parts (tx_same t s.tx && is_touching s.phase && is_whole_now s && same_touched ts s.touched) (is_lowest n ts) e in
      let r = and_parts (tx_same t s.tx && is_touching s.phase && is_whole_now s) (same_touched ts s.touched) q.0 in
      let w = and_parts (tx_same t s.tx && is_touching s.phase) (is_whole_now s) r.0 in
      let own = tx_true t s.tx (and_parts (tx_same t s.tx) (is_touching s.phase) w.0).0 in
      marked (record { own = sym own; born = own_birth s own k; kept = refl }))

  look_marks : (splits : List ℕ) (n : ℕ) (s : SessionState) → AtLeast s → Marked (session_after splits n s (Look t) Acknowledged)
  look_marks splits n s k =
      marked_if (tx_same t s.tx && stands_at n s.phase) (looked s Acknowledged)
      (λ e. let own = tx_true t s.tx (and_parts (tx_same t s.tx) (stands_at n s.phase) e).0 in marked (record { own = sym own; born = own_birth s own k; kept = refl }))

  mark_by : (splits : List ℕ) (n : ℕ) (s : SessionState) (e : Event) (o : Outcome) → IsMark e o → AtLeast s → Marked (session_after splits n s e o)
  mark_by splits n s e o (asked ts f g) k =
      subst (λ (z : Event). Marked (session_after splits n s z o)) (sym f) (subst (λ (z : Outcome). Marked (session_after splits n s (Request t ts) z)) (sym g) (request_marks splits n s ts k))
  mark_by splits n s e o (told f g) k =
      subst (λ (z : Event). Marked (session_after splits n s z o)) (sym f) (subst (λ (z : Outcome). Marked (session_after splits n s (Look t) z)) (sym g) (look_marks splits n s k))

  at_least_still : (s u : SessionState) → AtLeast s → Moves s (Some u) → AtLeast u
  at_least_still s u (inl k) (stays e f) = inl (e ∙ k.0, f ∙ k.1)
  at_least_still s u (inr l) (stays e f) = inr (subst (λ z. t.serial < z.serial) (sym e) l)
  at_least_still s u (inl k) (goes_up l) = inr (subst (λ z. z.serial < (u.tx).serial) k.0 l)
  at_least_still s u (inr m) (goes_up l) = inr (omega (arith, l, m))

  from_birth : (splits : List ℕ) (es : List Placed) (s : SessionState) (x y : Placed) → AtLeast s → makes_from splits (Some s) es ≡ true → NotAborted es → IsMark (x.1).event (x.1).outcome → Precedes x y es → IsLaterOp b (y.1).event
  from_birth splits [] s x y k h a m p = elim p [ ]
  from_birth splits (z ∷ zs) s x y k h a m (inl p) =
      at (session_after splits z.0 s (z.1).event (z.1).outcome) (mark_by splits z.0 s (z.1).event (z.1).outcome (subst (λ (w : Placed). IsMark (w.1).event (w.1).outcome) (sym p.0) m) k) h
    where
      at : (v : Option SessionState) → Marked v → makes_from splits v zs ≡ true → IsLaterOp b (y.1).event
      at None g f = absurd (both_ways false refl f)
      at (Some u) (marked q) f = behind splits zs u y (inl q) f (λ w i. a w (inr i)) p.1
  from_birth splits (z ∷ zs) s x y k h a m (inr p) =
      at (session_after splits z.0 s (z.1).event (z.1).outcome) (moves splits z.0 s (z.1).event (z.1).outcome) h (λ u q g. from_birth splits zs u x y q g (λ w i. a w (inr i)) m p)
    where
      at : (v : Option SessionState) → Moves s v → makes_from splits v zs ≡ true → ((u : SessionState) → AtLeast u → makes_from splits (Some u) zs ≡ true → IsLaterOp b (y.1).event) → IsLaterOp b (y.1).event
      at None g f rec = absurd (both_ways false refl f)
      at (Some u) g f rec = rec u (at_least_still s u k g) f

  -- an operation of the transaction, with this birth
  abbrev pub IsOpOf : Event → Type 0
  IsOpOf e = (nth : ℕ) × (seen : Option ℕ) × (op : Op) × (e ≡ OpEvent t b nth seen op)

  no_op_mark : (e : Event) (o : Outcome) → IsOpOf e → IsMark e o → ⊥
  no_op_mark e o (nth, seen, op, f) (asked ts g h) = op_no_request (sym f ∙ g)
    where
      op_no_request : OpEvent t b nth seen op ≡ Request t ts → ⊥
      op_no_request q = absurd cc
  no_op_mark e o (nth, seen, op, f) (told g h) = op_no_look (sym f ∙ g)
    where
      op_no_look : OpEvent t b nth seen op ≡ Look t → ⊥
      op_no_look q = absurd cc

  -- behind its mark, which isn't before its operation, each operation is of a later birth
  pub later_behind :
      (splits : List ℕ) (es : List Placed) (s : SessionState) (z x y : Placed) → makes_from splits (Some s) es ≡ true → NotAborted es → IsOpOf (z.1).event → IsMark (x.1).event (x.1).outcome
      → Among z es → (Precedes x z es → ⊥) → Precedes x y es → IsLaterOp b (y.1).event
  later_behind splits [] s z x y h a o m i n p = elim i [ ]
  later_behind splits (w ∷ ws) s z x y h a o m (inl e) n (inl p) = absurd (no_op_mark (x.1).event (x.1).outcome (subst (λ (v : Placed). IsOpOf (v.1).event) (sym e ∙ p.0) o) m)
  later_behind splits (w ∷ ws) s z x y h a o m (inl e) n (inr p) =
      at (session_after splits w.0 s (w.1).event (w.1).outcome) (here (w.1).event (w.1).outcome (subst (λ (v : Placed). IsOpOf (v.1).event) (sym e) o)) h
    where
      here : (ev : Event) (out : Outcome) → IsOpOf ev → Did t b (session_after splits w.0 s ev out)
      here ev out (nth, seen, op, e) = subst (λ (z : Event). Did t b (session_after splits w.0 s z out)) (sym e) (did_op splits w.0 s t b nth seen op out)

      at : (v : Option SessionState) → Did t b v → makes_from splits v ws ≡ true → IsLaterOp b (y.1).event
      at None d f = absurd (both_ways false refl f)
      at (Some u) (did g k) f = from_birth splits ws u x y (inl (g, k)) f (λ v i. a v (inr i)) m p
  later_behind splits (w ∷ ws) s z x y h a o m (inr i) n (inl p) = absurd (n (inl (p.0, i)))
  later_behind splits (w ∷ ws) s z x y h a o m (inr i) n (inr p) =
      at (session_after splits w.0 s (w.1).event (w.1).outcome) h (λ u f. later_behind splits ws u z x y f (λ v j. a v (inr j)) o m i (λ q. n (inr q)) p)
    where
      at : (v : Option SessionState) → makes_from splits v ws ≡ true → ((u : SessionState) → makes_from splits (Some u) ws ≡ true → IsLaterOp b (y.1).event) → IsLaterOp b (y.1).event
      at None f rec = absurd (both_ways false refl f)
      at (Some u) f rec = rec u f
