-- Where nothing is unsettled, each transaction that made its request was told what became of it.
use Rattle.std.proofs.Common.{◌≡◌, ◌⊎◌, inl, inr, refl, sym, ap, ap₂, subst, ◌∙◌, ℕ, ◌<◌, ◌≤◌, Bool, true, false, cond, not, ◌&&◌, ◌||◌, ◌==◌, List, [], ◌∷◌, ◌++◌, Option, Some, None, arith}
use Rattle.std.specs.List.{list_any, AllByRecursion}
use Rattle.std.proofs.lemmas.Bool.{both_ways, and_parts, and_from, cases_eq, eq-eqb, false_from_ne_true}
use Rattle.clv_base.specs.declared.names.TxId.{TxId}
use Rattle.clv_base.specs.declared.names.Birth.{Birth}
use Rattle.clv_base.specs.declared.logs.LogRecord.{LogRecord}
use Rattle.clv_base.specs.declared.events.Event.{Event}
use Rattle.clv_base.specs.declared.events.Event.TheVariants.{Op as OpEvent, Request, Look}
use Rattle.clv_base.specs.declared.events.Outcome.{Outcome}
use Rattle.clv_base.specs.declared.events.Outcome.TheVariants.{Acknowledged}
use Rattle.clv_base.specs.Orders.{tx_same}
use Rattle.clv_base.specs.Restarts.{run_after}
use Rattle.clv_base.specs.Journals.{History, own}
use Rattle.clv_base.specs.History.{Legal, is_acknowledgement, acknowledged_in, request_of, has_request}
use Rattle.clv_base.specs.Sessions.{SessionState, no_session, is_touching, same_touched, is_lowest, is_whole_now, requested, session_after, makes_from}
use Rattle.clv_base.proofs.SameNames.{tx_true, tx_self, tx_eq, same_fields}
use Rattle.protocol_laws.specs.SessionLaws.{tx_of, works_on, ended_by}
use Rattle.protocol_laws.proofs.SessionsKeepOrder.{sessions_keep_order}
use Rattle.history_laws.specs.Outcomes.{is_abort, aborted_in_history}
use Rattle.history_laws.specs.Naming.{AnsweredBefore}
use Rattle.history_cases.proofs.Merging.{Placed, InOrder, in_order, Among, among_right, among_is, is_among, Precedes, in_turn, precedes_before, own_in_order, Before, before_then, not_before_itself}
use Rattle.history_cases.proofs.Telling.{IsRequest}
use Rattle.history_laws.proofs.Entries.NothingFollowsRequests.{serials_follow, nothing_follows}
use Rattle.history_laws.proofs.NeverTakenBack.{walker_of, together_by_walker}
use Rattle.history_laws.proofs.NeverTakenBack.LaterHistoriesHoldMembers.{any_among}
use Rattle.history_laws.proofs.SessionsKeepTheirOrder.{outcomes_are_one}
use Rattle.history_laws.proofs.SessionsKeepTheirOrder.NothingFollowsTheEnd.{names, nothing_after_success}
use Rattle.history_laws.proofs.RequestsNameWhatAnswered.{requests_name_what_answered}
use Rattle.session_books.specs.declared.counts.Counts.{Counts}
use Rattle.session_books.specs.Told.{is_tx, looked_by, has_look, try_of, is_of_birth, has_birth}
use Rattle.session_books.specs.Counts.{is_acknowledged_try, has_acknowledged_try, is_open, counted, count_try, counts_in}
use Rattle.session_books.proofs.Laws.{IsOfWalker, AreTheirs, are_theirs}
use Rattle.audit_laws.proofs.BirthsAreTakenOnce.{same_births, not_older, IsLaterOp, IsOpOf, asked, told, later_behind}

-- ---- lists

any_false : {A : Type 0} (test : A → Bool) (xs : List A) (x : A) → list_any test xs ≡ false → Among x xs → test x ≡ false
any_false test [] x e i = elim i [ ]
any_false test (y ∷ ys) x e i = at (test y) refl e i (λ g j. any_false test ys x g j)
  where
    at : (b : Bool) → test y ≡ b → (b || list_any test ys) ≡ false → (y ≡ x) ⊎ Among x ys → (list_any test ys ≡ false → Among x ys → test x ≡ false) → test x ≡ false
    at true f g j rec = absurd (both_ways true g refl)
    at false f g (inl same) rec = sym (ap test same) ∙ f
    at false f g (inr j) rec = rec g j

pub any_true : {A : Type 0} (test : A → Bool) (xs : List A) (x : A) → Among x xs → test x ≡ true → list_any test xs ≡ true
any_true test [] x i e = elim i [ ]
any_true test (y ∷ ys) x (inl same) e = ap (λ b. b || list_any test ys) (ap test same ∙ e)
any_true test (y ∷ ys) x (inr i) e = at (test y) (any_true test ys x i e)
  where
    at : (b : Bool) → list_any test ys ≡ true → (b || list_any test ys) ≡ true
    at true f = refl
    at false f = f

-- the last one that passes a test
record IsLastSuch {A : Type 0} (test : A → Bool) (xs : List A) : Type 0 where
  front : List A
  one : A
  behind : List A
  all : xs ≡ front ++ one ∷ behind
  passes : test one ≡ true
  no_later : list_any test behind ≡ false

last_such : {A : Type 0} (test : A → Bool) (xs : List A) → list_any test xs ≡ true → IsLastSuch test xs
last_such test [] e = absurd (both_ways false refl e)
last_such {A} test (x ∷ xs) e = at (list_any test xs) refl (last_such test xs)
  where
    here : (b c : Bool) → c ≡ false → (b || c) ≡ true → b ≡ true
    here true c f g = refl
    here false c f g = absurd (both_ways c f g)

    at : (b : Bool) → list_any test xs ≡ b → (list_any test xs ≡ true → IsLastSuch test xs) → IsLastSuch test (x ∷ xs)
    at true f rec = let r = rec f in record { front = x ∷ r.front; one = r.one; behind = r.behind; all = ap (λ (l : List A). x ∷ l) r.all; passes = r.passes; no_later = r.no_later }
    at false f rec = record { front = []; one = x; behind = xs; all = refl; passes = here (test x) (list_any test xs) f e; no_later = f }

precedes_in : {A : Type 0} (front behind : List A) (x y : A) → Among y behind → Precedes x y (front ++ x ∷ behind)
precedes_in [] behind x y i = inl (refl, i)
precedes_in (z ∷ zs) behind x y i = inr (precedes_in zs behind x y i)

from_own : (w : ℕ) (y : Placed) (h : History) → Among y (own w h) → Among y h
from_own w y [] m = elim m [ ]
from_own w y (f ∷ fs) m = at ((f.1).walker == w) m (from_own w y fs)
  where
    at : (b : Bool) → Among y (cond b (f ∷ own w fs) (own w fs)) → (Among y (own w fs) → Among y fs) → Among y (f ∷ fs)
    at true (inl q) k = inl q
    at true (inr m) k = inr (k m)
    at false m k = inr (k m)

-- ---- counts

abbrev Some_unsettled : Counts → Type 0
Some_unsettled c = 1 ≤ c.unsettled

still_unsettled : (h : History) (o : Option (TxId × Birth)) (later : History) (c : Counts) → Some_unsettled c → Some_unsettled (count_try h o later c)
still_unsettled h None later c u = u
still_unsettled h (Some p) later c u = at (has_birth p.1 later) (has_acknowledged_try h p.1 h) (is_open h p.0)
  where
    at : (a b d : Bool) → Some_unsettled (cond a c (counted b d c))
    at true b d = u
    at false true d = u
    at false false true = omega arith
    at false false false = u

one_unsettled :
    (h front later : History) (e : Placed) (t : TxId) (b : Birth) → try_of (e.1).event ≡ Some (t, b) → has_birth b later ≡ false → has_acknowledged_try h b h ≡ false → is_open h t ≡ true
    → Some_unsettled (counts_in h (front ++ e ∷ later))
one_unsettled h [] later e t b is none unacked open_ =
    subst (λ (o : Option (TxId × Birth)). Some_unsettled (count_try h o later (counts_in h later))) (sym is) (at (has_birth b later) (has_acknowledged_try h b h) (is_open h t) none unacked open_)
  where
    at : (x y z : Bool) → x ≡ false → y ≡ false → z ≡ true → Some_unsettled (cond x (counts_in h later) (counted y z (counts_in h later)))
    at true y z p q r = absurd (both_ways true p refl)
    at false true z p q r = absurd (both_ways true q refl)
    at false false true p q r = omega arith
    at false false false p q r = absurd (both_ways false refl r)
one_unsettled h (f ∷ front) later e t b is none unacked open_ =
    still_unsettled h (try_of (f.1).event) (front ++ e ∷ later) (counts_in h (front ++ e ∷ later)) (one_unsettled h front later e t b is none unacked open_)

-- ---- what tries are

same_one : {A : Type 0} {a b : A} → Some a ≡ Some b → a ≡ b
same_one e = cc

none_some : {A : Type 0} {a : A} → None ≡ Some a → ⊥
none_some e = cc

op_of : (e : Event) (t : TxId) (b : Birth) → try_of e ≡ Some (t, b) → IsOpOf t b e
op_of (OpEvent tx birth nth seen op) t b e =
    let p : (tx, birth) ≡ (t, b) = same_one e in
    (nth, seen, op, ap₂ (λ (x : TxId) (y : Birth). OpEvent x y nth seen op) (ap (λ (z : TxId × Birth). z.0) p) (ap (λ (z : TxId × Birth). z.1) p))
op_of _ t b e = absurd (none_some e)

abbrev names_try : TxId → Option (TxId × Birth) → Bool
names_try t None = false
names_try t (Some p) = tx_same t p.0

-- whether it is an operation of the transaction
abbrev is_op_of : TxId → Placed → Bool
is_op_of t e = names_try t (try_of (e.1).event)

record IsTry (e : Event) : Type 0 where
  tx : TxId
  birth : Birth
  is : try_of e ≡ Some (tx, birth)

try_named : (t : TxId) (e : Event) (o : Option (TxId × Birth)) → try_of e ≡ o → names_try t o ≡ true → (b : Birth) × (try_of e ≡ Some (t, b))
try_named t e None f g = absurd (both_ways false refl g)
try_named t e (Some p) f g = (p.1, f ∙ ap (λ (z : TxId). Some (z, p.1)) (sym (tx_true t p.0 g)))

try_born : (b : Birth) (e : Event) (o : Option (TxId × Birth)) → try_of e ≡ o → is_of_birth b o ≡ true → (u : TxId) × (try_of e ≡ Some (u, b))
try_born b e None f g = absurd (both_ways false refl g)
try_born b e (Some p) f g = (p.0, f ∙ ap (λ (z : Birth). Some (p.0, z)) (sym (same_births b p.1 g)))

-- a request names some shard
rows_of : (ts : List (ℕ × ℕ)) (n : ℕ) → is_lowest n ts ≡ true → (r : ℕ × ℕ) × (rs : List (ℕ × ℕ)) × (ts ≡ r ∷ rs)
rows_of [] n e = absurd (both_ways false refl e)
rows_of (r ∷ rs) n e = (r, rs, refl)

makes_some : (splits : List ℕ) (c : Bool) (v : Option SessionState) (es : List Placed) → makes_from splits (cond c v None) es ≡ true → c ≡ true
makes_some splits true v es h = refl
makes_some splits false v es h = absurd (both_ways false refl h)

request_rows : (splits : List ℕ) (es : List Placed) (s : SessionState) (x : Placed) (t : TxId) (ts : List (ℕ × ℕ)) → makes_from splits (Some s) es ≡ true → Among x es → (x.1).event ≡ Request t ts → (r : ℕ × ℕ) × (rs : List (ℕ × ℕ)) × (ts ≡ r ∷ rs)
request_rows splits [] s x t ts h i e = elim i [ ]
request_rows splits (z ∷ zs) s x t ts h (inl same) e =
    here (z.1).outcome (subst (λ (ev : Event). makes_from splits (session_after splits z.0 s ev (z.1).outcome) zs ≡ true) (ap (λ (w : Placed). (w.1).event) same ∙ e) h)
  where
    here : (o : Outcome) → makes_from splits (session_after splits z.0 s (Request t ts) o) zs ≡ true → (r : ℕ × ℕ) × (rs : List (ℕ × ℕ)) × (ts ≡ r ∷ rs)
    here o k =
        let e = makes_some splits (tx_same t s.tx && is_touching s.phase && is_whole_now s && same_touched ts s.touched && is_lowest z.0 ts) (requested z.0 s o) zs k in
        rows_of ts z.0 (and_parts (tx_same t s.tx && is_touching s.phase && is_whole_now s && same_touched ts s.touched) (is_lowest z.0 ts) e).1
request_rows splits (z ∷ zs) s x t ts h (inr i) e = at (session_after splits z.0 s (z.1).event (z.1).outcome) h (λ u k. request_rows splits zs u x t ts k i e)
  where
    at : (v : Option SessionState) → makes_from splits v zs ≡ true → ((u : SessionState) → makes_from splits (Some u) zs ≡ true → (r : ℕ × ℕ) × (rs : List (ℕ × ℕ)) × (ts ≡ r ∷ rs)) → (r : ℕ × ℕ) × (rs : List (ℕ × ℕ)) × (ts ≡ r ∷ rs)
    at None k rec = absurd (both_ways false refl k)
    at (Some u) k rec = rec u k

pub acknowledgement_is : (t : TxId) (e : Event) (o : Outcome) → is_acknowledgement t e o ≡ true → (e ≡ Look t) × (o ≡ Acknowledged)
acknowledgement_is t (Look tx) Acknowledged k = (ap Look (sym (tx_true t tx k)), refl)
acknowledgement_is t (Look tx) _ k = absurd (both_ways false refl k)
acknowledgement_is t _ o k = absurd (both_ways false refl k)

-- ---- the last try of a transaction whose request stands

module _ (splits : List ℕ) (before : List (List LogRecord)) (h : History) (after : List (List LogRecord)) (l : Legal splits before h after) (t : TxId) (ts : List (ℕ × ℕ)) (x : Placed) (ix : Among x h) (request : IsRequest t ts x) (unaborted : aborted_in_history h t ≡ false) (unseen : has_look t h ≡ false) where
  abbrev w : ℕ
  w = (x.1).walker

  abbrev session_state : SessionState
  session_state = no_session (run_after before) w

  theirs : AreTheirs h
  theirs = are_theirs splits before h after l

  here : (q : Placed) → Among q h → (q.1).walker ≡ w → Among q (own w h)
  here q i e = (together_by_walker splits before after h x q l ix i (sym e)).second

  makes : makes_from splits (Some session_state) (own w h) ≡ true
  makes = (together_by_walker splits before after h x x l ix ix refl).session

  ordered : InOrder (own w h)
  ordered = own_in_order w h (in_order h l.ordered)

  not_both : (a b : Placed) → Precedes a b (own w h) → Precedes b a (own w h) → ⊥
  not_both a b p q = not_before_itself a a refl (before_then a b a (precedes_before a b (own w h) ordered p) (precedes_before b a (own w h) ordered q))

  rises : (a b : Placed) (u v : TxId) → Precedes a b (own w h) → tx_of (a.1).event ≡ Some u → tx_of (b.1).event ≡ Some v → u.serial ≤ v.serial
  rises a b u v p e f = serials_follow (run_after before) w 0 (own w h) a b u v (sessions_keep_order splits (run_after before) w (own w h) makes).0 p e f

  whose : t.session ≡ w
  whose = (walker_of splits before after h x t l ix (ap tx_of request.0)).1

  -- the transaction of an operation of the same walker
  op_tx : (q : Placed) (u : TxId) (b : Birth) → try_of (q.1).event ≡ Some (u, b) → tx_of (q.1).event ≡ Some u
  op_tx q u b e = ap tx_of (op_of (q.1).event u b e).3

  op_walker : (q : Placed) (u : TxId) (b : Birth) → Among q h → try_of (q.1).event ≡ Some (u, b) → (u.session ≡ (q.1).walker) × (b.session ≡ (q.1).walker)
  op_walker q u b i e = subst (IsOfWalker (q.1).walker) (op_of (q.1).event u b e).3 (theirs q i)

  one_tx : (q : Placed) (u : TxId) → Among q h → tx_of (q.1).event ≡ Some u → (q.1).walker ≡ w → u.serial ≡ t.serial → u ≡ t
  one_tx q u i e f g =
      let p = walker_of splits before after h q u l i e in
      let r = walker_of splits before after h x t l ix (ap tx_of request.0) in
      same_fields u.run u.session u.serial t.run t.session t.serial (p.0 ∙ sym r.0) (p.1 ∙ f ∙ sym whose) g

  no_abort : (u : TxId) → aborted_in_history h u ≡ false → (z : Placed) → Among z (own w h) → is_abort u (z.1).event (z.1).outcome ≡ false
  no_abort u e z i = any_false (λ (e : Placed). is_abort u (e.1).event (e.1).outcome) h z e (from_own w z h i)

  no_op_request : (q : Placed) (u : TxId) (b : Birth) → try_of (q.1).event ≡ Some (u, b) → q ≡ x → ⊥
  no_op_request q u b e same = apart (sym e ∙ ap (λ (z : Placed). try_of (z.1).event) same ∙ ap try_of request.0)
    where
      apart : ◌≡◌ {A = Option (TxId × Birth)} (Some (u, b)) None → ⊥
      apart f = cc

  module _ (y : Placed) (b : Birth) (iy : Among y h) (ty : try_of (y.1).event ≡ Some (t, b)) where
    y_there : (y.1).walker ≡ w
    y_there = sym (op_walker y t b iy ty).0 ∙ whose

    y_in : Among y (own w h)
    y_in = here y iy y_there

    same_walker : (q : Placed) (u : TxId) → Among q h → try_of (q.1).event ≡ Some (u, b) → (q.1).walker ≡ w
    same_walker q u i e = sym (op_walker q u b i e).1 ∙ (op_walker y t b iy ty).1 ∙ y_there

    -- no operation of this birth is behind the request
    not_behind : (q : Placed) (u : TxId) → try_of (q.1).event ≡ Some (u, b) → (Precedes x y (own w h) → ⊥) → Precedes x q (own w h) → ⊥
    not_behind q u e n p =
        not_older b b refl
        (subst (IsLaterOp b) (op_of (q.1).event u b e).3
        (later_behind t b splits (own w h) session_state y x q makes (no_abort t unaborted) (op_of (y.1).event t b ty) (asked ts request.0 request.1) y_in n p))

    -- one of another transaction is before all of this one
    earlier : (q : Placed) (u : TxId) → Among q h → try_of (q.1).event ≡ Some (u, b) → (u ≡ t → ⊥) → (Precedes x y (own w h) → ⊥) → u.serial < t.serial
    earlier q u i e other n = at (in_turn q x (own w h) (here q i (same_walker q u i e)) (here x ix refl))
      where
        below : u.serial ≤ t.serial → u.serial < t.serial
        below m = strict (cases_eq u.serial t.serial)
          where
            strict : (u.serial ≡ t.serial) ⊎ (u.serial ≡ t.serial → ⊥) → u.serial < t.serial
            strict (inl same) = absurd (other (one_tx q u i (op_tx q u b e) (same_walker q u i e) same))
            strict (inr apart) = omega (arith, m, apart)

        at : (q ≡ x) ⊎ (Precedes q x (own w h) ⊎ Precedes x q (own w h)) → u.serial < t.serial
        at (inl same) = absurd (no_op_request q u b e same)
        at (inr (inl p)) = below (rises q x u t p (op_tx q u b e) (ap tx_of request.0))
        at (inr (inr p)) = absurd (not_behind q u e n p)

    -- none of them was acknowledged
    unacknowledged : (Precedes x y (own w h) → ⊥) → has_acknowledged_try h b h ≡ false
    unacknowledged n =
        false_from_ne_true (has_acknowledged_try h b h)
        (λ e. let q = any_among (λ (e : Placed). is_acknowledged_try h b (try_of (e.1).event)) h e in found q.0 q.1 (try_of ((q.0).1).event) refl q.2)
      where
        never : (q : Placed) (u : TxId) → Among q h → try_of (q.1).event ≡ Some (u, b) → acknowledged_in h u ≡ true → ⊥
        never q u i e acked =
            let a = any_among (λ (e : Placed). is_acknowledgement u (e.1).event (e.1).outcome) h acked in
            let look = acknowledgement_is u ((a.0).1).event ((a.0).1).outcome a.2 in
            let other : u ≡ t → ⊥ = λ same. both_ways _ unseen (any_true (λ (e : Placed). is_tx t (looked_by (e.1).event)) h a.0 a.1 (ap (λ (z : Event). is_tx t (looked_by z)) look.0 ∙ tx_eq t u (sym same))) in
            let low = earlier q u i e other n in
            let there : ((a.0).1).walker ≡ w = sym (walker_of splits before after h a.0 u l a.1 (ap tx_of look.0)).1 ∙ (op_walker q u b i e).0 ∙ same_walker q u i e in
            let ia = here a.0 a.1 there in
            let iq = here q i (same_walker q u i e) in
            let unaborted_u = outcomes_are_one splits before h after u l acked in
            let not_after : Precedes a.0 q (own w h) → ⊥ =
            λ p. both_ways _ (nothing_after_success splits (own w h) session_state a.0 q u makes p a.2) (ap (names true u) (op_of (q.1).event u b e).3 ∙ tx_self u) in
            let late : Precedes a.0 y (own w h) → ⊥ =
            λ p. not_older b b refl
            (subst (IsLaterOp b) (op_of (y.1).event t b ty).3
            (later_behind u b splits (own w h) session_state q a.0 y makes (no_abort u unaborted_u) (op_of (q.1).event u b e) (told look.0 look.1) iq not_after p)) in
            at a.0 look.0 late low (in_turn a.0 y (own w h) ia y_in)
          where
            at : (a : Placed) → (a.1).event ≡ Look u → (Precedes a y (own w h) → ⊥) → u.serial < t.serial → (a ≡ y) ⊎ (Precedes a y (own w h) ⊎ Precedes y a (own w h)) → ⊥
            at a look late low (inl same) = apart (sym ty ∙ sym (ap (λ (z : Placed). try_of (z.1).event) same) ∙ ap try_of look)
              where
                apart : ◌≡◌ {A = Option (TxId × Birth)} (Some (t, b)) None → ⊥
                apart f = cc
            at a look late low (inr (inl p)) = late p
            at a look late low (inr (inr p)) = let m = rises y a t u p (op_tx y t b ty) (ap tx_of look) in omega (arith, m, low)

        found : (q : Placed) → Among q h → (o : Option (TxId × Birth)) → try_of (q.1).event ≡ o → is_acknowledged_try h b o ≡ true → ⊥
        found q i None f e = both_ways false refl e
        found q i (Some p) f e =
            let parts = and_parts (is_of_birth b (Some p)) (acknowledged_in h p.0) e in
            never q p.0 i (f ∙ ap (λ (z : Birth). Some (p.0, z)) (sym (same_births b p.1 parts.0))) parts.1

    -- and none is behind the last one of the transaction
    none_later : (front behind : History) → h ≡ front ++ y ∷ behind → list_any (is_op_of t) behind ≡ false → (Precedes x y (own w h) → ⊥) → has_birth b behind ≡ false
    none_later front behind all last n =
        false_from_ne_true (has_birth b behind)
        (λ e. let q = any_among (λ (e : Placed). is_of_birth b (try_of (e.1).event)) behind e in let p = try_born b ((q.0).1).event (try_of ((q.0).1).event) refl q.2 in never q.0 p.0 q.1 p.1)
      where
        never : (q : Placed) (u : TxId) → Among q behind → try_of (q.1).event ≡ Some (u, b) → ⊥
        never q u i e =
            let ih : Among q h = subst (Among q) (sym all) (among_right q front (y ∷ behind) (inr i)) in
            let other : u ≡ t → ⊥ = λ same. both_ways _ (any_false (is_op_of t) behind q last i) (ap (names_try t) e ∙ tx_eq t u (sym same)) in
            let low = earlier q u ih e other n in
            let turn = subst (Precedes y q) (sym all) (precedes_in front behind y q i) in
            let ahead = precedes_before y q h (in_order h l.ordered) turn in
            at low ahead other (in_turn q y (own w h) (here q ih (same_walker q u ih e)) y_in)
          where
            at : u.serial < t.serial → Before y q → (u ≡ t → ⊥) → (q ≡ y) ⊎ (Precedes q y (own w h) ⊎ Precedes y q (own w h)) → ⊥
            at low ahead other (inl same) = not_before_itself y q (sym same) ahead
            at low ahead other (inr (inl p)) = not_before_itself y y refl (before_then y q y ahead (precedes_before q y (own w h) ordered p))
            at low ahead other (inr (inr p)) = let m = rises y q t u p (op_tx y t b ty) (op_tx q u b e) in omega (arith, m, low)

  -- some operation of the transaction was answered before its request
  has_op : list_any (is_op_of t) h ≡ true
  has_op =
      let row = request_rows splits (own w h) session_state x t ts makes (here x ix refl) request.0 in
      let all = requests_name_what_answered splits before h after x.0 x.1 t ts l (among_is x.0 x.1 h ix) request.0 in
      let first = (subst (λ (rs : List (ℕ × ℕ)). AllByRecursion (λ k. AnsweredBefore h t k.0 k.1 x.0 x.1) rs) row.2 all).0 in
      any_true (is_op_of t) h ((row.0).0, first.entry) (is_among (row.0).0 first.entry h first.among) (ap (λ (e : Event). names_try t (try_of e)) first.event ∙ tx_self t)

  -- no operation of it is behind its request
  not_after : (y : Placed) (b : Birth) → try_of (y.1).event ≡ Some (t, b) → Precedes x y (own w h) → ⊥
  not_after y b e p =
      both_ways _ (nothing_follows (own w h) x y t.serial (sessions_keep_order splits (run_after before) w (own w h) makes).2 p (ap (λ (z : Event). ended_by z (x.1).outcome) request.0))
      (ap (works_on t.serial) (op_of (y.1).event t b e).3 ∙ eq-eqb t.serial t.serial refl)

  -- so it is unsettled
  pub is_unsettled : Some_unsettled (counts_in h h)
  is_unsettled =
      let last = last_such (is_op_of t) h has_op in
      let y = last.one in
      let named = try_named t (y.1).event (try_of (y.1).event) refl last.passes in
      let iy : Among y h = subst (Among y) (sym last.all) (among_right y last.front (y ∷ last.behind) (inl refl)) in
      let n = not_after y named.0 named.1 in
      let requested_ : has_request t h ≡ true = any_true (λ (e : Placed). asks (request_of (e.1).event (e.1).outcome)) h x ix (ap (λ (e : Event). asks (request_of e (x.1).outcome)) request.0 ∙ ap (λ (o : Outcome). asks (request_of (Request t ts) o)) request.1 ∙ tx_self t) in
      subst (λ (es : History). Some_unsettled (counts_in h es)) (sym last.all)
      (one_unsettled h last.front last.behind y t named.0 named.1 (none_later y named.0 iy named.1 last.front last.behind last.all last.no_later n) (unacknowledged y named.0 iy named.1 n)
      (and_from (has_request t h) (not (has_look t h)) requested_ (ap not unseen)))
    where
      asks : Option TxId → Bool
      asks o = elim o [ Some u ↦ tx_same t u | None ↦ false ]
