-- Who made a request, and was told of its acknowledgement or of its abort, was told so by a look.
use Rattle.std.proofs.Common.{◌≡◌, ◌⊎◌, inl, inr, refl, sym, ap, subst, ◌∙◌, ℕ, ◌<◌, Bool, true, false, cond, not, ◌&&◌, ◌==◌, nat_lt, List, [], ◌∷◌, Option, Some, None, arith}
use Rattle.std.proofs.lemmas.Bool.{both_ways, and_parts, ltb-true, eq-eqb}
use Rattle.clv_base.specs.declared.names.TxId.{TxId}
use Rattle.clv_base.specs.declared.names.Birth.{Birth}
use Rattle.clv_base.specs.declared.ops.Op.{Op}
use Rattle.clv_base.specs.declared.logs.LogRecord.{LogRecord}
use Rattle.clv_base.specs.declared.events.Event.{Event}
use Rattle.clv_base.specs.declared.events.Event.TheVariants.{Op as OpEvent, RollTo, Request, Look, Drop}
use Rattle.clv_base.specs.declared.events.Outcome.{Outcome}
use Rattle.clv_base.specs.declared.events.Outcome.TheVariants.{Dead, Asked, Aborted, Dropped}
use Rattle.clv_base.specs.Orders.{tx_same}
use Rattle.clv_base.specs.Restarts.{run_after}
use Rattle.clv_base.specs.Journals.{History, own}
use Rattle.clv_base.specs.History.{Legal, is_acknowledgement, acknowledged_in, request_of, has_request}
use Rattle.clv_base.specs.Sessions.{Phase, Standing, SessionState, no_session, is_session, is_touching, may_drop, follows_birth, goes_on, begins, begun, op_in_session, same_touched, is_lowest, is_whole_now, stands_at, requested, session_after, makes_from}
use Rattle.clv_base.proofs.SameNames.{tx_true, tx_self}
use Rattle.protocol_laws.specs.SessionLaws.{tx_of, works_on, ended_by, SerialsRise, EndsStay}
use Rattle.protocol_laws.proofs.SessionsKeepOrder.{sessions_keep_order}
use Rattle.history_cases.proofs.Merging.{Placed, Among, among_is, Precedes, in_turn}
use Rattle.history_laws.specs.Outcomes.{is_abort, aborted_in_history}
use Rattle.history_laws.proofs.Entries.NothingFollowsRequests.{serials_follow, nothing_follows}
use Rattle.history_laws.proofs.NeverTakenBack.{is_request, together, together_by_walker}
use Rattle.history_laws.proofs.NeverTakenBack.LaterHistoriesHoldMembers.{any_among}
use Rattle.session_books.specs.Told.{is_tx, looked_by, has_look}
use Rattle.audit_laws.proofs.AllAreTold.{any_true, acknowledgement_is}
use Rattle.cluster_runs.specs.Replays.{AreTold}

-- ---- between a request and a drop

-- a look of the transaction; or an entry of a later one, before y
data Between (t : TxId) (y : Placed) (es : List Placed) : Type 0 where
  looked : (q : Placed) → Among q es → (q.1).event ≡ Look t → Between t y es
  later : (q : Placed) (u : TxId) → Precedes q y es → tx_of (q.1).event ≡ Some u → t.serial < u.serial → Between t y es

one_more : (t : TxId) (y z : Placed) (zs : List Placed) → Between t y zs → Between t y (z ∷ zs)
one_more t y z zs (looked q i e) = looked q (inr i) e
one_more t y z zs (later q u p e l) = later q u (inr p) e l

makes_some : (splits : List ℕ) (c : Bool) (v : Option SessionState) (es : List Placed) → makes_from splits (cond c v None) es ≡ true → c ≡ true
makes_some splits true v es h = refl
makes_some splits false v es h = absurd (both_ways false refl h)

is_false : {A : Type 0} (b : Bool) → b ≡ true → b ≡ false → A
is_false b e f = absurd (both_ways b f e)

module _ (splits : List ℕ) (t : TxId) (y : Placed) (drop : (y.1).event ≡ Drop t) where
  not_touching : {A : Type 0} (p : Phase) (home : ℕ) → p ≡ Standing home → is_touching p ≡ true → A
  not_touching p home e h = is_false (is_touching p) h (ap is_touching e)

  no_drop : {A : Type 0} (p : Phase) (home : ℕ) → p ≡ Standing home → may_drop p ≡ true → A
  no_drop p home e h = is_false (may_drop p) h (ap may_drop e)

  -- an operation behind it is of a later transaction
  by_op :
      (s : SessionState) (home n nth : ℕ) (seen : Option ℕ) (op : Op) (o : Outcome) (tx : TxId) (birth : Birth) (z : Placed) (zs : List Placed)
      → s.tx ≡ t → s.phase ≡ Standing home → (z.1).event ≡ OpEvent tx birth nth seen op → Among y zs → (same on new : Bool) → goes_on s tx birth ≡ on → begins s tx birth ≡ new
      → makes_from splits (op_in_session splits n nth seen op o (cond same (cond on (Some s) None) (cond new (Some (begun s tx birth)) None))) zs ≡ true → Between t y (z ∷ zs)
  by_op s home n nth seen op o tx birth z zs is ph ev i true true new g b h = not_touching s.phase home ph (and_parts (is_touching s.phase) _ g).0
  by_op s home n nth seen op o tx birth z zs is ph ev i true false new g b h = is_false false h refl
  by_op s home n nth seen op o tx birth z zs is ph ev i false on false g b h = is_false false h refl
  by_op s home n nth seen op o tx birth z zs is ph ev i false on true g b h =
      let rises = (and_parts ((tx.run == (s.tx).run) && (tx.session == (s.tx).session)) (nat_lt (s.tx).serial tx.serial) (and_parts _ (birth.session == tx.session) (and_parts _ (follows_birth s.birth birth s.phase) b).0).0).1 in
      later z tx (inl (refl, i)) (ap tx_of ev) (subst (λ (u : TxId). u.serial < tx.serial) is (ltb-true (s.tx).serial tx.serial rises))

  behind_request : (es : List Placed) (s : SessionState) (home : ℕ) → s.tx ≡ t → s.phase ≡ Standing home → makes_from splits (Some s) es ≡ true → Among y es → Between t y es
  behind_request [] s home is ph h i = elim i [ ]
  behind_request (z ∷ zs) s home is ph h (inl same) =
      dropped (subst (λ (ev : Event). makes_from splits (session_after splits z.0 s ev (z.1).outcome) zs ≡ true) (ap (λ (w : Placed). (w.1).event) same ∙ drop) h)
    where
      dropped : makes_from splits (session_after splits z.0 s (Drop t) (z.1).outcome) zs ≡ true → Between t y (z ∷ zs)
      dropped k =
          let c = makes_some splits (tx_same t s.tx && may_drop s.phase && not ((s.tx).serial == 0)) _ zs k in
          no_drop s.phase home ph (and_parts (tx_same t s.tx) (may_drop s.phase) (and_parts (tx_same t s.tx && may_drop s.phase) _ c).0).1
  behind_request (z ∷ zs) s home is ph h (inr i) = at (z.1).event refl h (λ k. behind_request zs s home is ph k i)
    where
      at : (ev : Event) → (z.1).event ≡ ev → makes_from splits (session_after splits z.0 s ev (z.1).outcome) zs ≡ true → (makes_from splits (Some s) zs ≡ true → Between t y zs) → Between t y (z ∷ zs)
      at (OpEvent tx birth nth seen op) e k rec = by_op s home z.0 nth seen op (z.1).outcome tx birth z zs is ph e i (tx_same tx s.tx) (goes_on s tx birth) (begins s tx birth) refl refl k
      at (RollTo tx nth seen upto) e k rec =
          let c = makes_some splits (tx_same tx s.tx && is_touching s.phase && _) _ zs k in
          not_touching s.phase home ph (and_parts (tx_same tx s.tx) (is_touching s.phase) (and_parts (tx_same tx s.tx && is_touching s.phase) _ c).0).1
      at (Request tx ts) e k rec =
          let c = makes_some splits (tx_same tx s.tx && is_touching s.phase && is_whole_now s && same_touched ts s.touched && is_lowest z.0 ts) _ zs k in
          let d = (and_parts (tx_same tx s.tx && is_touching s.phase) (is_whole_now s) (and_parts _ (same_touched ts s.touched) (and_parts _ (is_lowest z.0 ts) c).0).0).0 in
          not_touching s.phase home ph (and_parts (tx_same tx s.tx) (is_touching s.phase) d).1
      at (Look tx) e k rec =
          let c = makes_some splits (tx_same tx s.tx && stands_at z.0 s.phase) _ zs k in
          looked z (inl refl) (e ∙ ap Look (tx_true tx s.tx (and_parts (tx_same tx s.tx) (stands_at z.0 s.phase) c).0 ∙ is))
      at (Drop tx) e k rec =
          let c = makes_some splits (tx_same tx s.tx && may_drop s.phase && not ((s.tx).serial == 0)) _ zs k in
          no_drop s.phase home ph (and_parts (tx_same tx s.tx) (may_drop s.phase) (and_parts (tx_same tx s.tx && may_drop s.phase) _ c).0).1
      at _ e k rec = one_more t y z zs (rec k)

  -- so it is behind the request itself
  between : (es : List Placed) (s : SessionState) (x : Placed) (ts : List (ℕ × ℕ)) → makes_from splits (Some s) es ≡ true → (x.1).event ≡ Request t ts → (x.1).outcome ≡ Asked → Precedes x y es → Between t y es
  between [] s x ts h e o p = elim p [ ]
  between (z ∷ zs) s x ts h e o (inl p) =
      asked (subst (λ (oc : Outcome). makes_from splits (session_after splits z.0 s (Request t ts) oc) zs ≡ true) (ap (λ (w : Placed). (w.1).outcome) p.0 ∙ o)
      (subst (λ (ev : Event). makes_from splits (session_after splits z.0 s ev (z.1).outcome) zs ≡ true) (ap (λ (w : Placed). (w.1).event) p.0 ∙ e) h))
    where
      at : (c : Bool) → (c ≡ true → s.tx ≡ t) → makes_from splits (cond c (requested z.0 s Asked) None) zs ≡ true → Between t y (z ∷ zs)
      at true f k = one_more t y z zs (behind_request zs (record s { phase = Standing z.0 }) z.0 (f refl) refl k p.1)
      at false f k = is_false false k refl

      asked : makes_from splits (session_after splits z.0 s (Request t ts) Asked) zs ≡ true → Between t y (z ∷ zs)
      asked k =
          at (tx_same t s.tx && is_touching s.phase && is_whole_now s && same_touched ts s.touched && is_lowest z.0 ts)
          (λ c. sym (tx_true t s.tx (and_parts (tx_same t s.tx) (is_touching s.phase) (and_parts (tx_same t s.tx && is_touching s.phase) (is_whole_now s) (and_parts _ (same_touched ts s.touched) (and_parts _ (is_lowest z.0 ts) c).0).0).0).0)) k
  between (z ∷ zs) s x ts h e o (inr p) = at (session_after splits z.0 s (z.1).event (z.1).outcome) h (λ u k. between zs u x ts k e o p)
    where
      at : (v : Option SessionState) → makes_from splits v zs ≡ true → ((u : SessionState) → makes_from splits (Some u) zs ≡ true → Between t y zs) → Between t y (z ∷ zs)
      at None k rec = is_false false k refl
      at (Some u) k rec = one_more t y z zs (rec u k)

-- ---- what tells of an abort

data Tells (t : TxId) (e : Event) (o : Outcome) : Type 0 where
  look : e ≡ Look t → Tells t e o
  drops : e ≡ Drop t → Tells t e o
  works : works_on t.serial e ≡ true → ended_by e o ≡ Some t.serial → tx_of e ≡ Some t → Tells t e o

same_serial : (t u : TxId) → tx_same t u ≡ true → (u.serial == t.serial) ≡ true
same_serial t u h = eq-eqb u.serial t.serial (ap (λ (k : TxId). k.serial) (sym (tx_true t u h)))

same_ended : (t u : TxId) → tx_same t u ≡ true → ◌≡◌ {A = Option ℕ} (Some u.serial) (Some t.serial)
same_ended t u h = ap (λ (k : TxId). Some k.serial) (sym (tx_true t u h))

same_some : (t u : TxId) → tx_same t u ≡ true → ◌≡◌ {A = Option TxId} (Some u) (Some t)
same_some t u h = ap (λ (k : TxId). Some k) (sym (tx_true t u h))

tells : (t : TxId) (e : Event) (o : Outcome) → is_abort t e o ≡ true → Tells t e o
tells t (OpEvent u birth nth seen op) (Dead cause) h = works (same_serial t u h) (same_ended t u h) (same_some t u h)
tells t (RollTo u nth seen upto) (Dead cause) h = works (same_serial t u h) (same_ended t u h) (same_some t u h)
tells t (Request u ts) (Dead cause) h = works (same_serial t u h) (same_ended t u h) (same_some t u h)
tells t (Look u) (Aborted cause) h = look (ap Look (sym (tx_true t u h)))
tells t (Drop u) Dropped h = drops (ap Drop (sym (tx_true t u h)))
tells t _ _ h = is_false false h refl

-- ---- in a history

from_own : (w : ℕ) (y : Placed) (h : History) → Among y (own w h) → Among y h
from_own w y [] m = elim m [ ]
from_own w y (f ∷ fs) m = at ((f.1).walker == w) m (from_own w y fs)
  where
    at : (b : Bool) → Among y (cond b (f ∷ own w fs) (own w fs)) → (Among y (own w fs) → Among y fs) → Among y (f ∷ fs)
    at true (inl q) k = inl q
    at true (inr m) k = inr (k m)
    at false m k = inr (k m)

seen_by : (t : TxId) (h : History) (q : Placed) → Among q h → (q.1).event ≡ Look t → has_look t h ≡ true
seen_by t h q i e = any_true (λ (k : Placed). is_tx t (looked_by (k.1).event)) h q i (ap (λ (ev : Event). is_tx t (looked_by ev)) e ∙ tx_self t)

module _ (splits : List ℕ) (before : List (List LogRecord)) (h : History) (after : List (List LogRecord)) (l : Legal splits before h after) (t : TxId) (x : Placed) (ts : List (ℕ × ℕ)) (ix : Among x h) (asks : (x.1).event ≡ Request t ts) (asked : (x.1).outcome ≡ Asked) where
  abbrev es : List Placed
  es = own (x.1).walker h

  session : is_session splits (run_after before) (x.1).walker es ≡ true
  session = (together_by_walker splits before after h x x l ix ix refl).session

  here : Among x es
  here = (together_by_walker splits before after h x x l ix ix refl).first

  ends_stay : EndsStay es
  ends_stay = (sessions_keep_order splits (run_after before) (x.1).walker es session).2

  serials : SerialsRise (run_after before) (x.1).walker 0 es
  serials = (sessions_keep_order splits (run_after before) (x.1).walker es session).0

  x_ends : ended_by (x.1).event (x.1).outcome ≡ Some t.serial
  x_ends = ap (λ (e : Event). ended_by e (x.1).outcome) asks

  x_works : works_on t.serial (x.1).event ≡ true
  x_works = ap (works_on t.serial) asks ∙ eq-eqb t.serial t.serial refl

  module _ (y : Placed) (iy : Among y h) where
    there : tx_of (y.1).event ≡ Some t → Among y es
    there of_t = (together splits before after h x y t l ix iy (ap tx_of asks) of_t).second

    found : tx_of (y.1).event ≡ Some t → Between t y es → has_look t h ≡ true
    found of_t (looked q i e) = seen_by t h q (from_own (x.1).walker q h i) e
    found of_t (later q u p e less) = absurd (let m = serials_follow (run_after before) (x.1).walker 0 es q y u t serials p e of_t in omega (arith, m, less))

    at_drop : (y.1).event ≡ Drop t → (x ≡ y) ⊎ (Precedes x y es ⊎ Precedes y x es) → has_look t h ≡ true
    at_drop e (inl same) = absurd (other (sym asks ∙ ap (λ (w : Placed). (w.1).event) same ∙ e))
      where
        other : Request t ts ≡ Drop t → ⊥
        other f = cc
    at_drop e (inr (inl p)) = found (ap tx_of e) (between splits t y e es (no_session (run_after before) (x.1).walker) x ts session asks asked p)
    at_drop e (inr (inr p)) = is_false _ x_works (nothing_follows es y x t.serial ends_stay p (ap (λ (ev : Event). ended_by ev (y.1).outcome) e))

    at_work :
        works_on t.serial (y.1).event ≡ true → ended_by (y.1).event (y.1).outcome ≡ Some t.serial → is_abort t (y.1).event (y.1).outcome ≡ true
        → (x ≡ y) ⊎ (Precedes x y es ⊎ Precedes y x es) → has_look t h ≡ true
    at_work w e a (inl same) =
        is_false _ (subst (λ (k : Placed). is_abort t (k.1).event (k.1).outcome ≡ true) (sym same) a) (ap (λ (ev : Event). is_abort t ev (x.1).outcome) asks ∙ ap (λ (o : Outcome). is_abort t (Request t ts) o) asked)
    at_work w e a (inr (inl p)) = is_false _ w (nothing_follows es x y t.serial ends_stay p x_ends)
    at_work w e a (inr (inr p)) = is_false _ x_works (nothing_follows es y x t.serial ends_stay p e)

    by_abort : is_abort t (y.1).event (y.1).outcome ≡ true → Tells t (y.1).event (y.1).outcome → has_look t h ≡ true
    by_abort a (look e) = seen_by t h y iy e
    by_abort a (drops e) = at_drop e (in_turn x y es here (there (ap tx_of e)))
    by_abort a (works w e of_t) = at_work w e a (in_turn x y es here (there of_t))

  looked_at : (acknowledged_in h t ≡ true) ⊎ (aborted_in_history h t ≡ true) → has_look t h ≡ true
  looked_at (inl acked) =
      let a = any_among (λ (e : Placed). is_acknowledgement t (e.1).event (e.1).outcome) h acked in
      seen_by t h a.0 a.1 (acknowledgement_is t ((a.0).1).event ((a.0).1).outcome a.2).0
  looked_at (inr aborted) =
      let b = any_among (λ (e : Placed). is_abort t (e.1).event (e.1).outcome) h aborted in
      by_abort b.0 b.1 b.2 (tells t ((b.0).1).event ((b.0).1).outcome b.2)

asker : (t : TxId) (o : Option TxId) → elim o [ Some u ↦ tx_same t u | None ↦ false ] ≡ true → o ≡ Some t
asker t None h = is_false false h refl
asker t (Some u) h = ap (λ (k : TxId). Some k) (sym (tx_true t u h))

pub requests_are_looked_for : (splits : List ℕ) (before : List (List LogRecord)) (h : History) (after : List (List LogRecord)) → Legal splits before h after → AreTold h → (t : TxId) → has_request t h ≡ true → has_look t h ≡ true
requests_are_looked_for splits before h after l told t some =
    let a = any_among (λ (e : Placed). elim (request_of (e.1).event (e.1).outcome) [ Some u ↦ tx_same t u | None ↦ false ]) h some in
    let x = a.0 in
    let asks = asker t (request_of (x.1).event (x.1).outcome) a.2 in
    let r = is_request t (x.1).event (x.1).outcome asks in
    looked_at splits before h after l t x r.0 a.1 r.1 r.2 (told x.0 x.1 t (among_is x.0 x.1 h a.1) asks)
