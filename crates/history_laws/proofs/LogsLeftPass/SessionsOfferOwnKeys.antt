-- What sessions offer: operations on keys of the shard, and requests that name shards that there are.
use Rattle.std.proofs.Common.{◌≡◌, ⊎_elim, refl, sym, subst, ℕ, ◌<◌, true, false, cond, Bool, List, [], ◌∷◌, Option, Some, None, ◌&&◌, ◌==◌, nat_lt, eqb-true, suc}
use Rattle.std.specs.Prelude.{⊤, is_some}
use Rattle.std.specs.List.{AllByRecursion, list_all}
use Rattle.std.specs.Map.{lookup}
use Rattle.std.specs.BTreeMap.{insert_entry}
use Rattle.std.specs.Ordering.{nat_cmp, match_ordering}
use Rattle.std.specs.declared.cmp.Ordering.{Ordering}
use Rattle.std.specs.declared.cmp.Ordering.TheVariants.{Less, Equal, Greater}
use Rattle.std.proofs.lemmas.Bool.{both_ways, and_parts, ltb-true}
use Rattle.clv_base.specs.declared.names.TxId.{TxId}
use Rattle.clv_base.specs.declared.names.Birth.{Birth}
use Rattle.clv_base.specs.declared.logs.LogRecord.{LogRecord}
use Rattle.clv_base.specs.declared.ops.Op.{Op}
use Rattle.clv_base.specs.declared.events.Event.{Event}
use Rattle.clv_base.specs.declared.events.Event.TheVariants.{Op as OpEvent, Request as RequestEvent, Look, Drop, RollTo}
use Rattle.clv_base.specs.declared.events.Outcome.{Outcome}
use Rattle.clv_base.specs.declared.events.Outcome.TheVariants.{Answered, Dead, Asked, Acknowledged, Aborted, Rolled}
use Rattle.clv_base.specs.Orders.{tx_same}
use Rattle.clv_base.specs.Shards.{shard_count}
use Rattle.clv_base.specs.Sessions.{SessionState, no_session, lies_in, goes_on, begins, begun, touch, op_answered, op_in_session, is_touching, same_touched, is_lowest, requested, looked, after_drop, session_after, makes_from, is_session, is_whole_now, went_back, back_in_session, goes_on_back}
use Rattle.clv_base.specs.Restarts.{run_after}
use Rattle.clv_base.specs.Journals.{History, own}
use Rattle.clv_base.specs.History.{Legal}
use Rattle.history_cases.proofs.Merging.{Placed, Among, among_all, in_own}
use Rattle.law_base.proofs.Lists.{AreShards}

abbrev pub OffersBy : List ℕ → ℕ → Event → Outcome → Type 0
OffersBy splits n (OpEvent tx birth nth seen op) (Answered answer epoch) = lies_in splits n op ≡ true
OffersBy splits n (OpEvent tx birth nth seen op) _ = ⊤
OffersBy splits n (RequestEvent tx ts) o = AreShards splits ts
OffersBy splits n _ o = ⊤

abbrev pub Offers : List ℕ → Placed → Type 0
Offers splits e = OffersBy splits e.0 (e.1).event (e.1).outcome

-- ---- a session's touched shards

insert_case : (splits : List ℕ) (o : Ordering) (n epoch : ℕ) (r : ℕ × ℕ) (rs qs : List (ℕ × ℕ)) → n < shard_count splits → r.0 < shard_count splits → AreShards splits rs → AreShards splits qs
    → AreShards splits (match_ordering o ((n, epoch) ∷ r ∷ rs) ((r.0, epoch) ∷ rs) (r ∷ qs))
insert_case splits Less n epoch r rs qs a b c d = (a, (b, c))
insert_case splits Equal n epoch r rs qs a b c d = (b, c)
insert_case splits Greater n epoch r rs qs a b c d = (b, d)

inserted : (splits : List ℕ) (n epoch : ℕ) (ts : List (ℕ × ℕ)) → n < shard_count splits → AreShards splits ts → AreShards splits (insert_entry nat_cmp ts n epoch)
inserted splits n epoch [] l a = (l, tt)
inserted splits n epoch (r ∷ rs) l a = insert_case splits (nat_cmp n r.0) n epoch r rs (insert_entry nat_cmp rs n epoch) l a.0 a.1 (inserted splits n epoch rs l a.1)

touched_more : (splits : List ℕ) (n epoch : ℕ) (ts : List (ℕ × ℕ)) → n < shard_count splits → AreShards splits ts → AreShards splits (touch n epoch ts)
touched_more splits n epoch ts l a = at (is_some (lookup (◌==◌ n) ts))
  where
    at : (b : Bool) → AreShards splits (cond b ts (insert_entry nat_cmp ts n epoch))
    at true = a
    at false = inserted splits n epoch ts l a

same_shards : (splits : List ℕ) (as_ bs : List (ℕ × ℕ)) → same_touched as_ bs ≡ true → AreShards splits bs → AreShards splits as_
same_shards splits [] bs e a = tt
same_shards splits (x ∷ xs) [] e a = absurd (both_ways false refl e)
same_shards splits (x ∷ xs) (b ∷ bs) e a =
    let p = and_parts ((x.0 == b.0) && (x.1 == b.1)) (same_touched xs bs) e in
    (subst (λ z. z < shard_count splits) (sym (eqb-true x.0 b.0 (and_parts (x.0 == b.0) (x.1 == b.1) p.0).0)) a.0, same_shards splits xs bs p.1 a.1)

-- ---- one entry of a session

-- the session's shards after it, and what it offered
abbrev After : List ℕ → ℕ → Event → Outcome → Option SessionState → Type 0
After splits n e o None = ⊤
After splits n e o (Some t) = AreShards splits t.touched × OffersBy splits n e o

after_op : (splits : List ℕ) (n : ℕ) (tx : TxId) (birth : Birth) (nth : ℕ) (seen : Option ℕ) (op : Op) (t : SessionState) (o : Outcome) → n < shard_count splits → lies_in splits n op ≡ true → AreShards splits t.touched
    → After splits n (OpEvent tx birth nth seen op) o (op_answered n nth op t o)
after_op splits n tx birth nth seen op t (Answered answer epoch) l e a = (touched_more splits n epoch t.touched l a, e)
after_op splits n tx birth nth seen op t (Dead cause) l e a = (a, tt)
after_op splits n tx birth nth seen op t _ l e a = tt

op_case : (splits : List ℕ) (n : ℕ) (tx : TxId) (birth : Birth) (nth : ℕ) (seen : Option ℕ) (op : Op) (t : SessionState) (o : Outcome) (a b c : Bool) → lies_in splits n op ≡ b → n < shard_count splits → AreShards splits t.touched
    → After splits n (OpEvent tx birth nth seen op) o (cond (a && b && c) (op_answered n nth op t o) None)
op_case splits n tx birth nth seen op t o true true true e l s = after_op splits n tx birth nth seen op t o l e s
op_case splits n tx birth nth seen op t o false b c e l s = tt
op_case splits n tx birth nth seen op t o true false c e l s = tt
op_case splits n tx birth nth seen op t o true true false e l s = tt

op_in : (splits : List ℕ) (n : ℕ) (tx : TxId) (birth : Birth) (nth : ℕ) (seen : Option ℕ) (op : Op) (t : SessionState) (o : Outcome) → n < shard_count splits → AreShards splits t.touched
    → After splits n (OpEvent tx birth nth seen op) o (op_in_session splits n nth seen op o (Some t))
op_in splits n tx birth nth seen op t o l s = op_case splits n tx birth nth seen op t o _ (lies_in splits n op) _ refl l s

op_for : (splits : List ℕ) (n : ℕ) (tx : TxId) (birth : Birth) (nth : ℕ) (seen : Option ℕ) (op : Op) (t : SessionState) (o : Outcome) (a b c : Bool) → n < shard_count splits → AreShards splits t.touched
    → After splits n (OpEvent tx birth nth seen op) o (op_in_session splits n nth seen op o (cond a (cond b (Some t) None) (cond c (Some (begun t tx birth)) None)))
op_for splits n tx birth nth seen op t o true true c l s = op_in splits n tx birth nth seen op t o l s
op_for splits n tx birth nth seen op t o true false c l s = tt
op_for splits n tx birth nth seen op t o false b true l s = op_in splits n tx birth nth seen op (begun t tx birth) o l tt
op_for splits n tx birth nth seen op t o false b false l s = tt

after_request : (splits : List ℕ) (n : ℕ) (tx : TxId) (ts : List (ℕ × ℕ)) (t : SessionState) (o : Outcome) → AreShards splits ts → AreShards splits t.touched → After splits n (RequestEvent tx ts) o (requested n t o)
after_request splits n tx ts t Asked a s = (s, a)
after_request splits n tx ts t (Dead cause) a s = (s, a)
after_request splits n tx ts t _ a s = tt

request_case : (splits : List ℕ) (n : ℕ) (tx : TxId) (ts : List (ℕ × ℕ)) (t : SessionState) (o : Outcome) (a c d : Bool) → same_touched ts t.touched ≡ c → AreShards splits t.touched
    → After splits n (RequestEvent tx ts) o (cond (a && c && d) (requested n t o) None)
request_case splits n tx ts t o true true true e s = after_request splits n tx ts t o (same_shards splits ts t.touched e s) s
request_case splits n tx ts t o false c d e s = tt
request_case splits n tx ts t o true false d e s = tt
request_case splits n tx ts t o true true false e s = tt

after_went : (splits : List ℕ) (n : ℕ) (tx : TxId) (nth seen upto : ℕ) (t : SessionState) (o : Outcome) → AreShards splits t.touched → After splits n (RollTo tx nth seen upto) o (went_back n upto t o)
after_went splits n tx nth seen upto t Rolled s = (s, tt)
after_went splits n tx nth seen upto t (Dead cause) s = (s, tt)
after_went splits n tx nth seen upto t _ s = tt

back_case : (splits : List ℕ) (n : ℕ) (tx : TxId) (nth seen upto : ℕ) (t u : SessionState) (o : Outcome) (a b c d : Bool) → AreShards splits t.touched → u.touched ≡ t.touched
    → After splits n (RollTo tx nth seen upto) o (cond a (back_in_session n upto o (cond b (cond c (Some u) None) (cond d (Some t) None))) None)
back_case splits n tx nth seen upto t u o true true true d s e = after_went splits n tx nth seen upto u o (subst (AreShards splits) (sym e) s)
back_case splits n tx nth seen upto t u o true false c true s e = after_went splits n tx nth seen upto t o s
back_case splits n tx nth seen upto t u o true true false d s e = tt
back_case splits n tx nth seen upto t u o true false c false s e = tt
back_case splits n tx nth seen upto t u o false b c d s e = tt

after_look : (splits : List ℕ) (n : ℕ) (tx : TxId) (t : SessionState) (o : Outcome) (b : Bool) → AreShards splits t.touched → After splits n (Look tx) o (cond b (looked t o) None)
after_look splits n tx t Acknowledged true s = (s, tt)
after_look splits n tx t (Aborted cause) true s = (s, tt)
after_look splits n tx t _ true s = tt
after_look splits n tx t o false s = tt

after_dropping : (splits : List ℕ) (n : ℕ) (tx : TxId) (t : SessionState) (o : Outcome) (b : Bool) → AreShards splits t.touched → After splits n (Drop tx) o (cond b (Some (record t { phase = after_drop t.phase })) None)
after_dropping splits n tx t o true s = (s, tt)
after_dropping splits n tx t o false s = tt

session_step : (splits : List ℕ) (n : ℕ) (t : SessionState) (e : Event) (o : Outcome) → n < shard_count splits → AreShards splits t.touched → After splits n e o (session_after splits n t e o)
session_step splits n t (OpEvent tx birth nth seen op) o l s = op_for splits n tx birth nth seen op t o (tx_same tx t.tx) (goes_on t tx birth) (begins t tx birth) l s
session_step splits n t (RollTo tx nth seen upto) o l s = back_case splits n tx nth seen upto t _ o _ (nth == suc t.nth) (nat_lt upto nth) ((nth == t.nth) && goes_on_back t.back n upto) s refl
session_step splits n t (RequestEvent tx ts) o l s = request_case splits n tx ts t o (tx_same tx t.tx && is_touching t.phase && is_whole_now t) (same_touched ts t.touched) (is_lowest n ts) refl s
session_step splits n t (Look tx) o l s = after_look splits n tx t o _ s
session_step splits n t (Drop tx) o l s = after_dropping splits n tx t o _ s
session_step splits n t _ o l s = (s, tt)

-- ---- all entries of a session

offers_from : (splits : List ℕ) (t : SessionState) (es : History) → AllByRecursion (λ e. e.0 < shard_count splits) es → AreShards splits t.touched → makes_from splits (Some t) es ≡ true → AllByRecursion (Offers splits) es
offers_from splits t [] l s m = tt
offers_from splits t (e ∷ es) l s m = at (session_after splits e.0 t (e.1).event (e.1).outcome) (session_step splits e.0 t (e.1).event (e.1).outcome l.0 s) m (λ u a k. offers_from splits u es l.1 a k)
  where
    at : (u : Option SessionState) → After splits e.0 (e.1).event (e.1).outcome u → makes_from splits u es ≡ true
        → ((v : SessionState) → AreShards splits v.touched → makes_from splits (Some v) es ≡ true → AllByRecursion (Offers splits) es) → AllByRecursion (Offers splits) (e ∷ es)
    at None a k ih = absurd (both_ways false refl k)
    at (Some u) a k ih = (a.1, ih u a.0 k)

own_shards : (splits : List ℕ) (w : ℕ) (h : History) → list_all (λ x. nat_lt x.0 (shard_count splits)) h ≡ true → AllByRecursion (λ e. e.0 < shard_count splits) (own w h)
own_shards splits w [] a = tt
own_shards splits w (x ∷ xs) a =
    let p = and_parts (nat_lt x.0 (shard_count splits)) (list_all (λ x. nat_lt x.0 (shard_count splits)) xs) a in at (own_shards splits w xs p.1) (ltb-true x.0 (shard_count splits) p.0) ((x.1).walker == w)
  where
    at : AllByRecursion (λ e. e.0 < shard_count splits) (own w xs) → x.0 < shard_count splits → (b : Bool) → AllByRecursion (λ e. e.0 < shard_count splits) (cond b (x ∷ own w xs) (own w xs))
    at k l true = (l, k)
    at k l false = k

session_of : (splits : List ℕ) (run : ℕ) (full h : History) (e : Placed) → list_all (λ x. is_session splits run (x.1).walker (own (x.1).walker full)) h ≡ true → Among e h → is_session splits run (e.1).walker (own (e.1).walker full) ≡ true
session_of splits run full [] e a i = elim i [ ]
session_of splits run full (x ∷ xs) e a i =
    let p = and_parts (is_session splits run (x.1).walker (own (x.1).walker full)) (list_all (λ x. is_session splits run (x.1).walker (own (x.1).walker full)) xs) a in
    ⊎_elim (λ q. subst (λ z. is_session splits run (z.1).walker (own (z.1).walker full) ≡ true) q p.0) (λ q. session_of splits run full xs e p.1 q) i

-- each entry of a legal history offers what may be
pub offered : (splits : List ℕ) (before after : List (List LogRecord)) (h : History) (e : Placed) → Legal splits before h after → Among e h → Offers splits e
offered splits before after h e l i =
    among_all (Offers splits) e (own (e.1).walker h)
    (offers_from splits (no_session (run_after before) (e.1).walker) (own (e.1).walker h) (own_shards splits (e.1).walker h l.in_shards) tt (session_of splits (run_after before) h h e l.sessions i))
    (in_own e h i)
