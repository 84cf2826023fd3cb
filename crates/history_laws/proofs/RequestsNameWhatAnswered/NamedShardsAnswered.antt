-- A request names exactly the shards whose operations were answered before it, each with the epoch that answered.
use Rattle.std.proofs.Common.{◌≡◌, inl, inr, refl, sym, ap, subst, ◌∙◌, ℕ, true, false, cond, Bool, List, [], ◌∷◌, ◌++◌, Option, Some, None, is_some, ◌&&◌, ◌==◌, eqb-true, append_assoc}
use Rattle.std.specs.List.{AllByRecursion}
use Rattle.std.specs.Map.{lookup}
use Rattle.std.specs.BTreeMap.{insert_entry}
use Rattle.std.specs.Ordering.{nat_cmp, match_ordering, is_eq}
use Rattle.std.specs.declared.cmp.Ordering.{Ordering}
use Rattle.std.specs.declared.cmp.Ordering.TheVariants.{Less, Equal, Greater}
use Rattle.std.proofs.lemmas.Bool.{both_ways, and_parts}
use Rattle.clv_base.specs.declared.names.TxId.{TxId}
use Rattle.clv_base.specs.declared.names.Birth.{Birth}
use Rattle.clv_base.specs.declared.ops.Op.{Op}
use Rattle.clv_base.specs.declared.ops.Answer.{Answer}
use Rattle.clv_base.specs.declared.events.Event.{Event}
use Rattle.clv_base.specs.declared.events.Event.TheVariants.{Op as OpEvent, Request, Look, Drop, RollTo}
use Rattle.clv_base.specs.declared.events.Outcome.{Outcome}
use Rattle.clv_base.specs.declared.events.Outcome.TheVariants.{Answered, Dead, Asked, Acknowledged, Aborted}
use Rattle.clv_base.specs.Orders.{tx_same}
use Rattle.clv_base.specs.LogRules.{same_option}
use Rattle.clv_base.specs.Sessions.{Phase, SessionState, is_number, lies_in, is_touching, session_for, touch, op_answered, op_in_session, same_touched, is_lowest, requested, looked, session_after, makes_from, is_whole_now}
use Rattle.clv_base.proofs.SameNames.{tx_true, nat_cmp_true}
use Rattle.history_cases.proofs.Merging.{Placed, Among, Precedes, front_precedes, among_left, among_right}
use Rattle.history_laws.proofs.RequestsNameWhatAnswered.SessionsFollowTheirOperations.{For, the_same, a_new_one, for_by}
use Rattle.history_laws.proofs.Entries.GoingsBackOfSessions.{Back, no_back, went, died, back_after, Same}

-- an entry that answered an operation of the transaction, on this shard, in this epoch
pub record AnsweredAt (y : Placed) (tx : TxId) (shard epoch : ℕ) : Type 0 where
  pub birth : Birth
  pub nth : ℕ
  pub seen : Option ℕ
  pub op : Op
  pub answer : Answer
  pub event : (y.1).event ≡ OpEvent tx birth nth seen op
  pub outcome : (y.1).outcome ≡ Answered answer epoch
  pub place : y.0 ≡ shard

-- each touched shard with its epoch comes of such an entry
unfoldable pub Traced : List Placed → SessionState → Type 0
Traced done t = AllByRecursion (λ r. (y : Placed) × Among y done × AnsweredAt y t.tx r.0 r.1) t.touched

pub data TracedIn (done : List Placed) : Option SessionState → Type 0 where
  gone : TracedIn done None
  traced : {u : SessionState} → Traced done u → TracedIn done (Some u)

rows_more : (done more : List Placed) (tx : TxId) (ts : List (ℕ × ℕ)) → AllByRecursion (λ r. (y : Placed) × Among y done × AnsweredAt y tx r.0 r.1) ts → AllByRecursion (λ r. (y : Placed) × Among y (done ++ more) × AnsweredAt y tx r.0 r.1) ts
rows_more done more tx [] a = tt
rows_more done more tx (t ∷ ts) a = (((a.0).0, among_left (a.0).0 done more (a.0).1, (a.0).2), rows_more done more tx ts a.1)

traced_more : (done more : List Placed) (t : SessionState) → Traced done t → Traced (done ++ more) t
unfolding Traced
traced_more done more t a = rows_more done more t.tx t.touched a

put_row : (P : ℕ × ℕ → Type 0) (o : Ordering) (n v : ℕ) (r : ℕ × ℕ) (rs qs : List (ℕ × ℕ)) → (o ≡ Equal → n ≡ r.0) → P (n, v) → P r → AllByRecursion P rs → AllByRecursion P qs → AllByRecursion P (match_ordering o ((n, v) ∷ r ∷ rs) ((r.0, v) ∷ rs) (r ∷ qs))
put_row P Less n v r rs qs e p q a b = (p, (q, a))
put_row P Equal n v r rs qs e p q a b = (subst (λ z. P (z, v)) (e refl) p, a)
put_row P Greater n v r rs qs e p q a b = (q, b)

insert_rows : (P : ℕ × ℕ → Type 0) (n v : ℕ) (ts : List (ℕ × ℕ)) → P (n, v) → AllByRecursion P ts → AllByRecursion P (insert_entry nat_cmp ts n v)
insert_rows P n v [] p a = (p, tt)
insert_rows P n v (r ∷ rs) p a = put_row P (nat_cmp n r.0) n v r rs (insert_entry nat_cmp rs n v) (λ q. nat_cmp_true n r.0 (ap is_eq q)) p a.0 a.1 (insert_rows P n v rs p a.1)

touch_rows : (P : ℕ × ℕ → Type 0) (n v : ℕ) (ts : List (ℕ × ℕ)) → P (n, v) → AllByRecursion P ts → AllByRecursion P (touch n v ts)
touch_rows P n v ts p a = at (is_some (lookup (◌==◌ n) ts))
  where
    at : (b : Bool) → AllByRecursion P (cond b ts (insert_entry nat_cmp ts n v))
    at true = a
    at false = insert_rows P n v ts p a

traced_if : (done : List Placed) (b : Bool) (o : Option SessionState) → TracedIn done o → TracedIn done (cond b o None)
traced_if done true o t = t
traced_if done false o t = gone

traced_answered : (done : List Placed) (z : Placed) (t v : SessionState) (tx : TxId) (birth : Birth) (nth : ℕ) (seen : Option ℕ) (op : Op) (o : Outcome) → (z.1).event ≡ OpEvent tx birth nth seen op → (z.1).outcome ≡ o → For t tx birth (Some v)
    → Traced done t → TracedIn (done ++ z ∷ []) (op_answered z.0 nth op v o)
unfolding Traced
traced_answered done z t _ tx birth nth seen op (Answered a epoch) e f (the_same q r) k =
    traced (touch_rows (λ r. (y : Placed) × Among y (done ++ z ∷ []) × AnsweredAt y t.tx r.0 r.1) z.0 epoch t.touched
    (z, among_right z done (z ∷ []) (inl refl), record { birth = birth; nth = nth; seen = seen; op = op; answer = a; event = subst (λ w. (z.1).event ≡ OpEvent w birth nth seen op) q e; outcome = f; place = refl })
    (rows_more done (z ∷ []) t.tx t.touched k))
traced_answered done z t _ tx birth nth seen op (Answered a epoch) e f (a_new_one l) k =
    traced (touch_rows (λ r. (y : Placed) × Among y (done ++ z ∷ []) × AnsweredAt y tx r.0 r.1) z.0 epoch []
    (z, among_right z done (z ∷ []) (inl refl), record { birth = birth; nth = nth; seen = seen; op = op; answer = a; event = e; outcome = f; place = refl }) tt)
traced_answered done z t _ tx birth nth seen op (Dead c) e f (the_same q r) k = traced (rows_more done (z ∷ []) t.tx t.touched k)
traced_answered done z t _ tx birth nth seen op (Dead c) e f (a_new_one l) k = traced tt
traced_answered done z t v tx birth nth seen op _ e f g k = gone

traced_op : (splits : List ℕ) (done : List Placed) (z : Placed) (t : SessionState) (tx : TxId) (birth : Birth) (nth : ℕ) (seen : Option ℕ) (op : Op) (o : Outcome) (v : Option SessionState) → (z.1).event ≡ OpEvent tx birth nth seen op → (z.1).outcome ≡ o
    → For t tx birth v → Traced done t → TracedIn (done ++ z ∷ []) (op_in_session splits z.0 nth seen op o v)
traced_op splits done z t tx birth nth seen op o None e f g k = gone
traced_op splits done z t tx birth nth seen op o (Some v) e f g k =
    traced_if _ (is_number v z.0 nth op && lies_in splits z.0 op && same_option seen (lookup (◌==◌ z.0) v.touched)) _ (traced_answered done z t v tx birth nth seen op o e f g k)

same_traced : (done : List Placed) (t : SessionState) (p : Phase) → Traced done t → Traced done (record t { phase = p })
unfolding Traced
same_traced done t p a = a

same_rows_of : (done : List Placed) (t u : SessionState) → Same u t → Traced done t → Traced done u
unfolding Traced
same_rows_of done t u s k =
    subst (λ ts. AllByRecursion (λ r. (y : Placed) × Among y done × AnsweredAt y u.tx r.0 r.1) ts) (sym s.touched)
    (subst (λ x. AllByRecursion (λ r. (y : Placed) × Among y done × AnsweredAt y x r.0 r.1) t.touched) (sym s.tx) k)

traced_request : (done : List Placed) (t : SessionState) (n : ℕ) (o : Outcome) → Traced done t → TracedIn done (requested n t o)
traced_request done t n Asked k = traced (same_traced done t _ k)
traced_request done t n (Dead c) k = traced (same_traced done t _ k)
traced_request done t n _ k = gone

traced_back : (done : List Placed) (t : SessionState) (tx : TxId) (n : ℕ) (o : Outcome) (v : Option SessionState) → Traced done t → Back t tx n o v → TracedIn done v
unfolding Traced
traced_back done t tx n o _ k no_back = gone
traced_back done t tx n _ (Some u) k (went m s e) = traced (same_rows_of done t u s k)
traced_back done t tx n _ (Some u) k (died c m s e) = traced (same_rows_of done t u s k)

traced_look : (done : List Placed) (t : SessionState) (o : Outcome) → Traced done t → TracedIn done (looked t o)
traced_look done t Acknowledged k = traced (same_traced done t _ k)
traced_look done t (Aborted c) k = traced (same_traced done t _ k)
traced_look done t _ k = gone

pub traced_next : (splits : List ℕ) (done : List Placed) (z : Placed) (t : SessionState) (e : Event) (o : Outcome) → (z.1).event ≡ e → (z.1).outcome ≡ o → Traced done t → TracedIn (done ++ z ∷ []) (session_after splits z.0 t e o)
traced_next splits done z t (OpEvent tx birth nth seen op) o e f k = traced_op splits done z t tx birth nth seen op o (session_for t tx birth) e f (for_by t tx birth (tx_same tx t.tx) refl) k
traced_next splits done z t (RollTo tx nth seen upto) o e f k = traced_back (done ++ z ∷ []) t tx z.0 o _ (traced_more done (z ∷ []) t k) (back_after splits z.0 t tx nth seen upto o)
traced_next splits done z t (Request tx ts) o e f k = traced_if _ _ _ (traced_request (done ++ z ∷ []) t z.0 o (traced_more done (z ∷ []) t k))
traced_next splits done z t (Look tx) o e f k = traced_if _ _ _ (traced_look (done ++ z ∷ []) t o (traced_more done (z ∷ []) t k))
traced_next splits done z t (Drop tx) o e f k = traced_if _ _ _ (traced (same_traced (done ++ z ∷ []) t _ (traced_more done (z ∷ []) t k)))
traced_next splits done z t _ o e f k = traced (traced_more done (z ∷ []) t k)

-- ---- what the request names

abbrev pub Named : TxId → Placed → List Placed → List (ℕ × ℕ) → Type 0
Named tx x es ts = AllByRecursion (λ r. (y : Placed) × Precedes y x es × AnsweredAt y tx r.0 r.1) ts

same_rows : (P : ℕ × ℕ → Type 0) (as_ bs : List (ℕ × ℕ)) → same_touched as_ bs ≡ true → AllByRecursion P bs → AllByRecursion P as_
same_rows P [] [] s a = tt
same_rows P [] (b ∷ bs) s a = absurd (both_ways false refl s)
same_rows P (x ∷ xs) [] s a = absurd (both_ways false refl s)
same_rows P (x ∷ xs) (b ∷ bs) s a =
    let p = and_parts ((x.0 == b.0) && (x.1 == b.1)) (same_touched xs bs) s in
    let q = and_parts (x.0 == b.0) (x.1 == b.1) p.0 in
    (subst P (pair (eqb-true x.0 b.0 q.0) (eqb-true x.1 b.1 q.1)) a.0, same_rows P xs bs p.1 a.1)
  where
    pair : x.0 ≡ b.0 → x.1 ≡ b.1 → b ≡ x
    pair e f = ap (λ (z : ℕ). (z, b.1)) (sym e) ∙ ap (λ (z : ℕ). (x.0, z)) (sym f)

rows_precede : (tx : TxId) (x : Placed) (done rest : List Placed) (ts : List (ℕ × ℕ)) → Among x rest → AllByRecursion (λ r. (y : Placed) × Among y done × AnsweredAt y tx r.0 r.1) ts → Named tx x (done ++ rest) ts
rows_precede tx x done rest [] i a = tt
rows_precede tx x done rest (t ∷ ts) i a = (((a.0).0, front_precedes (a.0).0 x done rest (a.0).1 i, (a.0).2), rows_precede tx x done rest ts i a.1)

named_here : (splits : List ℕ) (tx : TxId) (x : Placed) (done rest : List Placed) (t : SessionState) (ts : List (ℕ × ℕ)) (n : ℕ) (o : Outcome) (es : List Placed) (b : Bool)
    → (tx_same tx t.tx && is_touching t.phase && is_whole_now t && same_touched ts t.touched && is_lowest n ts) ≡ b → makes_from splits (cond b (requested n t o) None) es ≡ true → Among x rest → Traced done t → Named tx x (done ++ rest) ts × (is_lowest n ts ≡ true)
unfolding Traced
named_here splits tx x done rest t ts n o es true e h i k =
    let p = and_parts (tx_same tx t.tx && is_touching t.phase && is_whole_now t && same_touched ts t.touched) (is_lowest n ts) e in
    let q = and_parts (tx_same tx t.tx && is_touching t.phase && is_whole_now t) (same_touched ts t.touched) p.0 in
    let w = and_parts (tx_same tx t.tx && is_touching t.phase) (is_whole_now t) q.0 in
    let r = and_parts (tx_same tx t.tx) (is_touching t.phase) w.0 in (
      rows_precede tx x done rest ts i
          (same_rows (λ r. (y : Placed) × Among y done × AnsweredAt y tx r.0 r.1) ts t.touched q.1
          (subst (λ w. AllByRecursion (λ r. (y : Placed) × Among y done × AnsweredAt y w r.0 r.1) t.touched) (sym (tx_true tx t.tx r.0)) k)),
      p.1,
    )
named_here splits tx x done rest t ts n o es false e h i k = absurd (both_ways false refl h)

pub named_case : (splits : List ℕ) (done zs : List Placed) (z : Placed) (v : Option SessionState) {X : Type 0} → TracedIn (done ++ z ∷ []) v → makes_from splits v zs ≡ true
    → ((u : SessionState) → Traced (done ++ z ∷ []) u → makes_from splits (Some u) zs ≡ true → X) → X
named_case splits done zs z None gone h k = absurd (both_ways false refl h)
named_case splits done zs z (Some u) (traced t) h k = k u t h

named_from : (splits : List ℕ) (done rest : List Placed) (t : SessionState) (x : Placed) (tx : TxId) (ts : List (ℕ × ℕ)) → makes_from splits (Some t) rest ≡ true → Among x rest → (x.1).event ≡ Request tx ts → Traced done t
    → Named tx x (done ++ rest) ts × (is_lowest x.0 ts ≡ true)
named_from splits done [] t x tx ts h i e k = elim i [ ]
named_from splits done (z ∷ zs) t x tx ts h (inl i) e k =
    let h1 = subst (λ w. makes_from splits (session_after splits w.0 t (w.1).event (w.1).outcome) zs ≡ true) i h in
    let h2 = subst (λ w. makes_from splits (session_after splits x.0 t w (x.1).outcome) zs ≡ true) e h1 in
    named_here splits tx x done (z ∷ zs) t ts x.0 (x.1).outcome zs (tx_same tx t.tx && is_touching t.phase && is_whole_now t && same_touched ts t.touched && is_lowest x.0 ts) refl h2 (inl i) k
named_from splits done (z ∷ zs) t x tx ts h (inr i) e k =
    named_case splits done zs z (session_after splits z.0 t (z.1).event (z.1).outcome) (traced_next splits done z t (z.1).event (z.1).outcome refl refl k) h
    (λ u p g. subst (λ w. Named tx x w ts × (is_lowest x.0 ts ≡ true)) (append_assoc done (z ∷ []) zs) (named_from splits (done ++ z ∷ []) zs u x tx ts g i e p))

pub request_names_all : (splits : List ℕ) (es : List Placed) (t : SessionState) (x : Placed) (tx : TxId) (ts : List (ℕ × ℕ)) → t.touched ≡ [] → makes_from splits (Some t) es ≡ true → Among x es → (x.1).event ≡ Request tx ts
    → Named tx x es ts × (is_lowest x.0 ts ≡ true)
unfolding Traced
request_names_all splits es t x tx ts n h i e = named_from splits [] es t x tx ts h i e (subst (λ z. AllByRecursion (λ r. (y : Placed) × Among y [] × AnsweredAt y t.tx r.0 r.1) z) (sym n) tt)
