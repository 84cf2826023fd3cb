-- An epoch that an operation or a going back of a session has seen was answered before, on the same shard.
use Rattle.std.proofs.Common.{◌≡◌, inl, inr, refl, sym, ap, subst, ◌∙◌, ℕ, true, false, cond, Bool, List, [], ◌∷◌, ◌++◌, Option, Some, None, ◌&&◌, ◌==◌, eqb-true, append_assoc}
use Rattle.std.specs.Map.{lookup}
use Rattle.std.specs.List.{AllByRecursion}
use Rattle.std.proofs.lemmas.Bool.{both_ways, and_parts}
use Rattle.clv_base.specs.declared.names.TxId.{TxId}
use Rattle.clv_base.specs.declared.names.Birth.{Birth}
use Rattle.clv_base.specs.declared.ops.Op.{Op}
use Rattle.clv_base.specs.declared.events.Event.TheVariants.{Op as OpEvent, RollTo}
use Rattle.clv_base.specs.declared.events.Outcome.{Outcome}
use Rattle.clv_base.specs.LogRules.{same_option}
use Rattle.clv_base.specs.Sessions.{SessionState, is_number, lies_in, session_for, op_answered, op_in_session, session_after, makes_from, is_touching, back_for, back_in_session}
use Rattle.clv_base.specs.Orders.{tx_same}
use Rattle.clv_base.proofs.SameNames.{tx_true}
use Rattle.law_base.proofs.Changed.{none_some, some_same}
use Rattle.history_cases.proofs.Merging.{Placed, Among, Precedes, front_precedes}
use Rattle.history_laws.proofs.RequestsNameWhatAnswered.SessionsFollowTheirOperations.{For, nobody, the_same, a_new_one, for_by}
use Rattle.history_laws.proofs.RequestsNameWhatAnswered.NamedShardsAnswered.{AnsweredAt, Traced, traced_next, named_case}

-- what holds of each row holds of one that is found
pub lookup_row : (P : ℕ × ℕ → Type 0) (n v : ℕ) (rs : List (ℕ × ℕ)) → lookup (◌==◌ n) rs ≡ Some v → AllByRecursion P rs → P (n, v)
lookup_row P n v [] e a = absurd (none_some v e)
lookup_row P n v (r ∷ rs) e a = at (n == r.0) refl e (lookup_row P n v rs)
  where
    at : (b : Bool) → (n == r.0) ≡ b → cond b (Some r.1) (lookup (◌==◌ n) rs) ≡ Some v → (lookup (◌==◌ n) rs ≡ Some v → AllByRecursion P rs → P (n, v)) → P (n, v)
    at true f g k = subst (λ z. P (z, v)) (sym (eqb-true n r.0 f)) (subst (λ (z : ℕ). P (r.0, z)) (some_same r.1 v g) a.0)
    at false f g k = k g a.1

same_some : (n : ℕ) (o : Option ℕ) → same_option (Some n) o ≡ true → o ≡ Some n
same_some n None e = absurd (both_ways false refl e)
same_some n (Some m) e = ap (λ z. Some z) (sym (eqb-true n m e))

abbrev Seen : List Placed → Placed → TxId → ℕ → Type 0
Seen es x tx epoch = (y : Placed) × Precedes y x es × AnsweredAt y tx x.0 epoch

seen_by : (splits : List ℕ) (done rest : List Placed) (x : Placed) (t : SessionState) (tx : TxId) (birth : Birth) (nth epoch : ℕ) (op : Op) (o : Outcome) (v : Option SessionState) (zs : List Placed) → For t tx birth v → Traced done t → Among x rest
    → makes_from splits (op_in_session splits x.0 nth (Some epoch) op o v) zs ≡ true → Seen (done ++ rest) x tx epoch
unfolding Traced
seen_by splits done rest x t tx birth nth epoch op o None zs f k i h = absurd (both_ways false refl h)
seen_by splits done rest x t tx birth nth epoch op o (Some v) zs f k i h = at (is_number v x.0 nth op && lies_in splits x.0 op && same_option (Some epoch) (lookup (◌==◌ x.0) v.touched)) refl h
  where
    found : {u : Option SessionState} → For t tx birth u → u ≡ Some v → lookup (◌==◌ x.0) v.touched ≡ Some epoch → Seen (done ++ rest) x tx epoch
    found nobody e g = absurd (none_some v e)
    found (the_same q r) e g =
        let same : t ≡ v = some_same t v e in
        let a = lookup_row (λ r. (y : Placed) × Among y done × AnsweredAt y t.tx r.0 r.1) x.0 epoch t.touched (ap (λ z. lookup (◌==◌ x.0) z.touched) same ∙ g) k in
        (a.0, front_precedes a.0 x done rest a.1 i, subst (λ z. AnsweredAt a.0 z x.0 epoch) (sym q) a.2)
    found (a_new_one l) e g = absurd (none_some epoch (ap (λ z. lookup (◌==◌ x.0) z.touched) (some_same _ v e) ∙ g))

    at : (b : Bool) → (is_number v x.0 nth op && lies_in splits x.0 op && same_option (Some epoch) (lookup (◌==◌ x.0) v.touched)) ≡ b → makes_from splits (cond b (op_answered x.0 nth op v o) None) zs ≡ true → Seen (done ++ rest) x tx epoch
    at true e g = found f refl (same_some epoch (lookup (◌==◌ x.0) v.touched) (and_parts (is_number v x.0 nth op && lies_in splits x.0 op) _ e).1)
    at false e g = absurd (both_ways false refl g)

seen_from : (splits : List ℕ) (done rest : List Placed) (t : SessionState) (x : Placed) (tx : TxId) (birth : Birth) (nth epoch : ℕ) (op : Op) → makes_from splits (Some t) rest ≡ true → Among x rest → (x.1).event ≡ OpEvent tx birth nth (Some epoch) op → Traced done t
    → Seen (done ++ rest) x tx epoch
seen_from splits done [] t x tx birth nth epoch op h i e k = elim i [ ]
seen_from splits done (z ∷ zs) t x tx birth nth epoch op h (inl i) e k =
    let h1 = subst (λ w. makes_from splits (session_after splits w.0 t (w.1).event (w.1).outcome) zs ≡ true) i h in
    let h2 = subst (λ w. makes_from splits (session_after splits x.0 t w (x.1).outcome) zs ≡ true) e h1 in
    seen_by splits done (z ∷ zs) x t tx birth nth epoch op (x.1).outcome (session_for t tx birth) zs (for_by t tx birth _ refl) k (inl i) h2
seen_from splits done (z ∷ zs) t x tx birth nth epoch op h (inr i) e k =
    named_case splits done zs z (session_after splits z.0 t (z.1).event (z.1).outcome) (traced_next splits done z t (z.1).event (z.1).outcome refl refl k) h
    (λ u p g. subst (λ w. Seen w x tx epoch) (append_assoc done (z ∷ []) zs) (seen_from splits (done ++ z ∷ []) zs u x tx birth nth epoch op g i e p))

pub seen_before : (splits : List ℕ) (es : List Placed) (t : SessionState) (x : Placed) (tx : TxId) (birth : Birth) (nth epoch : ℕ) (op : Op) → t.touched ≡ [] → makes_from splits (Some t) es ≡ true → Among x es → (x.1).event ≡ OpEvent tx birth nth (Some epoch) op
    → (y : Placed) × Precedes y x es × AnsweredAt y tx x.0 epoch
unfolding Traced
seen_before splits es t x tx birth nth epoch op n h i e = seen_from splits [] es t x tx birth nth epoch op h i e (subst (λ z. AllByRecursion (λ r. (y : Placed) × Among y [] × AnsweredAt y t.tx r.0 r.1) z) (sym n) tt)

-- so was what a going back has seen
back_seen : (splits : List ℕ) (done rest : List Placed) (x : Placed) (t : SessionState) (tx : TxId) (nth seen upto : ℕ) (o : Outcome) (zs : List Placed) → Traced done t → Among x rest
    → makes_from splits (session_after splits x.0 t (RollTo tx nth seen upto) o) zs ≡ true → Seen (done ++ rest) x tx seen
unfolding Traced
back_seen splits done rest x t tx nth seen upto o zs k i h = at (tx_same tx t.tx && is_touching t.phase && same_option (Some seen) (lookup (◌==◌ x.0) t.touched)) refl h
  where
    at : (b : Bool) → (tx_same tx t.tx && is_touching t.phase && same_option (Some seen) (lookup (◌==◌ x.0) t.touched)) ≡ b
        → makes_from splits (cond b (back_in_session x.0 upto o (back_for t x.0 nth upto)) None) zs ≡ true → Seen (done ++ rest) x tx seen
    at true e g =
        let p = and_parts (tx_same tx t.tx && is_touching t.phase) (same_option (Some seen) (lookup (◌==◌ x.0) t.touched)) e in
        let q = tx_true tx t.tx (and_parts (tx_same tx t.tx) (is_touching t.phase) p.0).0 in
        let a = lookup_row (λ r. (y : Placed) × Among y done × AnsweredAt y t.tx r.0 r.1) x.0 seen t.touched (same_some seen (lookup (◌==◌ x.0) t.touched) p.1) k in
        (a.0, front_precedes a.0 x done rest a.1 i, subst (λ z. AnsweredAt a.0 z x.0 seen) (sym q) a.2)
    at false e g = absurd (both_ways false refl g)

back_from : (splits : List ℕ) (done rest : List Placed) (t : SessionState) (x : Placed) (tx : TxId) (nth seen upto : ℕ) → makes_from splits (Some t) rest ≡ true → Among x rest → (x.1).event ≡ RollTo tx nth seen upto → Traced done t
    → Seen (done ++ rest) x tx seen
back_from splits done [] t x tx nth seen upto h i e k = elim i [ ]
back_from splits done (z ∷ zs) t x tx nth seen upto h (inl i) e k =
    let h1 = subst (λ w. makes_from splits (session_after splits w.0 t (w.1).event (w.1).outcome) zs ≡ true) i h in
    back_seen splits done (z ∷ zs) x t tx nth seen upto (x.1).outcome zs k (inl i) (subst (λ w. makes_from splits (session_after splits x.0 t w (x.1).outcome) zs ≡ true) e h1)
back_from splits done (z ∷ zs) t x tx nth seen upto h (inr i) e k =
    named_case splits done zs z (session_after splits z.0 t (z.1).event (z.1).outcome) (traced_next splits done z t (z.1).event (z.1).outcome refl refl k) h
    (λ u p g. subst (λ w. Seen w x tx seen) (append_assoc done (z ∷ []) zs) (back_from splits (done ++ z ∷ []) zs u x tx nth seen upto g i e p))

pub back_seen_before : (splits : List ℕ) (es : List Placed) (t : SessionState) (x : Placed) (tx : TxId) (nth seen upto : ℕ) → t.touched ≡ [] → makes_from splits (Some t) es ≡ true → Among x es → (x.1).event ≡ RollTo tx nth seen upto
    → (y : Placed) × Precedes y x es × AnsweredAt y tx x.0 seen
unfolding Traced
back_seen_before splits es t x tx nth seen upto n h i e = back_from splits [] es t x tx nth seen upto h i e (subst (λ z. AllByRecursion (λ r. (y : Placed) × Among y [] × AnsweredAt y t.tx r.0 r.1) z) (sym n) tt)
