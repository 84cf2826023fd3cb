-- What a session touched are shards that there are.
use Rattle.std.proofs.Common.{◌≡◌, refl, sym, ap, subst, ◌∙◌, ℕ, suc, ◌<◌, true, false, cond, Bool, ◌&&◌, ◌==◌, length, nat_lt, List, [], ◌∷◌, Option, Some, None, eqb-true, arith}
use Rattle.std.specs.Prelude.{is_some}
use Rattle.std.specs.Map.{lookup}
use Rattle.std.specs.BTreeMap.{insert_entry}
use Rattle.std.specs.Ordering.{nat_cmp, match_ordering}
use Rattle.std.specs.declared.cmp.Ordering.{Ordering}
use Rattle.std.specs.declared.cmp.Ordering.TheVariants.{Less, Equal, Greater}
use Rattle.std.proofs.lemmas.Bool.{both_ways, and_parts, ltb-true, ltb-false}
use Rattle.clv_base.specs.declared.names.TxId.{TxId}
use Rattle.clv_base.specs.declared.names.Birth.{Birth}
use Rattle.clv_base.specs.declared.ops.Op.{Op as Operation}
use Rattle.clv_base.specs.declared.ops.Op.TheVariants.{Get, Put, Del, Scan, Add}
use Rattle.clv_base.specs.declared.events.Event.{Event}
use Rattle.clv_base.specs.declared.events.Event.TheVariants.{Op, RollTo, Request, Look, Drop, Send, Deliver, Remind, FlushOut, FlushIn, Stop, Restart}
use Rattle.clv_base.specs.declared.events.Outcome.{Outcome}
use Rattle.clv_base.specs.declared.events.Outcome.TheVariants.{Answered, Rolled, Dead, Asked, Acknowledged, Aborted}
use Rattle.clv_base.specs.Orders.{tx_same}
use Rattle.clv_base.specs.LogRules.{same_option}
use Rattle.clv_base.specs.Backs.{stands_for_back}
use Rattle.clv_base.specs.Journals.{History}
use Rattle.clv_base.specs.Shards.{shard_count, lies_within, in_span}
use Rattle.clv_base.specs.Sessions.{SessionState, Phase, Touching, Ended, Standing, Told, Refused, no_session, is_whole_now, numbered, goes_on_back, back_for, went_back, back_in_session, begun, begins, is_number, lies_in, goes_on, session_for, op_answered, op_in_session, is_touching, same_touched, is_lowest, requested, stands_at, looked, touch, after_drop, session_after}
use Rattle.clv_base.proofs.Spans.{past_all}
use Rattle.cluster_turns.specs.States.{after_from, TouchedAreShards, HomesAreShards}
use Rattle.law_base.proofs.Lists.{AreShards as AllWithin}

-- ---- a span lies on a shard

within_span : (splits : List ℕ) (n key : ℕ) → in_span splits n key ≡ true → n < shard_count splits
within_span splits n key h = at (nat_lt (length splits) n) refl
  where
    at : (b : Bool) → nat_lt (length splits) n ≡ b → n < shard_count splits
    at true is = absurd (both_ways (in_span splits n key) (ap (λ o. lies_within o key) (sym (past_all splits n (ltb-true (length splits) n is)))) h)
    at false is = let l = ltb-false (length splits) n is in omega arith

within_op : (splits : List ℕ) (n : ℕ) (op : Operation) → lies_in splits n op ≡ true → n < shard_count splits
within_op splits n (Get k) h = within_span splits n k h
within_op splits n (Put k v) h = within_span splits n k h
within_op splits n (Del k) h = within_span splits n k h
within_op splits n (Add k by) h = within_span splits n k h
within_op splits n (Scan lo hi) h = within_span splits n lo (and_parts _ _ h).0

-- ---- the states

abbrev HomeWithin : List ℕ → Phase → Type 0
HomeWithin splits (Standing home) = home < shard_count splits
HomeWithin splits Touching = Unit {0}
HomeWithin splits Ended = Unit {0}
HomeWithin splits Told = Unit {0}
HomeWithin splits Refused = Unit {0}

abbrev Within : List ℕ → SessionState → Type 0
Within splits t = AllWithin splits t.touched × HomeWithin splits t.phase

abbrev WithinIn : List ℕ → Option SessionState → Type 0
WithinIn splits None = Unit {0}
WithinIn splits (Some t) = Within splits t

within_if : (splits : List ℕ) (b : Bool) (t : Option SessionState) → (b ≡ true → WithinIn splits t) → WithinIn splits (cond b t None)
within_if splits true t h = h refl
within_if splits false t h = tt

within_for : (splits : List ℕ) (t : SessionState) (tx : TxId) (birth : Birth) → Within splits t → WithinIn splits (session_for t tx birth)
within_for splits t tx birth h = at (tx_same tx t.tx)
  where
    at : (b : Bool) → WithinIn splits (cond b (cond (goes_on t tx birth) (Some t) None) (cond (begins t tx birth) (Some (begun t tx birth)) None))
    at true = within_if splits (goes_on t tx birth) (Some t) (λ is. h)
    at false = within_if splits (begins t tx birth) (Some (begun t tx birth)) (λ is. (tt, tt))

within_insert : (splits : List ℕ) (n epoch : ℕ) (ts : List (ℕ × ℕ)) → n < shard_count splits → AllWithin splits ts → AllWithin splits (insert_entry nat_cmp ts n epoch)
within_insert splits n epoch [] l h = (l, tt)
within_insert splits n epoch (t ∷ ts) l h = at (nat_cmp n t.0) (within_insert splits n epoch ts l h.1)
  where
    at : (o : Ordering) → AllWithin splits (insert_entry nat_cmp ts n epoch) → AllWithin splits (match_ordering o ((n, epoch) ∷ t ∷ ts) ((t.0, epoch) ∷ ts) (t ∷ insert_entry nat_cmp ts n epoch))
    at Less k = (l, h)
    at Equal k = h
    at Greater k = (h.0, k)

within_touch : (splits : List ℕ) (n epoch : ℕ) (ts : List (ℕ × ℕ)) → n < shard_count splits → AllWithin splits ts → AllWithin splits (touch n epoch ts)
within_touch splits n epoch ts l h = at (is_some (lookup (◌==◌ n) ts))
  where
    at : (b : Bool) → AllWithin splits (cond b ts (insert_entry nat_cmp ts n epoch))
    at true = h
    at false = within_insert splits n epoch ts l h

within_answered : (splits : List ℕ) (n nth : ℕ) (op : Operation) (t : SessionState) (o : Outcome) → n < shard_count splits → Within splits t → WithinIn splits (op_answered n nth op t o)
within_answered splits n nth op t (Answered answer epoch) l h = (within_touch splits n epoch t.touched l h.0, h.1)
within_answered splits n nth op t (Dead cause) l h = (h.0, tt)
within_answered splits n nth op t _ l h = tt

within_in : (splits : List ℕ) (n nth : ℕ) (seen : Option ℕ) (op : Operation) (o : Outcome) (v : Option SessionState) → WithinIn splits v → WithinIn splits (op_in_session splits n nth seen op o v)
within_in splits n nth seen op o None h = tt
within_in splits n nth seen op o (Some t) h =
    within_if splits (is_number t n nth op && lies_in splits n op && same_option seen (lookup (◌==◌ n) t.touched)) (op_answered n nth op t o)
    (λ is. within_answered splits n nth op t o (within_op splits n op (and_parts _ _ (and_parts _ _ is).0).1) h)

within_back : (splits : List ℕ) (t : SessionState) (n nth upto : ℕ) → Within splits t → WithinIn splits (back_for t n nth upto)
within_back splits t n nth upto h = at (nth == suc t.nth)
  where
    begun_one : SessionState
    begun_one = record (numbered nth t) { is_whole = is_whole_now t && stands_for_back nth upto t.backs; backs = (nth, upto) ∷ t.backs }

    at : (b : Bool) → WithinIn splits (cond b (cond (nat_lt upto nth) (Some begun_one) None) (cond ((nth == t.nth) && goes_on_back t.back n upto) (Some t) None))
    at true = within_if splits (nat_lt upto nth) (Some begun_one) (λ is. h)
    at false = within_if splits ((nth == t.nth) && goes_on_back t.back n upto) (Some t) (λ is. h)

within_went : (splits : List ℕ) (n upto : ℕ) (t : SessionState) (o : Outcome) → Within splits t → WithinIn splits (went_back n upto t o)
within_went splits n upto t Rolled h = h
within_went splits n upto t (Dead cause) h = (h.0, tt)
within_went splits n upto t _ h = tt

within_rolled : (splits : List ℕ) (n upto : ℕ) (o : Outcome) (v : Option SessionState) → WithinIn splits v → WithinIn splits (back_in_session n upto o v)
within_rolled splits n upto o None h = tt
within_rolled splits n upto o (Some t) h = within_went splits n upto t o h

-- the home is the first of the touched shards
first_within : (splits : List ℕ) (n : ℕ) (xs ys : List (ℕ × ℕ)) → same_touched xs ys ≡ true → is_lowest n xs ≡ true → AllWithin splits ys → n < shard_count splits
first_within splits n [] ys same low h = absurd (both_ways false refl low)
first_within splits n (x ∷ xs) [] same low h = absurd (both_ways false refl same)
first_within splits n (x ∷ xs) (y ∷ ys) same low h =
    let a : x.0 ≡ y.0 = eqb-true x.0 y.0 (and_parts _ _ (and_parts _ _ same).0).0 in
    let b : n ≡ x.0 = eqb-true n x.0 low in
    subst (λ k. k < shard_count splits) (sym (b ∙ a)) h.0

within_requested : (splits : List ℕ) (n : ℕ) (t : SessionState) (o : Outcome) → n < shard_count splits → Within splits t → WithinIn splits (requested n t o)
within_requested splits n t Asked l h = (h.0, l)
within_requested splits n t (Dead cause) l h = (h.0, tt)
within_requested splits n t _ l h = tt

within_looked : (splits : List ℕ) (t : SessionState) (o : Outcome) → Within splits t → WithinIn splits (looked t o)
within_looked splits t Acknowledged h = (h.0, tt)
within_looked splits t (Aborted cause) h = (h.0, tt)
within_looked splits t _ h = tt

home_dropped : (splits : List ℕ) (x : Phase) → HomeWithin splits x → HomeWithin splits (after_drop x)
home_dropped splits Touching h = tt
home_dropped splits Ended h = tt
home_dropped splits (Standing home) h = h
home_dropped splits Told h = tt
home_dropped splits Refused h = tt

within_after : (splits : List ℕ) (n : ℕ) (t : SessionState) (e : Event) (o : Outcome) → Within splits t → WithinIn splits (session_after splits n t e o)
within_after splits n t (Op tx birth nth seen op) o h = within_in splits n nth seen op o (session_for t tx birth) (within_for splits t tx birth h)
within_after splits n t (RollTo tx nth seen upto) o h =
    within_if splits (tx_same tx t.tx && is_touching t.phase && same_option (Some seen) (lookup (◌==◌ n) t.touched)) (back_in_session n upto o (back_for t n nth upto))
    (λ is. within_rolled splits n upto o (back_for t n nth upto) (within_back splits t n nth upto h))
within_after splits n t (Request tx touched) o h =
    within_if splits (tx_same tx t.tx && is_touching t.phase && is_whole_now t && same_touched touched t.touched && is_lowest n touched) (requested n t o)
    (λ is. within_requested splits n t o (first_within splits n touched t.touched (and_parts _ _ (and_parts _ _ is).0).1 (and_parts _ _ is).1 h.0) h)
within_after splits n t (Look tx) o h = within_if splits (tx_same tx t.tx && stands_at n t.phase) (looked t o) (λ is. within_looked splits t o h)
within_after splits n t (Drop tx) o h = within_if splits _ (Some (record t { phase = after_drop t.phase })) (λ is. (h.0, home_dropped splits t.phase h.1))
within_after splits n t Send o h = h
within_after splits n t (Deliver m stamp) o h = h
within_after splits n t Remind o h = h
within_after splits n t FlushOut o h = h
within_after splits n t FlushIn o h = h
within_after splits n t Stop o h = h
within_after splits n t Restart o h = h

within_from : (splits : List ℕ) (v : Option SessionState) (es : History) → WithinIn splits v → WithinIn splits (after_from splits v es)
within_from splits v [] h = h
within_from splits None (e ∷ es) h = tt
within_from splits (Some t) (e ∷ es) h = within_from splits (session_after splits e.0 t (e.1).event (e.1).outcome) es (within_after splits e.0 t (e.1).event (e.1).outcome h)

pub touched_are_shards : TouchedAreShards
touched_are_shards splits run walker es t h = (subst (WithinIn splits) h (within_from splits (Some (no_session run walker)) es (tt, tt))).0

pub homes_are_shards : HomesAreShards
homes_are_shards splits run walker es t home h stands = subst (HomeWithin splits) stands (subst (WithinIn splits) h (within_from splits (Some (no_session run walker)) es (tt, tt))).1
