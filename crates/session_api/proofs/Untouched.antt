-- A transaction that touched nothing had no operation.
use Rattle.std.proofs.Common.{◌≡◌, ◌≢◌, ◌∙◌, refl, sym, ap, subst, ℕ, suc, nat_lt, Bool, true, false, cond, ◌&&◌, ◌==◌, List, [], ◌∷◌, Option, Some, None, inl, inr}
use Rattle.std.specs.Prelude.{is_some}
use Rattle.std.specs.Map.{lookup}
use Rattle.std.specs.BTreeMap.{insert_entry}
use Rattle.std.specs.Ordering.{nat_cmp, match_ordering}
use Rattle.std.specs.declared.cmp.Ordering.{Ordering}
use Rattle.std.specs.declared.cmp.Ordering.TheVariants.{Less, Equal, Greater}
use Rattle.std.proofs.lemmas.Bool.{both_ways, and_parts}
use Rattle.clv_base.specs.declared.ops.Op.{Op as Operation}
use Rattle.clv_base.specs.declared.events.Event.{Event}
use Rattle.clv_base.specs.declared.events.Event.TheVariants.{Op, RollTo, Request, Look, Drop, Send, Deliver, Remind, FlushOut, FlushIn, Stop, Restart}
use Rattle.clv_base.specs.declared.events.Outcome.{Outcome}
use Rattle.clv_base.specs.declared.events.Outcome.TheVariants.{Answered, Rolled, Dead, Asked, Acknowledged, Aborted}
use Rattle.clv_base.specs.Orders.{tx_same}
use Rattle.clv_base.specs.LogRules.{same_option}
use Rattle.clv_base.specs.Backs.{stands_for_back}
use Rattle.clv_base.specs.Journals.{History}
use Rattle.clv_base.specs.Sessions.{SessionState, no_session, is_whole_now, numbered, goes_on_back, back_for, went_back, back_in_session, is_number, lies_in, session_for, op_answered, op_in_session, is_touching, same_touched, is_lowest, requested, stands_at, looked, touch, after_drop, session_after}
use Rattle.cluster_turns.specs.declared.shards.Shards.{Shards}
use Rattle.cluster_turns.specs.declared.shards.Walker.{Walker}
use Rattle.cluster_turns.specs.Walkers.{kept}
use Rattle.cluster_turns.specs.States.{after_from, GoesOnBy}
use Rattle.session_ops.specs.Standing.{IsActive}
use Rattle.law_base.proofs.Shards.{drop_ends as dropped_over}

touch_some : (n epoch : ℕ) (ts : List (ℕ × ℕ)) → touch n epoch ts ≢ []
touch_some n epoch [] h = cc
touch_some n epoch (t ∷ ts) h = at (is_some (lookup (◌==◌ n) (t ∷ ts))) h
  where
    inserted : (o : Ordering) → match_ordering o ((n, epoch) ∷ t ∷ ts) ((t.0, epoch) ∷ ts) (t ∷ insert_entry nat_cmp ts n epoch) ≢ []
    inserted Less k = cc
    inserted Equal k = cc
    inserted Greater k = cc

    at : (b : Bool) → cond b (t ∷ ts) (insert_entry nat_cmp (t ∷ ts) n epoch) ≢ []
    at true k = cc
    at false k = inserted (nat_cmp n t.0) k

abbrev Numbered : SessionState → Type 0
Numbered t = is_touching t.phase ≡ true → t.touched ≡ [] → t.nth ≡ 0

abbrev NumberedIn : Option SessionState → Type 0
NumberedIn None = Unit {0}
NumberedIn (Some t) = Numbered t

numbered_if : (b : Bool) (t : Option SessionState) → NumberedIn t → NumberedIn (cond b t None)
numbered_if true t h = h
numbered_if false t h = tt

over : (t : SessionState) → is_touching t.phase ≡ false → Numbered t
over t not_so k e = absurd (both_ways (is_touching t.phase) not_so k)

numbered_answered : (n nth : ℕ) (op : Operation) (t : SessionState) (o : Outcome) → NumberedIn (op_answered n nth op t o)
numbered_answered n nth op t (Answered answer epoch) = λ k e. absurd (touch_some n epoch t.touched e)
numbered_answered n nth op t (Dead cause) = λ k e. absurd (both_ways false refl k)
numbered_answered n nth op t _ = tt

numbered_op : (splits : List ℕ) (n nth : ℕ) (seen : Option ℕ) (op : Operation) (o : Outcome) (v : Option SessionState) → NumberedIn (op_in_session splits n nth seen op o v)
numbered_op splits n nth seen op o None = tt
numbered_op splits n nth seen op o (Some t) = numbered_if (is_number t n nth op && lies_in splits n op && same_option seen (lookup (◌==◌ n) t.touched)) _ (numbered_answered n nth op t o)

-- a going back is on a shard that is touched
found_some : (n seen : ℕ) (ts : List (ℕ × ℕ)) → same_option (Some seen) (lookup (◌==◌ n) ts) ≡ true → ts ≢ []
found_some n seen [] h e = both_ways false refl h
found_some n seen (t ∷ ts) h e = cc

abbrev TouchesIn : Option SessionState → Type 0
TouchesIn None = Unit {0}
TouchesIn (Some t) = t.touched ≢ []

touches_if : (b : Bool) (t : Option SessionState) → TouchesIn t → TouchesIn (cond b t None)
touches_if true t h = h
touches_if false t h = tt

touches_back : (t : SessionState) (n nth upto : ℕ) → t.touched ≢ [] → TouchesIn (back_for t n nth upto)
touches_back t n nth upto h = at (nth == suc t.nth)
  where
    begun_one : SessionState
    begun_one = record (numbered nth t) { is_whole = is_whole_now t && stands_for_back nth upto t.backs; backs = (nth, upto) ∷ t.backs }

    at : (b : Bool) → TouchesIn (cond b (cond (nat_lt upto nth) (Some begun_one) None) (cond ((nth == t.nth) && goes_on_back t.back n upto) (Some t) None))
    at true = touches_if (nat_lt upto nth) (Some begun_one) h
    at false = touches_if ((nth == t.nth) && goes_on_back t.back n upto) (Some t) h

numbered_went : (n upto : ℕ) (t : SessionState) (o : Outcome) → t.touched ≢ [] → NumberedIn (went_back n upto t o)
numbered_went n upto t Rolled h = λ k e. absurd (h e)
numbered_went n upto t (Dead cause) h = λ k e. absurd (h e)
numbered_went n upto t _ h = tt

numbered_rolled : (n upto : ℕ) (o : Outcome) (v : Option SessionState) → TouchesIn v → NumberedIn (back_in_session n upto o v)
numbered_rolled n upto o None h = tt
numbered_rolled n upto o (Some t) h = numbered_went n upto t o h

numbered_back : (n nth seen upto : ℕ) (t : SessionState) (o : Outcome) (b : Bool) → (b ≡ true → same_option (Some seen) (lookup (◌==◌ n) t.touched) ≡ true) → NumberedIn (cond b (back_in_session n upto o (back_for t n nth upto)) None)
numbered_back n nth seen upto t o true h = numbered_rolled n upto o (back_for t n nth upto) (touches_back t n nth upto (found_some n seen t.touched (h refl)))
numbered_back n nth seen upto t o false h = tt

numbered_requested : (n : ℕ) (t : SessionState) (o : Outcome) → NumberedIn (requested n t o)
numbered_requested n t Asked = λ k e. absurd (both_ways false refl k)
numbered_requested n t (Dead cause) = λ k e. absurd (both_ways false refl k)
numbered_requested n t _ = tt

numbered_looked : (t : SessionState) (o : Outcome) → NumberedIn (looked t o)
numbered_looked t Acknowledged = λ k e. absurd (both_ways false refl k)
numbered_looked t (Aborted cause) = λ k e. absurd (both_ways false refl k)
numbered_looked t _ = tt

numbered_after : (splits : List ℕ) (n : ℕ) (t : SessionState) (e : Event) (o : Outcome) → Numbered t → NumberedIn (session_after splits n t e o)
numbered_after splits n t (Op tx birth nth seen op) o h = numbered_op splits n nth seen op o (session_for t tx birth)
numbered_after splits n t (RollTo tx nth seen upto) o h =
    numbered_back n nth seen upto t o (tx_same tx t.tx && is_touching t.phase && same_option (Some seen) (lookup (◌==◌ n) t.touched)) (λ is. (and_parts _ _ is).1)
numbered_after splits n t (Request tx touched) o h = numbered_if (tx_same tx t.tx && is_touching t.phase && is_whole_now t && same_touched touched t.touched && is_lowest n touched) _ (numbered_requested n t o)
numbered_after splits n t (Look tx) o h = numbered_if (tx_same tx t.tx && stands_at n t.phase) _ (numbered_looked t o)
numbered_after splits n t (Drop tx) o h = numbered_if _ (Some (record t { phase = after_drop t.phase })) (over (record t { phase = after_drop t.phase }) (dropped_over t.phase))
numbered_after splits n t Send o h = h
numbered_after splits n t (Deliver m stamp) o h = h
numbered_after splits n t Remind o h = h
numbered_after splits n t FlushOut o h = h
numbered_after splits n t FlushIn o h = h
numbered_after splits n t Stop o h = h
numbered_after splits n t Restart o h = h

numbered_from : (splits : List ℕ) (v : Option SessionState) (es : History) → NumberedIn v → NumberedIn (after_from splits v es)
numbered_from splits v [] h = h
numbered_from splits None (e ∷ es) h = tt
numbered_from splits (Some t) (e ∷ es) h = numbered_from splits (session_after splits e.0 t (e.1).event (e.1).outcome) es (numbered_after splits e.0 t (e.1).event (e.1).outcome h)

module _ {M S G : Type 0} where
  pub untouched_unnumbered : (sh : Shards M S G) (w : Walker M S G) (p : SessionState) → IsActive sh w p → p.touched ≡ [] → p.nth ≡ 0
  untouched_unnumbered sh w p active none = at active.goes
    where
      all : Numbered active.state
      all = subst NumberedIn active.ready.state (numbered_from sh.splits (Some (no_session sh.run w.number)) (kept w.passes.items) (λ k e. refl))

      at : GoesOnBy active.state p → p.nth ≡ 0
      at (inl same) = ap (λ z. z.nth) same ∙ all (ap (λ z. is_touching z.phase) (sym same) ∙ active.touching) (ap (λ z. z.touched) (sym same) ∙ none)
      at (inr (birth, is, other, may)) = ap (λ z. z.nth) is
