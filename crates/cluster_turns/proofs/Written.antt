-- What a session wrote lies on shards that it touched.
use Rattle.std.proofs.Common.{◌≡◌, ap, subst, ◌∙◌, ℕ, suc, true, false, cond, Bool, ◌&&◌, ◌==◌, nat_lt, List, [], ◌∷◌, Option, Some, None}
use Rattle.std.specs.Prelude.{is_some}
use Rattle.std.specs.Map.{lookup}
use mathlib.Core.Logic.{dite}
use native.Mathlib.Decide.{ℕ_discrete}
use Rattle.clv_base.specs.declared.names.TxId.{TxId}
use Rattle.clv_base.specs.declared.names.Birth.{Birth}
use Rattle.clv_base.specs.declared.ops.Op.{Op as Operation}
use Rattle.clv_base.specs.declared.events.Event.{Event}
use Rattle.clv_base.specs.declared.events.Event.TheVariants.{Op, RollTo, Request, Look, Drop, Send, Deliver, Remind, FlushOut, FlushIn, Stop, Restart}
use Rattle.clv_base.specs.declared.events.Outcome.{Outcome}
use Rattle.clv_base.specs.declared.events.Outcome.TheVariants.{Answered, Rolled, Dead, Asked, Acknowledged, Aborted}
use Rattle.clv_base.specs.Orders.{tx_same}
use Rattle.clv_base.specs.LogRules.{same_option}
use Rattle.clv_base.specs.Backs.{has_written, stands_for_back}
use Rattle.clv_base.specs.Journals.{History}
use Rattle.clv_base.specs.Sessions.{SessionState, no_session, is_whole_now, numbered, with_written, goes_on_back, back_for, went_back, back_in_session, begun, begins, is_number, lies_in, goes_on, session_for, op_answered, op_in_session, is_touching, same_touched, is_lowest, requested, stands_at, looked, touch, session_after}
use Rattle.law_base.proofs.Lists.{all_kept}
use Rattle.cluster_turns.specs.Notes.{is_left}
use Rattle.cluster_turns.specs.States.{after_from, AreTouched, WrittenAreTouched}
use Rattle.cluster_turns.proofs.Touches.{touch_here, touch_else}

still_touched : (n epoch : ℕ) (ts : List (ℕ × ℕ)) (ws : List (ℕ × ℕ)) → AreTouched ts ws → AreTouched (touch n epoch ts) ws
still_touched n epoch ts [] h = tt
still_touched n epoch ts (w ∷ ws) h = (one, still_touched n epoch ts ws h.1)
  where
    one : is_some (lookup (◌==◌ w.0) (touch n epoch ts)) ≡ true
    one = dite (ℕ_discrete w.0 n)
        (λ same. ap (λ k. is_some (lookup (◌==◌ k) (touch n epoch ts))) same ∙ ap is_some (touch_here n epoch ts))
        (λ other. ap is_some (touch_else w.0 n epoch ts other) ∙ h.0)

with_touched : (n nth epoch : ℕ) (wrote : Bool) (ts ws : List (ℕ × ℕ)) → AreTouched ts ws → AreTouched (touch n epoch ts) (with_written n nth wrote ws)
with_touched n nth epoch true ts ws h = (ap is_some (touch_here n epoch ts), still_touched n epoch ts ws h)
with_touched n nth epoch false ts ws h = still_touched n epoch ts ws h

-- ---- the states

abbrev Has : SessionState → Type 0
Has t = AreTouched t.touched t.written

abbrev HasIn : Option SessionState → Type 0
HasIn None = Unit {0}
HasIn (Some t) = Has t

has_if : (b : Bool) (t : Option SessionState) → HasIn t → HasIn (cond b t None)
has_if true t h = h
has_if false t h = tt

has_for : (t : SessionState) (tx : TxId) (birth : Birth) → Has t → HasIn (session_for t tx birth)
has_for t tx birth h = at (tx_same tx t.tx)
  where
    at : (b : Bool) → HasIn (cond b (cond (goes_on t tx birth) (Some t) None) (cond (begins t tx birth) (Some (begun t tx birth)) None))
    at true = has_if (goes_on t tx birth) (Some t) h
    at false = has_if (begins t tx birth) (Some (begun t tx birth)) tt

has_answered : (n nth : ℕ) (op : Operation) (t : SessionState) (o : Outcome) → Has t → HasIn (op_answered n nth op t o)
has_answered n nth op t (Answered answer epoch) h = with_touched n nth epoch (has_written op answer) t.touched t.written h
has_answered n nth op t (Dead cause) h = h
has_answered n nth op t _ h = tt

has_op : (splits : List ℕ) (n nth : ℕ) (seen : Option ℕ) (op : Operation) (o : Outcome) (v : Option SessionState) → HasIn v → HasIn (op_in_session splits n nth seen op o v)
has_op splits n nth seen op o None h = tt
has_op splits n nth seen op o (Some t) h = has_if (is_number t n nth op && lies_in splits n op && same_option seen (lookup (◌==◌ n) t.touched)) (op_answered n nth op t o) (has_answered n nth op t o h)

has_back : (t : SessionState) (n nth upto : ℕ) → Has t → HasIn (back_for t n nth upto)
has_back t n nth upto h = at (nth == suc t.nth)
  where
    begun_one : SessionState
    begun_one = record (numbered nth t) { is_whole = is_whole_now t && stands_for_back nth upto t.backs; backs = (nth, upto) ∷ t.backs }

    at : (b : Bool) → HasIn (cond b (cond (nat_lt upto nth) (Some begun_one) None) (cond ((nth == t.nth) && goes_on_back t.back n upto) (Some t) None))
    at true = has_if (nat_lt upto nth) (Some begun_one) h
    at false = has_if ((nth == t.nth) && goes_on_back t.back n upto) (Some t) h

has_went : (n upto : ℕ) (t : SessionState) (o : Outcome) → Has t → HasIn (went_back n upto t o)
has_went n upto t Rolled h = all_kept (λ w. is_some (lookup (◌==◌ w.0) t.touched) ≡ true) (is_left n upto) t.written h
has_went n upto t (Dead cause) h = h
has_went n upto t _ h = tt

has_rolled : (n upto : ℕ) (o : Outcome) (v : Option SessionState) → HasIn v → HasIn (back_in_session n upto o v)
has_rolled n upto o None h = tt
has_rolled n upto o (Some t) h = has_went n upto t o h

has_requested : (n : ℕ) (t : SessionState) (o : Outcome) → Has t → HasIn (requested n t o)
has_requested n t Asked h = h
has_requested n t (Dead cause) h = h
has_requested n t _ h = tt

has_looked : (t : SessionState) (o : Outcome) → Has t → HasIn (looked t o)
has_looked t Acknowledged h = h
has_looked t (Aborted cause) h = h
has_looked t _ h = tt

has_after : (splits : List ℕ) (n : ℕ) (t : SessionState) (e : Event) (o : Outcome) → Has t → HasIn (session_after splits n t e o)
has_after splits n t (Op tx birth nth seen op) o h = has_op splits n nth seen op o (session_for t tx birth) (has_for t tx birth h)
has_after splits n t (RollTo tx nth seen upto) o h =
    has_if (tx_same tx t.tx && is_touching t.phase && same_option (Some seen) (lookup (◌==◌ n) t.touched)) (back_in_session n upto o (back_for t n nth upto)) (has_rolled n upto o (back_for t n nth upto) (has_back t n nth upto h))
has_after splits n t (Request tx touched) o h = has_if (tx_same tx t.tx && is_touching t.phase && is_whole_now t && same_touched touched t.touched && is_lowest n touched) (requested n t o) (has_requested n t o h)
has_after splits n t (Look tx) o h = has_if (tx_same tx t.tx && stands_at n t.phase) (looked t o) (has_looked t o h)
has_after splits n t (Drop tx) o h = has_if _ (Some _) h
has_after splits n t Send o h = h
has_after splits n t (Deliver m stamp) o h = h
has_after splits n t Remind o h = h
has_after splits n t FlushOut o h = h
has_after splits n t FlushIn o h = h
has_after splits n t Stop o h = h
has_after splits n t Restart o h = h

has_from : (splits : List ℕ) (v : Option SessionState) (es : History) → HasIn v → HasIn (after_from splits v es)
has_from splits v [] h = h
has_from splits None (e ∷ es) h = tt
has_from splits (Some t) (e ∷ es) h = has_from splits (session_after splits e.0 t (e.1).event (e.1).outcome) es (has_after splits e.0 t (e.1).event (e.1).outcome h)

pub written_are_touched : WrittenAreTouched
written_are_touched splits run walker es t h = subst HasIn h (has_from splits (Some (no_session run walker)) es tt)
