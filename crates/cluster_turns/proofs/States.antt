-- The state that a walker's entries lead to.
use Rattle.std.proofs.Common.{◌≡◌, refl, ap, subst, ◌∙◌, ℕ, suc, nat_lt, true, false, cond, Bool, ◌&&◌, ◌==◌, List, [], ◌∷◌, ◌++◌, Option, Some, None, eqb-true}
use Rattle.std.specs.Prelude.{is_some}
use Rattle.std.specs.Map.{lookup}
use Rattle.std.proofs.lemmas.Bool.{both_ways, and_parts}
use Rattle.clv_base.specs.declared.names.TxId.{TxId}
use Rattle.clv_base.specs.declared.names.Birth.{Birth}
use Rattle.clv_base.specs.declared.ops.Op.{Op as Operation}
use Rattle.clv_base.specs.declared.events.Event.{Event}
use Rattle.clv_base.specs.declared.events.Event.TheVariants.{Op, RollTo, Request, Look, Drop, Send, Deliver, Remind, FlushOut, FlushIn, Stop, Restart}
use Rattle.clv_base.specs.declared.events.Outcome.{Outcome}
use Rattle.clv_base.specs.declared.events.Outcome.TheVariants.{Answered, Rolled, Dead, Asked, Acknowledged, Aborted}
use Rattle.clv_base.specs.declared.events.Entry.{Entry}
use Rattle.clv_base.specs.Orders.{tx_same}
use Rattle.clv_base.specs.LogRules.{same_option}
use Rattle.clv_base.specs.Backs.{stands_for_back}
use Rattle.clv_base.specs.Journals.{History}
use Rattle.clv_base.specs.Sessions.{SessionState, no_session, is_whole_now, numbered, goes_on_back, back_for, went_back, back_in_session, begun, begins, is_number, lies_in, goes_on, session_for, op_answered, op_in_session, is_touching, same_touched, is_lowest, requested, stands_at, looked, session_after, makes_from}
use Rattle.journal_laws.specs.Offers.{hoped_for}
use Rattle.cluster_turns.specs.States.{after_from, SessionsHaveStates, StatesGoOn, StatesTellMayMake, OthersLeaveStates, StatesBearWalkers}
use Rattle.law_base.proofs.Shards.{none_session as none_some, some_session as some_same}

made : (splits : List ℕ) (v : Option SessionState) (es : History) → makes_from splits v es ≡ is_some (after_from splits v es)
made splits None [] = refl
made splits None (e ∷ es) = refl
made splits (Some t) [] = refl
made splits (Some t) (e ∷ es) = made splits (session_after splits e.0 t (e.1).event (e.1).outcome) es

pub sessions_have_states : SessionsHaveStates
sessions_have_states splits run walker es = made splits (Some (no_session run walker)) es

after_push : (splits : List ℕ) (v : Option SessionState) (es : History) (t : SessionState) (e : ℕ × Entry) → after_from splits v es ≡ Some t → after_from splits v (es ++ e ∷ []) ≡ session_after splits e.0 t (e.1).event (e.1).outcome
after_push splits None [] t e h = none_some t h
after_push splits None (f ∷ fs) t e h = none_some t h
after_push splits (Some u) [] t e h = ap (λ x. session_after splits e.0 x (e.1).event (e.1).outcome) (some_same u t h)
after_push splits (Some u) (f ∷ fs) t e h = after_push splits (session_after splits f.0 u (f.1).event (f.1).outcome) fs t e h

pub states_go_on : StatesGoOn
states_go_on splits run walker es t e h = after_push splits (Some (no_session run walker)) es t e h

pub states_tell_may_make : StatesTellMayMake
states_tell_may_make splits run walker es t n e h =
    sessions_have_states splits run walker (es ++ (n, record { stamp = 0; walker = walker; event = e; outcome = hoped_for e }) ∷ [])
    ∙ ap is_some (states_go_on splits run walker es t (n, record { stamp = 0; walker = walker; event = e; outcome = hoped_for e }) h)

-- ---- whose transactions

abbrev Bears : ℕ → ℕ → SessionState → Type 0
Bears run walker t = ((t.tx).run ≡ run) × ((t.tx).session ≡ walker)

abbrev BearsIn : ℕ → ℕ → Option SessionState → Type 0
BearsIn run walker None = Unit {0}
BearsIn run walker (Some t) = Bears run walker t

bears_if : (run walker : ℕ) (b : Bool) (t : Option SessionState) → BearsIn run walker t → BearsIn run walker (cond b t None)
bears_if run walker true t h = h
bears_if run walker false t h = tt

bears_begun : (run walker : ℕ) (t : SessionState) (tx : TxId) (birth : Birth) → Bears run walker t → BearsIn run walker (cond (begins t tx birth) (Some (begun t tx birth)) None)
bears_begun run walker t tx birth h = at (begins t tx birth) refl
  where
    at : (b : Bool) → begins t tx birth ≡ b → BearsIn run walker (cond b (Some (begun t tx birth)) None)
    at true q =
        let one = and_parts _ _ (and_parts _ _ (and_parts _ _ (and_parts _ _ q).0).0).0 in
        (eqb-true tx.run (t.tx).run one.0 ∙ h.0, eqb-true tx.session (t.tx).session one.1 ∙ h.1)
    at false q = tt

bears_for : (run walker : ℕ) (t : SessionState) (tx : TxId) (birth : Birth) → Bears run walker t → BearsIn run walker (session_for t tx birth)
bears_for run walker t tx birth h = at (tx_same tx t.tx)
  where
    at : (b : Bool) → BearsIn run walker (cond b (cond (goes_on t tx birth) (Some t) None) (cond (begins t tx birth) (Some (begun t tx birth)) None))
    at true = bears_if run walker (goes_on t tx birth) (Some t) h
    at false = bears_begun run walker t tx birth h

bears_answered : (run walker n nth : ℕ) (op : Operation) (t : SessionState) (o : Outcome) → Bears run walker t → BearsIn run walker (op_answered n nth op t o)
bears_answered run walker n nth op t (Answered answer epoch) h = h
bears_answered run walker n nth op t (Dead cause) h = h
bears_answered run walker n nth op t _ h = tt

bears_op : (splits : List ℕ) (run walker n nth : ℕ) (seen : Option ℕ) (op : Operation) (o : Outcome) (v : Option SessionState) → BearsIn run walker v → BearsIn run walker (op_in_session splits n nth seen op o v)
bears_op splits run walker n nth seen op o None h = tt
bears_op splits run walker n nth seen op o (Some t) h = bears_if run walker (is_number t n nth op && lies_in splits n op && same_option seen (lookup (◌==◌ n) t.touched)) _ (bears_answered run walker n nth op t o h)

bears_back : (run walker : ℕ) (t : SessionState) (n nth upto : ℕ) → Bears run walker t → BearsIn run walker (back_for t n nth upto)
bears_back run walker t n nth upto h = at (nth == suc t.nth)
  where
    begun_one : SessionState
    begun_one = record (numbered nth t) { is_whole = is_whole_now t && stands_for_back nth upto t.backs; backs = (nth, upto) ∷ t.backs }

    at : (b : Bool) → BearsIn run walker (cond b (cond (nat_lt upto nth) (Some begun_one) None) (cond ((nth == t.nth) && goes_on_back t.back n upto) (Some t) None))
    at true = bears_if run walker (nat_lt upto nth) (Some begun_one) h
    at false = bears_if run walker ((nth == t.nth) && goes_on_back t.back n upto) (Some t) h

bears_went : (run walker n upto : ℕ) (t : SessionState) (o : Outcome) → Bears run walker t → BearsIn run walker (went_back n upto t o)
bears_went run walker n upto t Rolled h = h
bears_went run walker n upto t (Dead cause) h = h
bears_went run walker n upto t _ h = tt

bears_rolled : (run walker n upto : ℕ) (o : Outcome) (v : Option SessionState) → BearsIn run walker v → BearsIn run walker (back_in_session n upto o v)
bears_rolled run walker n upto o None h = tt
bears_rolled run walker n upto o (Some t) h = bears_went run walker n upto t o h

bears_requested : (run walker n : ℕ) (t : SessionState) (o : Outcome) → Bears run walker t → BearsIn run walker (requested n t o)
bears_requested run walker n t Asked h = h
bears_requested run walker n t (Dead cause) h = h
bears_requested run walker n t _ h = tt

bears_looked : (run walker : ℕ) (t : SessionState) (o : Outcome) → Bears run walker t → BearsIn run walker (looked t o)
bears_looked run walker t Acknowledged h = h
bears_looked run walker t (Aborted cause) h = h
bears_looked run walker t _ h = tt

bears_after : (splits : List ℕ) (run walker n : ℕ) (t : SessionState) (e : Event) (o : Outcome) → Bears run walker t → BearsIn run walker (session_after splits n t e o)
bears_after splits run walker n t (Op tx birth nth seen op) o h = bears_op splits run walker n nth seen op o (session_for t tx birth) (bears_for run walker t tx birth h)
bears_after splits run walker n t (RollTo tx nth seen upto) o h =
    bears_if run walker (tx_same tx t.tx && is_touching t.phase && same_option (Some seen) (lookup (◌==◌ n) t.touched)) _ (bears_rolled run walker n upto o (back_for t n nth upto) (bears_back run walker t n nth upto h))
bears_after splits run walker n t (Request tx touched) o h = bears_if run walker (tx_same tx t.tx && is_touching t.phase && is_whole_now t && same_touched touched t.touched && is_lowest n touched) _ (bears_requested run walker n t o h)
bears_after splits run walker n t (Look tx) o h = bears_if run walker (tx_same tx t.tx && stands_at n t.phase) _ (bears_looked run walker t o h)
bears_after splits run walker n t (Drop tx) o h = bears_if run walker _ (Some _) h
bears_after splits run walker n t Send o h = h
bears_after splits run walker n t (Deliver m stamp) o h = h
bears_after splits run walker n t Remind o h = h
bears_after splits run walker n t FlushOut o h = h
bears_after splits run walker n t FlushIn o h = h
bears_after splits run walker n t Stop o h = h
bears_after splits run walker n t Restart o h = h

bears_from : (splits : List ℕ) (run walker : ℕ) (v : Option SessionState) (es : History) → BearsIn run walker v → BearsIn run walker (after_from splits v es)
bears_from splits run walker v [] h = h
bears_from splits run walker None (e ∷ es) h = tt
bears_from splits run walker (Some t) (e ∷ es) h = bears_from splits run walker (session_after splits e.0 t (e.1).event (e.1).outcome) es (bears_after splits run walker e.0 t (e.1).event (e.1).outcome h)

pub states_bear_walkers : StatesBearWalkers
states_bear_walkers splits run walker es t h = subst (BearsIn run walker) h (bears_from splits run walker (Some (no_session run walker)) es (refl, refl))

-- ---- events that no session makes

pub others_leave_states : OthersLeaveStates
others_leave_states splits n t (Op tx birth nth seen op) o h = absurd (both_ways true h refl)
others_leave_states splits n t (RollTo tx nth seen upto) o h = absurd (both_ways true h refl)
others_leave_states splits n t (Request tx ts) o h = absurd (both_ways true h refl)
others_leave_states splits n t (Look tx) o h = absurd (both_ways true h refl)
others_leave_states splits n t (Drop tx) o h = absurd (both_ways true h refl)
others_leave_states splits n t Send o h = refl
others_leave_states splits n t (Deliver m stamp) o h = refl
others_leave_states splits n t Remind o h = refl
others_leave_states splits n t FlushOut o h = refl
others_leave_states splits n t FlushIn o h = refl
others_leave_states splits n t Stop o h = refl
others_leave_states splits n t Restart o h = refl
