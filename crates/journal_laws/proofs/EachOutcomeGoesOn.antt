-- What a session offers goes on it, whatever the outcome; and the stamps of a shard that has records in flight.
use Rattle.std.proofs.Common.{◌≡◌, refl, sym, subst, ◌∙◌, ℕ, ◌<◌, ◌&&◌, ◌==◌, true, false, cond, Bool, List, [], ◌∷◌, ◌++◌, Option, Some, None}
use Rattle.std.specs.Prelude.{◌^◌, is_some}
use Rattle.std.specs.Map.{lookup}
use Rattle.std.proofs.lemmas.Bool.{both_ways}
use Rattle.clv_base.specs.declared.ops.Op.{Op as Operation}
use Rattle.clv_base.specs.declared.ops.Answer.TheVariants.{Value}
use Rattle.clv_base.specs.declared.events.Event.{Event}
use Rattle.clv_base.specs.declared.events.Event.TheVariants.{Op, RollTo, Request, Look, Drop, FlushIn}
use Rattle.clv_base.specs.declared.events.Outcome.{Outcome}
use Rattle.clv_base.specs.declared.events.Outcome.TheVariants.{Answered, Rolled, Dead, Asked, Acknowledged, Aborted}
use Rattle.clv_base.specs.declared.events.Entry.{Entry}
use Rattle.clv_base.specs.Orders.{tx_same}
use Rattle.clv_base.specs.LogRules.{same_option}
use Rattle.clv_base.specs.State.{Shard}
use Rattle.clv_base.specs.Restarts.{opened}
use Rattle.clv_base.specs.Sessions.{SessionState, no_session, is_number, lies_in, is_touching, session_for, op_answered, op_in_session, back_for, went_back, back_in_session, is_whole_now, same_touched, is_lowest, requested, looked, stands_at, session_after, makes_from}
use Rattle.clv_base.specs.Journals.{History, stamp_bound}
use Rattle.history_cases.proofs.Merging.{Placed}
use Rattle.history_cases.proofs.Stepping.{Step, op_dies, Happens, finishes, stops, happened}
use Rattle.clv_base.specs.Machines.{BecomesBy, Makes, Runs}
use Rattle.journal_laws.specs.Worlds.{LandsInTime}
use Rattle.journal_laws.specs.Offers.{hoped_for, EachOutcomeGoesOn, FlyingIsInTime}
use Rattle.journal_laws.proofs.SteadyIsLegal.AnsweredStepsMakeEntries.{lands_after}
use Rattle.law_base.proofs.Shards.{is_told as fits_look, fits_op, fits_back, fits_request}

-- ---- outcomes

abbrev fits : Event → Outcome → Bool
fits (Op tx birth nth seen op) o = fits_op o
fits (RollTo tx nth seen upto) o = fits_back o
fits (Request tx touched) o = fits_request o
fits (Look tx) o = fits_look o
fits _ o = true

fits_step : (s t : Shard) {e : Event} {o : Outcome} → Step s e o t → fits e o ≡ true
fits_step s _ (op_dies u b nth seen op cause l h) = refl
fits_step s _ _ = refl

fits_happens : (s t : Shard) {e : Event} {o : Outcome} → Happens s e o t → fits e o ≡ true
fits_happens s _ (finishes {t = x} u h) = fits_step s x h
fits_happens s _ (stops u) = refl

-- ---- a session goes on by each

op_goes : (splits : List ℕ) (n nth : ℕ) (op : Operation) (t : SessionState) (o : Outcome) → fits_op o ≡ true → is_some (op_answered n nth op t o) ≡ true
op_goes splits n nth op t (Answered answer epoch) h = refl
op_goes splits n nth op t (Dead cause) h = refl
op_goes splits n nth op t _ h = absurd (both_ways false refl h)

op_in : (splits : List ℕ) (n nth : ℕ) (seen : Option ℕ) (op : Operation) (o : Outcome) (v : Option SessionState) → fits_op o ≡ true → is_some (op_in_session splits n nth seen op (Answered (Value None) 0) v) ≡ true
    → is_some (op_in_session splits n nth seen op o v) ≡ true
op_in splits n nth seen op o None f h = absurd (both_ways false refl h)
op_in splits n nth seen op o (Some t) f h = at (is_number t n nth op && lies_in splits n op && same_option seen (lookup (◌==◌ n) t.touched)) h
  where
    at : (b : Bool) → is_some (cond b (op_answered n nth op t (Answered (Value None) 0)) None) ≡ true → is_some (cond b (op_answered n nth op t o) None) ≡ true
    at true k = op_goes splits n nth op t o f
    at false k = absurd (both_ways false refl k)

back_goes : (n upto : ℕ) (t : SessionState) (o : Outcome) → fits_back o ≡ true → is_some (went_back n upto t o) ≡ true
back_goes n upto t Rolled h = refl
back_goes n upto t (Dead cause) h = refl
back_goes n upto t _ h = absurd (both_ways false refl h)

back_in : (n upto : ℕ) (o : Outcome) (v : Option SessionState) → fits_back o ≡ true → is_some (back_in_session n upto Rolled v) ≡ true → is_some (back_in_session n upto o v) ≡ true
back_in n upto o None f h = h
back_in n upto o (Some t) f h = back_goes n upto t o f

request_goes : (n : ℕ) (t : SessionState) (o : Outcome) → fits_request o ≡ true → is_some (requested n t o) ≡ true
request_goes n t Asked h = refl
request_goes n t (Dead cause) h = refl
request_goes n t _ h = absurd (both_ways false refl h)

look_goes : (t : SessionState) (o : Outcome) → fits_look o ≡ true → is_some (looked t o) ≡ true
look_goes t Acknowledged h = refl
look_goes t (Aborted cause) h = refl
look_goes t _ h = absurd (both_ways false refl h)

goes : (splits : List ℕ) (n : ℕ) (t : SessionState) (e : Event) (o : Outcome) → fits e o ≡ true → is_some (session_after splits n t e (hoped_for e)) ≡ true → is_some (session_after splits n t e o) ≡ true
goes splits n t (Op tx birth nth seen op) o f h = op_in splits n nth seen op o (session_for t tx birth) f h
goes splits n t (RollTo tx nth seen upto) o f h = at (tx_same tx t.tx && is_touching t.phase && same_option (Some seen) (lookup (◌==◌ n) t.touched)) h
  where
    at : (b : Bool) → is_some (cond b (back_in_session n upto Rolled (back_for t n nth upto)) None) ≡ true → is_some (cond b (back_in_session n upto o (back_for t n nth upto)) None) ≡ true
    at true k = back_in n upto o (back_for t n nth upto) f k
    at false k = absurd (both_ways false refl k)
goes splits n t (Request tx ts) o f h = at (tx_same tx t.tx && is_touching t.phase && is_whole_now t && same_touched ts t.touched && is_lowest n ts) h
  where
    at : (b : Bool) → is_some (cond b (requested n t Asked) None) ≡ true → is_some (cond b (requested n t o) None) ≡ true
    at true k = request_goes n t o f
    at false k = absurd (both_ways false refl k)
goes splits n t (Look tx) o f h = at (tx_same tx t.tx && stands_at n t.phase) h
  where
    at : (b : Bool) → is_some (cond b (looked t Acknowledged) None) ≡ true → is_some (cond b (looked t o) None) ≡ true
    at true k = look_goes t o f
    at false k = absurd (both_ways false refl k)
goes splits n t (Drop tx) o f h = h
goes splits n t _ o f h = refl

at_end : (splits : List ℕ) (v : Option SessionState) → makes_from splits v [] ≡ is_some v
at_end splits None = refl
at_end splits (Some t) = refl

goes_from : (splits : List ℕ) (v : Option SessionState) (es : History) (x y : Placed) → x.0 ≡ y.0 → (x.1).event ≡ (y.1).event → (x.1).outcome ≡ hoped_for (y.1).event → fits (y.1).event (y.1).outcome ≡ true
    → makes_from splits v (es ++ x ∷ []) ≡ true → makes_from splits v (es ++ y ∷ []) ≡ true
goes_from splits None [] x y p q r f h = absurd (both_ways false refl h)
goes_from splits None (e ∷ es) x y p q r f h = absurd (both_ways false refl h)
goes_from splits (Some t) [] x y p q r f h =
    let a : makes_from splits (session_after splits y.0 t (y.1).event (hoped_for (y.1).event)) [] ≡ true =
    subst (λ o. makes_from splits (session_after splits y.0 t (y.1).event o) [] ≡ true) r
    (subst (λ e. makes_from splits (session_after splits y.0 t e (x.1).outcome) [] ≡ true) q
    (subst (λ n. makes_from splits (session_after splits n t (x.1).event (x.1).outcome) [] ≡ true) p h)) in
    at_end splits (session_after splits y.0 t (y.1).event (y.1).outcome) ∙ goes splits y.0 t (y.1).event (y.1).outcome f (sym (at_end splits (session_after splits y.0 t (y.1).event (hoped_for (y.1).event))) ∙ a)
goes_from splits (Some t) (e ∷ es) x y p q r f h = goes_from splits (session_after splits e.0 t (e.1).event (e.1).outcome) es x y p q r f h

pub each_outcome_goes_on : EachOutcomeGoesOn
each_outcome_goes_on splits run walker es n e s t h d =
    goes_from splits (Some (no_session run walker)) es (n, record { stamp = 0; walker = walker; event = e.event; outcome = hoped_for e.event }) (n, e) refl refl refl
    (fits_happens s t (happened s t e.event e.outcome d)) h

-- ---- stamps while records are in flight

-- by the bound of an entry's stamp
in_time : (s t : Shard) (e : Event) (o : Outcome) (stamp : ℕ) → BecomesBy s e o t → stamp < stamp_bound e → t.is_up ≡ true → (n : ℕ) → t.flight ≡ Some n → stamp < 2 ^ 48
in_time s t FlushIn o stamp b l u n f = absurd (lands_after s o t b u n f)
in_time s t _ o stamp b l u n f = l

lands_made : (s t : Shard) (e : Entry) → Makes s e t → LandsInTime t
lands_made s t e m =
    subst LandsInTime (sym m.entered) (λ u n f. in_time s m.state e.event e.outcome e.stamp m.becomes m.bounded u n f)

lands_run : (s : Shard) (es : List Entry) (t : Shard) → Runs s es t → LandsInTime s → LandsInTime t
lands_run s [] t r l = subst LandsInTime r l
lands_run s (e ∷ es) t (u, m, r) l = lands_run u es t r (lands_made s u e m)

pub flying_is_in_time : FlyingIsInTime
flying_is_in_time n run found es t r = lands_run (opened n run found) es t r (λ u m f. none_some f)
  where
    none_some : {a : ℕ} {X : Type 0} → ◌≡◌ {A = Option ℕ} None (Some a) → X
    none_some k = cc
