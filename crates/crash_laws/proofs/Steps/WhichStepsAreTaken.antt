-- Which steps are taken, by what is known before their outcome.
use Rattle.std.proofs.Common.{◌≡◌, refl, sym, ap, ◌∙◌, ℕ, true, false, cond, not, ◌&&◌, ◌||◌, Bool, List, [], ◌∷◌, ◌++◌, Option, Some, None, ◌==◌}
use Rattle.std.specs.Prelude.{is_some}
use Rattle.std.specs.Map.{lookup}
use Rattle.std.proofs.lemmas.Bool.{both_ways, eq-eqb}
use Rattle.clv_base.specs.declared.ops.Op.{Op as Operation}
use Rattle.clv_base.specs.declared.ops.Answer.TheVariants.{Value}
use Rattle.clv_base.specs.declared.events.Event.{Event}
use Rattle.clv_base.specs.declared.events.Event.TheVariants.{Op, Request, Look, Drop, Send, Deliver, Remind, FlushOut, FlushIn, Stop, Restart, RollTo}
use Rattle.clv_base.specs.declared.events.Outcome.{Outcome}
use Rattle.clv_base.specs.declared.events.Outcome.TheVariants.{Answered, Rolled}
use Rattle.clv_base.specs.declared.events.Entry.{Entry}
use Rattle.clv_base.specs.Orders.{tx_same}
use Rattle.clv_base.specs.LogRules.{same_option}
use Rattle.clv_base.specs.State.{Shard}
use Rattle.clv_base.specs.Events.{Does, happen}
use Rattle.clv_base.specs.Core.{World}
use Rattle.clv_base.specs.Journals.{History, own}
use Rattle.clv_base.specs.Runs.{goes_on_session}
use Rattle.clv_base.specs.Sessions.{SessionState, is_number, lies_in, session_for, op_answered, op_in_session, is_touching, same_touched, is_lowest, requested, stands_at, looked, may_drop, after_drop, session_after, is_session, is_of_session, is_session_number, back_for, back_in_session, is_whole_now}
use Rattle.journal_laws.specs.Offers.{hoped_for, may_make}
use Rattle.journal_laws.proofs.EachOutcomeGoesOn.{each_outcome_goes_on}
use Rattle.journal_laws.proofs.Entries.WalkersOwnEntries.{own_append, own_mine}
use Rattle.cluster_turns.specs.States.{session_of}
use Rattle.cluster_turns.proofs.Laws.{sessions_have_states, states_go_on, states_tell_may_make}
use Rattle.crash_laws.specs.Running.{session_may}
use Rattle.law_base.proofs.Options.{some_of}

-- ---- an event that a session may not make is refused with every outcome

nothing : {A : Type 0} (b : Bool) (x y : A) → is_some (cond b (Some x) None) ≡ false → (f : Bool → Option A) → f false ≡ None → ((c : Bool) → c ≡ b → f c ≡ f b) → f b ≡ None
nothing true x y h f n k = absurd (both_ways true h refl)
nothing false x y h f n k = n

refused_op : (splits : List ℕ) (n nth : ℕ) (seen : Option ℕ) (op : Operation) (o : Outcome) (v : Option SessionState) → is_some (op_in_session splits n nth seen op (Answered (Value None) 0) v) ≡ false → op_in_session splits n nth seen op o v ≡ None
refused_op splits n nth seen op o None h = refl
refused_op splits n nth seen op o (Some t) h = at (is_number t n nth op && lies_in splits n op && same_option seen (lookup (◌==◌ n) t.touched)) h
  where
    at : (b : Bool) → is_some (cond b (op_answered n nth op t (Answered (Value None) 0)) None) ≡ false → cond b (op_answered n nth op t o) None ≡ None
    at true k = absurd (both_ways true k refl)
    at false k = refl

refused_if : (b : Bool) (x : SessionState) (y : Option SessionState) → is_some (cond b (Some x) None) ≡ false → cond b y None ≡ None
refused_if true x y k = absurd (both_ways true k refl)
refused_if false x y k = refl

refused_back : (b : Bool) (n upto : ℕ) (o : Outcome) (v : Option SessionState) → is_some (cond b (back_in_session n upto Rolled v) None) ≡ false → cond b (back_in_session n upto o v) None ≡ None
refused_back true n upto o None k = refl
refused_back true n upto o (Some t) k = absurd (both_ways true k refl)
refused_back false n upto o v k = refl

pub refused_after : (splits : List ℕ) (n : ℕ) (t : SessionState) (e : Event) (o : Outcome) → is_some (session_after splits n t e (hoped_for e)) ≡ false → session_after splits n t e o ≡ None
refused_after splits n t (Op tx birth nth seen op) o h = refused_op splits n nth seen op o (session_for t tx birth) h
refused_after splits n t (RollTo tx nth seen upto) o h = refused_back (tx_same tx t.tx && is_touching t.phase && same_option (Some seen) (lookup (◌==◌ n) t.touched)) n upto o (back_for t n nth upto) h
refused_after splits n t (Request tx ts) o h = refused_if (tx_same tx t.tx && is_touching t.phase && is_whole_now t && same_touched ts t.touched && is_lowest n ts) _ (requested n t o) h
refused_after splits n t (Look tx) o h = refused_if (tx_same tx t.tx && stands_at n t.phase) _ (looked t o) h
refused_after splits n t (Drop tx) o h = refused_if (tx_same tx t.tx && may_drop t.phase && not ((t.tx).serial == 0)) _ (Some (record t { phase = after_drop t.phase })) h
refused_after splits n t Send o h = absurd (both_ways true h refl)
refused_after splits n t (Deliver m stamp) o h = absurd (both_ways true h refl)
refused_after splits n t Remind o h = absurd (both_ways true h refl)
refused_after splits n t FlushOut o h = absurd (both_ways true h refl)
refused_after splits n t FlushIn o h = absurd (both_ways true h refl)
refused_after splits n t Stop o h = absurd (both_ways true h refl)
refused_after splits n t Restart o h = absurd (both_ways true h refl)

refused_session : (splits : List ℕ) (run walker : ℕ) (es : History) (n : ℕ) (x : Entry) → is_session splits run walker es ≡ true → may_make splits run walker es n x.event ≡ false → is_session splits run walker (es ++ (n, x) ∷ []) ≡ false
refused_session splits run walker es n x h m =
    let t = some_of (session_of splits run walker es) (sym (sessions_have_states splits run walker es) ∙ h) in
    let r = refused_after splits n t.0 x.event x.outcome (sym (states_tell_may_make splits run walker es t.0 n x.event t.1) ∙ m) in
    sessions_have_states splits run walker (es ++ (n, x) ∷ []) ∙ ap is_some (states_go_on splits run walker es t.0 (n, x) t.1 ∙ r)

-- ---- what its session may make goes on it, and what it may not does not

own_end : (walker n : ℕ) (h : History) (x : Entry) → x.walker ≡ walker → own walker (h ++ (n, x) ∷ []) ≡ own walker h ++ (n, x) ∷ []
own_end walker n h x w = own_append walker h ((n, x) ∷ []) ∙ ap (λ l. own walker h ++ l) (own_mine walker (n, x) [] (eq-eqb x.walker walker w))

may_is : (splits : List ℕ) (run walker : ℕ) (h : History) (n : ℕ) (e : Event) (a : Bool) → is_of_session e ≡ a → session_may splits h walker n e ≡ (not a || (is_session_number walker && may_make splits 1 walker (own walker h) n e))
may_is splits run walker h n e a is = ap (λ b. not b || (is_session_number walker && may_make splits 1 walker (own walker h) n e)) is

pub refuses : (splits : List ℕ) (w : World) (n : ℕ) (x : Entry) → is_session splits 1 x.walker (own x.walker w.history) ≡ true → session_may splits w.history x.walker n x.event ≡ false → goes_on_session splits w 1 (n, x) ≡ false
refuses splits w n x s m = at (is_of_session x.event) (is_session_number x.walker) (may_make splits 1 x.walker (own x.walker w.history) n x.event) refl refl refl m
  where
    whole : History
    whole = own x.walker (w.history ++ (n, x) ∷ [])

    at : (a b c : Bool) → is_of_session x.event ≡ a → is_session_number x.walker ≡ b → may_make splits 1 x.walker (own x.walker w.history) n x.event ≡ c → (not a || (b && c)) ≡ false
        → (not a || (b && is_session splits 1 x.walker (own x.walker (w.history ++ (n, x) ∷ [])))) ≡ false
    at false b c p q r k = absurd (both_ways true k refl)
    at true false c p q r k = refl
    at true true true p q r k = absurd (both_ways true k refl)
    at true true false p q r k = ap (is_session splits 1 x.walker) (own_end x.walker n w.history x refl) ∙ refused_session splits 1 x.walker (own x.walker w.history) n x s r

pub allows : (splits : List ℕ) (w : World) (n : ℕ) (x : Entry) (s t : Shard) → session_may splits w.history x.walker n x.event ≡ true → (is_of_session x.event ≡ true → happen s x.event ≡ Does x.outcome t) → goes_on_session splits w 1 (n, x) ≡ true
allows splits w n x s t m d = at (is_of_session x.event) (is_session_number x.walker) (may_make splits 1 x.walker (own x.walker w.history) n x.event) refl refl refl m
  where
    at : (a b c : Bool) → is_of_session x.event ≡ a → is_session_number x.walker ≡ b → may_make splits 1 x.walker (own x.walker w.history) n x.event ≡ c → (not a || (b && c)) ≡ true
        → (not a || (b && is_session splits 1 x.walker (own x.walker (w.history ++ (n, x) ∷ [])))) ≡ true
    at false b c p q r k = refl
    at true false c p q r k = absurd (both_ways false refl k)
    at true true false p q r k = absurd (both_ways false refl k)
    at true true true p q r k = ap (is_session splits 1 x.walker) (own_end x.walker n w.history x refl) ∙ each_outcome_goes_on splits 1 x.walker (own x.walker w.history) n x s t r (d p)
