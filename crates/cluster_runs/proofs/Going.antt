-- A session that went through: each request was told how its transaction ended.
use Rattle.std.proofs.Common.{◌≡◌, refl, sym, ap, subst, ◌∙◌, ◌⊎◌, inl, inr, ⊎_elim, ℕ, zero, suc, ◌<◌, ◌≤◌, Bool, true, false, cond, List, [], ◌∷◌, length, Option, Some, None, slice_get, get_or, arith}
use Rattle.std.specs.List.{AllByRecursion, list_any}
use Rattle.std.proofs.lemmas.Bool.{both_ways}
use Rattle.std.proofs.lemmas.Option.{slice_get_cases}
use Rattle.clv_base.specs.declared.names.TxId.{TxId}
use Rattle.clv_base.specs.declared.names.Birth.{Birth}
use Rattle.clv_base.specs.declared.events.Event.{Event}
use Rattle.clv_base.specs.declared.events.Event.TheVariants.{Op as OpEvent, RollTo, Request, Look, Drop, Send, Deliver, Remind, FlushOut, FlushIn, Stop, Restart}
use Rattle.clv_base.specs.declared.events.Outcome.{Outcome}
use Rattle.clv_base.specs.declared.events.Entry.{Entry}
use Rattle.clv_base.specs.Sessions.{is_of_session}
use Rattle.clv_base.specs.Journals.{History, own}
use Rattle.clv_base.specs.History.{acknowledged_in, is_acknowledgement, request_of}
use Rattle.clv_base.specs.Restarts.{run_after}
use Rattle.clv_base.proofs.SameNames.{or_left, or_right}
use Rattle.history_laws.specs.Outcomes.{is_abort, aborted_in_history}
use Rattle.history_cases.proofs.Merging.{Among, among_append, is_among, in_own}
use Rattle.cluster_runs.specs.Histories.{entries}
use Rattle.script_lang.specs.Bodies.{Body}
use Rattle.script_runs.specs.declared.ends.StopCause.{StopCause}
use Rattle.script_runs.specs.declared.ends.TryEnd.{TryEnd}
use Rattle.script_runs.specs.declared.ends.TryEnd.TheVariants as end
use Rattle.script_runs.specs.Tries.{Try, IsTry}
use Rattle.script_runs.specs.Sessions.{Transaction, AreTransactions, FollowsScript, InTries, last, none_left, stopped_between, further, all_done, not_begun, stopped, done, is_to_retry, stopped_by, tries_of, entries_of, session_entries}
use Rattle.cluster_runs.specs.PromisedSessions.{SessionWent}
use Rattle.cluster_runs.specs.Replays.{RequestsAreTold}
use Rattle.cluster_runs.proofs.Telling.{Ends, Told, GoOn, told_left, told_right, try_tells}
use Rattle.cluster_runs.proofs.Entries.{from_own, from_session}
use Rattle.script_runs.proofs.Laws.{entries_more as more_entries}

retried_goes_on : (e : TryEnd) → is_to_retry e ≡ true → stopped_by e ≡ None
retried_goes_on end.Acknowledged h = refl
retried_goes_on end.Empty h = refl
retried_goes_on end.Asked h = refl
retried_goes_on (end.Aborted cause) h = refl
retried_goes_on (end.Stopped cause) h = absurd (both_ways false refl h)

go_on : (most : Option ℕ) (n : ℕ) (ts : List Try) (cause : Option StopCause) → InTries most n ts cause → cause ≡ None → GoOn ts
go_on most _ _ _ (last n t over) none = (none, tt)
go_on most _ _ _ (none_left n t retry left) none = (retried_goes_on t.end retry, tt)
go_on most _ _ _ (stopped_between n t cause stops retry left) none = absurd cc
go_on most _ _ _ (further n t ts cause retry left more) none = (retried_goes_on t.end retry, go_on most _ ts cause more none)

tries_tell : (splits : List ℕ) (body : Body) (birth : Birth) (ts : List Try) → AllByRecursion (IsTry splits body birth) ts → GoOn ts → (x : ℕ × Entry) (t : TxId) → Among x (entries_of ts) → request_of (x.1).event (x.1).outcome ≡ Some t
    → Told t (entries_of ts)
tries_tell splits body birth [] is on x t m some = absurd m
tries_tell splits body birth (y ∷ ts) is on x t m some =
    ⊎_elim
    (λ a. told_left t y.entries (entries_of ts) (try_tells splits body birth y is.0 on.0 x t a some))
    (λ b. told_right t y.entries (entries_of ts) (tries_tell splits body birth ts is.1 on.1 x t b some))
    (among_append x y.entries (entries_of ts) m)

session_tells : (splits : List ℕ) (run walker : ℕ) (most : Option ℕ) (bodies : List Body) (trs : List Transaction) (cause : Option StopCause) → AreTransactions splits run walker most bodies trs cause → cause ≡ None
    → (x : ℕ × Entry) (t : TxId) → Among x (entries_of (tries_of trs)) → request_of (x.1).event (x.1).outcome ≡ Some t → Told t (entries_of (tries_of trs))
session_tells splits run walker most _ _ _ all_done none x t m some = absurd m
session_tells splits run walker most _ _ _ (not_begun body bodies at) none x t m some = absurd cc
session_tells splits run walker most _ _ _ (stopped tr bodies cause is) none x t m some = absurd cc
session_tells splits run walker most _ _ _ (done tr bodies trs cause is more) none x t m some =
    let parts = more_entries tr.tries (tries_of trs) in
    subst (Told t) (sym parts)
    (⊎_elim
    (λ a. told_left t (entries_of tr.tries) (entries_of (tries_of trs)) (tries_tell splits tr.body tr.birth tr.tries is.each (go_on most 1 tr.tries None is.in_tries refl) x t a some))
    (λ b. told_right t (entries_of tr.tries) (entries_of (tries_of trs)) (session_tells splits run walker most bodies trs cause more none x t b some))
    (among_append x (entries_of tr.tries) (entries_of (tries_of trs)) (subst (Among x) parts m)))

-- ---- among the history's

into_cond : {A : Type 0} (x y : A) (b : Bool) (ys : List A) → (y ≡ x → b ≡ true) → (y ≡ x) ⊎ Among x ys → Among x (cond b (y ∷ ys) ys)
into_cond x y true ys f m = m
into_cond x y false ys f (inl e) = absurd (both_ways false refl (f e))
into_cond x y false ys f (inr m) = m

pub in_session : (x : ℕ × Entry) (es : History) → is_of_session (x.1).event ≡ true → Among x es → Among x (session_entries es)
in_session x [] s m = m
in_session x (e ∷ es) s m =
    into_cond x e (is_of_session (e.1).event) (session_entries es) (λ same. ap (λ z. is_of_session (z.1).event) same ∙ s) (⊎_elim (λ same. inl same) (λ i. inr (in_session x es s i)) m)

none_some : {A : Type 0} (t : TxId) → None ≡ Some t → A
none_some t h = absurd cc

pub of_session : (e : Event) (o : Outcome) (t : TxId) → request_of e o ≡ Some t → is_of_session e ≡ true
of_session (OpEvent u birth nth seen op) o t h = refl
of_session (RollTo u nth seen upto) o t h = refl
of_session (Request u ts) o t h = refl
of_session (Look u) o t h = refl
of_session (Drop u) o t h = refl
of_session Send o t h = none_some t h
of_session (Deliver m stamp) o t h = none_some t h
of_session Remind o t h = none_some t h
of_session FlushOut o t h = none_some t h
of_session FlushIn o t h = none_some t h
of_session Stop o t h = none_some t h
of_session Restart o t h = none_some t h

pub any_of : {A : Type 0} (test : A → Bool) (x : A) (xs : List A) → Among x xs → test x ≡ true → list_any test xs ≡ true
any_of test x [] m p = absurd m
any_of test x (y ∷ ys) (inl same) p = or_left (test y) (list_any test ys) (ap test same ∙ p)
any_of test x (y ∷ ys) (inr m) p = or_right (test y) (list_any test ys) (any_of test x ys m p)

told_by : (t : TxId) (x : ℕ × Entry) (h : History) → Among x h → Ends t x → (acknowledged_in h t ≡ true) ⊎ (aborted_in_history h t ≡ true)
told_by t x h m (inl a) = inl (any_of (λ e. is_acknowledgement t (e.1).event (e.1).outcome) x h m a)
told_by t x h m (inr b) = inr (any_of (λ e. is_abort t (e.1).event (e.1).outcome) x h m b)

in_walker : (splits : List ℕ) (run w : ℕ) (most : Option ℕ) (bodies : List Body) (h : History) (x : ℕ × Entry) (t : TxId) → FollowsScript splits run w most bodies None (session_entries (own w h)) → Among x (session_entries (own w h))
    → request_of (x.1).event (x.1).outcome ≡ Some t → (acknowledged_in h t ≡ true) ⊎ (aborted_in_history h t ≡ true)
in_walker splits run w most bodies h x t f m some =
    let told = session_tells splits run w most bodies f.transactions None f.in_order refl x t (subst (Among x) f.entries_are m) some in
    told_by t told.entry h (from_own w told.entry h (from_session told.entry (own w h) (subst (Among told.entry) (sym f.entries_are) told.among))) told.ends

pub requests_are_told : RequestsAreTold
requests_are_told splits before now counts counts_now most script went kept p gone n e t among some = at e.walker refl
  where
    x : ℕ × Entry
    x = (n, e)

    h : History
    h = entries kept

    Found : ℕ → Type 0
    Found w = Among x (session_entries (own w h))

    found : Found e.walker
    found = in_session x (own e.walker h) (of_session e.event e.outcome t some) (in_own x h (is_among n e h among))

    nowhere : {A : Type 0} (w : ℕ) → Found w → session_entries (own w h) ≡ [] → A
    nowhere w m none = absurd (subst (Among x) none m)

    at : (w : ℕ) → w ≡ e.walker → (acknowledged_in h t ≡ true) ⊎ (aborted_in_history h t ≡ true)
    at zero same = nowhere 0 (subst Found (sym same) found) ((p.sessions).others 0 (inl refl))
    at (suc k) same = seek (slice_get_cases script k).1
      where
        seek : ((bodies : List Body) × (k < length script) × (slice_get script k ≡ Some bodies) × (get_or script k bodies ≡ bodies)) ⊎ ((length script ≤ k) × (slice_get script k ≡ None)) → (acknowledged_in h t ≡ true) ⊎ (aborted_in_history h t ≡ true)
        seek (inl (bodies, low, is, read)) =
            in_walker splits (run_after kept.found) (suc k) most bodies h x t
            (subst (λ z. SessionWent splits (run_after kept.found) (suc k) most bodies z (own (suc k) h)) (gone k low) ((p.sessions).each k bodies is)).follows (subst Found (sym same) found) some
        seek (inr (past, is)) = nowhere (suc k) (subst Found (sym same) found) ((p.sessions).others (suc k) (inr (omega arith)))
