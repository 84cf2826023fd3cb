-- What a walker's session may make, by its state.
use Rattle.std.proofs.Common.{◌≡◌, sym, ap, ◌∙◌, ℕ, true, false, not, ◌&&◌, ◌||◌, List, Some, Result, Ok, Err}
use Rattle.std.specs.Prelude.{is_some, IfOk}
use Rattle.clv_base.specs.declared.events.Event.{Event}
use Rattle.clv_base.specs.Journals.{History, own}
use Rattle.clv_base.specs.Sessions.{SessionState, session_after, is_session, is_of_session, is_session_number}
use Rattle.journal_laws.specs.Offers.{hoped_for, may_make}
use Rattle.cluster_turns.specs.States.{session_of}
use Rattle.cluster_turns.proofs.Laws.{sessions_have_states, states_tell_may_make, states_bear_walkers}
use Rattle.crash_laws.specs.Running.{session_may}
use Rattle.law_base.proofs.Options.{some_of}

-- its state
pub record HasState (splits : List ℕ) (walker : ℕ) (es : History) : Type 0 where
  pub state : SessionState
  pub is : session_of splits 1 walker es ≡ Some state
  pub bears : (state.tx).session ≡ walker

pub state_there : (splits : List ℕ) (walker : ℕ) (es : History) → is_session splits 1 walker es ≡ true → HasState splits walker es
state_there splits walker es h =
    let t = some_of (session_of splits 1 walker es) (sym (sessions_have_states splits 1 walker es) ∙ h) in record { state = t.0; is = t.1; bears = (states_bear_walkers splits 1 walker es t.0 t.1).1 }

pub may_is : (splits : List ℕ) (w : ℕ) (h : History) (n : ℕ) (e : Event) (t : SessionState) → is_of_session e ≡ true → is_session_number w ≡ true → session_of splits 1 w (own w h) ≡ Some t
    → is_some (session_after splits n t e (hoped_for e)) ≡ session_may splits h w n e
may_is splits w h n e t of number is =
    let mm = may_make splits 1 w (own w h) n e in
    sym (states_tell_may_make splits 1 w (own w h) t n e is) ∙ sym (ap (λ a. not a || (is_session_number w && mm)) of ∙ ap (λ b. false || (b && mm)) number)

-- what holds of an answer, by what holds of it
pub of_answer : {A E : Type 0} (r : Result A E) (P Q : A → Type 0) → ((a : A) → P a → Q a) → IfOk r P → IfOk r Q
of_answer (Ok a) P Q f p = f a p
of_answer (Err e) P Q f p = p
