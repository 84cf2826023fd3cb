-- What a look's answer makes of a session.
use Rattle.std.proofs.Common.{◌≡◌, ◌∙◌, refl, sym, ap, subst, ℕ, ◌==◌, Bool, true, false, cond, [], ◌∷◌, Option, Some, None, Result, Ok, Err, arith, inr, eq-eqb}
use Rattle.std.specs.Prelude.{is_some, IfOk}
use Rattle.std.proofs.lemmas.Bool.{and_from}
use Rattle.clv_base.specs.declared.names.TxId.{TxId}
use Rattle.clv_base.specs.declared.events.Event.TheVariants.{Look}
use Rattle.clv_base.specs.declared.events.Outcome.{Outcome}
use Rattle.clv_base.specs.declared.events.Outcome.TheVariants.{Acknowledged, Aborted, NotYet, Down}
use Rattle.clv_base.specs.Orders.{tx_same, tx_get}
use Rattle.clv_base.specs.Logs.{committed_in}
use Rattle.clv_base.specs.State.{Shard}
use Rattle.clv_base.specs.declared.state.Request.{Request}
use Rattle.clv_base.specs.declared.state.RequestState.{RequestState}
use Rattle.clv_base.specs.declared.state.RequestState.TheVariants.{Undecided, Committed, Finished, Refused}
use Rattle.clv_base.specs.Facts.{facts_of, has_durable_commit}
use Rattle.clv_base.specs.Events.{Reply, QuietBeforeWorn, Does, happen, happen_up, step, request_epoch, look_lost, look_state, look_known, look_event}
use Rattle.clv_base.specs.Events.{finish}
use Rattle.clv_base.specs.declared.causes.AbortCause.TheVariants.{Restarted}
use Rattle.clv_base.specs.Sessions.{SessionState, Phase, Standing, stands_at, looked, session_after}
use Rattle.clv_base.proofs.SameNames.{tx_self}
use Rattle.journal_laws.specs.Offers.{may_make}
use Rattle.machine_calls.specs.declared.machine.StepError.{StepError}
use Rattle.machine_calls.specs.Steps.{Tells}
use Rattle.cluster_turns.specs.declared.shards.Shards.{Shards}
use Rattle.cluster_turns.specs.declared.shards.Walker.{Walker}
use Rattle.cluster_turns.specs.Walkers.{IsWalker, IsSameWalker, kept}
use Rattle.cluster_turns.proofs.Laws.{states_tell_may_make}
use Rattle.cluster_turns.proofs.Laws.{unborn_stays}
use Rattle.session_ops.specs.Standing.{IsOld, IsReady, AskTold, IsGoneAt}
use Rattle.session_ops.specs.Requested.{IsStanding}
use Rattle.session_ops.specs.Looked.{is_look_outcome, place_looked, LookStands}
use Rattle.law_base.proofs.Shards.{is_done, outcome_in, is_told}
use Rattle.law_base.proofs.Names.{birth_same}
use Rattle.session_ops.proofs.AfterTurn.{IsEntered, told_enters, quiet_none, told_fits, error_none, IsAsked, turn_of, took_turn, born_after, ready_still, ready_then}

-- what a look comes to fits, and is told where it is done
abbrev pub Fits : Reply → Type 0
Fits r = (is_told (outcome_in r) ≡ is_done r) × (is_look_outcome (outcome_in r) ≡ true)

by_state : (s : Shard) (q : RequestState) → Fits (look_state s q)
by_state s Undecided = (refl, refl)
by_state s (Committed parts) = (refl, refl)
by_state s Finished = (refl, refl)
by_state s (Refused cause) = (refl, refl)

by_lost : (s : Shard) (tx : TxId) (e : Option ℕ) → Fits (look_lost s tx e)
by_lost s tx None = (refl, refl)
by_lost s tx (Some e) = at (e == s.local.epoch)
  where
    at : (b : Bool) → Fits (cond b (QuietBeforeWorn NotYet) (Does (Aborted (Restarted s.shard e s.local.epoch)) (finish s)))
    at true = (refl, refl)
    at false = (refl, refl)

by_known : (s : Shard) (tx : TxId) (q : Option Request) → Fits (look_known s tx q)
by_known s tx (Some q) = by_state s q.state
by_known s tx None = at (committed_in s.local.log tx) (by_lost s tx (request_epoch s.shard tx s.journal))
  where
    at : (b : Bool) → Fits (look_lost s tx (request_epoch s.shard tx s.journal)) → Fits (cond b (QuietBeforeWorn NotYet) (look_lost s tx (request_epoch s.shard tx s.journal)))
    at true h = (refl, refl)
    at false h = h

by_look : (s : Shard) (tx : TxId) → Fits (look_event s tx)
by_look s tx = at (has_durable_commit (facts_of s tx)) (by_known s tx (tx_get tx s.requests))
  where
    at : (b : Bool) → Fits (look_known s tx (tx_get tx s.requests)) → Fits (cond b (Does Acknowledged (finish s)) (look_known s tx (tx_get tx s.requests)))
    at true h = (refl, refl)
    at false h = h

pub happens_fits : (s : Shard) (tx : TxId) → Fits (happen s (Look tx))
happens_fits s tx = at s.is_up (by_look s tx)
  where
    at : (u : Bool) → Fits (happen_up s (Look tx)) → Fits (elim u [ true ↦ happen_up s (Look tx) | false ↦ QuietBeforeWorn Down ])
    at true h = h
    at false h = (refl, refl)

-- ---- the session's state

stands_there : (n : ℕ) (phase : Phase) → phase ≡ Standing n → stands_at n phase ≡ true
stands_there n phase is = ap (stands_at n) is ∙ eq-eqb n n refl

module _ {M S G : Type 0} (sh : Shards M S G) (w : Walker M S G) (p : SessionState) (n : ℕ) (a : IsStanding sh w p n) where
  pub sees_home : (o : Outcome) → session_after sh.splits n p (Look p.tx) o ≡ looked p o
  sees_home o = ap (λ b. cond b (looked p o) None) (and_from (tx_same p.tx p.tx) (stands_at n p.phase) (tx_self p.tx) (stands_there n p.phase a.stands))

  pub may_look : may_make sh.splits sh.run w.number (kept w.passes.items) n (Look p.tx) ≡ true
  may_look = states_tell_may_make sh.splits sh.run w.number (kept w.passes.items) p n (Look p.tx) a.ready.state ∙ ap is_some (sees_home Acknowledged)

-- ---- after one turn

module _ {M S G : Type 0} (sh : Shards M S G) (w v : Walker M S G) (p : SessionState) (n : ℕ) (a : IsStanding sh w p n) (r : Result Outcome StepError) where
  pub look_told : IsAsked w v n (Look p.tx) r → AskTold w.number w.clock w.passes.items n (Look p.tx) r v.clock v.passes.items
  look_told walked = record { turn = turn_of w v n (Look p.tx) r walked; took = took_turn w v n (Look p.tx) r walked refl; shard_is = refl; event_is = refl; answer_is = refl }

  pub look_fits : IsAsked w v n (Look p.tx) r → IfOk r (λ o. is_look_outcome o ≡ true)
  look_fits walked = told_fits (Look p.tx) is_told is_look_outcome (λ s. happens_fits s p.tx) walked.turned.s walked.turned.t w.clock w.number r walked.turned.told.made walked.turned.told.tells

  gone_after : (walked : IsAsked w v n (Look p.tx) r) → IsGoneAt n v p
  gone_after walked birth had =
      unborn_stays n w.number w.clock v.clock w.passes.items v.passes.items (turn_of w v n (Look p.tx) r walked ∷ []) birth (took_turn w v n (Look p.tx) r walked refl) (ap (λ x. x.session) (birth_same birth a.born.birth (sym had ∙ a.born.is)) ∙ a.born.bears) ((λ here. inr (λ u. tt)), tt)
      (a.gone birth had)

  -- no entry was made
  stands_still : (walked : IsAsked w v n (Look p.tx) r) → IsWalker sh v → IsSameWalker w v → walked.turned.told.made ≡ None → IsStanding sh v p n
  stands_still walked is_walker same none =
      record {
        ready = ready_still w v n (Look p.tx) r walked refl sh p tt is_walker same none a.ready;
        stands = a.stands;
        born = born_after w v n (Look p.tx) r walked refl p a.born (λ tx. tt) same.0;
        spelled = a.spelled;
        gone = gone_after walked;
      }

  -- one was
  seen_ready : (walked : IsAsked w v n (Look p.tx) r) (o : Outcome) (q : SessionState) → IsWalker sh v → IsSameWalker w v → IsEntered (Look p.tx) o walked.turned.told.made → looked p o ≡ Some q → (q.tx ≡ p.tx) → (q.birth ≡ p.birth) → IsReady sh v q
  seen_ready walked o q is_walker same x goes name birth =
      ready_then w v n (Look p.tx) r walked refl sh p q o tt is_walker same x (sees_home sh w p n a o ∙ goes) (let h = a.ready.serial in let k = ap (λ (t : TxId). t.serial) name in omega arith)
      (subst (IsOld w.clock) (sym (birth ∙ a.born.is)) a.born.old) a.ready

  pub look_stands : (walked : IsAsked w v n (Look p.tx) r) → IsWalker sh v → IsSameWalker w v → (x : Result Outcome StepError) → r ≡ x → LookStands sh v (place_looked p x) n x
  look_stands walked is_walker same (Err e) is =
      stands_still walked is_walker same (error_none (Look p.tx) walked.turned.s walked.turned.t w.clock w.number e walked.turned.told.made
      (subst (λ y. Tells (step walked.turned.s w.clock w.number (Look p.tx)) walked.turned.s w.clock w.number (Look p.tx) y walked.turned.t walked.turned.told.made) is walked.turned.told.tells))
  look_stands walked is_walker same (Ok o) is = at o refl
    where
      tells : Tells (step walked.turned.s w.clock w.number (Look p.tx)) walked.turned.s w.clock w.number (Look p.tx) (Ok o) walked.turned.t walked.turned.told.made
      tells = subst (λ y. Tells (step walked.turned.s w.clock w.number (Look p.tx)) walked.turned.s w.clock w.number (Look p.tx) y walked.turned.t walked.turned.told.made) is walked.turned.told.tells

      quiet : is_told o ≡ false → IsStanding sh v p n
      quiet k = stands_still walked is_walker same (quiet_none (Look p.tx) is_told is_look_outcome (λ s. happens_fits s p.tx) walked.turned.s walked.turned.t w.clock w.number o walked.turned.told.made tells k)

      entered : is_told o ≡ true → IsEntered (Look p.tx) o walked.turned.told.made
      entered k = told_enters (Look p.tx) is_told is_look_outcome (λ s. happens_fits s p.tx) walked.turned.s walked.turned.t w.clock w.number o walked.turned.told.made tells k

      at : (z : Outcome) → o ≡ z → LookStands sh v (place_looked p (Ok z)) n (Ok z)
      at Acknowledged q = seen_ready walked o (place_looked p (Ok Acknowledged)) is_walker same (entered (ap is_told q)) (ap (looked p) q) refl refl
      at (Aborted cause) q =
          let b = born_after w v n (Look p.tx) r walked refl p a.born (λ tx. tt) same.0 in (
            record {
              ready = seen_ready walked o (place_looked p (Ok (Aborted cause))) is_walker same (entered (ap is_told q)) (ap (looked p) q) refl refl;
              born = record { birth = b.birth; is = b.is; bears = b.bears; old = b.old; free = b.free; parts = b.parts; reached = b.reached };
              spelled = a.spelled;
            },
            gone_after walked,
          )
      at z q = quiet (ap is_told q)
