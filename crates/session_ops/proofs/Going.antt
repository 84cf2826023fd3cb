-- What a drop's answer makes of a session.
use Rattle.std.proofs.Common.{◌≡◌, ◌∙◌, refl, ap, subst, ℕ, ◌==◌, nat_lt, Bool, true, false, cond, not, ◌&&◌, Option, Some, None, Result, Ok, Err, eq-eqb}
use Rattle.std.specs.Prelude.{is_some, IfOk}
use Rattle.std.proofs.lemmas.Bool.{both_ways, and_from, and_parts, ne_eqb}
use Rattle.clv_base.specs.declared.names.TxId.{TxId}
use Rattle.clv_base.specs.declared.events.Event.TheVariants.{Drop}
use Rattle.clv_base.specs.declared.events.Outcome.{Outcome}
use Rattle.clv_base.specs.declared.events.Outcome.TheVariants.{Dropped, Down}
use Rattle.clv_base.specs.FileRules.{tx_has_spelling}
use Rattle.clv_base.specs.Orders.{tx_same}
use Rattle.clv_base.specs.State.{Shard}
use Rattle.clv_base.specs.declared.state.Stage.{Stage}
use Rattle.clv_base.specs.Undo.{stage_of}
use Rattle.clv_base.specs.Events.{Reply, QuietBeforeWorn, happen, happen_up, step, drop_event}
use Rattle.clv_base.specs.Sessions.{SessionState, Phase, Touching, Ended, Standing, Told, Refused, may_drop, after_drop, session_after}
use Rattle.clv_base.proofs.SameNames.{tx_self}
use Rattle.journal_laws.specs.Offers.{may_make}
use Rattle.machine_calls.specs.declared.machine.StepError.{StepError}
use Rattle.machine_calls.specs.Steps.{Tells}
use Rattle.machine_laws.specs.Homes.{is_named}
use Rattle.cluster_turns.specs.declared.shards.Shards.{Shards}
use Rattle.cluster_turns.specs.declared.shards.Walker.{Walker}
use Rattle.cluster_turns.specs.Walkers.{IsWalker, IsSameWalker, kept}
use Rattle.cluster_turns.proofs.Laws.{states_tell_may_make, states_bear_walkers}
use Rattle.session_ops.specs.Standing.{AskTold}
use Rattle.session_ops.specs.Dropped.{is_drop_outcome, place_dropped, IsEnding}
use Rattle.law_base.proofs.Shards.{is_done, outcome_in}
use Rattle.session_ops.proofs.AfterTurn.{IsEntered, told_enters, quiet_none, told_fits, error_none, IsAsked, turn_of, took_turn, born_after, ready_still, ready_then}

-- ---- an entry is made exactly where the part was dropped

abbrev is_told : Outcome → Bool
is_told Dropped = true
is_told _ = false

-- what a drop comes to fits, and is told where it is done
abbrev Fits : Reply → Type 0
Fits r = (is_told (outcome_in r) ≡ is_done r) × (is_drop_outcome (outcome_in r) ≡ true)

by_stage : (s : Shard) (tx : TxId) (st : Option Stage) → Fits (drop_event s tx st)
by_stage s tx None = (refl, refl)
by_stage s tx (Some stage) = (refl, refl)

happens_fits : (s : Shard) (tx : TxId) → Fits (happen s (Drop tx))
happens_fits s tx = at s.is_up
  where
    at : (u : Bool) → Fits (elim u [ true ↦ happen_up s (Drop tx) | false ↦ QuietBeforeWorn Down ])
    at true = by_stage s tx (stage_of s.local tx)
    at false = (refl, refl)

-- ---- the session's state

-- a name that a log may have has a serial
has_serial : (tx : TxId) → tx_has_spelling tx ≡ true → not (tx.serial == 0) ≡ true
has_serial tx h =
    let some = (and_parts _ _ (and_parts _ _ h).0).1 in
    ap not (ne_eqb tx.serial 0 (λ e. both_ways (nat_lt 0 tx.serial) (ap (nat_lt 0) e) some))

module _ {M S G : Type 0} (sh : Shards M S G) (w : Walker M S G) (p : SessionState) (n : ℕ) (a : IsEnding sh w p) where
  pub leaves : (o : Outcome) → session_after sh.splits n p (Drop p.tx) o ≡ Some (record p { phase = after_drop p.phase })
  leaves o =
      ap (λ b. cond b (Some (record p { phase = after_drop p.phase })) None)
      (and_from (tx_same p.tx p.tx && may_drop p.phase) (not ((p.tx).serial == 0)) (and_from (tx_same p.tx p.tx) (may_drop p.phase) (tx_self p.tx) a.may) (has_serial p.tx a.over.spelled))

  pub may_leave : may_make sh.splits sh.run w.number (kept w.passes.items) n (Drop p.tx) ≡ true
  may_leave = states_tell_may_make sh.splits sh.run w.number (kept w.passes.items) p n (Drop p.tx) a.over.ready.state ∙ ap is_some (leaves Dropped)

  pub is_own : is_named w.number (Drop p.tx) ≡ true
  is_own = eq-eqb (p.tx).session w.number (states_bear_walkers sh.splits sh.run w.number (kept w.passes.items) p a.over.ready.state).1

drops_again : (x : Phase) → may_drop x ≡ true → may_drop (after_drop x) ≡ true
drops_again Touching h = refl
drops_again Ended h = refl
drops_again (Standing home) h = h
drops_again Told h = h
drops_again Refused h = refl

-- ---- after one turn

module _ {M S G : Type 0} (sh : Shards M S G) (w v : Walker M S G) (p : SessionState) (n : ℕ) (a : IsEnding sh w p) (r : Result Outcome StepError) where
  pub drop_told : IsAsked w v n (Drop p.tx) r → AskTold w.number w.clock w.passes.items n (Drop p.tx) r v.clock v.passes.items
  drop_told walked = record { turn = turn_of w v n (Drop p.tx) r walked; took = took_turn w v n (Drop p.tx) r walked refl; shard_is = refl; event_is = refl; answer_is = refl }

  pub drop_fits : IsAsked w v n (Drop p.tx) r → IfOk r (λ o. is_drop_outcome o ≡ true)
  drop_fits walked = told_fits (Drop p.tx) is_told is_drop_outcome (λ s. happens_fits s p.tx) walked.turned.s walked.turned.t w.clock w.number r walked.turned.told.made walked.turned.told.tells

  -- no entry was made
  ends_still : (walked : IsAsked w v n (Drop p.tx) r) → IsWalker sh v → IsSameWalker w v → walked.turned.told.made ≡ None → IsEnding sh v p
  ends_still walked is_walker same none =
      record {
        over = record {
          ready = ready_still w v n (Drop p.tx) r walked refl sh p tt is_walker same none a.over.ready;
          born = born_after w v n (Drop p.tx) r walked refl p a.over.born (λ tx. tt) same.0;
          spelled = a.over.spelled;
        };
        may = a.may;
      }

  -- one was
  ends_then : (walked : IsAsked w v n (Drop p.tx) r) (o : Outcome) → IsWalker sh v → IsSameWalker w v → IsEntered (Drop p.tx) o walked.turned.told.made → IsEnding sh v (record p { phase = after_drop p.phase })
  ends_then walked o is_walker same x =
      let b = born_after w v n (Drop p.tx) r walked refl p a.over.born (λ tx. tt) same.0 in
      record {
        over = record {
          ready = ready_then w v n (Drop p.tx) r walked refl sh p (record p { phase = after_drop p.phase }) o tt is_walker same x (leaves sh w p n a o) a.over.ready.serial a.over.ready.old a.over.ready;
          born = record { birth = b.birth; is = b.is; bears = b.bears; old = b.old; free = b.free; parts = b.parts; reached = b.reached };
          spelled = a.over.spelled;
        };
        may = drops_again p.phase a.may;
      }

  pub drop_stands : (walked : IsAsked w v n (Drop p.tx) r) → IsWalker sh v → IsSameWalker w v → (x : Result Outcome StepError) → r ≡ x → IsEnding sh v (place_dropped p x)
  drop_stands walked is_walker same (Err e) is =
      ends_still walked is_walker same (error_none (Drop p.tx) walked.turned.s walked.turned.t w.clock w.number e walked.turned.told.made
      (subst (λ y. Tells (step walked.turned.s w.clock w.number (Drop p.tx)) walked.turned.s w.clock w.number (Drop p.tx) y walked.turned.t walked.turned.told.made) is walked.turned.told.tells))
  drop_stands walked is_walker same (Ok o) is = at o refl
    where
      tells : Tells (step walked.turned.s w.clock w.number (Drop p.tx)) walked.turned.s w.clock w.number (Drop p.tx) (Ok o) walked.turned.t walked.turned.told.made
      tells = subst (λ y. Tells (step walked.turned.s w.clock w.number (Drop p.tx)) walked.turned.s w.clock w.number (Drop p.tx) y walked.turned.t walked.turned.told.made) is walked.turned.told.tells

      quiet : is_told o ≡ false → IsEnding sh v p
      quiet k = ends_still walked is_walker same (quiet_none (Drop p.tx) is_told is_drop_outcome (λ s. happens_fits s p.tx) walked.turned.s walked.turned.t w.clock w.number o walked.turned.told.made tells k)

      entered : is_told o ≡ true → IsEntered (Drop p.tx) o walked.turned.told.made
      entered k = told_enters (Drop p.tx) is_told is_drop_outcome (λ s. happens_fits s p.tx) walked.turned.s walked.turned.t w.clock w.number o walked.turned.told.made tells k

      at : (z : Outcome) → o ≡ z → IsEnding sh v (place_dropped p (Ok z))
      at Dropped q = ends_then walked o is_walker same (entered (ap is_told q))
      at z q = quiet (ap is_told q)
