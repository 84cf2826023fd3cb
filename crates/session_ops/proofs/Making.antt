-- What a request's answer makes of a session.
use Rattle.std.proofs.Common.{◌≡◌, ◌∙◌, refl, sym, ap, subst, ℕ, ◌==◌, nat_lt, Bool, true, false, cond, ◌&&◌, map, List, [], ◌∷◌, Option, Some, None, Result, Ok, Err, arith, inl, inr, eq-eqb}
use Rattle.std.specs.Prelude.{is_some, IfOk}
use Rattle.std.specs.List.{list_all}
use Rattle.std.proofs.lemmas.Bool.{both_ways, and_from}
use Rattle.clv_base.specs.declared.names.TxId.{TxId}
use Rattle.clv_base.specs.declared.causes.AbortCause.{AbortCause}
use Rattle.clv_base.specs.declared.events.Event.{Event}
use Rattle.clv_base.specs.declared.events.Event.TheVariants.{Request}
use Rattle.clv_base.specs.declared.events.Outcome.{Outcome}
use Rattle.clv_base.specs.declared.events.Outcome.TheVariants.{Asked, Dead, Down}
use Rattle.clv_base.specs.FileRules.{numbers_rise}
use Rattle.clv_base.specs.Orders.{tx_same}
use Rattle.clv_base.specs.State.{Shard}
use Rattle.clv_base.specs.declared.state.Stage.{Stage}
use Rattle.clv_base.specs.declared.state.Stage.TheVariants.{Active, Closed, Gone}
use Rattle.clv_base.specs.Undo.{stage_of}
use Rattle.clv_base.specs.OneShard.{seen_fits}
use Rattle.clv_base.specs.Events.{Reply, QuietBeforeWorn, happen, happen_up, step, request_event, request_by_stage, epoch_in}
use Rattle.clv_base.specs.Sessions.{SessionState, is_touching, is_whole_now, same_touched, is_lowest, requested, session_after}
use Rattle.clv_base.proofs.SameNames.{tx_self}
use Rattle.journal_laws.specs.Offers.{may_make}
use Rattle.machine_calls.specs.declared.machine.StepError.{StepError}
use Rattle.machine_calls.specs.declared.machine.StepError.TheVariants.{Memory}
use Rattle.machine_calls.specs.Events.{touched_fit}
use Rattle.machine_calls.specs.Steps.{Tells, clock_after}
use Rattle.cluster_turns.specs.declared.shards.Shards.{Shards}
use Rattle.cluster_turns.specs.declared.shards.Walker.{Walker}
use Rattle.turn_lock.specs.Passes.{pass_origin}
use Rattle.cluster_turns.specs.Walkers.{IsWalker, IsSameWalker, kept}
use Rattle.cluster_turns.proofs.Laws.{states_tell_may_make, touched_are_last}
use Rattle.cluster_turns.specs.CallTurns.{no_turn}
use Rattle.cluster_turns.specs.Unborn.{UnbornAt, HasShard, EndsPart}
use Rattle.cluster_turns.proofs.Laws.{ends_unbear, dies_at_request}
use Rattle.session_ops.specs.Standing.{IsOld, IsReady, IsActive, IsGoneAt}
use Rattle.session_ops.specs.Requested.{is_request_outcome, place_requested, RequestTold, RequestStands}
use Rattle.law_base.proofs.Names.{birth_same}
use Rattle.law_base.proofs.Shards.{is_done, fits_request as is_told, outcome_in}
use Rattle.law_base.proofs.Lists.{lowest_any as lowest_among, some_inside as past}
use Rattle.law_base.proofs.Options.{some_inj as some_same}
use Rattle.session_ops.proofs.AfterTurn.{IsEntered, told_enters, quiet_none, told_fits, error_none, IsAsked, turn_of, took_turn, rises, born_after, ready_still, ready_then}

-- ---- an entry is made exactly where the request stands or died

-- what a request comes to fits, and is told where it is done
abbrev Fits : Reply → Type 0
Fits r = (is_told (outcome_in r) ≡ is_done r) × (is_request_outcome (outcome_in r) ≡ true)

by_stage : (s : Shard) (tx : TxId) (ts : List (ℕ × ℕ)) (st : Option Stage) → Fits (request_by_stage s tx ts st)
by_stage s tx ts None = (refl, refl)
by_stage s tx ts (Some Active) = (refl, refl)
by_stage s tx ts (Some Closed) = (refl, refl)
by_stage s tx ts (Some (Gone None)) = (refl, refl)
by_stage s tx ts (Some (Gone (Some doom))) = (refl, refl)

by_seen : (s : Shard) (tx : TxId) (ts : List (ℕ × ℕ)) (fits : Bool) → Fits (request_event s tx ts fits)
by_seen s tx ts false = (refl, refl)
by_seen s tx ts true = by_stage s tx ts (stage_of s.local tx)

pub happens_fits : (s : Shard) (tx : TxId) (ts : List (ℕ × ℕ)) → Fits (happen s (Request tx ts))
happens_fits s tx ts = at s.is_up
  where
    at : (u : Bool) → Fits (elim u [ true ↦ happen_up s (Request tx ts) | false ↦ QuietBeforeWorn Down ])
    at true = by_seen s tx ts (seen_fits s.local.epoch (epoch_in s.shard ts))
    at false = (refl, refl)

-- ---- passes

-- each is of its shard
pub has_shard : {M S G : Type 0} (sh : Shards M S G) (w : Walker M S G) → IsWalker sh w → (n : ℕ) → HasShard n w.passes.items
has_shard sh w is n p had o has =
    let each = is.walks.are_passes.each n None (let l = past w.passes.items n p had in let c = is.walks.are_passes.count in omega arith) in
    let same : each.0 ≡ p = some_same each.0 p (sym each.1 ∙ had None) in
    let origin : each.2.origin ≡ o = some_same each.2.origin o (sym each.2.has_origin ∙ ap pass_origin same ∙ has) in
    ap (λ x. x.shard) (sym origin) ∙ each.2.origin_is.shard

-- ---- the session's state

touched_self : (ts : List (ℕ × ℕ)) → same_touched ts ts ≡ true
touched_self [] = refl
touched_self (t ∷ ts) = and_from ((t.0 == t.0) && (t.1 == t.1)) (same_touched ts ts) (and_from (t.0 == t.0) (t.1 == t.1) (eq-eqb t.0 t.0 refl) (eq-eqb t.1 t.1 refl)) (touched_self ts)

some_touched : (n : ℕ) (ts : List (ℕ × ℕ)) → is_lowest n ts ≡ true → ts ≡ [] → ⊥
some_touched n [] h e = both_ways false refl h
some_touched n (t ∷ ts) h e = cc

pub parts_fit : (n : ℕ) (ts : List (ℕ × ℕ)) → is_lowest n ts ≡ true → numbers_rise (map (λ t. t.0) ts) ≡ true → list_all (λ t. nat_lt t.0 16) ts ≡ true → touched_fit n ts ≡ true
parts_fit n ts l a b = and_from _ _ (and_from _ _ a b) (lowest_among n ts l)

module _ {M S G : Type 0} (sh : Shards M S G) (w : Walker M S G) (p : SessionState) (a : IsActive sh w p) (n : ℕ) where
  is_last : is_lowest n p.touched ≡ true → p ≡ a.state
  is_last l = touched_are_last a.state p a.goes (inl (some_touched n p.touched l))

  pub asks_home : (o : Outcome) → is_whole_now p ≡ true → is_lowest n p.touched ≡ true → session_after sh.splits n a.state (Request p.tx p.touched) o ≡ requested n p o
  asks_home o whole l =
      ap (λ t. session_after sh.splits n t (Request p.tx p.touched) o) (sym (is_last l))
      ∙ ap (λ b. cond b (requested n p o) None)
      (and_from (tx_same p.tx p.tx && is_touching p.phase && is_whole_now p && same_touched p.touched p.touched) (is_lowest n p.touched)
      (and_from (tx_same p.tx p.tx && is_touching p.phase && is_whole_now p) (same_touched p.touched p.touched)
      (and_from (tx_same p.tx p.tx && is_touching p.phase) (is_whole_now p) (and_from (tx_same p.tx p.tx) (is_touching p.phase) (tx_self p.tx) a.touching) whole) (touched_self p.touched)) l)

  pub may_request : is_whole_now p ≡ true → is_lowest n p.touched ≡ true → may_make sh.splits sh.run w.number (kept w.passes.items) n (Request p.tx p.touched) ≡ true
  may_request whole l = states_tell_may_make sh.splits sh.run w.number (kept w.passes.items) a.state n (Request p.tx p.touched) a.ready.state ∙ ap is_some (asks_home Asked whole l)

-- ---- after one turn

module _ {M S G : Type 0} (sh : Shards M S G) (w v : Walker M S G) (p : SessionState) (a : IsActive sh w p) (n : ℕ) (r : Result Outcome StepError) where
  pub request_told : IsAsked w v n (Request p.tx p.touched) r → RequestTold w.number w.clock w.passes.items n (Request p.tx p.touched) r v.clock v.passes.items
  request_told walked = record {
    turns = turn_of w v n (Request p.tx p.touched) r walked ∷ [];
    took = took_turn w v n (Request p.tx p.touched) r walked refl;
    is = inr (turn_of w v n (Request p.tx p.touched) r walked, refl, refl, refl, refl);
    stamped = (λ x made. walked.turned.told.clock_is ∙ ap (clock_after w.clock r) made, tt);
  }

  pub request_fits : IsAsked w v n (Request p.tx p.touched) r → IfOk r (λ o. is_request_outcome o ≡ true)
  request_fits walked = told_fits (Request p.tx p.touched) is_told is_request_outcome (λ s. happens_fits s p.tx p.touched) walked.turned.s walked.turned.t w.clock w.number r walked.turned.told.made walked.turned.told.tells

  -- where it stands or died, it has no active part at its home
  gone_asked : (walked : IsAsked w v n (Request p.tx p.touched) r) → r ≡ Ok Asked → IsGoneAt n v p
  gone_asked walked is birth had =
      subst (λ b. UnbornAt n b v.passes.items) (birth_same a.born.birth birth (sym a.born.is ∙ had))
      (ends_unbear n w.number w.clock v.clock w.passes.items v.passes.items (turn_of w v n (Request p.tx p.touched) r walked ∷ []) p.tx a.born.birth (took_turn w v n (Request p.tx p.touched) r walked refl) a.born.bears (tt, tt) a.born.free
      (inl (refl, subst (EndsPart p.tx (Request p.tx p.touched)) (sym is) refl, tt)))

  gone_dead : (walked : IsAsked w v n (Request p.tx p.touched) r) (cause : AbortCause) → r ≡ Ok (Dead cause) → IsGoneAt n v p
  gone_dead walked cause is birth had =
      subst (λ b. UnbornAt n b v.passes.items) (birth_same a.born.birth birth (sym a.born.is ∙ had))
      (dies_at_request n w.number w.clock v.clock w.passes.items v.passes.items (turn_of w v n (Request p.tx p.touched) r walked) p.tx a.born.birth p.touched cause (took_turn w v n (Request p.tx p.touched) r walked refl) a.born.bears refl refl is (has_shard sh w a.ready.walker n) a.born.free (a.born.parts n))

  -- no entry was made
  active_still : (walked : IsAsked w v n (Request p.tx p.touched) r) → IsWalker sh v → IsSameWalker w v → walked.turned.told.made ≡ None → IsActive sh v p
  active_still walked is_walker same none =
      let l = rises w v n (Request p.tx p.touched) r walked in
      record {
        state = a.state;
        ready = ready_still w v n (Request p.tx p.touched) r walked refl sh a.state tt is_walker same none a.ready;
        goes = a.goes;
        touching = a.touching;
        born = born_after w v n (Request p.tx p.touched) r walked refl p a.born (λ tx. tt) same.0;
        serial = (let s = same.1 in let h = a.serial in omega arith);
        spelled = a.spelled;
        counted = (let h = a.counted in omega arith);
        few = a.few;
      }

  -- one was
  made_ready : (walked : IsAsked w v n (Request p.tx p.touched) r) (o : Outcome) (q : SessionState) → IsWalker sh v → IsSameWalker w v → is_whole_now p ≡ true → is_lowest n p.touched ≡ true → IsEntered (Request p.tx p.touched) o walked.turned.told.made → requested n p o ≡ Some q
      → (q.tx ≡ p.tx) → (q.birth ≡ p.birth) → IsReady sh v q
  made_ready walked o q is_walker same whole lowest x goes name birth =
      ready_then w v n (Request p.tx p.touched) r walked refl sh a.state q o tt is_walker same x (asks_home sh w p a n o whole lowest ∙ goes) (let h = a.serial in let k = ap (λ (t : TxId). t.serial) name in omega arith)
      (subst (IsOld w.clock) (sym (birth ∙ a.born.is)) a.born.old) a.ready

  pub request_stands : (walked : IsAsked w v n (Request p.tx p.touched) r) → IsWalker sh v → IsSameWalker w v → is_whole_now p ≡ true → is_lowest n p.touched ≡ true → (x : Result Outcome StepError) → r ≡ x → RequestStands sh v (place_requested n p x) n x
  request_stands walked is_walker same whole lowest (Err e) is =
      active_still walked is_walker same (error_none (Request p.tx p.touched) walked.turned.s walked.turned.t w.clock w.number e walked.turned.told.made
      (subst (λ y. Tells (step walked.turned.s w.clock w.number (Request p.tx p.touched)) walked.turned.s w.clock w.number (Request p.tx p.touched) y walked.turned.t walked.turned.told.made) is walked.turned.told.tells))
  request_stands walked is_walker same whole lowest (Ok o) is = at o refl
    where
      tells : Tells (step walked.turned.s w.clock w.number (Request p.tx p.touched)) walked.turned.s w.clock w.number (Request p.tx p.touched) (Ok o) walked.turned.t walked.turned.told.made
      tells = subst (λ y. Tells (step walked.turned.s w.clock w.number (Request p.tx p.touched)) walked.turned.s w.clock w.number (Request p.tx p.touched) y walked.turned.t walked.turned.told.made) is walked.turned.told.tells

      quiet : is_told o ≡ false → IsActive sh v p
      quiet k = active_still walked is_walker same (quiet_none (Request p.tx p.touched) is_told is_request_outcome (λ s. happens_fits s p.tx p.touched) walked.turned.s walked.turned.t w.clock w.number o walked.turned.told.made tells k)

      entered : is_told o ≡ true → IsEntered (Request p.tx p.touched) o walked.turned.told.made
      entered k = told_enters (Request p.tx p.touched) is_told is_request_outcome (λ s. happens_fits s p.tx p.touched) walked.turned.s walked.turned.t w.clock w.number o walked.turned.told.made tells k

      at : (z : Outcome) → o ≡ z → RequestStands sh v (place_requested n p (Ok z)) n (Ok z)
      at Asked q =
          let b = born_after w v n (Request p.tx p.touched) r walked refl p a.born (λ tx. tt) same.0 in
          record {
            ready = made_ready walked o (place_requested n p (Ok Asked)) is_walker same whole lowest (entered (ap is_told q)) (ap (requested n p) q) refl refl;
            stands = refl;
            born = record { birth = b.birth; is = b.is; bears = b.bears; old = b.old; free = b.free; parts = b.parts; reached = b.reached };
            spelled = a.spelled;
            gone = gone_asked walked (is ∙ ap (λ y. Ok y) q);
          }
      at (Dead cause) q =
          let b = born_after w v n (Request p.tx p.touched) r walked refl p a.born (λ tx. tt) same.0 in (
            record {
              ready = made_ready walked o (place_requested n p (Ok (Dead cause))) is_walker same whole lowest (entered (ap is_told q)) (ap (requested n p) q) refl refl;
              born = record { birth = b.birth; is = b.is; bears = b.bears; old = b.old; free = b.free; parts = b.parts; reached = b.reached };
              spelled = a.spelled;
            },
            gone_dead walked cause (is ∙ ap (λ y. Ok y) q),
          )
      at z q = quiet (ap is_told q)

module _ {M S G : Type 0} where
  -- for want of memory there was no turn
  pub no_request : (w : Walker M S G) (n : ℕ) (e : Event) → RequestTold w.number w.clock w.passes.items n e (Err Memory) w.clock w.passes.items
  no_request w n e = record { turns = []; took = no_turn w.clock w.passes.items; is = inl (refl, refl); stamped = tt }
