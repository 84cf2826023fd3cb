-- What one turn leaves of a session, where its event is no operation.
use Rattle.std.proofs.Common.{◌≡◌, ◌∙◌, refl, sym, ap, subst, ℕ, ◌≤◌, ◌^◌, ◌==◌, nat_lt, Bool, true, false, [], ◌∷◌, ◌++◌, append-nil, Option, Some, None, Result, Ok, Err, arith, inr}
use Rattle.std.specs.Prelude.{IfOk}
use Rattle.std.specs.Map.{lookup}
use Rattle.std.proofs.lemmas.Bool.{both_ways}
use Rattle.clv_base.specs.declared.names.TxId.{TxId}
use Rattle.clv_base.specs.declared.names.Birth.{Birth}
use Rattle.clv_base.specs.declared.events.Event.{Event}
use Rattle.clv_base.specs.declared.events.Outcome.{Outcome}
use Rattle.clv_base.specs.declared.events.Entry.{Entry}
use Rattle.clv_base.specs.State.{Shard}
use Rattle.clv_base.specs.Events.{happen, step, next_stamp}
use Rattle.clv_base.specs.Sessions.{SessionState, session_after, is_session_number}
use Rattle.journal_laws.specs.Births.{LeavesBirth}
use Rattle.machine_calls.specs.declared.machine.StepError.{StepError}
use Rattle.machine_calls.specs.Steps.{Tells}
use Rattle.cluster_turns.specs.declared.shards.Shards.{Shards}
use Rattle.cluster_turns.specs.declared.shards.Walker.{Walker}
use Rattle.cluster_turns.specs.Turns.{EventTold}
use Rattle.cluster_turns.specs.Walkers.{IsWalker, IsSameWalker, Walked, kept}
use Rattle.cluster_turns.specs.States.{session_of}
use Rattle.cluster_turns.specs.CallTurns.{Turn, Took, no_turn, event_turn, entry_on, takes_no_flight}
use Rattle.cluster_turns.specs.Births.{AreInformed, IsBornBy}
use Rattle.cluster_turns.proofs.Laws.{event_rises, states_go_on, enters_so, ok_same, quiet_so, kept_grows, informed_stay, free_stays, unless_stays, reached_stays}
use Rattle.session_ops.specs.Standing.{IsOld, IsReady, HasBirth}
use Rattle.law_base.proofs.Shards.{is_done, outcome_in}

-- an entry of this event and outcome
pub record IsEntered (e : Event) (o : Outcome) (made : Option Entry) : Type 0 where
  pub entry : Entry
  pub is : made ≡ Some entry
  pub event_is : entry.event ≡ e
  pub outcome_is : entry.outcome ≡ o

-- the outcomes that are told are those of what is done, and each fits
module _ (e : Event) (told fits : Outcome → Bool) (happens : (s : Shard) → (told (outcome_in (happen s e)) ≡ is_done (happen s e)) × (fits (outcome_in (happen s e)) ≡ true)) where
  pub told_enters : (s t : Shard) (clock w : ℕ) (o : Outcome) (made : Option Entry) → Tells (step s clock w e) s clock w e (Ok o) t made → told o ≡ true → IsEntered e o made
  told_enters s t clock w o None h k =
      let q = quiet_so (next_stamp s clock e) w e (nat_lt (next_stamp s clock e) (2 ^ 48)) (happen s e) o h.0 in absurd (both_ways (is_done (happen s e)) q.1 (sym (happens s).0 ∙ ap told q.0 ∙ k))
  told_enters s t clock w o (Some x) (p, is, m) k = record { entry = x; is = refl; event_is = ap (λ y. y.event) m.entry_is; outcome_is = ap (λ y. y.outcome) m.entry_is ∙ sym (ok_same o p is) }

  pub quiet_none : (s t : Shard) (clock w : ℕ) (o : Outcome) (made : Option Entry) → Tells (step s clock w e) s clock w e (Ok o) t made → told o ≡ false → made ≡ None
  quiet_none s t clock w o None h k = refl
  quiet_none s t clock w o (Some x) (p, is, m) k =
      let q = enters_so (next_stamp s clock e) w e (nat_lt (next_stamp s clock e) (2 ^ 48)) (happen s e) p t m.enters in
      absurd (both_ways (is_done (happen s e)) (sym (happens s).0 ∙ ap told (q.0 ∙ sym (ok_same o p is)) ∙ k) q.1)

  pub told_fits : (s t : Shard) (clock w : ℕ) (r : Result Outcome StepError) (made : Option Entry) → Tells (step s clock w e) s clock w e r t made → IfOk r (λ o. fits o ≡ true)
  told_fits s t clock w (Err x) made h = tt
  told_fits s t clock w (Ok o) None h = ap fits (sym (quiet_so (next_stamp s clock e) w e (nat_lt (next_stamp s clock e) (2 ^ 48)) (happen s e) o h.0).0) ∙ (happens s).1
  told_fits s t clock w (Ok o) (Some x) (p, is, m) =
      ap fits (ok_same o p is ∙ sym (enters_so (next_stamp s clock e) w e (nat_lt (next_stamp s clock e) (2 ^ 48)) (happen s e) p t m.enters).0) ∙ (happens s).1

pub error_none : (e : Event) (s t : Shard) (clock w : ℕ) (x : StepError) (made : Option Entry) → Tells (step s clock w e) s clock w e (Err x) t made → made ≡ None
error_none e s t clock w x None h = refl
error_none e s t clock w x (Some y) (p, is, m) = absurd cc

module _ {M S G : Type 0} (w v : Walker M S G) (n : ℕ) (e : Event) (r : Result Outcome StepError) where
  abbrev pub IsAsked : Type 0
  IsAsked = Walked (EventTold w.clock w.number e r v.clock) n w.number w.passes.items v.passes.items

  module _ (walked : IsAsked) where
    abbrev pub turn_of : Turn
    turn_of = record { shard = n; event = e; answer = r; made = walked.turned.told.made }

    pub rises : w.clock ≤ v.clock
    rises = event_rises w.clock w.number e r v.clock walked.turned.s walked.turned.t walked.turned.added walked.turned.told

  module _ (walked : IsAsked) (plain : takes_no_flight e r ≡ true) where
    pub took_turn : Took w.number w.clock w.passes.items (turn_of walked ∷ []) v.clock v.passes.items
    took_turn = event_turn w.clock v.clock v.clock w.passes.items v.passes.items v.passes.items (turn_of walked) [] walked refl plain (no_turn v.clock v.passes.items)

    kept_after : kept v.passes.items ≡ kept w.passes.items ++ (entry_on n walked.turned.told.made ++ [])
    kept_after = kept_grows w.number w.clock v.clock w.passes.items v.passes.items (turn_of walked ∷ []) took_turn

    old_after : (b : Option Birth) → IsOld w.clock b → IsOld v.clock b
    old_after None h = tt
    old_after (Some b) h = let l = rises walked in omega arith

    informed_after : IsBornBy w.clock e → v.number ≡ w.number → AreInformed w.number w.clock w.passes.items → AreInformed v.number v.clock v.passes.items
    informed_after born same i =
        subst (λ k. AreInformed k v.clock v.passes.items) (sym same) (informed_stay w.number w.clock v.clock w.passes.items v.passes.items (turn_of walked ∷ []) took_turn (born, tt) i)

    pub born_after : (p : SessionState) (b : HasBirth w p) → ((tx : TxId) → LeavesBirth tx b.birth e) → v.number ≡ w.number → HasBirth v p
    born_after p b leaves same = record {
      birth = b.birth;
      is = b.is;
      bears = b.bears ∙ sym same;
      old = (let l = rises walked in let o = b.old in omega arith);
      free = free_stays w.number w.clock v.clock w.passes.items v.passes.items (turn_of walked ∷ []) p.tx b.birth took_turn b.bears (leaves p.tx, tt) b.free;
      parts = λ m. unless_stays m w.number w.clock v.clock w.passes.items v.passes.items (turn_of walked ∷ []) (lookup (◌==◌ m) p.touched) b.birth took_turn b.bears ((λ here. inr leaves), tt) (b.parts m);
      reached = λ m epoch h. reached_stays m w.number w.clock v.clock epoch w.passes.items v.passes.items (turn_of walked ∷ []) took_turn (b.reached m epoch h);
    }

    -- no entry was made
    pub ready_still : (sh : Shards M S G) (t : SessionState) → IsBornBy w.clock e → IsWalker sh v → IsSameWalker w v → walked.turned.told.made ≡ None → IsReady sh w t → IsReady sh v t
    ready_still sh t born is_walker same none a = record {
      walker = is_walker;
      number = subst (λ k. is_session_number k ≡ true) (sym same.0) a.number;
      state = subst (λ k. session_of sh.splits sh.run k (kept v.passes.items) ≡ Some t) (sym same.0)
          (ap (session_of sh.splits sh.run w.number) (kept_after ∙ ap (λ m. kept w.passes.items ++ (entry_on n m ++ [])) none ∙ append-nil (kept w.passes.items)) ∙ a.state);
      serial = (let s = same.1 in let h = a.serial in omega arith);
      old = old_after t.birth a.old;
      informed = informed_after born same.0 a.informed;
    }

    -- one was
    pub ready_then : (sh : Shards M S G) (t q : SessionState) (o : Outcome) → IsBornBy w.clock e → IsWalker sh v → IsSameWalker w v → IsEntered e o walked.turned.told.made → session_after sh.splits n t e o ≡ Some q → (q.tx).serial ≤ w.serial → IsOld w.clock q.birth
        → IsReady sh w t → IsReady sh v q
    ready_then sh t q o born is_walker same x goes serial old a = record {
      walker = is_walker;
      number = subst (λ k. is_session_number k ≡ true) (sym same.0) a.number;
      state = subst (λ k. session_of sh.splits sh.run k (kept v.passes.items) ≡ Some q) (sym same.0)
          (ap (session_of sh.splits sh.run w.number) (kept_after ∙ ap (λ m. kept w.passes.items ++ (entry_on n m ++ [])) x.is)
          ∙ states_go_on sh.splits sh.run w.number (kept w.passes.items) t (n, x.entry) a.state
          ∙ ap (λ y. session_after sh.splits n t y (x.entry).outcome) x.event_is ∙ ap (session_after sh.splits n t e) x.outcome_is ∙ goes);
      serial = (let s = same.1 in omega arith);
      old = old_after q.birth old;
      informed = informed_after born same.0 a.informed;
    }
