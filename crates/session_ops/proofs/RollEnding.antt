-- A shard's part of a going back, and the drops after it.
use Rattle.std.proofs.Common.{◌≡◌, ◌∙◌, refl, sym, subst, ℕ, ◌<◌, ◌≤◌, ◌-◌, ◌^◌, ◌==◌, true, false, List, [], ◌∷◌, length, Some, Result, Ok, Err, inl}
use Rattle.std.specs.Prelude.{IfOk}
use Rattle.std.specs.Map.{lookup}
use Rattle.std.proofs.lemmas.Bool.{both_ways}
use Rattle.clv_base.specs.declared.names.TxId.{TxId}
use Rattle.clv_base.specs.declared.events.Outcome.{Outcome}
use Rattle.clv_base.specs.declared.events.Outcome.TheVariants.{Rolled, Dead, Down as DownOut}
use Rattle.clv_base.specs.Sessions.{SessionState}
use Rattle.machine_calls.specs.declared.machine.StepError.{StepError}
use Rattle.machine_calls.specs.declared.machine.StepError.TheVariants.{Memory, Worn as IsWorn}
use Rattle.cluster_turns.specs.declared.shards.Shards.{Shards}
use Rattle.cluster_turns.specs.declared.shards.Walker.{Walker}
use Rattle.cluster_turns.specs.CallTurns.{Took}
use Rattle.cluster_turns.specs.Epochs.{ReachedAt, PastAt}
use Rattle.cluster_turns.proofs.Laws.{turns_follow, down_is_past, worn_is_last}
use Rattle.session_ops.specs.declared.rolling.BackError.{BackError}
use Rattle.session_ops.specs.Standing.{IsActive}
use Rattle.session_ops.specs.Decided.{Leaving, LeavesIf}
use Rattle.session_ops.specs.Parts.{StandsUnless}
use Rattle.session_ops.specs.WentBack.{RollAsked, Rolling, PastBy, StandsBack, back_as, has_died, is_back_outcome, place_back}
use Rattle.session_ops.proofs.Deciding.{left_ended}

module _ {M S G : Type 0} (sh : Shards M S G) (w u v : Walker M S G) (n nth upto : ℕ) (p m q : SessionState) where
  abbrev Rolls : Result Unit BackError → Type 0
  Rolls r = Rolling (length sh.locks.items) w.number w.clock w.passes.items p nth upto n r v.clock v.passes.items q

  abbrev Asked : Result Outcome StepError → Type 0
  Asked x = RollAsked w.number w.clock w.passes.items p nth upto n x u.clock u.passes.items

  abbrev Left : Result Outcome StepError → Type 0
  Left x = LeavesIf (has_died (back_as n x)) sh u m n v q

  pub rolls_told :
      (x : Result Outcome StepError) → u.number ≡ w.number → IfOk x (λ o. is_back_outcome o ≡ true) → (x ≡ Err Memory → ⊥) → (x ≡ Ok Rolled → (w.clock < u.clock) × (u.clock < 2 ^ 48)) → m ≡ place_back n nth upto p x → Asked x → Left x → m.tx ≡ p.tx → m.touched ≡ p.touched → Rolls (back_as n x)
  rolls_told (Ok Rolled) number fits wants stamped place a l tx touched = record {
    turns = a.turn ∷ [];
    took = subst (λ (z : Walker M S G). Took w.number w.clock w.passes.items (a.turn ∷ []) z.clock z.passes.items) (sym l.0) a.took;
    told = (a.turn, refl, a.is, l.1 ∙ place);
    stamped = subst (λ (z : Walker M S G). (w.clock < z.clock) × (z.clock < 2 ^ 48)) (sym l.0) (stamped refl);
  }
  rolls_told (Ok (Dead cause)) number fits wants stamped place a l tx touched =
      let count = length sh.locks.items in
      let drops : Leaving count w.number u.clock u.passes.items p.tx p.touched n v.clock v.passes.items =
      subst (λ (k : ℕ). Leaving count k u.clock u.passes.items p.tx p.touched n v.clock v.passes.items) number
      (subst (λ (t : TxId). Leaving count u.number u.clock u.passes.items t p.touched n v.clock v.passes.items) tx
      (subst (λ (ts : List (ℕ × ℕ)). Leaving count u.number u.clock u.passes.items m.tx ts n v.clock v.passes.items) touched l.0)) in
      record {
        turns = a.turn ∷ drops.turns;
        took = turns_follow w.number w.clock u.clock v.clock w.passes.items u.passes.items v.passes.items (a.turn ∷ []) drops.turns a.took drops.took;
        told = (a.turn, drops.turns, refl, a.is, drops.only, drops.each, l.1 ∙ place);
        stamped = tt;
      }
  rolls_told (Ok DownOut) number fits wants stamped place a l tx touched = record {
    turns = a.turn ∷ [];
    took = subst (λ (z : Walker M S G). Took w.number w.clock w.passes.items (a.turn ∷ []) z.clock z.passes.items) (sym l.0) a.took;
    told = (refl, (a.turn, refl, a.is, l.1 ∙ place));
    stamped = tt;
  }
  rolls_told (Ok _) number fits wants stamped place a l tx touched = absurd (both_ways false refl fits)
  rolls_told (Err (IsWorn at)) number fits wants stamped place a l tx touched = record {
    turns = a.turn ∷ [];
    took = subst (λ (z : Walker M S G). Took w.number w.clock w.passes.items (a.turn ∷ []) z.clock z.passes.items) (sym l.0) a.took;
    told = (refl, (a.turn, refl, a.is, l.1 ∙ place));
    stamped = tt;
  }
  rolls_told (Err Memory) number fits wants stamped place a l tx touched = absurd (wants refl)

  -- its shard is past the epoch where it was down, or the clock is at its end
  pub rolls_past : (x : Result Outcome StepError) → IfOk x (λ o. is_back_outcome o ≡ true) → ((seen : ℕ) → lookup (◌==◌ n) p.touched ≡ Some seen → ReachedAt n seen w.passes.items) → Asked x → Left x → PastBy n p (back_as n x) v
  rolls_past (Ok Rolled) fits reached a l = tt
  rolls_past (Ok (Dead cause)) fits reached a l = tt
  rolls_past (Ok DownOut) fits reached a l = λ seen h.
      subst (λ (z : Walker M S G). PastAt n seen z.passes.items) (sym l.0)
      (down_is_past n w.number w.clock u.clock seen w.passes.items u.passes.items a.turn a.took a.is.shard a.is.answer (reached seen h))
  rolls_past (Ok _) fits reached a l = absurd (both_ways false refl fits)
  rolls_past (Err (IsWorn at)) fits reached a l =
      subst (λ (z : Walker M S G). 2 ^ 48 - 1 ≤ z.clock) (sym l.0) (worn_is_last at w.number w.clock u.clock w.passes.items u.passes.items (a.turn ∷ []) a.took (inl a.is.answer)).1
  rolls_past (Err Memory) fits reached a l = tt

  pub rolls_stand : (x : Result Outcome StepError) → StandsBack n sh u m x → Left x → StandsUnless (has_died (back_as n x)) sh v q
  rolls_stand (Ok (Dead cause)) h l = left_ended sh u v m q n h.0.born h.1 l.0 l.1 l.2
  rolls_stand (Ok _) h l = subst (λ z. IsActive sh z q) (sym l.0) (subst (IsActive sh u) (sym l.1) h)
  rolls_stand (Err (IsWorn at)) h l = subst (λ z. IsActive sh z q) (sym l.0) (subst (IsActive sh u) (sym l.1) h)
  rolls_stand (Err Memory) h l = subst (λ z. IsActive sh z q) (sym l.0) (subst (IsActive sh u) (sym l.1) h)
