-- One try of an operation, and a round after it.
use Rattle.std.proofs.Common.{◌≡◌, refl, sym, subst, ℕ, ◌==◌, true, false, List, [], ◌∷◌, ◌++◌, Option, Some, None, Result, Ok, Err, inl, inr}
use Rattle.std.specs.Map.{lookup}
use Rattle.std.proofs.lemmas.Bool.{both_ways}
use Rattle.clv_base.specs.declared.names.Birth.{Birth}
use Rattle.clv_base.specs.declared.ops.Op.{Op as Operation}
use Rattle.clv_base.specs.declared.ops.Answer.{Answer}
use Rattle.clv_base.specs.declared.events.Event.{Event}
use Rattle.clv_base.specs.declared.events.Event.TheVariants.{Op}
use Rattle.clv_base.specs.declared.events.Outcome.{Outcome}
use Rattle.clv_base.specs.declared.events.Outcome.TheVariants.{Answered, Dead, Wait, Crowded, Down as DownOut}
use Rattle.clv_base.specs.Sessions.{SessionState}
use Rattle.turn_lock.specs.declared.pass.Pass.{Pass}
use Rattle.machine_calls.specs.declared.machine.StepError.{StepError}
use Rattle.machine_calls.specs.declared.machine.StepError.TheVariants.{Memory as NoMemory, Worn as IsWorn}
use Rattle.machine_laws.specs.declared.notes.Note.{Note}
use Rattle.machine_laws.specs.declared.notes.Origin.{Origin}
use Rattle.cluster_turns.specs.CallTurns.{Turn, no_turn, AnyTurn, AreOthers}
use Rattle.cluster_turns.proofs.Laws.{turns_follow}
use Rattle.session_ops.specs.declared.parts.RoundError.{RoundError}
use Rattle.session_ops.specs.declared.parts.RoundError.TheVariants.{Down as RoundDown, Worn as RoundWorn, Memory as RoundMemory}
use Rattle.session_ops.specs.Rounds.{EndedBy, Rounded}
use Rattle.session_ops.specs.declared.operating.OpError.{OpError}
use Rattle.session_ops.specs.declared.operating.OpError.TheVariants.{Aborted, Down, Worn, Memory}
use Rattle.session_ops.specs.Standing.{IsTurnOf, TryTold, is_op_outcome, place_after, StandsAfter}
use Rattle.session_ops.specs.Operated.{tried, refusal_of, Waits, ToldBy, PlacedBy, OnlyOf, Operated, StandsBy}
use Rattle.session_ops.proofs.Parting.{all_append, any_after, any_before}

tried_told : (n : ℕ) (e : Event) (r : Result Outcome StepError) (t : Turn) → ((o : Outcome) → r ≡ Ok o → is_op_outcome o ≡ true) → t.shard ≡ n → t.event ≡ e → t.answer ≡ r → ToldBy n e (tried n r) (t ∷ [])
tried_told n e (Ok (Answered answer epoch)) t fits s k h = inl (s, k, (epoch, h))
tried_told n e (Ok (Dead cause)) t fits s k h = inl (s, k, h)
tried_told n e (Ok (Wait younger)) t fits s k h = inl (s, k, inl (younger, h))
tried_told n e (Ok (Crowded count)) t fits s k h = inl (s, k, inr (count, h))
tried_told n e (Ok DownOut) t fits s k h = (inl (s, inl h), inl refl)
tried_told n e (Ok o) t fits s k h = absurd (both_ways false refl (fits o refl))
tried_told n e (Err NoMemory) t fits s k h = tt
tried_told n e (Err (IsWorn at)) t fits s k h = inl h

-- in one turn, or in none
tried_by : (n : ℕ) (e : Event) (r : Result Outcome StepError) (ts : List Turn) → ((o : Outcome) → r ≡ Ok o → is_op_outcome o ≡ true) → IsTurnOf n e r ts → OnlyOf e ts × ToldBy n e (tried n r) ts
tried_by n e r ts fits (inl (is, none)) = (subst (OnlyOf e) (sym none) tt, subst (λ x. ToldBy n e (tried n x) ts) (sym is) tt)
tried_by n e r ts fits (inr (t, one, s, k, h)) = (subst (OnlyOf e) (sym one) (inr k, tt), subst (ToldBy n e (tried n r)) (sym one) (tried_told n e r t fits s k h))

pub tried_placed : (n nth : ℕ) (op : Operation) (p : SessionState) (r : Result Outcome StepError) → PlacedBy n nth op p (tried n r) (place_after n nth op p r)
tried_placed n nth op p (Ok (Answered answer epoch)) = (epoch, refl)
tried_placed n nth op p (Ok (Dead cause)) = refl
tried_placed n nth op p (Ok (Wait younger)) = refl
tried_placed n nth op p (Ok (Crowded count)) = refl
tried_placed n nth op p (Ok o) = refl
tried_placed n nth op p (Err NoMemory) = refl
tried_placed n nth op p (Err (IsWorn at)) = refl

module _ {M S G : Type 0} where
  pub tried_stands : (sh : Rattle.cluster_turns.specs.declared.shards.Shards.Shards M S G) (w : Rattle.cluster_turns.specs.declared.shards.Walker.Walker M S G) (n : ℕ) (q : SessionState) (r : Result Outcome StepError) → StandsAfter n sh w q r → StandsBy n sh w q (tried n r)
  tried_stands sh w n q (Ok (Answered answer epoch)) h = h
  tried_stands sh w n q (Ok (Dead cause)) h = h
  tried_stands sh w n q (Ok (Wait younger)) h = h
  tried_stands sh w n q (Ok (Crowded count)) h = h
  tried_stands sh w n q (Ok o) h = h
  tried_stands sh w n q (Err NoMemory) h = h
  tried_stands sh w n q (Err (IsWorn at)) h = h

module _ {T : Type 0} where
  pub tried_once : (w c d : ℕ) (ps qs : List (Option (Pass T Note Origin))) (n : ℕ) (e : Event) (r : Result Outcome StepError) → ((o : Outcome) → r ≡ Ok o → is_op_outcome o ≡ true) → TryTold w c ps n e r d qs → Operated w c ps n e (tried n r) d qs
  tried_once w c d ps qs n e r fits a = record { turns = a.turns; took = a.took; only = (tried_by n e r a.turns fits a.is).0; told = (tried_by n e r a.turns fits a.is).1 }

-- ---- turns after turns

told_after : (n : ℕ) (e : Event) (r : Result (Option Answer) OpError) (xs ys : List Turn) → ToldBy n e r ys → ToldBy n e r (xs ++ ys)
told_after n e (Ok (Some answer)) xs ys h = any_after _ xs ys h
told_after n e (Ok None) xs ys h = any_after _ xs ys h
told_after n e (Err (Aborted cause)) xs ys h = any_after _ xs ys h
told_after n e (Err (Down m)) xs ys (down, inl own) = (any_after _ xs ys down, inl own)
told_after n e (Err (Down m)) xs ys (down, inr waits) = (any_after _ xs ys down, inr (any_after _ xs ys waits))
told_after n e (Err (Worn at)) xs ys h = any_after _ xs ys h
told_after n e (Err Memory) xs ys h = tt

-- an early end of a round, after a wait
round_told : (A : Type 0) (n : ℕ) (e : Event) (x : RoundError) (xs ys : List Turn) → AnyTurn (Waits n e) xs → EndedBy {A = A} (Err x) ys → ToldBy n e (Err (refusal_of x)) (xs ++ ys)
round_told A n e (RoundDown m) xs ys w h = (any_after _ xs ys h, inr (any_before _ xs ys w))
round_told A n e (RoundWorn at) xs ys w h = any_after _ xs ys h
round_told A n e RoundMemory xs ys w h = tt

others_only : (e : Event) (ts : List Turn) → AreOthers ts → OnlyOf e ts
others_only e [] h = tt
others_only e (t ∷ ts) h = (inl h.0, others_only e ts h.1)

module _ {T : Type 0} where
  pub then_tried : (w c d f : ℕ) (ps qs rs : List (Option (Pass T Note Origin))) (n : ℕ) (e : Event) (q r : Result (Option Answer) OpError) → Operated w c ps n e q d qs → Operated w d qs n e r f rs → Operated w c ps n e r f rs
  then_tried w c d f ps qs rs n e q r a b = record {
    turns = a.turns ++ b.turns;
    took = turns_follow w c d f ps qs rs a.turns b.turns a.took b.took;
    only = all_append _ a.turns b.turns a.only b.only;
    told = told_after n e r a.turns b.turns b.told;
  }

  pub none_tried : (w c : ℕ) (ps : List (Option (Pass T Note Origin))) (n : ℕ) (e : Event) → Operated w c ps n e (Err Memory) c ps
  none_tried w c ps n e = record { turns = []; took = no_turn c ps; only = tt; told = tt }

  pub some_tried : (w c d : ℕ) (ps qs : List (Option (Pass T Note Origin))) (n : ℕ) (e : Event) (r : Result (Option Answer) OpError) → Operated w c ps n e r d qs → Operated w c ps n e (Err Memory) d qs
  some_tried w c d ps qs n e r a = record { turns = a.turns; took = a.took; only = a.only; told = tt }

  -- a wait, and a round after it
  pub waited : {A : Type 0} (w c d f : ℕ) (ps qs rs : List (Option (Pass T Note Origin))) (n : ℕ) (e : Event) (x : Result A RoundError) → Operated w c ps n e (Ok None) d qs → Rounded w d qs x f rs → Operated w c ps n e (Ok None) f rs
  waited w c d f ps qs rs n e x a b = record {
    turns = a.turns ++ b.turns;
    took = turns_follow w c d f ps qs rs a.turns b.turns a.took b.took;
    only = all_append _ a.turns b.turns a.only (others_only e b.turns b.others);
    told = any_before _ a.turns b.turns a.told;
  }

  pub waited_ends : (A : Type 0) (w c d f : ℕ) (ps qs rs : List (Option (Pass T Note Origin))) (n : ℕ) (e : Event) (x : RoundError) → Operated w c ps n e (Ok None) d qs → Rounded {A = A} w d qs (Err x) f rs → Operated w c ps n e (Err (refusal_of x)) f rs
  waited_ends A w c d f ps qs rs n e x a b = record {
    turns = a.turns ++ b.turns;
    took = turns_follow w c d f ps qs rs a.turns b.turns a.took b.took;
    only = all_append _ a.turns b.turns a.only (others_only e b.turns b.others);
    told = round_told A n e x a.turns b.turns a.told b.ended;
  }

-- ---- the loop

module _ {M S G : Type 0} where
  -- more turns of the same operation, by the same walker at the same place
  pub more_tried : (w u v : Rattle.cluster_turns.specs.declared.shards.Walker.Walker M S G) (n nth : ℕ) (op : Operation) (birth : Birth) (p q : SessionState) (r x : Result (Option Answer) OpError) → u.number ≡ w.number → q ≡ p
      → Operated w.number w.clock w.passes.items n (Op p.tx birth nth (lookup (◌==◌ n) p.touched) op) r u.clock u.passes.items → Operated u.number u.clock u.passes.items n (Op q.tx birth nth (lookup (◌==◌ n) q.touched) op) x v.clock v.passes.items
      → Operated w.number w.clock w.passes.items n (Op p.tx birth nth (lookup (◌==◌ n) p.touched) op) x v.clock v.passes.items
  more_tried w u v n nth op birth p q r x same at a b =
      then_tried w.number w.clock u.clock v.clock w.passes.items u.passes.items v.passes.items n (Op p.tx birth nth (lookup (◌==◌ n) p.touched) op) r x a
      (subst (λ k. Operated k u.clock u.passes.items n (Op p.tx birth nth (lookup (◌==◌ n) p.touched) op) x v.clock v.passes.items) same
      (subst (λ z. Operated u.number u.clock u.passes.items n (Op z.tx birth nth (lookup (◌==◌ n) z.touched) op) x v.clock v.passes.items) at b))
