-- One look at a request, and a round after it.
use Rattle.std.proofs.Common.{◌≡◌, ◌∙◌, refl, sym, ap, subst, ℕ, true, false, List, [], ◌∷◌, ◌++◌, append_assoc, Option, Some, None, Result, Ok, Err, inl, inr}
use Rattle.std.proofs.lemmas.Bool.{both_ways}
use Rattle.clv_base.specs.declared.names.TxId.{TxId}
use Rattle.clv_base.specs.declared.names.Point.{Point}
use Rattle.clv_base.specs.declared.events.Event.TheVariants.{Look}
use Rattle.clv_base.specs.declared.events.Outcome.{Outcome}
use Rattle.clv_base.specs.declared.events.Outcome.TheVariants.{Acknowledged, Aborted as AbortedOut, NotYet, Down as DownOut}
use Rattle.clv_base.specs.Sessions.{SessionState}
use Rattle.turn_lock.specs.declared.pass.Pass.{Pass}
use Rattle.machine_calls.specs.declared.machine.StepError.{StepError}
use Rattle.machine_calls.specs.declared.machine.StepError.TheVariants.{Memory as NoMemory, Worn as IsWorn}
use Rattle.machine_laws.specs.declared.notes.Note.{Note}
use Rattle.machine_laws.specs.declared.notes.Origin.{Origin}
use Rattle.cluster_turns.specs.declared.shards.Shards.{Shards}
use Rattle.cluster_turns.specs.declared.shards.Walker.{Walker}
use Rattle.cluster_turns.specs.Walkers.{Looked}
use Rattle.cluster_turns.specs.CallTurns.{Turn, no_turn, horizon_look, AnyTurn, AreOthers}
use Rattle.cluster_turns.proofs.Laws.{turns_follow}
use Rattle.session_ops.specs.declared.parts.RoundError.{RoundError}
use Rattle.session_ops.specs.declared.parts.RoundError.TheVariants.{Down as RoundDown, Worn as RoundWorn, Memory as RoundMemory}
use Rattle.session_ops.specs.Rounds.{EndedBy, Rounded, RestsBy, RoundRests}
use Rattle.session_ops.specs.Standing.{AskTold}
use Rattle.session_ops.specs.Looked.{is_look_outcome, place_looked, LookStands}
use Rattle.session_ops.specs.declared.settled_looking.SettleError.{SettleError}
use Rattle.session_ops.specs.declared.settled_looking.SettleError.TheVariants.{Aborted, Unsettled, Worn, Memory}
use Rattle.session_ops.specs.Settled.{looked_as, refusal_of, IsLook, Acknowledges, IsTouched, IsHeldUp, SettledBy, PlacedBy, OnlyLooks, Settling, StandsBy}
use Rattle.law_base.proofs.Shards.{is_told}
use Rattle.session_ops.proofs.Seeing.{happens_fits}
use Rattle.session_ops.proofs.Pointing.{stamp_told}
use Rattle.session_ops.proofs.Parting.{all_append}
use Rattle.session_ops.proofs.Parting.{any_after, any_before}
use Rattle.session_ops.proofs.Rounding.{ended_after, others_follow}
use Rattle.session_ops.proofs.Noting.{rests_after}

looked_told : (count n c : ℕ) (p : SessionState) (r : Result Outcome StepError) (t : Turn) → ((o : Outcome) → r ≡ Ok o → is_look_outcome o ≡ true) → (r ≡ Ok Acknowledged → Acknowledges n p.tx (record { stamp = c; shard = n }) t) → t.shard ≡ n → t.event ≡ Look p.tx → t.answer ≡ r
    → SettledBy count n p (looked_as n c r) (t ∷ [])
looked_told count n c p (Ok Acknowledged) t fits at s k h = inl (at refl)
looked_told count n c p (Ok (AbortedOut cause)) t fits at s k h = inl (s, k, h)
looked_told count n c p (Ok NotYet) t fits at s k h = inl (s, k, h)
looked_told count n c p (Ok DownOut) t fits at s k h = (inl (s, inl h), inl refl)
looked_told count n c p (Ok o) t fits at s k h = absurd (both_ways false refl (fits o refl))
looked_told count n c p (Err NoMemory) t fits at s k h = tt
looked_told count n c p (Err (IsWorn x)) t fits at s k h = inl h

pub looked_placed : (n c : ℕ) (p : SessionState) (r : Result Outcome StepError) → PlacedBy p (looked_as n c r) (place_looked p r)
looked_placed n c p (Ok Acknowledged) = refl
looked_placed n c p (Ok (AbortedOut cause)) = refl
looked_placed n c p (Ok NotYet) = refl
looked_placed n c p (Ok o) = refl
looked_placed n c p (Err NoMemory) = refl
looked_placed n c p (Err (IsWorn at)) = refl

module _ {M S G : Type 0} where
  pub looked_stands : (sh : Shards M S G) (w : Walker M S G) (n c : ℕ) (q : SessionState) (r : Result Outcome StepError) → LookStands sh w q n r → StandsBy sh w q n (looked_as n c r)
  looked_stands sh w n c q (Ok Acknowledged) h = h
  looked_stands sh w n c q (Ok (AbortedOut cause)) h = h
  looked_stands sh w n c q (Ok NotYet) h = h
  looked_stands sh w n c q (Ok o) h = h
  looked_stands sh w n c q (Err NoMemory) h = h
  looked_stands sh w n c q (Err (IsWorn at)) h = h

module _ {T : Type 0} where
  pub looked_once : (count w c d : ℕ) (ps qs : List (Option (Pass T Note Origin))) (n : ℕ) (p : SessionState) (r : Result Outcome StepError) → ((o : Outcome) → r ≡ Ok o → is_look_outcome o ≡ true) → AskTold w c ps n (Look p.tx) r d qs
      → Settling count w c ps n p (looked_as n d r) d qs
  looked_once count w c d ps qs n p r fits a = record { turns = a.turn ∷ []; took = a.took; only = (inr a.event_is, tt); told = looked_told count n d p r a.turn fits acked a.shard_is a.event_is a.answer_is }
    where
      acked : r ≡ Ok Acknowledged → Acknowledges n p.tx (record { stamp = d; shard = n }) a.turn
      acked is =
          let found = stamp_told (Look p.tx) Acknowledged is_told (λ s. (happens_fits s p.tx).0) refl w c d ps qs (a.turn ∷ []) a.took a.turn refl a.event_is (a.answer_is ∙ is) in
          ((a.shard_is, a.event_is, a.answer_is ∙ is), (found.0, found.1, ap (λ z. record { stamp = z; shard = n }) found.2))

-- ---- turns after turns

held_after : (count n : ℕ) (tx : TxId) (touched : List (ℕ × ℕ)) (m : ℕ) (xs ys : List Turn) → IsHeldUp count n tx touched m ys → IsHeldUp count n tx touched m (xs ++ ys)
held_after count n tx touched m xs ys h = record {
  before = xs ++ h.before;
  round = h.round;
  are = ap (λ (l : List Turn). xs ++ l) h.are ∙ sym (append_assoc xs h.before h.round);
  waits = any_after _ xs h.before h.waits;
  others = h.others;
  down = h.down;
  needs = h.needs;
}

told_after : (count n : ℕ) (p : SessionState) (r : Result (Option Point) SettleError) (xs ys : List Turn) → SettledBy count n p r ys → SettledBy count n p r (xs ++ ys)
told_after count n p (Ok (Some point)) xs ys h = any_after _ xs ys h
told_after count n p (Ok None) xs ys h = any_after _ xs ys h
told_after count n p (Err (Aborted cause)) xs ys h = any_after _ xs ys h
told_after count n p (Err (Unsettled m)) xs ys (down, inl own) = (any_after _ xs ys down, inl own)
told_after count n p (Err (Unsettled m)) xs ys (down, inr held) = (any_after _ xs ys down, inr (held_after count n p.tx p.touched m xs ys held))
told_after count n p (Err (Worn at)) xs ys h = any_after _ xs ys h
told_after count n p (Err Memory) xs ys h = tt

-- an early end of a round, after a wait
round_told : (A : Type 0) (count n : ℕ) (p : SessionState) (x : RoundError) (xs ys : List Turn) → AnyTurn (IsLook n p.tx NotYet) xs → AreOthers ys → EndedBy {A = A} (Err x) ys → RestsBy {A = A} count (IsTouched p.touched) (Err x) ys
    → SettledBy count n p (Err (refusal_of x)) (xs ++ ys)
round_told A count n p (RoundDown m) xs ys w others h needs = (any_after _ xs ys h, inr (record { before = xs; round = ys; are = refl; waits = w; others = others; down = h; needs = needs }))
round_told A count n p (RoundWorn at) xs ys w others h needs = any_after _ xs ys h
round_told A count n p RoundMemory xs ys w others h needs = tt

others_only : (tx : TxId) (ts : List Turn) → AreOthers ts → OnlyLooks tx ts
others_only tx [] h = tt
others_only tx (t ∷ ts) h = (inl h.0, others_only tx ts h.1)

module _ {T : Type 0} where
  pub then_settled : (count w c d f : ℕ) (ps qs rs : List (Option (Pass T Note Origin))) (n : ℕ) (p : SessionState) (q r : Result (Option Point) SettleError) → Settling count w c ps n p q d qs → Settling count w d qs n p r f rs → Settling count w c ps n p r f rs
  then_settled count w c d f ps qs rs n p q r a b = record {
    turns = a.turns ++ b.turns;
    took = turns_follow w c d f ps qs rs a.turns b.turns a.took b.took;
    only = all_append _ a.turns b.turns a.only b.only;
    told = told_after count n p r a.turns b.turns b.told;
  }

  pub none_settled : (count w c : ℕ) (ps : List (Option (Pass T Note Origin))) (n : ℕ) (p : SessionState) → Settling count w c ps n p (Err Memory) c ps
  none_settled count w c ps n p = record { turns = []; took = no_turn c ps; only = tt; told = tt }

  pub some_settled : (count w c d : ℕ) (ps qs : List (Option (Pass T Note Origin))) (n : ℕ) (p : SessionState) (r : Result (Option Point) SettleError) → Settling count w c ps n p r d qs → Settling count w c ps n p (Err Memory) d qs
  some_settled count w c d ps qs n p r a = record { turns = a.turns; took = a.took; only = a.only; told = tt }

  pub round_settled : {A : Type 0} (count w c d : ℕ) (ps qs : List (Option (Pass T Note Origin))) (n : ℕ) (p : SessionState) (x : Result A RoundError) → Rounded w c ps x d qs → Settling count w c ps n p (Err Memory) d qs
  round_settled count w c d ps qs n p x b = record { turns = b.turns; took = b.took; only = others_only p.tx b.turns b.others; told = tt }

  -- a wait, and a round after it
  pub waited : {A : Type 0} (count w c d f : ℕ) (ps qs rs : List (Option (Pass T Note Origin))) (n : ℕ) (p : SessionState) (x : Result A RoundError) → Settling count w c ps n p (Ok None) d qs → Rounded w d qs x f rs → Settling count w c ps n p (Ok None) f rs
  waited count w c d f ps qs rs n p x a b = record {
    turns = a.turns ++ b.turns;
    took = turns_follow w c d f ps qs rs a.turns b.turns a.took b.took;
    only = all_append _ a.turns b.turns a.only (others_only p.tx b.turns b.others);
    told = any_before _ a.turns b.turns a.told;
  }

  pub waited_ends : (A : Type 0) (count w c d f : ℕ) (ps qs rs : List (Option (Pass T Note Origin))) (n : ℕ) (p : SessionState) (x : RoundError) → Settling count w c ps n p (Ok None) d qs → RoundRests {A = A} count (IsTouched p.touched) w d qs (Err x) f rs
      → Settling count w c ps n p (Err (refusal_of x)) f rs
  waited_ends A count w c d f ps qs rs n p x a b = record {
    turns = a.turns ++ b.round.turns;
    took = turns_follow w c d f ps qs rs a.turns b.round.turns a.took b.round.took;
    only = all_append _ a.turns b.round.turns a.only (others_only p.tx b.round.turns b.round.others);
    told = round_told A count n p x a.turns b.round.turns a.told b.round.others b.round.ended b.rests;
  }

module _ {M S G : Type 0} where
  -- more turns at the same request, by the same walker
  pub more_settled : (count : ℕ) (w u v : Walker M S G) (n : ℕ) (p q : SessionState) (r x : Result (Option Point) SettleError) → u.number ≡ w.number → q ≡ p → Settling count w.number w.clock w.passes.items n p r u.clock u.passes.items
      → Settling count u.number u.clock u.passes.items n q x v.clock v.passes.items → Settling count w.number w.clock w.passes.items n p x v.clock v.passes.items
  more_settled count w u v n p q r x same at a b =
      then_settled count w.number w.clock u.clock v.clock w.passes.items u.passes.items v.passes.items n p r x a
      (subst (λ k. Settling count k u.clock u.passes.items n p x v.clock v.passes.items) same
      (subst (λ (z : SessionState). Settling count u.number u.clock u.passes.items n z x v.clock v.passes.items) at b))

-- ---- rounds

module _ {T A B : Type 0} where
  pub rounds_follow : (w c d e : ℕ) (ps qs rs : List (Option (Pass T Note Origin))) (q : Result A RoundError) (r : Result B RoundError) → Rounded w c ps q d qs → Rounded w d qs r e rs → Rounded w c ps r e rs
  rounds_follow w c d e ps qs rs q r a b = record {
    turns = a.turns ++ b.turns;
    took = turns_follow w c d e ps qs rs a.turns b.turns a.took b.took;
    others = others_follow a.turns b.turns a.others b.others;
    ended = ended_after r a.turns b.turns b.ended;
  }

module _ {T A B : Type 0} where
  -- after other turns it ends as it does
  pub rests_follow : (count : ℕ) (Needs : ℕ → Type 0) (w c d e : ℕ) (ps qs rs : List (Option (Pass T Note Origin))) (q : Result A RoundError) (r : Result B RoundError) → Rounded w c ps q d qs → RoundRests count Needs w d qs r e rs → RoundRests count Needs w c ps r e rs
  rests_follow count Needs w c d e ps qs rs q r a b = record {
    round = record {
      turns = a.turns ++ b.round.turns;
      took = turns_follow w c d e ps qs rs a.turns b.round.turns a.took b.round.took;
      others = others_follow a.turns b.round.turns a.others b.round.others;
      ended = ended_after r a.turns b.round.turns b.round.ended;
    };
    rests = rests_after count Needs r a.turns b.round.turns b.rests;
  }

module _ {T A : Type 0} where
  pub no_round : (w c : ℕ) (ps : List (Option (Pass T Note Origin))) (a : A) → Rounded {T = T} {A = A} w c ps (Ok a) c ps
  no_round w c ps a = record { turns = []; took = no_turn c ps; others = tt; ended = tt }

  -- a look at a horizon takes no turn
  pub looked_round : (w c : ℕ) (ps qs : List (Option (Pass T Note Origin))) (n horizon : ℕ) (a : A) → Looked n ps horizon qs → Rounded {T = T} {A = A} w c ps (Ok a) c qs
  looked_round w c ps qs n horizon a l = record { turns = []; took = horizon_look c c n horizon ps qs qs [] l (no_turn c qs); others = tt; ended = tt }
