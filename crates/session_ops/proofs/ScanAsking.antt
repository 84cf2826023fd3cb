-- From a request's answer to what a commit tells.
use Rattle.std.proofs.Common.{◌≡◌, refl, sym, ap, subst, ℕ, ◌<◌, true, false, List, [], ◌∷◌, length, Option, Result, Ok, Err, arith, inl, eqb-true}
use Rattle.std.specs.Prelude.{IfOk}
use Rattle.std.specs.List.{AllByRecursion}
use Rattle.std.proofs.lemmas.Bool.{both_ways}
use Rattle.clv_base.specs.declared.names.Point.{Point}
use Rattle.clv_base.specs.declared.events.Event.TheVariants.{Request}
use Rattle.clv_base.specs.declared.events.Outcome.{Outcome}
use Rattle.clv_base.specs.declared.events.Outcome.TheVariants.{Asked, Dead, Down as DownOut}
use Rattle.clv_base.specs.Shards.{shard_count}
use Rattle.clv_base.specs.Sessions.{SessionState, Phase, Ended, Standing, is_lowest, may_drop}
use Rattle.turn_lock.specs.declared.pass.Pass.{Pass}
use Rattle.machine_calls.specs.declared.machine.StepError.{StepError}
use Rattle.machine_calls.specs.declared.machine.StepError.TheVariants.{Memory as NoMemory, Worn as IsWorn}
use Rattle.machine_laws.specs.declared.notes.Note.{Note}
use Rattle.machine_laws.specs.declared.notes.Origin.{Origin}
use Rattle.cluster_turns.specs.declared.shards.Shards.{Shards}
use Rattle.cluster_turns.specs.declared.shards.Walker.{Walker}
use Rattle.cluster_turns.specs.Walkers.{kept}
use Rattle.cluster_turns.proofs.Laws.{touched_are_last, touched_are_shards}
use Rattle.cluster_turns.specs.CallTurns.{Turn, no_turn}
use Rattle.cluster_turns.proofs.Laws.{turns_follow}
use Rattle.session_ops.specs.Standing.{IsActive}
use Rattle.session_ops.specs.Requested.{is_request_outcome, place_requested, RequestTold, RequestStands}
use Rattle.session_ops.specs.declared.settled_looking.SettleError.{SettleError}
use Rattle.session_ops.specs.declared.settled_looking.SettleError.TheVariants.{Aborted as SettleAborted, Unsettled as SettleUnsettled, Worn as SettleWorn, Memory as SettleMemory}
use Rattle.session_ops.specs.declared.committing.Settled.{Settled}
use Rattle.session_ops.specs.declared.committing.CommitError.{CommitError}
use Rattle.session_ops.specs.declared.committing.Next.{Next}
use Rattle.session_ops.specs.declared.committing.Next.TheVariants.{Refuses}
use Rattle.session_ops.specs.Decided.{DecidedBy, IsLookOrDrop}
use Rattle.session_ops.specs.Committed.{CommittedBy, next_as, FollowedBy, Following, Committing, Answering}
use Rattle.law_base.proofs.Lists.{lowest_some as some_touched}
use Rattle.session_ops.proofs.Pointing.{request_stays, request_made}

-- ---- which shards

lowest_within : (splits : List ℕ) (n : ℕ) (ts : List (ℕ × ℕ)) → is_lowest n ts ≡ true → AllByRecursion (λ x. x.0 < shard_count splits) ts → n < shard_count splits
lowest_within splits n [] h a = absurd (both_ways false refl h)
lowest_within splits n (t ∷ ts) h a = subst (λ k. k < shard_count splits) (sym (let e : n ≡ t.0 = eqb-true n t.0 h in e)) a.0

module _ {M S G : Type 0} (sh : Shards M S G) where
  pub lowest_is_shard : (w : Walker M S G) (p : SessionState) (n : ℕ) → IsActive sh w p → is_lowest n p.touched ≡ true → n < length sh.locks.items
  lowest_is_shard w p n a low =
      let same : p ≡ a.state = touched_are_last a.state p a.goes (inl (some_touched n p.touched low)) in
      let all = touched_are_shards sh.splits sh.run w.number (kept w.passes.items) a.state a.ready.state in
      let l : n < shard_count sh.splits = lowest_within sh.splits n (a.state).touched (subst (λ (z : SessionState). is_lowest n z.touched ≡ true) same low) all in
      let c = a.ready.walker.count in omega arith

  -- ---- what the request was answered

  pub answers : (w : Walker M S G) (p q : SessionState) (n : ℕ) (x : Result Outcome StepError) → IfOk x (λ o. is_request_outcome o ≡ true) → q ≡ place_requested n p x → RequestStands sh w q n x → Answering sh w q n (next_as n x)
  answers w p q n (Ok Asked) fits place h = h
  answers w p q n (Ok (Dead cause)) fits place h = let phase : q.phase ≡ Ended = ap (λ z. z.phase) place in (record { over = h.0; may = ap may_drop phase }, phase, h.1)
  answers w p q n (Ok DownOut) fits place h = h
  answers w p q n (Ok o) fits place h = absurd (both_ways false refl fits)
  answers w p q n (Err NoMemory) fits place h = h
  answers w p q n (Err (IsWorn at)) fits place h = h

  abbrev Follows : Walker M S G → Walker M S G → ℕ → SessionState → Point → Next → Result Settled CommitError → SessionState → Type 0
  Follows w v n p asked x r q = Following (length sh.locks.items) w.number w.clock w.passes.items n p asked x r v.clock v.passes.items q

  -- nothing follows
  pub follows_none : (w : Walker M S G) (n : ℕ) (p : SessionState) (asked : Point) (e : CommitError) → Follows w w n p asked (Refuses e) (Err e) p
  follows_none w n p asked e = record { turns = []; took = no_turn w.clock w.passes.items; only = tt; told = (refl, refl, refl) }

-- ---- the request before

decided_before : (count n : ℕ) (p : SessionState) (x : Phase) (d : Result Point SettleError) (ts : List Turn) (q : SessionState) → DecidedBy count n (record p { phase = x }) d ts q → DecidedBy count n p d ts q
decided_before count n p x (Ok point) ts q h = h
decided_before count n p x (Err (SettleAborted cause)) ts q h = h
decided_before count n p x (Err (SettleUnsettled m)) ts q h = h
decided_before count n p x (Err (SettleWorn at)) ts q h = h
decided_before count n p x (Err SettleMemory) ts q h = h

told_before : (count n : ℕ) (p : SessionState) (asked : Point) (x : Result Outcome StepError) (r : Result Settled CommitError) (ts : List Turn) (q : SessionState) → IfOk x (λ o. is_request_outcome o ≡ true)
    → FollowedBy count n (place_requested n p x) asked (next_as n x) r ts q → CommittedBy count n p asked x r ts q
told_before count n p asked (Ok Asked) r ts q fits (d, is, h) = (d, is, decided_before count n p (Standing n) d ts q h)
told_before count n p asked (Ok (Dead cause)) r ts q fits h = h
told_before count n p asked (Ok DownOut) r ts q fits h = h
told_before count n p asked (Ok o) r ts q fits h = absurd (both_ways false refl fits)
told_before count n p asked (Err NoMemory) r ts q fits h = h
told_before count n p asked (Err (IsWorn at)) r ts q fits h = h

same_request : (n : ℕ) (p : SessionState) (x : Result Outcome StepError) → ((place_requested n p x).tx ≡ p.tx) × ((place_requested n p x).touched ≡ p.touched)
same_request n p (Ok Asked) = (refl, refl)
same_request n p (Ok (Dead cause)) = (refl, refl)
same_request n p (Ok o) = (refl, refl)
same_request n p (Err e) = (refl, refl)

module _ {T : Type 0} where
  pub committing : (count w k c d e n : ℕ) (ps qs rs : List (Option (Pass T Note Origin))) (p m q : SessionState) (x : Result Outcome StepError) (y : Next) (r : Result Settled CommitError) → k ≡ w → m ≡ place_requested n p x → y ≡ next_as n x
      → IfOk x (λ o. is_request_outcome o ≡ true) → RequestTold w c ps n (Request p.tx p.touched) x d qs → Following count k d qs n m (record { stamp = d; shard = n }) y r e rs q → Committing count w c ps n p d r e rs q
  committing count w k c d e n ps qs rs p m q x y r number place next fits a f =
      let asked : Point = record { stamp = d; shard = n } in
      let after : Following count w d qs n (place_requested n p x) asked (next_as n x) r e rs q =
      subst (λ z. Following count w d qs n (place_requested n p x) asked z r e rs q) next
      (subst (λ (z : SessionState). Following count w d qs n z asked y r e rs q) place (subst (λ (i : ℕ). Following count i d qs n m asked y r e rs q) number f)) in
      record {
        answer = x;
        asking = a.turns;
        rest = after.turns;
        took = turns_follow w c d e ps qs rs a.turns after.turns a.took after.took;
        asked = a.is;
        stamped = a.stamped;
        requested = λ is. request_stays w d e qs rs after.turns p asked after.took (request_made w c d n ps qs p (subst (λ (z : Result Outcome StepError). RequestTold w c ps n (Request p.tx p.touched) z d qs) is a));
        only = subst (λ ts. AllByRecursion (λ t. IsLookOrDrop p.tx ts n t) after.turns) (same_request n p x).1
            (subst (λ y. AllByRecursion (λ t. IsLookOrDrop y (place_requested n p x).touched n t) after.turns) (same_request n p x).0 after.only);
        told = told_before count n p (record { stamp = d; shard = n }) x r after.turns q fits after.told;
      }
