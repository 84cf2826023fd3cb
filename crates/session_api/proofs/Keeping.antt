-- What a session's calls leave.
use Rattle.std.proofs.Common.{◌≡◌, refl, sym, subst, ℕ, Bool, true, false, List, ◌++◌, length, None, Result, Ok, Err, inl, inr}
use Rattle.clv_base.specs.declared.names.Point.{Point}
use Rattle.clv_base.specs.declared.ops.Op.{Op}
use Rattle.clv_base.specs.declared.ops.Answer.{Answer}
use Rattle.clv_base.specs.Sessions.{SessionState, Phase, Touching, Ended as HasEnded, Standing, Told, Refused}
use Rattle.cluster_turns.specs.declared.shards.Shards.{Shards}
use Rattle.cluster_turns.specs.declared.shards.Walker.{Walker}
use Rattle.cluster_turns.specs.declared.shards.WornClock.{WornClock}
use Rattle.cluster_turns.specs.Walkers.{IsSameWalker}
use Rattle.cluster_closing.specs.Landed.{HasLanded}
use Rattle.cluster_turns.specs.CallTurns.{Turn, Took}
use Rattle.cluster_turns.proofs.Laws.{worn_is_last}
use Rattle.session_ops.proofs.Laws.{turns_land}
use Rattle.session_ops.specs.declared.operating.OpError.{OpError as Failure}
use Rattle.session_ops.specs.Beginnings.{IsIdle}
use Rattle.session_ops.specs.Dropped.{Dropping}
use Rattle.session_ops.specs.declared.settled_looking.SettleError.{SettleError}
use Rattle.session_ops.specs.Dropped.{IsLeft}
use Rattle.session_ops.specs.Standing.{HasBirth}
use Rattle.session_ops.proofs.Laws.{ended_are_retriable, aborts_are_retriable}
use Rattle.session_ops.specs.Parts.{PointTold, StandsUnless, has_died}
use Rattle.session_ops.specs.declared.committing.Settled.{Settled}
use Rattle.session_ops.specs.declared.committing.CommitError.{CommitError as CommitFailure}
use Rattle.session_ops.specs.Standings.{StandsAt, StandsAs, IsUnasked, IsAborted}
use Rattle.session_ops.specs.Decided.{Deciding}
use Rattle.session_ops.specs.Committed.{CommitTold, PointsAtRequest}
use Rattle.session_ops.specs.declared.settled_looking.SettleError.TheVariants as settle
use Rattle.session_ops.specs.declared.committing.Settled.TheVariants.{Committed, Empty}
use Rattle.session_ops.specs.declared.committing.CommitError.TheVariants as unmade
use Rattle.session_api.specs.declared.ending.CommitError.{CommitError}
use Rattle.session_ops.specs.Requested.{HasRequest}
use Rattle.session_ops.proofs.Laws.{request_stays, decided_asked, commit_asked}
use Rattle.session_api.specs.declared.progress.Progress.TheVariants.{Active, Asked}
use Rattle.session_api.specs.Progresses.{after_op, commit_told, settle_told, after_commit, progress_committed, progress_aborted, is_nothing}
use Rattle.session_api.specs.Sessions.{StandsIn, IsSession}

module _ {M S G : Type 0} (sh : Shards M S G) where
  -- ---- gates

  pub landed_after : (w v : Walker M S G) (ts : List Turn) → IsSameWalker w v → Took w.number w.clock w.passes.items ts v.clock v.passes.items → HasLanded w.number w.passes.items → HasLanded v.number v.passes.items
  landed_after w v ts same took h = subst (λ k. HasLanded k v.passes.items) (sym same.0) (turns_land w.number w.clock v.clock w.passes.items v.passes.items ts took h)

  -- ---- idle

  at_idle : (w : Walker M S G) (p : SessionState) (x : Phase) → StandsAt x sh w p → IsIdle sh w
  at_idle w p Touching h = (h.state, h.ready)
  at_idle w p HasEnded h = (p, h.ending.over.ready)
  at_idle w p (Standing home) h = (p, h.ready)
  at_idle w p Told h = (p, h)
  at_idle w p Refused h = (p, h.ending.over.ready)

  -- ---- operations

  op_stands : (v : Walker M S G) (q : SessionState) (died : Bool) → StandsUnless died sh v q → StandsIn sh v (after_op q died)
  op_stands v q true h = ended_are_retriable M S G sh v q h
  op_stands v q false h = h

  pub point_session :
      {A : Type 0} (tells : Result Answer Failure → Result A Failure) (w v : Walker M S G) (p q : SessionState) (op : Op) (key : ℕ) (r : Result A Failure) → IsSession sh w (Active p) → IsSameWalker w v → PointTold tells sh w p op key r v q
      → StandsUnless (has_died r) sh v q → IsSession sh v (after_op q (has_died r))
  point_session tells w v p q op key r h same told stands =
      let b = h.stands.born in
      let t = told.turns b.birth b.is in
      record { stands = op_stands v q (has_died r) stands; landed = landed_after w v _ same t.took h.landed }

  pub scan_session : {A : Type 0} (w v : Walker M S G) (p q : SessionState) (ts : List Turn) (r : Result A Failure) → IsSession sh w (Active p) → IsSameWalker w v → Took w.number w.clock w.passes.items ts v.clock v.passes.items
      → StandsUnless (has_died r) sh v q → IsSession sh v (after_op q (has_died r))
  scan_session w v p q ts r h same took stands = record { stands = op_stands v q (has_died r) stands; landed = landed_after w v ts same took h.landed }

  -- ---- commits

  pub at_stands : (v : Walker M S G) (q : SessionState) (stamp : ℕ) (x : Phase) → ((home : ℕ) → x ≡ Standing home → HasRequest v.passes.items q (record { stamp = stamp; shard = home })) → StandsAt x sh v q → StandsIn sh v (after_commit q stamp x)
  at_stands v q stamp Touching has h = h
  at_stands v q stamp HasEnded has h = ended_are_retriable M S G sh v q h
  at_stands v q stamp (Standing home) has h = (h, has home refl)
  at_stands v q stamp Told has h = (q, h)
  at_stands v q stamp Refused has h = ended_are_retriable M S G sh v q h

  abbrev AskedStands : Walker M S G → SessionState → ℕ → Type 0
  AskedStands v q stamp = (home : ℕ) → q.phase ≡ Standing home → HasRequest v.passes.items q (record { stamp = stamp; shard = home })

  committed_stands : (v : Walker M S G) (q : SessionState) (stamp : ℕ) (empty : Bool) → AskedStands v q stamp → StandsAs sh v q → StandsIn sh v (progress_committed q stamp empty)
  committed_stands v q stamp true has h = at_idle v q q.phase h
  committed_stands v q stamp false has h = at_stands v q stamp q.phase has h

  commit_lands : (w v : Walker M S G) (p q : SessionState) (stamp : ℕ) (r : Result Settled CommitFailure) → IsSameWalker w v → CommitTold (length sh.locks.items) w p stamp r v q → HasLanded w.number w.passes.items → HasLanded v.number v.passes.items
  commit_lands w v p q stamp r same (inl (none, is, stays, place)) h = subst (λ z. HasLanded z.number z.passes.items) (sym stays) h
  commit_lands w v p q stamp r same (inr (home, low, c)) h = landed_after w v (c.asking ++ c.rest) same c.took h

  pub commit_session : (w v : Walker M S G) (p q : SessionState) (stamp : ℕ) (r : Result Settled CommitFailure) → IsSession sh w (Active p) → IsSameWalker w v → CommitTold (length sh.locks.items) w p stamp r v q → StandsAs sh v q
      → IsSession sh v (progress_committed q stamp (is_nothing r))
  commit_session w v p q stamp r h same told stands = record {
    stands = committed_stands v q stamp (is_nothing r) (λ home is. commit_asked (length sh.locks.items) stamp home w v p q r h.stands.touching told is) stands;
    landed = commit_lands w v p q stamp r same told h.landed;
  }

  pub looks_session : (w v : Walker M S G) (p q : SessionState) (home stamp : ℕ) (r : Result Point SettleError) → IsSession sh w (Asked p home stamp) → IsSameWalker w v
      → Deciding (length sh.locks.items) w.number w.clock w.passes.items home p r v.clock v.passes.items q → StandsAs sh v q → IsSession sh v (after_commit q stamp q.phase)
  looks_session w v p q home stamp r h same d stands = record {
    stands = at_stands v q stamp q.phase (λ k is. decided_asked (length sh.locks.items) home k stamp v.passes.items p q r d.turns (request_stays w.number w.clock v.clock w.passes.items v.passes.items d.turns p (record { stamp = stamp; shard = home }) d.took h.stands.1) d.told is) stands;
    landed = landed_after w v d.turns same d.took h.landed;
  }

  -- the point that a session answers is that of the request

  pub told_point : (v : Walker M S G) (p : SessionState) (a : Result Settled CommitFailure) (r : Result Settled CommitError) → r ≡ commit_told a → PointsAtRequest v.passes.items p a → PointsAtRequest v.passes.items p r
  told_point v p a r is h = subst (PointsAtRequest v.passes.items p) (sym is) (at a h)
    where
      at : (a : Result Settled CommitFailure) → PointsAtRequest v.passes.items p a → PointsAtRequest v.passes.items p (commit_told a)
      at (Ok (Committed point)) h = h
      at (Ok Empty) h = tt
      at (Err (unmade.Aborted cause)) h = tt
      at (Err (unmade.Down n)) h = tt
      at (Err (unmade.Unsettled n)) h = tt
      at (Err (unmade.Worn t)) h = tt
      at (Err unmade.Memory) h = tt

  pub looks_point : (w v : Walker M S G) (p q : SessionState) (home stamp : ℕ) (d : Result Point SettleError) (r : Result Settled CommitError) → IsSession sh w (Asked p home stamp)
      → Deciding (length sh.locks.items) w.number w.clock w.passes.items home p d v.clock v.passes.items q → r ≡ settle_told (record { stamp = stamp; shard = home }) d → PointsAtRequest v.passes.items p r
  looks_point w v p q home stamp d r h made is =
      subst (PointsAtRequest v.passes.items p) (sym is)
      (at d (request_stays w.number w.clock v.clock w.passes.items v.passes.items made.turns p (record { stamp = stamp; shard = home }) made.took h.stands.1))
    where
      at : (d : Result Point SettleError) → HasRequest v.passes.items p (record { stamp = stamp; shard = home }) → PointsAtRequest v.passes.items p (settle_told (record { stamp = stamp; shard = home }) d)
      at (Ok look) h = h
      at (Err (settle.Aborted cause)) h = tt
      at (Err (settle.Unsettled n)) h = tt
      at (Err (settle.Worn t)) h = tt
      at (Err settle.Memory) h = tt

  -- ---- aborts

  aborted_unasked : (v : Walker M S G) (q : SessionState) → IsAborted sh v q → IsUnasked sh v q
  aborted_unasked v q (inl (none, active)) = inl active
  aborted_unasked v q (inr ending) = inr ending

  unasked_born : (w : Walker M S G) (p : SessionState) → IsUnasked sh w p → HasBirth w p
  unasked_born w p (inl active) = active.born
  unasked_born w p (inr ending) = ending.over.born

  pub abort_session : (w v : Walker M S G) (p q : SessionState) (r : Result Unit WornClock) → HasLanded w.number w.passes.items → IsUnasked sh w p → IsSameWalker w v
      → Dropping w.number w.clock w.passes.items p.tx p.touched None 0 (length sh.locks.items) r v.clock v.passes.items → IsLeft p q → IsAborted sh v q → IsSession sh v (progress_aborted q r)
  abort_session w v p q (Ok a) h unasked same d left stands = record {
    stands = aborts_are_retriable M S G sh w v p q (Ok a) (unasked_born w p unasked) d left (aborted_unasked v q stands);
    landed = landed_after w v d.turns same d.took h;
  }
  abort_session w v p q (Err worn) h unasked same d left stands = record {
    stands = (aborted_unasked v q stands, (worn_is_last worn.at w.number w.clock v.clock w.passes.items v.passes.items d.turns d.took d.told).1);
    landed = landed_after w v d.turns same d.took h;
  }
