-- Which savepoints stand after each kind of call.
use Rattle.std.proofs.Common.{◌≡◌, refl, sym, ap, subst, ℕ, suc, ◌≤◌, ◌+◌, nat_lt, Bool, true, false, List, [], length, Option, Some, None, Result, Ok, Err, inl, inr, arith}
use Rattle.clv_base.specs.declared.names.TxId.{TxId}
use Rattle.clv_base.specs.declared.names.Birth.{Birth}
use Rattle.clv_base.specs.declared.names.Point.{Point}
use Rattle.clv_base.specs.declared.values.Value.{Value as ValueType}
use Rattle.clv_base.specs.declared.ops.Op.{Op}
use Rattle.clv_base.specs.declared.ops.Op.TheVariants.{Scan}
use Rattle.clv_base.specs.declared.ops.Answer.{Answer}
use Rattle.clv_base.specs.declared.events.Outcome.{Outcome}
use Rattle.clv_base.specs.declared.events.Outcome.TheVariants as out
use Rattle.clv_base.specs.Sessions.{SessionState, Phase, Touching, Ended as HasEnded, Standing, Told, Refused, no_session, after_drop}
use Rattle.machine_calls.specs.declared.machine.StepError.{StepError}
use Rattle.machine_calls.specs.declared.machine.StepError.TheVariants as step
use Rattle.cluster_turns.specs.declared.shards.Shards.{Shards}
use Rattle.cluster_turns.specs.declared.shards.Walker.{Walker}
use Rattle.cluster_turns.specs.declared.shards.WornClock.{WornClock}
use Rattle.cluster_turns.specs.CallTurns.{Turn}
use Rattle.session_ops.specs.declared.operating.OpError.{OpError as Failure}
use Rattle.session_ops.specs.declared.settled_looking.SettleError.{SettleError}
use Rattle.session_ops.specs.declared.settled_looking.SettleError.TheVariants as settle
use Rattle.session_ops.specs.declared.committing.Settled.{Settled}
use Rattle.session_ops.specs.declared.committing.CommitError.{CommitError as CommitFailure}
use Rattle.session_ops.specs.declared.rolling.BackError.{BackError}
use Rattle.session_ops.specs.declared.rolling.BackError.TheVariants as left
use Rattle.session_ops.specs.Beginnings.{Begun}
use Rattle.session_ops.specs.Retried.{Retried}
use Rattle.session_ops.specs.Dropped.{IsLeft}
use Rattle.session_ops.specs.Decided.{DecidedBy, Deciding}
use Rattle.session_ops.specs.Committed.{CommittedBy, CommitTold}
use Rattle.session_ops.specs.Parts.{has_died}
use Rattle.session_ops.specs.Stepped.{PartMade, PartsMade, no_shard, passed_by, one_part, PartsTold}
use Rattle.session_ops.specs.WentBack.{Rolling}
use Rattle.session_ops.specs.Undone.{failed_as}
use Rattle.session_api.specs.declared.beginning.BeginError.{BeginError}
use Rattle.session_api.specs.declared.beginning.BeginError.TheVariants as begin
use Rattle.session_api.specs.declared.retrying.RetryError.{RetryError}
use Rattle.session_api.specs.declared.retrying.RetryError.TheVariants as retry
use Rattle.session_api.specs.declared.operating.OpError.{OpError}
use Rattle.session_api.specs.declared.ending.CommitError.{CommitError}
use Rattle.session_api.specs.declared.ending.AbortError.{AbortError}
use Rattle.session_api.specs.declared.savepoints.RollError.{RollError}
use Rattle.session_api.specs.declared.progress.Progress.{Progress}
use Rattle.session_api.specs.declared.progress.Progress.TheVariants.{Idle, Active, Worn, Undone, Asked, Ended}
use Rattle.session_api.specs.Progresses.{active_tx, after_op, after_commit, progress_committed, progress_aborted, progress_back, is_nothing}
use Rattle.session_api.specs.Savepoints.{AllStand, Saved, saves_gone}
use Rattle.session_api.specs.Sessions.{IsSession, PointCalled, RangeCalled, RangeBeside, ScanCalled, BegunNext, BeginCalled, RetriedNext, RetryCalled, CommitCalled, AbortCalled}
use Rattle.session_api.specs.GoingBack.{AgainMade, BackCalled}
use Rattle.session_api.proofs.Saving.{GoesOn, goes_same, goes_then, placed_goes, op_saved, point_saved, all_later, begun_saved, back_keeps}

-- it stands as before
same_goes : (p q : SessionState) → q ≡ p → GoesOn p q
same_goes p q is = subst (GoesOn p) (sym is) (goes_same p)

-- only how far it is has changed
phase_goes : (p q : SessionState) (x : Phase) → q ≡ record p { phase = x } → GoesOn p q
phase_goes p q x is = subst (GoesOn p) (sym is) (record { backs = refl; nth = (let l : p.nth ≤ p.nth = omega arith in l); whole = λ h. h })

pub same_saved : (s t : Progress) (saves : List ℕ) → t ≡ s → Saved s saves → Saved t saves
same_saved s t saves is h = subst (λ x. Saved x saves) (sym is) h

-- ---- operations

module _ {M S G A : Type 0} (tells : Result Answer Failure → Result A Failure) (sh : Shards M S G) (w v : Walker M S G) (t : Progress) (op : Op) (key : ℕ) (r : Result A OpError) (saves : List ℕ) where
  pub point_saves : (s : Progress) → PointCalled tells sh w s op key r v t → Saved s saves → Saved t saves
  point_saves (Active p) c h = same_saved (after_op c.place (has_died c.answer)) t saves c.then (point_saved tells sh w v p c.place op key c.answer saves c.told h)
  point_saves Idle c h = same_saved Idle t saves c.2 h
  point_saves (Worn p) c h = same_saved (Worn p) t saves c.2 h
  point_saves (Undone p n upto) c h = same_saved (Undone p n upto) t saves c.2 h
  point_saves (Asked p home stamp) c h = same_saved (Asked p home stamp) t saves c.2 h
  point_saves (Ended p) c h = same_saved (Ended p) t saves c.2 h

module _ {M S G : Type 0} (sh : Shards M S G) (birth : Birth) (nth lo hi : ℕ) (w : Walker M S G) (p : SessionState) (up : p.nth ≤ nth) where
  record GoesUpTo (m : SessionState) : Type 0 where
    pub goes : GoesOn p m
    pub low : m.nth ≤ nth

  with_part : (n : ℕ) (part : ℕ × ℕ) (u v : Walker M S G) (m q : SessionState) (answer : Answer) → GoesUpTo m → PartMade sh birth nth n part u m (Ok answer) v q → GoesUpTo q
  with_part n part u v m q answer k made = record {
    goes = goes_then p m q k.goes (placed_goes n nth (Scan part.0 part.1) m q (Ok answer) k.low made.place);
    low = (let e : q.nth ≡ nth = ap (λ z. z.nth) made.place.1 in omega arith);
  }

  parts_go : (n : ℕ) (answers : List Answer) (v : Walker M S G) (q : SessionState) → PartsMade sh birth nth lo hi w p n answers v q → GoesUpTo q
  parts_go _ _ _ _ no_shard = record { goes = goes_same p; low = up }
  parts_go _ _ _ _ (passed_by n answers u m before none) = parts_go n answers u m before
  parts_go _ _ _ _ (one_part n answers u v m q part answer before meets made) = with_part n part u v m q answer (parts_go n answers u m before) made

  scan_goes : (r : Result (List (ℕ × ValueType)) Failure) (v : Walker M S G) (q : SessionState) → PartsTold sh birth nth lo hi w p r v q → GoesOn p q
  scan_goes (Ok pairs) v q told = (parts_go (length sh.locks.items) told.0 v q told.1).goes
  scan_goes (Err e) v q f =
      let k = parts_go f.shard f.answers f.walker f.middle f.before in
      goes_then p f.middle q k.goes (placed_goes f.shard nth (Scan f.part.0 f.part.1) f.middle q f.answer k.low f.made.place)

module _ {M S G : Type 0} (sh : Shards M S G) (w v : Walker M S G) where
  pub scan_saved : (p q : SessionState) (lo hi : ℕ) (r : Result (List (ℕ × ValueType)) Failure) (saves : List ℕ) → IsSession sh w (Active p) → ((birth : Birth) → p.birth ≡ Some birth → PartsTold sh birth (p.nth + 1) lo hi w p r v q) → Saved (Active p) saves
      → Saved (after_op q (has_died r)) saves
  scan_saved p q lo hi r saves session parts h =
      let b = session.stands.born in
      op_saved p q (has_died r) saves (scan_goes sh b.birth (p.nth + 1) lo hi w p (omega arith) r v q (parts b.birth b.is)) h

  range_saves : (s t : Progress) (lo hi : ℕ) (r : Result (List (ℕ × ValueType)) OpError) (saves : List ℕ) → IsSession sh w s → RangeCalled sh w s lo hi r v t → Saved s saves → Saved t saves
  range_saves (Active p) t lo hi r saves session c h = same_saved (after_op c.place (has_died c.answer)) t saves c.then (scan_saved p c.place lo hi c.answer saves session c.parts h)
  range_saves Idle t lo hi r saves session c h = same_saved Idle t saves c.2 h
  range_saves (Worn p) t lo hi r saves session c h = same_saved (Worn p) t saves c.2 h
  range_saves (Undone p n upto) t lo hi r saves session c h = same_saved (Undone p n upto) t saves c.2 h
  range_saves (Asked p home stamp) t lo hi r saves session c h = same_saved (Asked p home stamp) t saves c.2 h
  range_saves (Ended p) t lo hi r saves session c h = same_saved (Ended p) t saves c.2 h

  pub scan_saves : (s t : Progress) (lo hi : ℕ) (r : Result (List (ℕ × ValueType)) OpError) (saves : List ℕ) → IsSession sh w s → ScanCalled sh w s lo hi r v t → Saved s saves → Saved t saves
  scan_saves s t lo hi r saves session c h = by (active_tx s) (nat_lt hi lo) c
    where
      by : (a : Option TxId) (falls : Bool) → RangeBeside a falls sh w s lo hi r v t → Saved t saves
      by (Some tx) true k = same_saved s t saves k.2 h
      by (Some tx) false k = range_saves s t lo hi r saves session k h
      by None falls k = range_saves s t lo hi r saves session k h

-- ---- goings back

module _ {M S G : Type 0} (sh : Shards M S G) (w v : Walker M S G) where
  pub again_rolled : (p q : SessionState) (n upto : ℕ) (e : BackError) (saves : List ℕ) → Rolling (length sh.locks.items) w.number w.clock w.passes.items p (suc p.nth) upto n (failed_as e) v.clock v.passes.items q → AllStand p saves
      → Saved (progress_back q upto (failed_as e)) saves
  again_rolled p q n upto (left.Aborted cause) saves k h = tt
  again_rolled p q n upto (left.Down m) saves k h = subst (λ z. AllStand z saves) (sym k.told.1.3) h
  again_rolled p q n upto (left.Worn m at) saves k h = subst (λ z. AllStand z saves) (sym k.told.1.3) h

  pub again_saves : (p : SessionState) (n upto : ℕ) (e : BackError) (t : Progress) (saves : List ℕ) → AgainMade sh w p n upto e v t → Saved (Undone p n upto) saves → Saved t saves
  again_saves p n upto e t saves c h = same_saved (progress_back c.place upto (failed_as e)) t saves c.then (again_rolled p c.place n upto e saves c.turns h)

  pub back_saves : (s t : Progress) (upto : ℕ) (r : Result Unit RollError) (saves : List ℕ) → BackCalled sh w s upto r v t → Saved s saves → Saved t (saves_gone s upto saves)
  back_saves (Active p) t upto r saves c h = same_saved (progress_back c.place upto c.answer) t (saves_gone (Active p) upto saves) c.then (back_keeps sh w v p c.place upto c.answer saves h c.turns c.left)
  back_saves (Undone p n to) t upto r saves c h = again_saves p n to c.error t saves c.made h
  back_saves (Worn p) t upto r saves c h = same_saved (Worn p) t saves c.2 h
  back_saves Idle t upto r saves c h = absurd c
  back_saves (Asked p home stamp) t upto r saves c h = absurd c
  back_saves (Ended p) t upto r saves c h = absurd c

-- ---- commits

decided_goes : (count n : ℕ) (p q : SessionState) (d : Result Point SettleError) (ts : List Turn) → DecidedBy count n p d ts q → GoesOn p q
decided_goes count n p q (Ok look) ts k = phase_goes p q Told k.1
decided_goes count n p q (Err (settle.Aborted cause)) ts k = phase_goes p q Refused k.2
decided_goes count n p q (Err (settle.Unsettled m)) ts k = phase_goes p q (Standing n) k.2
decided_goes count n p q (Err (settle.Worn at)) ts k = phase_goes p q (Standing n) k.1
decided_goes count n p q (Err settle.Memory) ts k = phase_goes p q (Standing n) k

committed_goes : (count n : ℕ) (p q : SessionState) (asked : Point) (answer : Result Outcome StepError) (r : Result Settled CommitFailure) (ts : List Turn) → CommittedBy count n p asked answer r ts q → GoesOn p q
committed_goes count n p q asked (Ok out.Asked) r ts k = decided_goes count n p q k.0 ts k.2
committed_goes count n p q asked (Ok (out.Dead cause)) r ts k = phase_goes p q HasEnded k.2
committed_goes count n p q asked (Ok out.Down) r ts k = same_goes p q k.2
committed_goes count n p q asked (Err step.Memory) r ts k = same_goes p q k.2
committed_goes count n p q asked (Err (step.Worn at)) r ts k = same_goes p q k.2
committed_goes count n p q asked (Ok _) r ts k = absurd k

-- how far it is then
phase_saved : (p q : SessionState) (stamp : ℕ) (x : Phase) (saves : List ℕ) → GoesOn p q → Saved (Active p) saves → Saved (after_commit q stamp x) saves
phase_saved p q stamp Touching saves g h = op_saved p q false saves g h
phase_saved p q stamp HasEnded saves g h = tt
phase_saved p q stamp (Standing home) saves g h = tt
phase_saved p q stamp Told saves g h = tt
phase_saved p q stamp Refused saves g h = tt

-- a request that stood may be looked at again: the transaction isn't active then
decided_saved : (count n : ℕ) (p q : SessionState) (stamp : ℕ) (d : Result Point SettleError) (ts : List Turn) (saves : List ℕ) → DecidedBy count n p d ts q → Saved (after_commit q stamp q.phase) saves
decided_saved count n p q stamp d ts saves k = by d k
  where
    at : (x : Phase) → q ≡ record p { phase = x } → ((z : SessionState) → Saved (after_commit z stamp x) saves) → Saved (after_commit q stamp q.phase) saves
    at x is far = subst (λ y. Saved (after_commit q stamp y) saves) (sym (ap (λ z. z.phase) is)) (far q)

    by : (d : Result Point SettleError) → DecidedBy count n p d ts q → Saved (after_commit q stamp q.phase) saves
    by (Ok look) k = at Told k.1 (λ z. tt)
    by (Err (settle.Aborted cause)) k = at Refused k.2 (λ z. tt)
    by (Err (settle.Unsettled m)) k = at (Standing n) k.2 (λ z. tt)
    by (Err (settle.Worn at_clock)) k = at (Standing n) k.1 (λ z. tt)
    by (Err settle.Memory) k = at (Standing n) k (λ z. tt)

module _ {M S G : Type 0} (sh : Shards M S G) (w v : Walker M S G) where
  commit_goes : (p q : SessionState) (stamp : ℕ) (r : Result Settled CommitFailure) → CommitTold (length sh.locks.items) w p stamp r v q → GoesOn p q
  commit_goes p q stamp r (inl k) = same_goes p q k.3
  commit_goes p q stamp r (inr (home, low, c)) = committed_goes (length sh.locks.items) home p q (record { stamp = stamp; shard = home }) c.answer r c.rest c.told

  pub commit_saved : (p q : SessionState) (stamp : ℕ) (empty : Bool) (r : Result Settled CommitFailure) (saves : List ℕ) → CommitTold (length sh.locks.items) w p stamp r v q → Saved (Active p) saves → Saved (progress_committed q stamp empty) saves
  commit_saved p q stamp true r saves told h = tt
  commit_saved p q stamp false r saves told h = phase_saved p q stamp q.phase saves (commit_goes p q stamp r told) h

  pub look_saved : (p q : SessionState) (home stamp : ℕ) (d : Result Point SettleError) (saves : List ℕ) → Deciding (length sh.locks.items) w.number w.clock w.passes.items home p d v.clock v.passes.items q → Saved (after_commit q stamp q.phase) saves
  look_saved p q home stamp d saves k = decided_saved (length sh.locks.items) home p q stamp d k.turns saves k.told

  pub commit_saves : (s t : Progress) (r : Result Settled CommitError) (saves : List ℕ) → CommitCalled sh w s r v t → Saved s saves → Saved t saves
  commit_saves (Active p) t r saves c h = same_saved (progress_committed c.place c.stamp (is_nothing c.answer)) t saves c.then (commit_saved p c.place c.stamp (is_nothing c.answer) c.answer saves c.told h)
  commit_saves (Asked p home stamp) t r saves c h = same_saved (after_commit c.place stamp c.place.phase) t saves c.then (look_saved p c.place home stamp c.answer saves c.turns)
  commit_saves (Undone p n upto) t r saves c h = again_saves sh w v p n upto c.error t saves c.made h
  commit_saves Idle t r saves c h = same_saved Idle t saves c.2 h
  commit_saves (Worn p) t r saves c h = same_saved (Worn p) t saves c.2 h
  commit_saves (Ended p) t r saves c h = same_saved (Ended p) t saves c.2 h

-- ---- aborts

pub abort_saved : {A : Type 0} (p q : SessionState) (r : Result A WornClock) (saves : List ℕ) → IsLeft p q → AllStand p saves → Saved (progress_aborted q r) saves
abort_saved p q (Ok a) saves k h = tt
abort_saved p q (Err worn) saves k h = by k
  where
    by : IsLeft p q → AllStand q saves
    by (inl same) = subst (λ z. AllStand z saves) (sym same) h
    by (inr dropped) = let g = phase_goes p q (after_drop p.phase) dropped in all_later p q saves g.backs g.nth h

module _ {M S G A : Type 0} (sh : Shards M S G) (w v : Walker M S G) (t : Progress) (r : Result A AbortError) (saves : List ℕ) where
  pub abort_saves : (s : Progress) → AbortCalled sh w s r v t → Saved s saves → Saved t saves
  abort_saves (Active p) c h = same_saved (progress_aborted c.place c.answer) t saves c.then (abort_saved p c.place c.answer saves c.left h.1)
  abort_saves (Worn p) c h = same_saved (progress_aborted c.place c.answer) t saves c.then (abort_saved p c.place c.answer saves c.left h)
  abort_saves (Undone p n upto) c h = same_saved (progress_aborted c.place c.answer) t saves c.then (abort_saved p c.place c.answer saves c.left h)
  abort_saves Idle c h = same_saved Idle t saves c.2 h
  abort_saves (Asked p home stamp) c h = same_saved (Asked p home stamp) t saves c.2 h
  abort_saves (Ended p) c h = same_saved (Ended p) t saves c.2 h

-- ---- beginnings

none_saved : (s : Progress) (saves : List ℕ) → Saved s saves → Saved s []
none_saved Idle saves h = tt
none_saved (Active p) saves h = (h.0, tt)
none_saved (Worn p) saves h = tt
none_saved (Undone p n upto) saves h = tt
none_saved (Asked p home stamp) saves h = tt
none_saved (Ended p) saves h = tt

module _ {M S G : Type 0} (sh : Shards M S G) (w v : Walker M S G) where
  pub begun_saves : (p : SessionState) → Begun sh w v p → Saved (Active p) []
  begun_saves p b = begun_saved (no_session 0 0) p _ b.birth (b.is (no_session 0 0))

  pub retried_saves : (last p : SessionState) → Retried sh w v last p → Saved (Active p) []
  retried_saves last p b = begun_saved (no_session 0 0) p _ b.birth (b.is (no_session 0 0))

  next_saves : (s t : Progress) (r : Result TxId BeginError) → BegunNext sh w s r v t → Saved s [] → Saved t []
  next_saves s t (Ok tx) c h = same_saved (Active c.1.0) t [] c.1.3 (begun_saves c.1.0 c.1.1)
  next_saves s t (Err (begin.Worn at)) c h = same_saved s t [] c.3 h
  next_saves s t (Err (begin.Active tx)) c h = absurd c

  -- none is kept of a transaction that was begun just now
  pub begin_saves : (s t : Progress) (r : Result TxId BeginError) (saves : List ℕ) → BeginCalled sh w s r v t → Saved s saves → Saved t []
  begin_saves Idle t r saves c h = next_saves Idle t r c tt
  begin_saves (Active p) t r saves c h = same_saved (Active p) t [] c.2 (none_saved (Active p) saves h)
  begin_saves (Worn p) t r saves c h = same_saved (Worn p) t [] c.2 tt
  begin_saves (Undone p n upto) t r saves c h = same_saved (Undone p n upto) t [] c.2 tt
  begin_saves (Asked p home stamp) t r saves c h = next_saves (Asked p home stamp) t r c tt
  begin_saves (Ended p) t r saves c h = next_saves (Ended p) t r c tt

  again_next : (last : SessionState) (t : Progress) (r : Result TxId RetryError) → RetriedNext sh w last r v t → Saved t []
  again_next last t (Ok tx) c = same_saved (Active c.1.0) t [] c.1.3 (retried_saves last c.1.0 c.1.1)
  again_next last t (Err (retry.Worn at)) c = same_saved (Ended last) t [] c.3 tt
  again_next last t (Err (retry.Active tx)) c = absurd c
  again_next last t (Err retry.NoRetry) c = absurd c

  pub retry_saves : (s t : Progress) (r : Result TxId RetryError) (saves : List ℕ) → RetryCalled sh w s r v t → Saved s saves → Saved t []
  retry_saves (Ended p) t r saves c h = again_next p t r c
  retry_saves Idle t r saves c h = same_saved Idle t [] c.2 tt
  retry_saves (Active p) t r saves c h = same_saved (Active p) t [] c.2 (none_saved (Active p) saves h)
  retry_saves (Worn p) t r saves c h = same_saved (Worn p) t [] c.2 tt
  retry_saves (Undone p n upto) t r saves c h = same_saved (Undone p n upto) t [] c.2 tt
  retry_saves (Asked p home stamp) t r saves c h = same_saved (Asked p home stamp) t [] c.2 tt
