-- How calls leave a try.
use Rattle.std.proofs.Common.{◌≡◌, ◌≢◌, ◌∙◌, refl, sym, ap, subst, ℕ, true, false, List, [], append-nil, Option, Some, None, Result, Ok, Err, inl, inr}
use Rattle.std.specs.Prelude.{⊤, IfOk, IfErr}
use Rattle.std.proofs.lemmas.Bool.{both_ways}
use Rattle.clv_base.specs.declared.values.Value.{Value as ValueType}
use Rattle.clv_base.specs.declared.values.Value.TheVariants.{Num, Bytes}
use Rattle.clv_base.specs.declared.names.TxId.{TxId}
use Rattle.clv_base.specs.declared.names.Birth.{Birth}
use Rattle.clv_base.specs.declared.names.Point.{Point}
use Rattle.clv_base.specs.declared.ops.Op.{Op}
use Rattle.clv_base.specs.declared.ops.Op.TheVariants.{Get, Put}
use Rattle.clv_base.specs.declared.events.Outcome.{Outcome}
use Rattle.clv_base.specs.declared.events.Outcome.TheVariants as out
use Rattle.clv_base.specs.Sessions.{SessionState, Phase, Told, Refused, Ended as HasEnded, begun}
use Rattle.cluster_turns.specs.declared.shards.Shards.{Shards}
use Rattle.cluster_turns.specs.declared.shards.Walker.{Walker}
use Rattle.cluster_turns.specs.declared.shards.WornClock.{WornClock}
use Rattle.machine_calls.specs.declared.machine.StepError.{StepError}
use Rattle.machine_calls.specs.declared.machine.StepError.TheVariants as step
use Rattle.cluster_turns.specs.CallTurns.{Turn}
use Rattle.session_ops.specs.declared.operating.OpError.{OpError as OpFailure}
use Rattle.session_ops.specs.declared.operating.OpError.TheVariants as op
use Rattle.session_ops.specs.Parts.{has_died, value_in}
use Rattle.session_ops.specs.declared.settled_looking.SettleError.{SettleError}
use Rattle.session_ops.specs.declared.settled_looking.SettleError.TheVariants as settle
use Rattle.session_ops.specs.declared.committing.Settled.{Settled}
use Rattle.session_ops.specs.declared.committing.Settled.TheVariants.{Committed}
use Rattle.session_ops.specs.declared.committing.CommitError.{CommitError as CommitFailure}
use Rattle.session_ops.specs.declared.committing.CommitError.TheVariants as unmade
use Rattle.session_ops.specs.Decided.{DecidedBy, committed_as}
use Rattle.session_ops.specs.Committed.{CommittedBy, CommitTold}
use Rattle.script_runs.specs.Acts.{no_act}
use Rattle.session_api.specs.declared.progress.Progress.{Progress}
use Rattle.session_api.specs.declared.progress.Progress.TheVariants.{Idle, Active, Worn, Undone, Asked, Ended}
use Rattle.session_api.specs.declared.beginning.BeginError.{BeginError}
use Rattle.session_api.specs.declared.beginning.BeginError.TheVariants as begin
use Rattle.session_api.specs.declared.retrying.RetryError.{RetryError}
use Rattle.session_api.specs.declared.retrying.RetryError.TheVariants as retry
use Rattle.session_api.specs.declared.operating.OpError.{OpError}
use Rattle.session_api.specs.declared.ending.CommitError.{CommitError}
use Rattle.session_api.specs.declared.ending.AbortError.{AbortError}
use Rattle.session_api.specs.declared.ending.AbortError.TheVariants as abort
use Rattle.session_api.specs.Progresses.{active_tx, answer_told, after_op, commit_told, is_nothing, after_commit, progress_committed, abort_told, progress_aborted}
use Rattle.session_api.specs.Sessions.{BegunNext, BeginCalled, RetriedNext, RetryCalled, PointMade, PointCalled, CommitMade, CommitCalled, AbortCalled}
use Rattle.session_examples.specs.declared.transfers.Failure.{Failure}
use Rattle.session_examples.specs.declared.transfers.Stop.{Stop}
use Rattle.session_examples.specs.Ends.{is_open, has_ended, value_end, written_end, commit_end, BeginEnds, RetryEnds, AbortEnds, GoesOnAs, TriedAs}
use Rattle.session_examples.specs.Moves.{IsFresh, made_by}

-- ---- operations

-- a key that was read, by how that was answered
pub value_goes : (key : ℕ) (q : SessionState) (e : Result (Option ValueType) OpFailure) → GoesOnAs (value_end key e) (after_op q (has_died e))
value_goes key q (Ok (Some (Num n))) = refl
value_goes key q (Ok (Some (Bytes bytes))) = refl
value_goes key q (Ok None) = refl
value_goes key q (Err (op.Aborted cause)) = refl
value_goes key q (Err (op.Down n)) = tt
value_goes key q (Err (op.Worn at)) = tt
value_goes key q (Err op.Memory) = tt

pub written_goes : (q : SessionState) (e : Result (Option ValueType) OpFailure) → GoesOnAs (written_end e) (after_op q (has_died e))
written_goes q (Ok before) = refl
written_goes q (Err (op.Aborted cause)) = refl
written_goes q (Err (op.Down n)) = tt
written_goes q (Err (op.Worn at)) = tt
written_goes q (Err op.Memory) = tt

-- ---- beginnings

-- fresh where it went well, else closed
module _ {M S G : Type 0} (sh : Shards M S G) (v : Walker M S G) (t : Progress) where
  abbrev pub IsBegun : Result Unit Stop → Type 0
  IsBegun x = IfOk x (λ u. IsFresh sh v t) × IfErr x (λ s. is_open t ≡ false)

  abbrev pub BegunAs : Result TxId BeginError → Type 0
  BegunAs (Ok tx) = IsFresh sh v t
  BegunAs (Err (begin.Worn at)) = is_open t ≡ false
  BegunAs (Err (begin.Active tx)) = ⊥

  abbrev pub RetriedAs : Result TxId RetryError → Type 0
  RetriedAs (Ok tx) = IsFresh sh v t
  RetriedAs (Err (retry.Worn at)) = is_open t ≡ false
  RetriedAs (Err (retry.Active tx)) = ⊥
  RetriedAs (Err retry.NoRetry) = ⊥

  pub begun_ends : (r : Result TxId BeginError) (x : Result Unit Stop) → BegunAs r → BeginEnds r x → IsBegun x
  begun_ends (Ok tx) x h e = subst IsBegun (sym e) (h, tt)
  begun_ends (Err (begin.Worn at)) x h e = subst IsBegun (sym e) (tt, h)
  begun_ends (Err (begin.Active tx)) x h e = absurd h

  pub none_active : (r : Result TxId BeginError) → BegunAs r → (tx : TxId) → r ≢ Err (begin.Active tx)
  none_active r h tx is = subst BegunAs is h

  pub retried_ends : (r : Result TxId RetryError) (x : Result Unit Stop) → RetriedAs r → RetryEnds r x → IsBegun x
  retried_ends (Ok tx) x h e = subst IsBegun (sym e) (h, tt)
  retried_ends (Err (retry.Worn at)) x h e = subst IsBegun (sym e) (tt, h)
  retried_ends (Err (retry.Active tx)) x h e = absurd h
  retried_ends (Err retry.NoRetry) x h e = absurd h

  pub none_refused : (r : Result TxId RetryError) → RetriedAs r → ((tx : TxId) → r ≢ Err (retry.Active tx)) × (r ≢ Err retry.NoRetry)
  none_refused r h = (λ tx is. subst RetriedAs is h, λ is. subst RetriedAs is h)

-- ---- commits

-- by how far it is
tried_phase : (q : SessionState) (stamp : ℕ) (r : Result Settled CommitFailure) (x : Phase) → q.phase ≡ x → is_nothing r ≡ false → TriedAs (commit_end r) (after_commit q stamp x) → TriedAs (commit_end r) (progress_committed q stamp (is_nothing r))
tried_phase q stamp r x phase made h = subst (λ b. TriedAs (commit_end r) (progress_committed q stamp b)) (sym made) (subst (λ y. TriedAs (commit_end r) (after_commit q stamp y)) (sym phase) h)

abbrev LeavesTried : SessionState → ℕ → Result Settled CommitFailure → Type 0
LeavesTried q stamp r = TriedAs (commit_end r) (progress_committed q stamp (is_nothing r))

decided_tried : (count n : ℕ) (p q : SessionState) (asked : Point) (d : Result Point SettleError) (ts : List Turn) → DecidedBy count n p d ts q → LeavesTried q asked.stamp (committed_as asked d)
decided_tried count n p q asked (Ok point) ts h = tried_phase q asked.stamp (Ok (Committed asked)) Told (ap (λ z. z.phase) h.1) refl refl
decided_tried count n p q asked (Err (settle.Aborted cause)) ts h = tried_phase q asked.stamp (Err (unmade.Aborted cause)) Refused (ap (λ z. z.phase) h.2) refl refl
decided_tried count n p q asked (Err (settle.Unsettled m)) ts h = tt
decided_tried count n p q asked (Err (settle.Worn at)) ts h = tt
decided_tried count n p q asked (Err settle.Memory) ts h = tt

committed_tried : (count n : ℕ) (p q : SessionState) (asked : Point) (answer : Result Outcome StepError) (r : Result Settled CommitFailure) (ts : List Turn) → CommittedBy count n p asked answer r ts q → LeavesTried q asked.stamp r
committed_tried count n p q asked (Ok out.Asked) r ts h = subst (LeavesTried q asked.stamp) (sym h.1) (decided_tried count n p q asked h.0 ts h.2)
committed_tried count n p q asked (Ok (out.Dead cause)) r ts h = subst (LeavesTried q asked.stamp) (sym h.0) (tried_phase q asked.stamp (Err (unmade.Aborted cause)) HasEnded (ap (λ z. z.phase) h.2) refl refl)
committed_tried count n p q asked (Ok out.Down) r ts h = subst (LeavesTried q asked.stamp) (sym h.0) tt
committed_tried count n p q asked (Err step.Memory) r ts h = subst (LeavesTried q asked.stamp) (sym h.0) tt
committed_tried count n p q asked (Err (step.Worn at)) r ts h = subst (LeavesTried q asked.stamp) (sym h.0) tt
committed_tried count n p q asked (Ok _) r ts h = absurd h

-- ---- aborts

aborted_closed : {A : Type 0} (q : SessionState) (a : Result A WornClock) → is_open (progress_aborted q a) ≡ false
aborted_closed q (Ok a) = refl
aborted_closed q (Err worn) = refl

-- of the active transaction
abbrev pub AbortedAs : Result Unit AbortError → Progress → Type 0
AbortedAs (Ok a) t = has_ended t ≡ true
AbortedAs (Err (abort.Worn at)) t = ⊤
AbortedAs (Err abort.NoTx) t = ⊥

aborted_as : (q : SessionState) (a : Result Unit WornClock) → AbortedAs (abort_told a) (progress_aborted q a)
aborted_as q (Ok a) = refl
aborted_as q (Err worn) = tt

module _ {M S G : Type 0} (sh : Shards M S G) where
  commit_leaves : (w v : Walker M S G) (p q : SessionState) (count stamp : ℕ) (r : Result Settled CommitFailure) → CommitTold count w p stamp r v q → LeavesTried q stamp r
  commit_leaves w v p q count stamp r (inl (none, is, stays, place)) = subst (LeavesTried q stamp) (sym is) refl
  commit_leaves w v p q count stamp r (inr (home, low, c)) = committed_tried count home p q (record { stamp = stamp; shard = home }) c.answer r c.rest c.told

  -- ---- the active transaction

  point_is : (w v : Walker M S G) (s t : Progress) (o : Op) (key : ℕ) (r : Result (Option ValueType) OpError) → is_open s ≡ true → PointCalled value_in sh w s o key r v t → (p : SessionState) × (s ≡ Active p) × PointMade value_in sh w p o key r v t
  point_is w v Idle t o key r h c = absurd (both_ways false refl h)
  point_is w v (Active p) t o key r h c = (p, refl, c)
  point_is w v (Worn p) t o key r h c = absurd (both_ways false refl h)
  point_is w v (Undone p n upto) t o key r h c = absurd (both_ways false refl h)
  point_is w v (Asked p home stamp) t o key r h c = absurd (both_ways false refl h)
  point_is w v (Ended p) t o key r h c = absurd (both_ways false refl h)

  pub look_goes : (w v : Walker M S G) (s t : Progress) (key : ℕ) (r : Result (Option ValueType) OpError) (x : Result ℕ Failure) → is_open s ≡ true → PointCalled value_in sh w s (Get key) key r v t
      → ((e : Result (Option ValueType) OpFailure) → r ≡ answer_told e → x ≡ value_end key e) → GoesOnAs x t
  look_goes w v s t key r x h c told =
      let k = point_is w v s t (Get key) key r h c in
      let m = k.2 in
      subst (λ y. GoesOnAs y t) (sym (told m.answer m.is)) (subst (GoesOnAs (value_end key m.answer)) (sym m.then) (value_goes key m.place m.answer))

  pub write_goes : (w v : Walker M S G) (s t : Progress) (key : ℕ) (value : ValueType) (r : Result (Option ValueType) OpError) (x : Result Unit Failure) → is_open s ≡ true → PointCalled value_in sh w s (Put key value) key r v t
      → ((e : Result (Option ValueType) OpFailure) → r ≡ answer_told e → x ≡ written_end e) → GoesOnAs x t
  write_goes w v s t key value r x h c told =
      let k = point_is w v s t (Put key value) key r h c in
      let m = k.2 in
      subst (λ y. GoesOnAs y t) (sym (told m.answer m.is)) (subst (GoesOnAs (written_end m.answer)) (sym m.then) (written_goes m.place m.answer))

  pub point_told : (w v : Walker M S G) (s t : Progress) (o : Op) (key : ℕ) (r : Result (Option ValueType) OpError) → is_open s ≡ true → PointCalled value_in sh w s o key r v t → (e : Result (Option ValueType) OpFailure) × (r ≡ answer_told e)
  point_told w v s t o key r h c = let k = point_is w v s t o key r h c in let m = k.2 in (m.answer, m.is)

  commit_is : (w v : Walker M S G) (s t : Progress) (r : Result Settled CommitError) → is_open s ≡ true → CommitCalled sh w s r v t → (p : SessionState) × (s ≡ Active p) × CommitMade sh w p r v t
  commit_is w v Idle t r h c = absurd (both_ways false refl h)
  commit_is w v (Active p) t r h c = (p, refl, c)
  commit_is w v (Worn p) t r h c = absurd (both_ways false refl h)
  commit_is w v (Undone p n upto) t r h c = absurd (both_ways false refl h)
  commit_is w v (Asked p home stamp) t r h c = absurd (both_ways false refl h)
  commit_is w v (Ended p) t r h c = absurd (both_ways false refl h)

  pub commit_answered : (w v : Walker M S G) (s t : Progress) (r : Result Settled CommitError) → is_open s ≡ true → CommitCalled sh w s r v t → (e : Result Settled CommitFailure) × (r ≡ commit_told e)
  commit_answered w v s t r h c = let k = commit_is w v s t r h c in let m = k.2 in (m.answer, m.is)

  pub commit_tried : (w v : Walker M S G) (s t : Progress) (r : Result Settled CommitError) (x : Result Unit Failure) → is_open s ≡ true → CommitCalled sh w s r v t
      → ((e : Result Settled CommitFailure) → r ≡ commit_told e → x ≡ commit_end e) → TriedAs x t
  commit_tried w v s t r x h c told =
      let k = commit_is w v s t r h c in
      let m = k.2 in
      subst (λ y. TriedAs y t) (sym (told m.answer m.is)) (subst (TriedAs (commit_end m.answer)) (sym m.then) (commit_leaves w v k.0 m.place _ m.stamp m.answer m.told))

  pub abort_closed : (w v : Walker M S G) (s t : Progress) (r : Result Unit AbortError) → AbortCalled sh w s r v t → is_open t ≡ false
  abort_closed w v Idle t r c = ap is_open c.2
  abort_closed w v (Active p) t r c = ap is_open c.then ∙ aborted_closed c.place c.answer
  abort_closed w v (Worn p) t r c = ap is_open c.then ∙ aborted_closed c.place c.answer
  abort_closed w v (Undone p n upto) t r c = ap is_open c.then ∙ aborted_closed c.place c.answer
  abort_closed w v (Asked p home stamp) t r c = ap is_open c.2
  abort_closed w v (Ended p) t r c = ap is_open c.2

  ended_so : (t : Progress) (r : Result Unit AbortError) (x : Result Unit Stop) → AbortedAs r t → AbortEnds r x → IfOk x (λ u. has_ended t ≡ true)
  ended_so t (Ok a) x h e = subst (λ y. IfOk y (λ u. has_ended t ≡ true)) (sym e) h
  ended_so t (Err abort.NoTx) x h e = absurd h
  ended_so t (Err (abort.Worn at)) x h e = subst (λ y. IfOk y (λ u. has_ended t ≡ true)) (sym e) tt

  abort_ended : (w v : Walker M S G) (s t : Progress) (r : Result Unit AbortError) → is_open s ≡ true → AbortCalled sh w s r v t → AbortedAs r t
  abort_ended w v Idle t r h c = absurd (both_ways false refl h)
  abort_ended w v (Active p) t r h c = subst (λ x. AbortedAs x t) (sym c.is) (subst (AbortedAs (abort_told c.answer)) (sym c.then) (aborted_as c.place c.answer))
  abort_ended w v (Worn p) t r h c = absurd (both_ways false refl h)
  abort_ended w v (Undone p n upto) t r h c = absurd (both_ways false refl h)
  abort_ended w v (Asked p home stamp) t r h c = absurd (both_ways false refl h)
  abort_ended w v (Ended p) t r h c = absurd (both_ways false refl h)

  pub ends_aborted : (w v : Walker M S G) (s t : Progress) (r : Result Unit AbortError) (x : Result Unit Stop) → AbortCalled sh w s r v t → AbortEnds r x → is_open s ≡ true → IfOk x (λ u. has_ended t ≡ true)
  ends_aborted w v s t r x c e h = ended_so t r x (abort_ended w v s t r h c) e

  -- ---- beginnings

  fresh_of : (v : Walker M S G) (p : SessionState) (t : Progress) (tx : TxId) (birth : Birth) → p ≡ begun p tx birth → t ≡ Active p → IsFresh sh v t
  fresh_of v p t tx birth is then = record {
    place = p;
    birth = birth;
    is = then;
    birth_is = ap (λ z. z.birth) is;
    nth_is = ap (λ z. z.nth) is;
    written_is = ap (λ z. z.written) is;
    made = [];
    made_is = sym (append-nil (made_by v));
    acts_are = no_act 1 [];
  }

  begun_as : (w v : Walker M S G) (s t : Progress) (r : Result TxId BeginError) → is_open s ≡ false → BegunNext sh w s r v t → BegunAs sh v t r
  begun_as w v s t (Ok tx) h c = let b = (c.1).1 in fresh_of v (c.1).0 t _ b.birth (b.is (c.1).0) (c.1).3
  begun_as w v s t (Err (begin.Worn at)) h c = ap is_open c.3 ∙ h
  begun_as w v s t (Err (begin.Active tx)) h c = absurd c

  pub begin_as : (w v : Walker M S G) (s t : Progress) (r : Result TxId BeginError) → active_tx s ≡ None → BeginCalled sh w s r v t → BegunAs sh v t r
  begin_as w v Idle t r h c = begun_as w v Idle t r refl c
  begin_as w v (Active p) t r h c = absurd cc
  begin_as w v (Worn p) t r h c = absurd cc
  begin_as w v (Undone p n upto) t r h c = absurd cc
  begin_as w v (Asked p home stamp) t r h c = begun_as w v (Asked p home stamp) t r refl c
  begin_as w v (Ended p) t r h c = begun_as w v (Ended p) t r refl c

  retried_as : (w v : Walker M S G) (last : SessionState) (t : Progress) (r : Result TxId RetryError) → RetriedNext sh w last r v t → RetriedAs sh v t r
  retried_as w v last t (Ok tx) c = let b = (c.1).1 in fresh_of v (c.1).0 t _ b.birth (b.is (c.1).0) (c.1).3
  retried_as w v last t (Err (retry.Worn at)) c = ap is_open c.3
  retried_as w v last t (Err (retry.Active tx)) c = absurd c
  retried_as w v last t (Err retry.NoRetry) c = absurd c

  pub retry_as : (w v : Walker M S G) (s t : Progress) (r : Result TxId RetryError) → has_ended s ≡ true → RetryCalled sh w s r v t → RetriedAs sh v t r
  retry_as w v Idle t r h c = absurd (both_ways false refl h)
  retry_as w v (Active p) t r h c = absurd (both_ways false refl h)
  retry_as w v (Worn p) t r h c = absurd (both_ways false refl h)
  retry_as w v (Undone p n upto) t r h c = absurd (both_ways false refl h)
  retry_as w v (Asked p home stamp) t r h c = absurd (both_ways false refl h)
  retry_as w v (Ended p) t r h c = retried_as w v p t r c
