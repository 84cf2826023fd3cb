-- What a session's calls make of its walker.
use Rattle.std.proofs.Common.{◌≡◌, ◌∙◌, sym, ap, subst, ℕ, Bool, true, false, nat_lt, List, [], ◌++◌, append_assoc, append-nil, Option, Some, None, Result, Ok, Err, inl, inr}
use Rattle.clv_base.specs.declared.values.Value.{Value as ValueType}
use Rattle.clv_base.specs.declared.names.TxId.{TxId}
use Rattle.clv_base.specs.declared.ops.Op.{Op}
use Rattle.clv_base.specs.declared.ops.Answer.{Answer}
use Rattle.cluster_turns.specs.declared.shards.Shards.{Shards}
use Rattle.cluster_turns.specs.declared.shards.Walker.{Walker}
use Rattle.cluster_turns.specs.Walkers.{kept}
use Rattle.cluster_closing.specs.Held.{HoldsNone, FetchedNone}
use Rattle.cluster_closing.proofs.Laws.{turns_hold_none, turns_fetch_none}
use Rattle.cluster_turns.specs.CallTurns.{Turn, Took, entries_made}
use Rattle.cluster_turns.proofs.Laws.{kept_grows}
use Rattle.session_ops.specs.declared.operating.OpError.{OpError as OpFailure}
use Rattle.session_ops.specs.declared.committing.Settled.{Settled}
use Rattle.session_ops.specs.declared.committing.CommitError.{CommitError as CommitFailure}
use Rattle.session_ops.specs.declared.rolling.BackError.{BackError}
use Rattle.session_ops.specs.Committed.{CommitTold}
use Rattle.clv_base.specs.Sessions.{SessionState}
use Rattle.session_api.specs.declared.progress.Progress.{Progress}
use Rattle.session_api.specs.declared.progress.Progress.TheVariants.{Idle, Active, Worn, Undone, Asked, Ended}
use Rattle.session_api.specs.declared.beginning.BeginError.{BeginError}
use Rattle.session_api.specs.declared.beginning.BeginError.TheVariants as begin
use Rattle.session_api.specs.declared.retrying.RetryError.{RetryError}
use Rattle.session_api.specs.declared.retrying.RetryError.TheVariants as retry
use Rattle.session_api.specs.declared.operating.OpError.{OpError}
use Rattle.session_api.specs.declared.savepoints.RollError.{RollError}
use Rattle.session_api.specs.declared.ending.CommitError.{CommitError}
use Rattle.session_api.specs.declared.ending.AbortError.{AbortError}
use Rattle.session_api.specs.Progresses.{active_tx}
use Rattle.session_api.specs.GoingBack.{has_number, AgainMade, BackCalled, RollBeside, RollCalled}
use Rattle.session_api.specs.Sessions.{IsSession, BegunNext, BeginCalled, RetriedNext, RetryCalled, PointCalled, RangeCalled, RangeBeside, ScanCalled, CommitCalled, AbortCalled}
use Rattle.session_examples.specs.Later.{IsLater}

module _ {M S G : Type 0} where
  -- ---- turns

  turns_later : (w v : Walker M S G) (c d : ℕ) (ts : List Turn) → v.number ≡ w.number → Took w.number c w.passes.items ts d v.passes.items → IsLater w v
  turns_later w v c d ts same took = record {
    number_is = same;
    made = entries_made ts;
    kept_is = kept_grows w.number c d w.passes.items v.passes.items ts took;
    fetched = turns_fetch_none w.number c d w.passes.items v.passes.items ts took;
    disks = λ h. subst (λ k. HoldsNone k v.passes.items) (sym same) (turns_hold_none None w.number c d w.passes.items v.passes.items ts took h);
  }

  so_later : (w v : Walker M S G) → v.number ≡ w.number → v.passes.items ≡ w.passes.items → IsLater w v
  so_later w v number passes = record {
    number_is = number;
    made = [];
    kept_is = ap kept passes ∙ sym (append-nil (kept w.passes.items));
    fetched = subst FetchedNone (sym passes);
    disks = λ h. subst (λ k. HoldsNone k v.passes.items) (sym number) (subst (HoldsNone w.number) (sym passes) h);
  }

  pub same_later : (w v : Walker M S G) → v ≡ w → IsLater w v
  same_later w v is = so_later w v (ap (λ z. z.number) is) (ap (λ z. z.passes.items) is)

  pub later_on : (u v w : Walker M S G) → IsLater u v → IsLater v w → IsLater u w
  later_on u v w a b = record {
    number_is = b.number_is ∙ a.number_is;
    made = a.made ++ b.made;
    kept_is = b.kept_is ∙ ap (λ l. l ++ b.made) a.kept_is ∙ append_assoc (kept u.passes.items) a.made b.made;
    fetched = λ h. b.fetched (a.fetched h);
    disks = λ h. b.disks (a.disks h);
  }

module _ {M S G : Type 0} (sh : Shards M S G) where
  -- ---- beginnings

  begun_later : (w v : Walker M S G) (s t : Progress) (r : Result TxId BeginError) → BegunNext sh w s r v t → IsLater w v
  begun_later w v s t (Ok tx) c = let b = (c.1).1 in so_later w v (ap (λ z. z.number) b.walker_is) (ap (λ z. z.passes.items) b.walker_is)
  begun_later w v s t (Err (begin.Worn at)) c = same_later w v c.2
  begun_later w v s t (Err (begin.Active tx)) c = absurd c

  pub begin_later : (w v : Walker M S G) (s t : Progress) (r : Result TxId BeginError) → BeginCalled sh w s r v t → IsLater w v
  begin_later w v Idle t r c = begun_later w v Idle t r c
  begin_later w v (Active p) t r c = same_later w v c.1
  begin_later w v (Worn p) t r c = same_later w v c.1
  begin_later w v (Undone p n upto) t r c = same_later w v c.1
  begin_later w v (Asked p home stamp) t r c = begun_later w v (Asked p home stamp) t r c
  begin_later w v (Ended p) t r c = begun_later w v (Ended p) t r c

  retried_later : (w v : Walker M S G) (last : SessionState) (t : Progress) (r : Result TxId RetryError) → RetriedNext sh w last r v t → IsLater w v
  retried_later w v last t (Ok tx) c = let b = (c.1).1 in so_later w v (ap (λ z. z.number) b.walker_is) (ap (λ z. z.passes.items) b.walker_is)
  retried_later w v last t (Err (retry.Worn at)) c = same_later w v c.2
  retried_later w v last t (Err (retry.Active tx)) c = absurd c
  retried_later w v last t (Err retry.NoRetry) c = absurd c

  pub retry_later : (w v : Walker M S G) (s t : Progress) (r : Result TxId RetryError) → RetryCalled sh w s r v t → IsLater w v
  retry_later w v Idle t r c = same_later w v c.1
  retry_later w v (Active p) t r c = same_later w v c.1
  retry_later w v (Worn p) t r c = same_later w v c.1
  retry_later w v (Undone p n upto) t r c = same_later w v c.1
  retry_later w v (Asked p home stamp) t r c = same_later w v c.1
  retry_later w v (Ended p) t r c = retried_later w v p t r c

  -- ---- operations

  pub point_later : {A : Type 0} (tells : Result Answer OpFailure → Result A OpFailure) (w v : Walker M S G) (s t : Progress) (op : Op) (key : ℕ) (r : Result A OpError) → IsSession sh w s → PointCalled tells sh w s op key r v t → IsLater w v
  point_later tells w v Idle t op key r h c = same_later w v c.1
  point_later tells w v (Active p) t op key r h c = let b = h.stands.born in let k = c.told.turns b.birth b.is in turns_later w v w.clock v.clock (k.asking ++ k.leaving) c.walker.0 k.took
  point_later tells w v (Worn p) t op key r h c = same_later w v c.1
  point_later tells w v (Undone p n upto) t op key r h c = same_later w v c.1
  point_later tells w v (Asked p home stamp) t op key r h c = same_later w v c.1
  point_later tells w v (Ended p) t op key r h c = same_later w v c.1

  range_later : (w v : Walker M S G) (s t : Progress) (lo hi : ℕ) (r : Result (List (ℕ × ValueType)) OpError) → IsSession sh w s → RangeCalled sh w s lo hi r v t → IsLater w v
  range_later w v Idle t lo hi r h c = same_later w v c.1
  range_later w v (Active p) t lo hi r h c = let b = h.stands.born in let k = c.turns b.birth b.is in turns_later w v w.clock v.clock k.turns c.walker.0 k.took
  range_later w v (Worn p) t lo hi r h c = same_later w v c.1
  range_later w v (Undone p n upto) t lo hi r h c = same_later w v c.1
  range_later w v (Asked p home stamp) t lo hi r h c = same_later w v c.1
  range_later w v (Ended p) t lo hi r h c = same_later w v c.1

  beside_later : (o : Option TxId) (falls : Bool) (w v : Walker M S G) (s t : Progress) (lo hi : ℕ) (r : Result (List (ℕ × ValueType)) OpError) → IsSession sh w s → RangeBeside o falls sh w s lo hi r v t → IsLater w v
  beside_later (Some tx) true w v s t lo hi r h c = same_later w v c.1
  beside_later (Some tx) false w v s t lo hi r h c = range_later w v s t lo hi r h c
  beside_later None falls w v s t lo hi r h c = range_later w v s t lo hi r h c

  pub scan_later : (w v : Walker M S G) (s t : Progress) (lo hi : ℕ) (r : Result (List (ℕ × ValueType)) OpError) → IsSession sh w s → ScanCalled sh w s lo hi r v t → IsLater w v
  scan_later w v s t lo hi r h c = beside_later _ (nat_lt hi lo) w v s t lo hi r h c

  -- ---- goings back

  again_later : (w v : Walker M S G) (p : SessionState) (n upto : ℕ) (e : BackError) (t : Progress) → AgainMade sh w p n upto e v t → IsLater w v
  again_later w v p n upto e t made = let d = made.turns in turns_later w v w.clock v.clock d.turns made.walker.0 d.took

  back_later : (w v : Walker M S G) (s t : Progress) (upto : ℕ) (r : Result Unit RollError) → BackCalled sh w s upto r v t → IsLater w v
  back_later w v Idle t upto r c = absurd c
  back_later w v (Active p) t upto r c = let d = c.turns in turns_later w v w.clock v.clock d.turns c.walker.0 d.took
  back_later w v (Worn p) t upto r c = same_later w v c.1
  back_later w v (Undone p n left) t upto r c = again_later w v p n left c.error t c.made
  back_later w v (Asked p home stamp) t upto r c = absurd c
  back_later w v (Ended p) t upto r c = absurd c

  roll_beside_later : (o : Option TxId) (saved : Bool) (w v : Walker M S G) (s t : Progress) (upto : ℕ) (r : Result Unit RollError) → RollBeside o saved sh w s upto r v t → IsLater w v
  roll_beside_later None saved w v s t upto r c = same_later w v c.1
  roll_beside_later (Some tx) false w v s t upto r c = same_later w v c.1
  roll_beside_later (Some tx) true w v s t upto r c = back_later w v s t upto r c

  pub roll_later : (w v : Walker M S G) (s t : Progress) (saves : List ℕ) (upto : ℕ) (r : Result Unit RollError) → RollCalled sh w s saves upto r v t → IsLater w v
  roll_later w v s t saves upto r c = roll_beside_later (active_tx s) (has_number upto saves) w v s t upto r c

  -- ---- ends

  committed_later : (w v : Walker M S G) (p q : SessionState) (count stamp : ℕ) (r : Result Settled CommitFailure) → v.number ≡ w.number → CommitTold count w p stamp r v q → IsLater w v
  committed_later w v p q count stamp r same (inl (none, is, stays, place)) = same_later w v stays
  committed_later w v p q count stamp r same (inr (home, low, c)) = turns_later w v w.clock v.clock (c.asking ++ c.rest) same c.took

  pub commit_later : (w v : Walker M S G) (s t : Progress) (r : Result Settled CommitError) → CommitCalled sh w s r v t → IsLater w v
  commit_later w v Idle t r c = same_later w v c.1
  commit_later w v (Active p) t r c = committed_later w v p c.place _ c.stamp c.answer c.walker.0 c.told
  commit_later w v (Worn p) t r c = same_later w v c.1
  commit_later w v (Undone p n upto) t r c = again_later w v p n upto c.error t c.made
  commit_later w v (Asked p home stamp) t r c = let d = c.turns in turns_later w v w.clock v.clock d.turns c.walker.0 d.took
  commit_later w v (Ended p) t r c = same_later w v c.1

  pub abort_later : (w v : Walker M S G) (s t : Progress) (r : Result Unit AbortError) → AbortCalled sh w s r v t → IsLater w v
  abort_later w v Idle t r c = same_later w v c.1
  abort_later w v (Active p) t r c = let d = c.drops in turns_later w v w.clock v.clock d.turns c.walker.0 d.took
  abort_later w v (Worn p) t r c = let d = c.drops in turns_later w v w.clock v.clock d.turns c.walker.0 d.took
  abort_later w v (Undone p n upto) t r c = let d = c.drops in turns_later w v w.clock v.clock d.turns c.walker.0 d.took
  abort_later w v (Asked p home stamp) t r c = same_later w v c.1
  abort_later w v (Ended p) t r c = same_later w v c.1
