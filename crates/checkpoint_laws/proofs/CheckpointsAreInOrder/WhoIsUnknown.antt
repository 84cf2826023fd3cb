-- Of one that isn't committed in a log in order, and of whom no write stands there, its checkpoint has no record.
use Rattle.std.proofs.Common.{◌≡◌, refl, sym, ap, subst, ◌∙◌, ℕ, suc, Bool, true, false, not, ◌&&◌, List, [], ◌∷◌, None}
use Rattle.std.specs.List.{list_any}
use Rattle.std.proofs.lemmas.Bool.{both_ways, false_from_ne_true}
use Rattle.clv_base.specs.declared.names.TxId.{TxId}
use Rattle.clv_base.specs.declared.logs.LogRecord.{LogRecord}
use Rattle.clv_base.specs.declared.logs.LogRecord.TheVariants.{Update, Clr, Prepare, Commit, Abort, End, Restart, Add, Unadd, Forgotten, Check}
use Rattle.clv_base.specs.Logs.{standing, has_standing, wrote_in, committed_in, prepared_in, aborted_in, ended_in, is_update_of, is_undo_of, is_commit_of, is_prepare_of, is_abort_of, is_end_of, is_record_of}
use Rattle.clv_base.specs.LogRules.{is_known, disorder}
use Rattle.clv_base.specs.Checkpoints.{is_left_open, kept_if, kept_prepare, kept_of, kept_from, check}
use Rattle.clv_base.proofs.SameNames.{tx_true}
use Rattle.law_base.proofs.Bools.{and_no, none_or}
use Rattle.law_base.proofs.Parts.{unprepared}
use Rattle.law_base.proofs.Standing.{has_write, has_filter, all_of_it_stands}
use Rattle.shard_laws.proofs.Order.WritesLieOnListed.{ended_committed}
use Rattle.log_checkpoint.specs.Laws.{IsFirst}
use Rattle.log_checkpoint.proofs.Keeping.{committed_before}
use Rattle.log_checkpoint.proofs.Leaving.{open_stand}
use Rattle.log_checkpoint.proofs.StayingAlike.{none_stays}
use Rattle.checkpoint_laws.proofs.InOrder.{begins}
use Rattle.checkpoint_laws.proofs.CheckpointsAreInOrder.ClosedWriteNoMore.{neither}
use Rattle.checkpoint_laws.proofs.CheckpointsAreInOrder.KeptRecordsWereThere.{none_wider, ends_wider}

if_not : (test : LogRecord → Bool) → test Forgotten ≡ false → (b : Bool) (r : LogRecord) → test r ≡ false → test (kept_if b r) ≡ false
if_not test none true r e = e
if_not test none false r e = none

prepare_not : (test : LogRecord → Bool) → test Forgotten ≡ false → ((tx : TxId) (home : ℕ) (ps : List TxId) → test (Prepare tx home ps) ≡ false)
    → (shard : ℕ) (log : List LogRecord) (tx : TxId) (home : ℕ) (ps : List TxId) (b : Bool) → test (kept_prepare shard log tx home ps b) ≡ false
prepare_not test none fails shard log tx home ps true = if_not test none _ _ (fails tx home [])
prepare_not test none fails shard log tx home ps false = if_not test none _ _ (fails tx home _)

-- no record that stays undoes a write
undo_goes : (shard : ℕ) (log : List LogRecord) (t : TxId) (n : ℕ) (r : LogRecord) → is_undo_of t (kept_of shard log n r) ≡ false
undo_goes shard log t n (Update tx key before after) = if_not (is_undo_of t) refl _ (Update tx key before after) refl
undo_goes shard log t n (Add tx key by) = if_not (is_undo_of t) refl _ (Add tx key by) refl
undo_goes shard log t n (Clr tx undo_next key after) = refl
undo_goes shard log t n (Unadd tx undo_next key by) = refl
undo_goes shard log t n (Prepare tx home ps) = prepare_not (is_undo_of t) refl (λ tx home ps. refl) shard log tx home ps (committed_in log tx)
undo_goes shard log t n (Commit tx parts) = if_not (is_undo_of t) refl _ (Commit tx parts) refl
undo_goes shard log t n (Abort tx) = if_not (is_undo_of t) refl _ (Abort tx) refl
undo_goes shard log t n (End tx) = refl
undo_goes shard log t n (Restart run epoch) = refl
undo_goes shard log t n Forgotten = refl
undo_goes shard log t n (Check run epoch upto base) = refl

undos_go : (shard : ℕ) (log : List LogRecord) (t : TxId) (n : ℕ) (rs : List LogRecord) → list_any (is_undo_of t) (kept_from shard log n rs) ≡ false
undos_go shard log t n [] = refl
undos_go shard log t n (r ∷ rs) = neither _ _ (undo_goes shard log t n r) (undos_go shard log t (suc n) rs)

-- of one that isn't left open no ABORT stays
abort_goes : (shard : ℕ) (log : List LogRecord) (t : TxId) → is_left_open log t ≡ false → (n : ℕ) (r : LogRecord) → is_abort_of t (kept_of shard log n r) ≡ false
abort_goes shard log t shut n (Abort tx) =
    false_from_ne_true _ (λ e. at (is_left_open log tx) refl e)
  where
    at : (b : Bool) → is_left_open log tx ≡ b → is_abort_of t (kept_if b (Abort tx)) ≡ true → ⊥
    at true o e = both_ways _ shut (subst (λ z. is_left_open log z ≡ true) (sym (tx_true t tx e)) o)
    at false o e = both_ways false refl e
abort_goes shard log t shut n (Update tx key before after) = if_not (is_abort_of t) refl _ (Update tx key before after) refl
abort_goes shard log t shut n (Add tx key by) = if_not (is_abort_of t) refl _ (Add tx key by) refl
abort_goes shard log t shut n (Clr tx undo_next key after) = refl
abort_goes shard log t shut n (Unadd tx undo_next key by) = refl
abort_goes shard log t shut n (Prepare tx home ps) = prepare_not (is_abort_of t) refl (λ tx home ps. refl) shard log tx home ps (committed_in log tx)
abort_goes shard log t shut n (Commit tx parts) = if_not (is_abort_of t) refl _ (Commit tx parts) refl
abort_goes shard log t shut n (End tx) = refl
abort_goes shard log t shut n (Restart run epoch) = refl
abort_goes shard log t shut n Forgotten = refl
abort_goes shard log t shut n (Check run epoch upto base) = refl

pub aborts_go : (shard : ℕ) (log : List LogRecord) (t : TxId) → is_left_open log t ≡ false → (n : ℕ) (rs : List LogRecord) → aborted_in (kept_from shard log n rs) t ≡ false
aborts_go shard log t shut n [] = refl
aborts_go shard log t shut n (r ∷ rs) = neither _ _ (abort_goes shard log t shut n r) (aborts_go shard log t shut (suc n) rs)

-- a record of a transaction is of one of these kinds
no_record : (t : TxId) (rs : List LogRecord) → wrote_in rs t ≡ false → list_any (is_undo_of t) rs ≡ false → prepared_in rs t ≡ false → committed_in rs t ≡ false → aborted_in rs t ≡ false → ended_in rs t ≡ false → is_known rs t ≡ false
no_record t [] w u p c a e = refl
no_record t (r ∷ rs) w u p c a e =
    let ws = none_or _ _ w in let us = none_or _ _ u in let pp = none_or _ _ p in let cs = none_or _ _ c in let as_ = none_or _ _ a in let es = none_or _ _ e in
    neither _ _ (one r ws.0 us.0 pp.0 cs.0 as_.0 es.0) (no_record t rs ws.1 us.1 pp.1 cs.1 as_.1 es.1)
  where
    one : (q : LogRecord) → is_update_of t q ≡ false → is_undo_of t q ≡ false → is_prepare_of t q ≡ false → is_commit_of t q ≡ false → is_abort_of t q ≡ false → is_end_of t q ≡ false → is_record_of t q ≡ false
    one (Update tx key before after) w u p c a e = w
    one (Add tx key by) w u p c a e = w
    one (Clr tx undo_next key after) w u p c a e = u
    one (Unadd tx undo_next key by) w u p c a e = u
    one (Prepare tx home ps) w u p c a e = p
    one (Commit tx parts) w u p c a e = c
    one (Abort tx) w u p c a e = a
    one (End tx) w u p c a e = e
    one (Restart run epoch) w u p c a e = refl
    one Forgotten w u p c a e = refl
    one (Check run epoch upto base) w u p c a e = refl

-- what of one stands in a checkpoint
pub checked_stands : (shard : ℕ) (first : LogRecord) (later : List LogRecord) → IsFirst first → (t : TxId) → has_standing (check shard (first ∷ later)) t ≡ is_left_open (first ∷ later) t
checked_stands shard first later f t =
    ap (λ ws. has_write ws t) (open_stand shard (first ∷ later) f) ∙ has_filter (λ u. not (committed_in (first ∷ later) u)) (standing (first ∷ later)) t

pub unknown : (shard : ℕ) (first : LogRecord) (later : List LogRecord) → disorder shard (first ∷ later) ≡ None → (t : TxId) → committed_in (first ∷ later) t ≡ false → has_standing (first ∷ later) t ≡ false
    → is_known (kept_from shard (first ∷ later) 1 later) t ≡ false
unknown shard first later d t c h =
    let log : List LogRecord = first ∷ later in
    let f : IsFirst first = begins shard log d in
    let shut : is_left_open log t ≡ false = ap (λ b. not (committed_in log t) && b) h ∙ and_no (not (committed_in log t)) in
    no_record t (kept_from shard log 1 later)
    (sym (all_of_it_stands (check shard log) t (undos_go shard log t 1 later)) ∙ checked_stands shard first later f t ∙ shut)
    (undos_go shard log t 1 later)
    (unprepared (kept_from shard log 1 later) t (none_stays shard log 1 later t c shut))
    (false_from_ne_true _ (λ k. both_ways _ c (committed_before shard log t k)))
    (aborts_go shard log t shut 1 later)
    (none_wider (is_end_of t) (ends_wider t) shard log 1 later (none_or _ _ (false_from_ne_true (ended_in log t) (λ e. both_ways _ c (ended_committed shard log d t e)))).1)
