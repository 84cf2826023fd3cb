-- What an operation, an abort, a going back and a drop write is no COMMIT.
use Rattle.std.proofs.Common.{◌≡◌, refl, subst, ℕ, true, false, cond, not, Bool, List, [], ◌∷◌, ◌++◌, map, Option, Some, None}
use Rattle.std.proofs.lemmas.Bool.{or_from}
use Rattle.std.specs.Prelude.{take, zero, suc}
use Rattle.std.specs.List.{filter, AllByRecursion}
use Rattle.clv_base.specs.declared.names.TxId.{TxId}
use Rattle.clv_base.specs.declared.names.Birth.{Birth}
use Rattle.clv_base.specs.declared.ops.Op.{Op}
use Rattle.clv_base.specs.declared.ops.Answer.{Answer}
use Rattle.clv_base.specs.declared.causes.AbortCause.{AbortCause}
use Rattle.clv_base.specs.declared.logs.LogRecord.{LogRecord}
use Rattle.clv_base.specs.declared.logs.LogRecord.TheVariants.{Update, Abort, Restart, Add}
use Rattle.clv_base.specs.declared.modes.Decision.{Decision}
use Rattle.clv_base.specs.declared.modes.Decision.TheVariants.{Grant, Wait, Die}
use Rattle.clv_base.specs.declared.state.Stage.{Stage}
use Rattle.clv_base.specs.declared.state.Stage.TheVariants.{Active, Closed, Gone}
use Rattle.clv_base.specs.declared.changes.Change.{Change}
use Rattle.clv_base.specs.declared.changes.Change.TheVariants.{Sets, Adds}
use Rattle.clv_base.specs.Logs.{StandingUpdate, is_commit_of, committed_in, has_standing, standing}
use Rattle.clv_base.specs.Locks.{decide}
use Rattle.clv_base.specs.State.{Local, is_present}
use Rattle.clv_base.specs.Undo.{stage_of, is_of, aborts_of, clrs_by, clrs_of, newest_lsn, newest_lsns, is_at, doomed_here, roll_back, roll_to, compensation}
use Rattle.clv_base.specs.Needs.{needs_of, writes_of, value_at, key_of}
use Rattle.clv_base.specs.OneShard.{OpReply, OpWaits, OpCrowded, OpDies, OpAnswers, written, locked, rolled_back_if, without_part, op_granted, op_decided, op_by_stage, op_seen, op_reply, drop_part, seen_fits}
use Rattle.clv_base.specs.State.{Shard}
use Rattle.clv_base.specs.Restarts.{undo_records, restart_records, log_after_restart, next_epoch, losers, FailedRestarts, untouched, failed_first, Restarts}
use Rattle.clv_base.specs.Logs.{aborted_in}
use Rattle.law_base.proofs.Commits.{committed_from}

-- ---- records that are no COMMITs

abbrev pub IsNoCommit : LogRecord → Type 0
IsNoCommit r = (t : TxId) → is_commit_of t r ≡ false

abbrev pub HaveNoCommit : List LogRecord → Type 0
HaveNoCommit rs = AllByRecursion IsNoCommit rs

uncommitted : (rs : List LogRecord) → HaveNoCommit rs → (t : TxId) → committed_in rs t ≡ false
uncommitted [] a t = refl
uncommitted (r ∷ rs) a t = or_from _ _ (a.0 t) (uncommitted rs a.1 t)

both_have : (xs ys : List LogRecord) → HaveNoCommit xs → HaveNoCommit ys → HaveNoCommit (xs ++ ys)
both_have [] ys a b = b
both_have (x ∷ xs) ys a b = (a.0, both_have xs ys a.1 b)

take_have : (n : ℕ) (xs : List LogRecord) → HaveNoCommit xs → HaveNoCommit (take n xs)
take_have zero xs a = tt
take_have (suc n) [] a = tt
take_have (suc n) (x ∷ xs) a = (a.0, take_have n xs a.1)

aborts_have : (ts : List TxId) → HaveNoCommit (map (λ t. Abort t) ts)
aborts_have [] = tt
aborts_have (t ∷ ts) = ((λ u. refl), aborts_have ts)

clrs_have : (gone : StandingUpdate → Bool) (ws : List StandingUpdate) → HaveNoCommit (clrs_by gone ws)
clrs_have gone [] = tt
clrs_have gone (w ∷ ws) = at (gone w) w.change (clrs_have gone ws)
  where
    at : (b : Bool) (c : Change) → HaveNoCommit (clrs_by gone ws) → HaveNoCommit (cond b (compensation w.tx (newest_lsn w.tx ws) w.key c ∷ clrs_by gone ws) (clrs_by gone ws))
    at true (Sets before after) a = ((λ u. refl), a)
    at true (Adds by) a = ((λ u. refl), a)
    at false c a = a

-- a log that has no COMMITs but another's
abbrev pub NoMoreCommits : List LogRecord → List LogRecord → Type 0
NoMoreCommits xs ys = (t : TxId) → committed_in ys t ≡ true → committed_in xs t ≡ true

pub with_more : (xs ys : List LogRecord) → HaveNoCommit ys → NoMoreCommits xs (xs ++ ys)
with_more xs ys a t h = committed_from xs ys t (uncommitted ys a t) h

pub rolled : (tx : TxId) (l : Local) → NoMoreCommits l.log (roll_back tx l).log
rolled tx l t h =
    with_more l.log (aborts_of l.log (doomed_here l tx)) (aborts_have (filter (has_standing l.log) (doomed_here l tx))) t
    (with_more (l.log ++ aborts_of l.log (doomed_here l tx)) (clrs_of (doomed_here l tx) (standing l.log)) (clrs_have (is_of (doomed_here l tx)) (standing l.log)) t h)

rolled_if : (b : Bool) (tx : TxId) (l : Local) → NoMoreCommits l.log (rolled_back_if b tx l).log
rolled_if true tx l = rolled tx l
rolled_if false tx l = λ t h. h

pub without : (tx : TxId) (l : Local) → NoMoreCommits l.log (without_part tx l).log
without tx l = rolled_if (is_present (stage_of l tx)) tx l

pub gone_back : (tx : TxId) (n : ℕ) (l : Local) → NoMoreCommits l.log (roll_to tx n l).log
gone_back tx n l = let gone = is_at (newest_lsns n tx (standing l.log)) in with_more l.log (clrs_by gone (standing l.log)) (clrs_have gone (standing l.log))

pub dropped : (tx : TxId) (l : Local) → NoMoreCommits l.log (drop_part tx l).log
dropped tx l = without tx l

-- ---- an operation

data OpAdds (l : Local) : OpReply → Type 0 where
  waits : {y : TxId} → OpAdds l (OpWaits y)
  no_room : {n : ℕ} → OpAdds l (OpCrowded n)
  dies : {c : AbortCause} {m : Local} → NoMoreCommits l.log m.log → OpAdds l (OpDies c m)
  answers : {a : Answer} {m : Local} → NoMoreCommits l.log m.log → OpAdds l (OpAnswers a m)

writes : (tx : TxId) (w : Option (ℕ × Change)) (l : Local) → NoMoreCommits l.log (written tx w l).log
writes tx None l = λ t h. h
writes tx (Some (key, Sets before after)) l = with_more l.log (Update tx key before after ∷ []) ((λ t. refl), tt)
writes tx (Some (key, Adds by)) l = with_more l.log (Add tx key by ∷ []) ((λ t. refl), tt)

granted : (l : Local) (tx : TxId) (birth : Birth) (op : Op) (b : Bool) → OpAdds l (op_granted l tx birth op b)
granted l tx birth op true = no_room
granted l tx birth op false = answers (writes tx (writes_of op (value_at (key_of op) l.records)) (locked tx birth op l))

by_decision : (l : Local) (tx : TxId) (birth : Birth) (op : Op) (d : Decision) → OpAdds l (op_decided l tx birth op d)
by_decision l tx birth op Grant = granted l tx birth op _
by_decision l tx birth op (Wait y) = waits
by_decision l tx birth op (Die o) = dies (without tx l)

by_stage : (l : Local) (tx : TxId) (birth : Birth) (op : Op) (st : Option Stage) → OpAdds l (op_by_stage l tx birth op st)
by_stage l tx birth op None = by_decision l tx birth op (decide tx birth (needs_of op l.records) l.locks)
by_stage l tx birth op (Some Active) = by_decision l tx birth op (decide tx birth (needs_of op l.records) l.locks)
by_stage l tx birth op (Some Closed) = dies (λ t h. h)
by_stage l tx birth op (Some (Gone None)) = dies (λ t h. h)
by_stage l tx birth op (Some (Gone (Some d))) = dies (λ t h. h)

by_seen : (shard : ℕ) (l : Local) (tx : TxId) (birth : Birth) (seen : Option ℕ) (op : Op) (b : Bool) → OpAdds l (op_seen shard l tx birth seen op b)
by_seen shard l tx birth seen op true = by_stage l tx birth op (stage_of l tx)
by_seen shard l tx birth seen op false = dies (without tx l)

by_reply : (l m : Local) (c : AbortCause) → OpAdds l (OpDies c m) → NoMoreCommits l.log m.log
by_reply l m c (dies a) = a

by_answer : (l m : Local) (a : Answer) → OpAdds l (OpAnswers a m) → NoMoreCommits l.log m.log
by_answer l m a (answers h) = h

pub op_dying : (shard : ℕ) (l m : Local) (tx : TxId) (birth : Birth) (seen : Option ℕ) (op : Op) (c : AbortCause) → op_reply shard l tx birth seen op ≡ OpDies c m → NoMoreCommits l.log m.log
op_dying shard l m tx birth seen op c e = by_reply l m c (subst (OpAdds l) e (by_seen shard l tx birth seen op (seen_fits l.epoch seen)))

pub op_answering : (shard : ℕ) (l m : Local) (tx : TxId) (birth : Birth) (seen : Option ℕ) (op : Op) (a : Answer) → op_reply shard l tx birth seen op ≡ OpAnswers a m → NoMoreCommits l.log m.log
op_answering shard l m tx birth seen op a e = by_answer l m a (subst (OpAdds l) e (by_seen shard l tx birth seen op (seen_fits l.epoch seen)))

-- ---- a restart

restart_have : (shard : ℕ) (log : List LogRecord) (run epoch : ℕ) → HaveNoCommit (restart_records shard log run epoch)
restart_have shard log run epoch =
    both_have (undo_records shard log) (Restart run epoch ∷ [])
    (both_have _ _ (aborts_have (filter (λ t. not (aborted_in log t)) (losers shard log))) (clrs_have (is_of (losers shard log)) (standing log))) ((λ t. refl), tt)

pub opening_adds : (shard : ℕ) (log : List LogRecord) (run epoch : ℕ) → NoMoreCommits log (log_after_restart shard log run epoch)
opening_adds shard log run epoch = with_more log (restart_records shard log run epoch) (restart_have shard log run epoch)

failed_adds : (s : Shard) (found left : List LogRecord) → FailedRestarts s found left → NoMoreCommits found left
failed_adds s found _ untouched = λ t h. h
failed_adds s found left (failed_first n f) =
    λ t h. with_more found (take n (restart_records s.shard found s.run (next_epoch s found))) (take_have n _ (restart_have s.shard found s.run (next_epoch s found))) t
    (failed_adds s (found ++ take n (restart_records s.shard found s.run (next_epoch s found))) left f t h)

pub restarts_add : (s : Shard) (found : List LogRecord) (epoch : ℕ) (after : List LogRecord) → Restarts s found epoch after → NoMoreCommits found after
restarts_add s found epoch after (left, f, e, a) t h = failed_adds s found left f t (opening_adds s.shard left s.run epoch t (subst (λ z. committed_in z t ≡ true) a h))
