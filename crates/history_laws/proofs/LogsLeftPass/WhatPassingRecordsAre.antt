-- Records that pass, and what events append.
use Rattle.std.proofs.Common.{◌≡◌, refl, sym, subst, ℕ, zero, suc, ◌<◌, true, false, cond, not, Bool, List, [], ◌∷◌, ◌++◌, map, Option, Some, None}
use Rattle.std.specs.Prelude.{take}
use Rattle.std.specs.List.{AllByRecursion, filter, list_all}
use Rattle.std.proofs.lemmas.Bool.{and_parts, and_from, lt-ltb}
use Rattle.clv_base.specs.declared.values.Value.{Value as ValueType}
use Rattle.clv_base.specs.declared.values.Value.TheVariants.{Num, Bytes}
use Rattle.clv_base.specs.declared.names.TxId.{TxId}
use Rattle.clv_base.specs.declared.names.Birth.{Birth}
use Rattle.clv_base.specs.declared.ops.Op.{Op}
use Rattle.clv_base.specs.declared.ops.Op.TheVariants as ops
use Rattle.clv_base.specs.declared.ops.Op.TheVariants.{Get, Put, Del, Scan}
use Rattle.clv_base.specs.declared.logs.LogRecord.{LogRecord}
use Rattle.clv_base.specs.declared.logs.LogRecord.TheVariants.{Update, Clr, Prepare, Commit, Abort, End, Restart, Add, Unadd, Forgotten, Check}
use Rattle.clv_base.specs.declared.changes.Change.{Change}
use Rattle.clv_base.specs.declared.changes.Change.TheVariants.{Sets, Adds}
use Rattle.clv_base.specs.declared.modes.Decision.{Decision}
use Rattle.clv_base.specs.declared.modes.Decision.TheVariants.{Grant, Wait, Die}
use Rattle.clv_base.specs.declared.state.Stage.{Stage}
use Rattle.clv_base.specs.declared.state.Stage.TheVariants.{Active, Closed, Gone}
use Rattle.clv_base.specs.Orders.{tx_same}
use Rattle.clv_base.specs.Logs.{StandingUpdate, standing_from, standing, without_newest, aborted_in, has_standing}
use Rattle.clv_base.specs.Locks.{decide}
use Rattle.clv_base.specs.Shards.{shard_count, in_span}
use Rattle.clv_base.specs.Sessions.{lies_in}
use Rattle.clv_base.specs.FileRules.{passes_file_rules}
use Rattle.clv_base.specs.State.{Shard, Local, is_present}
use Rattle.clv_base.specs.Undo.{stage_of, aborts_of, clrs_of, newest_lsn, doomed_here, roll_back, compensation, is_of, clrs_by, is_at, newest_lsns, roll_to}
use Rattle.clv_base.specs.Needs.{needs_of, writes_of, value_at, key_of}
use Rattle.clv_base.specs.OneShard.{OpReply, OpWaits, OpCrowded, OpDies, OpAnswers, written, locked, rolled_back_if, op_granted, op_decided, op_by_stage, op_seen, op_reply, closing, drop_part, seen_fits}
use Rattle.clv_base.specs.Restarts.{undo_records, restart_records, log_after_restart, next_epoch, losers, FailedRestarts, untouched, failed_first, Restarts}

abbrev pub PassesRule : List ℕ → ℕ → LogRecord → Type 0
PassesRule splits n r = passes_file_rules splits n r ≡ true

abbrev pub Passes : List ℕ → ℕ → List LogRecord → Type 0
Passes splits n log = AllByRecursion (PassesRule splits n) log

pub passes_more : (splits : List ℕ) (n : ℕ) (xs ys : List LogRecord) → Passes splits n xs → Passes splits n ys → Passes splits n (xs ++ ys)
passes_more splits n [] ys a b = b
passes_more splits n (x ∷ xs) ys a b = (a.0, passes_more splits n xs ys a.1 b)

pub passes_front : (splits : List ℕ) (n k : ℕ) (xs : List LogRecord) → Passes splits n xs → Passes splits n (take k xs)
passes_front splits n zero xs a = tt
passes_front splits n (suc k) [] a = tt
passes_front splits n (suc k) (x ∷ xs) a = (a.0, passes_front splits n k xs a.1)

pub passes_all : (splits : List ℕ) (n : ℕ) (xs : List LogRecord) → list_all (passes_file_rules splits n) xs ≡ true → Passes splits n xs
passes_all splits n [] e = tt
passes_all splits n (x ∷ xs) e = let p = and_parts (passes_file_rules splits n x) (list_all (passes_file_rules splits n) xs) e in (p.0, passes_all splits n xs p.1)

pub all_pass : (splits : List ℕ) (n : ℕ) (xs : List LogRecord) → Passes splits n xs → list_all (passes_file_rules splits n) xs ≡ true
all_pass splits n [] a = refl
all_pass splits n (x ∷ xs) a = and_from (passes_file_rules splits n x) (list_all (passes_file_rules splits n) xs) a.0 (all_pass splits n xs a.1)

-- ---- undo: a CLR has the key of an UPDATE

abbrev KeysLie : List ℕ → ℕ → List StandingUpdate → Type 0
KeysLie splits n ws = AllByRecursion (λ w. in_span splits n w.key ≡ true) ws

without_lie : (splits : List ℕ) (n : ℕ) (t : TxId) (ws : List StandingUpdate) → KeysLie splits n ws → KeysLie splits n (without_newest t ws)
without_lie splits n t [] a = tt
without_lie splits n t (w ∷ ws) a = at (tx_same t w.tx) (without_lie splits n t ws a.1)
  where
    at : (b : Bool) → KeysLie splits n (without_newest t ws) → KeysLie splits n (cond b ws (w ∷ without_newest t ws))
    at true k = a.1
    at false k = (a.0, k)

standing_lie : (splits : List ℕ) (n k : ℕ) (log : List LogRecord) (ws : List StandingUpdate) → Passes splits n log → KeysLie splits n ws → KeysLie splits n (standing_from k log ws)
standing_lie splits n k [] ws p a = a
standing_lie splits n k (Update tx key b x ∷ rs) ws p a = standing_lie splits n (suc k) rs _ p.1 (p.0, a)
standing_lie splits n k (Clr tx u key x ∷ rs) ws p a = standing_lie splits n (suc k) rs _ p.1 (without_lie splits n tx ws a)
standing_lie splits n k (Prepare tx h ps ∷ rs) ws p a = standing_lie splits n (suc k) rs ws p.1 a
standing_lie splits n k (Commit tx ps ∷ rs) ws p a = standing_lie splits n (suc k) rs ws p.1 a
standing_lie splits n k (Abort tx ∷ rs) ws p a = standing_lie splits n (suc k) rs ws p.1 a
standing_lie splits n k (End tx ∷ rs) ws p a = standing_lie splits n (suc k) rs ws p.1 a
standing_lie splits n k (Restart run epoch ∷ rs) ws p a = standing_lie splits n (suc k) rs ws p.1 a
standing_lie splits n k (Add tx key by ∷ rs) ws p a = standing_lie splits n (suc k) rs _ p.1 (p.0, a)
standing_lie splits n k (Unadd tx u key by ∷ rs) ws p a = standing_lie splits n (suc k) rs _ p.1 (without_lie splits n tx ws a)
standing_lie splits n k (Forgotten ∷ rs) ws p a = standing_lie splits n (suc k) rs ws p.1 a
standing_lie splits n k (Check run' epoch' upto base ∷ rs) ws p a = standing_lie splits n (suc k) rs ws p.1 a

aborts_pass : (splits : List ℕ) (n : ℕ) (ts : List TxId) → Passes splits n (map (λ t. Abort t) ts)
aborts_pass splits n [] = tt
aborts_pass splits n (t ∷ ts) = (refl, aborts_pass splits n ts)

clrs_pass : (splits : List ℕ) (n : ℕ) (gone : StandingUpdate → Bool) (ws : List StandingUpdate) → KeysLie splits n ws → Passes splits n (clrs_by gone ws)
clrs_pass splits n gone [] a = tt
clrs_pass splits n gone (w ∷ ws) a = at (gone w) w.change (clrs_pass splits n gone ws a.1)
  where
    at : (b : Bool) (c : Change) → Passes splits n (clrs_by gone ws) → Passes splits n (cond b (compensation w.tx (newest_lsn w.tx ws) w.key c ∷ clrs_by gone ws) (clrs_by gone ws))
    at true (Sets before after) k = (a.0, k)
    at true (Adds by) k = (a.0, k)
    at false c k = k

pub rolled_pass : (splits : List ℕ) (n : ℕ) (tx : TxId) (l : Local) → Passes splits n l.log → Passes splits n (roll_back tx l).log
rolled_pass splits n tx l p =
    passes_more splits n (l.log ++ aborts_of l.log (doomed_here l tx)) (clrs_of (doomed_here l tx) (standing l.log))
    (passes_more splits n l.log (aborts_of l.log (doomed_here l tx)) p (aborts_pass splits n (filter (has_standing l.log) (doomed_here l tx))))
    (clrs_pass splits n (is_of (doomed_here l tx)) (standing l.log) (standing_lie splits n 0 l.log [] p tt))

pub taken_back_pass : (splits : List ℕ) (n : ℕ) (tx : TxId) (count : ℕ) (l : Local) → Passes splits n l.log → Passes splits n (roll_to tx count l).log
taken_back_pass splits n tx count l p =
    passes_more splits n l.log (clrs_by (is_at (newest_lsns count tx (standing l.log))) (standing l.log)) p
    (clrs_pass splits n (is_at (newest_lsns count tx (standing l.log))) (standing l.log) (standing_lie splits n 0 l.log [] p tt))

without_pass : (splits : List ℕ) (n : ℕ) (b : Bool) (tx : TxId) (l : Local) → Passes splits n l.log → Passes splits n (rolled_back_if b tx l).log
without_pass splits n true tx l p = rolled_pass splits n tx l p
without_pass splits n false tx l p = p

pub dropped_pass : (splits : List ℕ) (n : ℕ) (tx : TxId) (l : Local) → Passes splits n l.log → Passes splits n (drop_part tx l).log
dropped_pass splits n tx l p = without_pass splits n (is_present (stage_of l tx)) tx l p

-- ---- an operation

writes_pass : (splits : List ℕ) (n : ℕ) (tx : TxId) (op : Op) (v : Option ValueType) (l : Local) → lies_in splits n op ≡ true → Passes splits n l.log → Passes splits n (written tx (writes_of op v) l).log
writes_pass splits n tx (Get k) v l e p = p
writes_pass splits n tx (Scan lo hi) v l e p = p
writes_pass splits n tx (Put k x) v l e p = passes_more splits n l.log (Update tx k v (Some x) ∷ []) p (e, tt)
writes_pass splits n tx (Del k) None l e p = p
writes_pass splits n tx (Del k) (Some w) l e p = passes_more splits n l.log (Update tx k (Some w) None ∷ []) p (e, tt)
writes_pass splits n tx (ops.Add k by) None l e p = p
writes_pass splits n tx (ops.Add k by) (Some (Num v)) l e p = passes_more splits n l.log (Add tx k by ∷ []) p (e, tt)
writes_pass splits n tx (ops.Add k by) (Some (Bytes b)) l e p = p

-- what it leaves passes, where the keys of what it answers are the shard's
abbrev OpLeaves : List ℕ → ℕ → Op → Local → OpReply → Type 0
OpLeaves splits n op l (OpWaits y) = Unit {0}
OpLeaves splits n op l (OpCrowded c) = Unit {0}
OpLeaves splits n op l (OpDies c m) = Passes splits n m.log
OpLeaves splits n op l (OpAnswers a m) = lies_in splits n op ≡ true → Passes splits n m.log

granted : (splits : List ℕ) (n : ℕ) (l : Local) (tx : TxId) (birth : Birth) (op : Op) (b : Bool) → Passes splits n l.log → OpLeaves splits n op l (op_granted l tx birth op b)
granted splits n l tx birth op true p = tt
granted splits n l tx birth op false p = λ e. writes_pass splits n tx op (value_at (key_of op) l.records) (locked tx birth op l) e p

by_decision : (splits : List ℕ) (n : ℕ) (l : Local) (tx : TxId) (birth : Birth) (op : Op) (d : Decision) → Passes splits n l.log → OpLeaves splits n op l (op_decided l tx birth op d)
by_decision splits n l tx birth op Grant p = granted splits n l tx birth op _ p
by_decision splits n l tx birth op (Wait y) p = tt
by_decision splits n l tx birth op (Die o) p = without_pass splits n (is_present (stage_of l tx)) tx l p

by_stage : (splits : List ℕ) (n : ℕ) (l : Local) (tx : TxId) (birth : Birth) (op : Op) (st : Option Stage) → Passes splits n l.log → OpLeaves splits n op l (op_by_stage l tx birth op st)
by_stage splits n l tx birth op None p = by_decision splits n l tx birth op (decide tx birth (needs_of op l.records) l.locks) p
by_stage splits n l tx birth op (Some Active) p = by_decision splits n l tx birth op (decide tx birth (needs_of op l.records) l.locks) p
by_stage splits n l tx birth op (Some Closed) p = p
by_stage splits n l tx birth op (Some (Gone None)) p = p
by_stage splits n l tx birth op (Some (Gone (Some d))) p = p

by_seen : (splits : List ℕ) (n shard : ℕ) (l : Local) (tx : TxId) (birth : Birth) (seen : Option ℕ) (op : Op) (b : Bool) → Passes splits n l.log → OpLeaves splits n op l (op_seen shard l tx birth seen op b)
by_seen splits n shard l tx birth seen op true p = by_stage splits n l tx birth op (stage_of l tx) p
by_seen splits n shard l tx birth seen op false p = without_pass splits n (is_present (stage_of l tx)) tx l p

pub op_leaves : (splits : List ℕ) (n shard : ℕ) (l : Local) (tx : TxId) (birth : Birth) (seen : Option ℕ) (op : Op) (r : OpReply) → op_reply shard l tx birth seen op ≡ r → Passes splits n l.log → OpLeaves splits n op l r
op_leaves splits n shard l tx birth seen op r e p = subst (OpLeaves splits n op l) e (by_seen splits n shard l tx birth seen op (seen_fits l.epoch seen) p)

-- ---- closing

closing_pass : (splits : List ℕ) (n : ℕ) (b one : Bool) (tx : TxId) (home : ℕ) (us : List TxId) → home < shard_count splits → Passes splits n (closing b one tx home us)
closing_pass splits n false one tx home us l = tt
closing_pass splits n true true tx home [] l = (refl, tt)
closing_pass splits n true true tx home (u ∷ us) l = (lt-ltb home (shard_count splits) l, tt)
closing_pass splits n true false tx home us l = (lt-ltb home (shard_count splits) l, tt)

pub closed_pass : (splits : List ℕ) (n : ℕ) (log : List LogRecord) (b one : Bool) (tx : TxId) (home : ℕ) (us : List TxId) → home < shard_count splits → Passes splits n log → Passes splits n (log ++ closing b one tx home us)
closed_pass splits n log b one tx home us l p = passes_more splits n log (closing b one tx home us) p (closing_pass splits n b one tx home us l)

-- ---- a restart

restart_pass : (splits : List ℕ) (n shard : ℕ) (log : List LogRecord) (run epoch : ℕ) → Passes splits n log → Passes splits n (restart_records shard log run epoch)
restart_pass splits n shard log run epoch p =
    passes_more splits n (undo_records shard log) (Restart run epoch ∷ [])
    (passes_more splits n (map (λ t. Abort t) (filter (λ t. not (aborted_in log t)) (losers shard log))) (clrs_of (losers shard log) (standing log)) (aborts_pass splits n (filter (λ t. not (aborted_in log t)) (losers shard log)))
    (clrs_pass splits n (is_of (losers shard log)) (standing log) (standing_lie splits n 0 log [] p tt)))
    (refl, tt)

pub opened_pass : (splits : List ℕ) (n shard : ℕ) (log : List LogRecord) (run epoch : ℕ) → Passes splits n log → Passes splits n (log_after_restart shard log run epoch)
opened_pass splits n shard log run epoch p = passes_more splits n log (restart_records shard log run epoch) p (restart_pass splits n shard log run epoch p)

failed_pass : (splits : List ℕ) (n : ℕ) (s : Shard) (found left : List LogRecord) → FailedRestarts s found left → Passes splits n found → Passes splits n left
failed_pass splits n s found _ untouched p = p
failed_pass splits n s found left (failed_first k f) p =
    failed_pass splits n s (found ++ take k (restart_records s.shard found s.run (next_epoch s found))) left f
    (passes_more splits n found (take k (restart_records s.shard found s.run (next_epoch s found))) p (passes_front splits n k (restart_records s.shard found s.run (next_epoch s found)) (restart_pass splits n s.shard found s.run (next_epoch s found) p)))

pub restarts_pass : (splits : List ℕ) (n : ℕ) (s : Shard) (found : List LogRecord) (epoch : ℕ) (after : List LogRecord) → Restarts s found epoch after → Passes splits n found → Passes splits n after
restarts_pass splits n s found epoch after (left, f, e, a) p = subst (Passes splits n) (sym a) (opened_pass splits n s.shard left s.run epoch (failed_pass splits n s found left f p))
