-- PREPAREs of a log, and what adds none.
use Rattle.std.proofs.Common.{◌≡◌, ◌⊎◌, inl, inr, refl, sym, ap, subst, ◌∙◌, ℕ, zero, suc, true, false, cond, not, Bool, List, [], ◌∷◌, ◌++◌, Option, Some, None, take-append-drop}
use Rattle.std.specs.Prelude.{take, drop}
use Rattle.std.specs.List.{filter, AllByRecursion}
use Rattle.std.proofs.lemmas.Bool.{or_from}
use Rattle.clv_base.specs.declared.values.Value.{Value as ValueType}
use Rattle.clv_base.specs.declared.names.TxId.{TxId}
use Rattle.clv_base.specs.declared.names.Birth.{Birth}
use Rattle.clv_base.specs.declared.ops.Op.{Op}
use Rattle.clv_base.specs.declared.ops.Answer.{Answer}
use Rattle.clv_base.specs.declared.causes.AbortCause.{AbortCause}
use Rattle.clv_base.specs.declared.logs.LogRecord.{LogRecord}
use Rattle.clv_base.specs.declared.logs.LogRecord.TheVariants.{Update, Clr, Prepare, Commit, Abort, End, Restart, Add, Unadd, Forgotten, Check}
use Rattle.clv_base.specs.Orders.{tx_same}
use Rattle.clv_base.specs.declared.changes.Change.{Change}
use Rattle.clv_base.specs.declared.changes.Change.TheVariants.{Sets, Adds}
use Rattle.clv_base.specs.Logs.{StandingUpdate, is_prepare_of, prepared_in, prepare_of, aborted_in, standing, has_standing}
use Rattle.clv_base.specs.State.{Shard, Local, is_present}
use Rattle.clv_base.specs.Undo.{stage_of, aborts_of, clrs_of, newest_lsn, doomed_here, roll_back, compensation, clrs_by, is_of, is_at, newest_lsns, roll_to}
use Rattle.clv_base.specs.Needs.{writes_of, value_at, key_of}
use Rattle.clv_base.specs.OneShard.{OpDies, OpAnswers, op_reply, written, locked, rolled_back_if, drop_part, closing}
use Rattle.clv_base.specs.Restarts.{undo_records, restart_records, log_after_restart, next_epoch, losers, FailedRestarts, untouched, failed_first, Restarts}
use Rattle.clv_base.proofs.SameNames.{tx_true}
use Rattle.law_base.proofs.Lists.{all_append}
use Rattle.shard_laws.proofs.Keeping.ChangesKeepPrepared.{prepared_from, prepare_keeps}
use Rattle.history_laws.proofs.Entries.WhatOperationsDo.{OpIs, dies, rolls, performs, reply_is}
use Rattle.history_cases.proofs.Telling.{all_map}
use Rattle.protocol_laws.proofs.LogsInOrder.OneRecordMore.{prepared_there}

pub prepare_more : (log more : List LogRecord) (t : TxId) (p : ℕ × List TxId) → prepare_of log t ≡ Some p → prepare_of (log ++ more) t ≡ Some p
prepare_more log more t p e = prepare_keeps log more t (prepared_there log t p e) ∙ e

pub prepare_from : (log more : List LogRecord) (t : TxId) (p : ℕ × List TxId) → prepared_in more t ≡ false → prepare_of (log ++ more) t ≡ Some p → prepare_of log t ≡ Some p
prepare_from log more t p none e = sym (prepare_keeps log more t (prepared_from log more t none (prepared_there (log ++ more) t p e))) ∙ e

-- one more PREPARE
pub prepare_new : (log : List LogRecord) (tx : TxId) (home : ℕ) (ps : List TxId) (t : TxId) (p : ℕ × List TxId) → prepare_of (log ++ Prepare tx home ps ∷ []) t ≡ Some p
    → (prepare_of log t ≡ Some p) ⊎ ((t ≡ tx) × (p.0 ≡ home))
prepare_new [] tx home ps t p e = at (tx_same t tx) refl e
  where
    at : (b : Bool) → tx_same t tx ≡ b → cond b (Some (home, ps)) None ≡ Some p → (◌≡◌ {A = Option (ℕ × List TxId)} None (Some p)) ⊎ ((t ≡ tx) × (p.0 ≡ home))
    at true f e = inr (tx_true t tx f, sym (home_of e))
      where
        home_of : Some (home, ps) ≡ Some p → home ≡ p.0
        home_of e = let q : (home, ps) ≡ p = cc in ap (λ z. z.0) q
    at false f e = inl e
prepare_new (Prepare u h qs ∷ rs) tx home ps t p e = at (tx_same t u) e (prepare_new rs tx home ps t p)
  where
    at : (b : Bool) → cond b (Some (h, qs)) (prepare_of (rs ++ Prepare tx home ps ∷ []) t) ≡ Some p → (prepare_of (rs ++ Prepare tx home ps ∷ []) t ≡ Some p → (prepare_of rs t ≡ Some p) ⊎ ((t ≡ tx) × (p.0 ≡ home)))
        → (cond b (Some (h, qs)) (prepare_of rs t) ≡ Some p) ⊎ ((t ≡ tx) × (p.0 ≡ home))
    at true e k = inl e
    at false e k = k e
prepare_new (Update u key before after ∷ rs) tx home ps t p e = prepare_new rs tx home ps t p e
prepare_new (Clr u next key after ∷ rs) tx home ps t p e = prepare_new rs tx home ps t p e
prepare_new (Commit u parts ∷ rs) tx home ps t p e = prepare_new rs tx home ps t p e
prepare_new (Abort u ∷ rs) tx home ps t p e = prepare_new rs tx home ps t p e
prepare_new (End u ∷ rs) tx home ps t p e = prepare_new rs tx home ps t p e
prepare_new (Restart run epoch ∷ rs) tx home ps t p e = prepare_new rs tx home ps t p e
prepare_new (Add u key by ∷ rs) tx home ps t p e = prepare_new rs tx home ps t p e
prepare_new (Unadd u next key by ∷ rs) tx home ps t p e = prepare_new rs tx home ps t p e
prepare_new (Forgotten ∷ rs) tx home ps t p e = prepare_new rs tx home ps t p e
prepare_new (Check run' epoch' upto base ∷ rs) tx home ps t p e = prepare_new rs tx home ps t p e

-- ---- a log with no PREPAREs but another's

abbrev pub NoMorePrepares : List LogRecord → List LogRecord → Type 0
NoMorePrepares xs ys = (t : TxId) (p : ℕ × List TxId) → prepare_of ys t ≡ Some p → prepare_of xs t ≡ Some p

abbrev IsNoPrepare : LogRecord → Type 0
IsNoPrepare r = (t : TxId) → is_prepare_of t r ≡ false

unprepared : (rs : List LogRecord) → AllByRecursion IsNoPrepare rs → (t : TxId) → prepared_in rs t ≡ false
unprepared [] a t = refl
unprepared (r ∷ rs) a t = or_from _ _ (a.0 t) (unprepared rs a.1 t)

pub plain_more : (log more : List LogRecord) → AllByRecursion IsNoPrepare more → NoMorePrepares log (log ++ more)
plain_more log more a t p e = prepare_from log more t p (unprepared more a t) e

-- what each CLR and UNADD has, those of an undo have
pub all_clrs_by :
    (P : LogRecord → Type 0) → ((t : TxId) (n : Option ℕ) (k : ℕ) (v : Option ValueType) → P (Clr t n k v)) → ((t : TxId) (n : Option ℕ) (k by : ℕ) → P (Unadd t n k by))
    → (gone : StandingUpdate → Bool) (ws : List StandingUpdate) → AllByRecursion P (clrs_by gone ws)
all_clrs_by P k m gone [] = tt
all_clrs_by P k m gone (w ∷ ws) = at (gone w) w.change (all_clrs_by P k m gone ws)
  where
    at : (b : Bool) (c : Change) → AllByRecursion P (clrs_by gone ws) → AllByRecursion P (cond b (compensation w.tx (newest_lsn w.tx ws) w.key c ∷ clrs_by gone ws) (clrs_by gone ws))
    at true (Sets before after) a = (k w.tx (newest_lsn w.tx ws) w.key before, a)
    at true (Adds by) a = (m w.tx (newest_lsn w.tx ws) w.key by, a)
    at false c a = a

pub all_clrs : (P : LogRecord → Type 0) → ((t : TxId) (n : Option ℕ) (k : ℕ) (v : Option ValueType) → P (Clr t n k v)) → ((t : TxId) (n : Option ℕ) (k by : ℕ) → P (Unadd t n k by)) → (set : List TxId) (ws : List StandingUpdate) → AllByRecursion P (clrs_of set ws)
all_clrs P k m set ws = all_clrs_by P k m (is_of set) ws

pub rolled : (tx : TxId) (l : Local) → NoMorePrepares l.log (roll_back tx l).log
rolled tx l t p e =
    plain_more l.log (aborts_of l.log (doomed_here l tx)) (all_map IsNoPrepare (λ u. Abort u) (filter (has_standing l.log) (doomed_here l tx)) (λ u t. refl)) t p
    (plain_more (l.log ++ aborts_of l.log (doomed_here l tx)) (clrs_of (doomed_here l tx) (standing l.log)) (all_clrs IsNoPrepare (λ t n k v u. refl) (λ t n k by u. refl) (doomed_here l tx) (standing l.log)) t p e)

pub gone_back : (tx : TxId) (n : ℕ) (l : Local) → NoMorePrepares l.log (roll_to tx n l).log
gone_back tx n l t p e = plain_more l.log (clrs_by (is_at (newest_lsns n tx (standing l.log))) (standing l.log)) (all_clrs_by IsNoPrepare (λ t n k v u. refl) (λ t n k by u. refl) _ (standing l.log)) t p e

rolled_if : (b : Bool) (tx : TxId) (l : Local) → NoMorePrepares l.log (rolled_back_if b tx l).log
rolled_if true tx l = rolled tx l
rolled_if false tx l = λ t p e. e

pub dropped : (tx : TxId) (l : Local) → NoMorePrepares l.log (drop_part tx l).log
dropped tx l = rolled_if (is_present (stage_of l tx)) tx l

writes : (tx : TxId) (w : Option (ℕ × Change)) (l : Local) → NoMorePrepares l.log (written tx w l).log
writes tx None l = λ t p e. e
writes tx (Some (key, Sets before after)) l = plain_more l.log (Update tx key before after ∷ []) ((λ t. refl), tt)
writes tx (Some (key, Adds by)) l = plain_more l.log (Add tx key by ∷ []) ((λ t. refl), tt)

dying : (l m : Local) (tx : TxId) (birth : Birth) (seen : Option ℕ) (op : Op) (c : AbortCause) → OpIs l tx birth seen op (OpDies c m) → NoMorePrepares l.log m.log
dying l _ tx birth seen op c dies = λ t p e. e
dying l _ tx birth seen op c rolls = rolled tx l

answering : (l m : Local) (tx : TxId) (birth : Birth) (seen : Option ℕ) (op : Op) (a : Answer) → OpIs l tx birth seen op (OpAnswers a m) → NoMorePrepares l.log m.log
answering l _ tx birth seen op _ (performs f e) = writes tx (writes_of op (value_at (key_of op) l.records)) (locked tx birth op l)

pub op_dying : (shard : ℕ) (l m : Local) (tx : TxId) (birth : Birth) (seen : Option ℕ) (op : Op) (c : AbortCause) → op_reply shard l tx birth seen op ≡ OpDies c m → NoMorePrepares l.log m.log
op_dying shard l m tx birth seen op c e = dying l m tx birth seen op c (reply_is shard l tx birth seen op _ e)

pub op_answering : (shard : ℕ) (l m : Local) (tx : TxId) (birth : Birth) (seen : Option ℕ) (op : Op) (a : Answer) → op_reply shard l tx birth seen op ≡ OpAnswers a m → NoMorePrepares l.log m.log
op_answering shard l m tx birth seen op a e = answering l m tx birth seen op a (reply_is shard l tx birth seen op _ e)

-- what closes a part
pub closes_with : (log : List LogRecord) (b one : Bool) (tx : TxId) (home : ℕ) (us : List TxId) (t : TxId) (p : ℕ × List TxId) → prepare_of (log ++ closing b one tx home us) t ≡ Some p
    → (prepare_of log t ≡ Some p) ⊎ ((t ≡ tx) × (p.0 ≡ home))
closes_with log false one tx home us t p e = inl (plain_more log [] tt t p e)
closes_with log true true tx home [] t p e = inl (plain_more log (Commit tx [] ∷ []) ((λ u. refl), tt) t p e)
closes_with log true true tx home (v ∷ vs) t p e = prepare_new log tx home (v ∷ vs) t p e
closes_with log true false tx home us t p e = prepare_new log tx home us t p e

-- ---- a restart

restart_have : (shard : ℕ) (log : List LogRecord) (run epoch : ℕ) → AllByRecursion IsNoPrepare (restart_records shard log run epoch)
restart_have shard log run epoch =
    all_append _ (undo_records shard log) (Restart run epoch ∷ [])
    (all_append _ _ _ (all_map IsNoPrepare (λ u. Abort u) (filter (λ t. not (aborted_in log t)) (losers shard log)) (λ u t. refl)) (all_clrs IsNoPrepare (λ t n k v u. refl) (λ t n k by u. refl) (losers shard log) (standing log))) ((λ t. refl), tt)

take_have : (n : ℕ) (xs : List LogRecord) → AllByRecursion IsNoPrepare xs → AllByRecursion IsNoPrepare (take n xs)
take_have zero xs a = tt
take_have (suc n) [] a = tt
take_have (suc n) (x ∷ xs) a = (a.0, take_have n xs a.1)

pub opening_adds : (shard : ℕ) (log : List LogRecord) (run epoch : ℕ) → NoMorePrepares log (log_after_restart shard log run epoch)
opening_adds shard log run epoch = plain_more log (restart_records shard log run epoch) (restart_have shard log run epoch)

failed_adds : (s : Shard) (found left : List LogRecord) → FailedRestarts s found left → NoMorePrepares found left
failed_adds s found _ untouched = λ t p e. e
failed_adds s found left (failed_first n f) =
    λ t p e. plain_more found (take n (restart_records s.shard found s.run (next_epoch s found))) (take_have n _ (restart_have s.shard found s.run (next_epoch s found))) t p
    (failed_adds s (found ++ take n (restart_records s.shard found s.run (next_epoch s found))) left f t p e)

pub restarts_add : (s : Shard) (found : List LogRecord) (epoch : ℕ) (after : List LogRecord) → Restarts s found epoch after → NoMorePrepares found after
restarts_add s found epoch after (left, f, e, a) t p h = failed_adds s found left f t p (opening_adds s.shard left s.run epoch t p (subst (λ z. prepare_of z t ≡ Some p) a h))

pub front_prepare : (n : ℕ) (log : List LogRecord) (t : TxId) (p : ℕ × List TxId) → prepare_of (take n log) t ≡ Some p → prepare_of log t ≡ Some p
front_prepare n log t p e = subst (λ z. prepare_of z t ≡ Some p) (take-append-drop n log) (prepare_more (take n log) (drop n log) t p e)
