-- Whose locks a shard has, and who depends on whom: each pair's predecessor asked before its successor.
use Rattle.std.proofs.Common.{◌≡◌, inl, inr, ⊎_elim, refl, sym, ap, subst, ◌∙◌, ℕ, zero, suc, Bool, true, false, cond, not, ◌&&◌, List, [], ◌∷◌, ◌++◌, map, Option, Some, None}
use Rattle.std.specs.Prelude.{take}
use Rattle.std.specs.List.{AllByRecursion, filter}
use Rattle.std.proofs.lemmas.Bool.{both_ways, and_parts, or_left, or_right, or_cases, cond-true}
use Rattle.clv_base.specs.declared.names.TxId.{TxId}
use Rattle.clv_base.specs.declared.names.Birth.{Birth}
use Rattle.clv_base.specs.declared.ops.Op.{Op}
use Rattle.clv_base.specs.declared.ops.Answer.{Answer}
use Rattle.clv_base.specs.declared.causes.AbortCause.{AbortCause}
use Rattle.clv_base.specs.declared.causes.Vote.{Vote}
use Rattle.clv_base.specs.declared.causes.Vote.TheVariants.{Yes, Read, No}
use Rattle.clv_base.specs.declared.logs.LogRecord.{LogRecord}
use Rattle.clv_base.specs.declared.logs.LogRecord.TheVariants.{Update, Clr, Prepare, Commit, Abort, End, Restart as RestartRecord, Add, Unadd, Forgotten, Check}
use Rattle.clv_base.specs.declared.modes.Anchor.TheVariants.{At}
use Rattle.clv_base.specs.declared.modes.Part.TheVariants.{X}
use Rattle.clv_base.specs.declared.state.Stage.{Stage}
use Rattle.clv_base.specs.declared.state.Stage.TheVariants.{Active, Closed}
use Rattle.clv_base.specs.declared.state.Held.{Held}
use Rattle.clv_base.specs.declared.state.Ruling.{Ruling}
use Rattle.clv_base.specs.declared.state.Ruling.TheVariants.{Commit as CommitVerdict, Acknowledge, Abort as AbortVerdict, End as EndVerdict}
use Rattle.clv_base.specs.declared.events.Event.{Event}
use Rattle.clv_base.specs.declared.events.Event.TheVariants.{Op as OpEvent}
use Rattle.clv_base.specs.declared.events.Outcome.{Outcome}
use Rattle.clv_base.specs.declared.events.Outcome.TheVariants.{Answered}
use Rattle.clv_base.specs.Orders.{Table, tx_same, tx_in, tx_get}
use Rattle.clv_base.specs.Modes.{on_key}
use Rattle.clv_base.specs.declared.changes.Change.{Change}
use Rattle.clv_base.specs.declared.changes.Change.TheVariants.{Sets, Adds}
use Rattle.clv_base.specs.Logs.{StandingUpdate, standing, has_standing, committed_in, aborted_in, prepare_of, in_doubt}
use Rattle.clv_base.specs.Locks.{Locks, take_all, split_gap, release, violated}
use Rattle.clv_base.specs.Needs.{Records, needs_of, need, writes_of, value_at, key_of, lower_anchor}
use Rattle.clv_base.specs.State.{Shard, Local, with_local, is_present}
use Rattle.clv_base.specs.Undo.{stage_of, is_of, aborts_of, clrs_by, clrs_of, newest_lsn, newest_lsns, is_at, gone_in, doomed_here, roll_back, roll_to, compensation}
use Rattle.clv_base.specs.Backs.{standing_numbers, count_after}
use Rattle.clv_base.specs.Facts.{predecessors_of, undecided_of}
use Rattle.clv_base.specs.OneShard.{OpDies, OpAnswers, active_part, new_part, inserted_locks, written, violated_here, locked, performed, rolled_back_if, without_part, closing, closed_part, closed_in, close_part, dropped_part, marked_in, mark_dropped, drop_part}
use Rattle.clv_base.specs.Due.{finish_part, finish_reader, with_vote, do_ruling, with_ruling}
use Rattle.clv_base.specs.Events.{finish, is_alone, decided, with_durable, put_down}
use Rattle.clv_base.specs.Coordinator.{others}
use Rattle.clv_base.specs.Restarts.{losers, undo_records, restart_records, log_after_restart, next_epoch, log_left, restored_part, restored_parts, restored_lock, restored_locks, part_of, old_birth, restored_pairs, pairs_of_listed, opened, revived, FailedRestarts, untouched, failed_first, Restarts}
use Rattle.clv_base.proofs.SameNames.{tx_true, tx_self}
use Rattle.law_base.proofs.Changed.{some_same, none_some}
use Rattle.law_base.proofs.Lists.{all_mono, all_append}
use Rattle.law_base.proofs.Tables.{stage_by, get_changed, get_put, is_pair, in_pair, without_pairs}
use Rattle.law_base.proofs.LockRows.{Rows, rows_take, rows_all, rows_split, rows_close, rows_release, violated_row}
use Rattle.law_base.proofs.Sets.{in_filter}
use Rattle.law_base.proofs.Stages.{get_other, get_closed_own}
use Rattle.shard_laws.proofs.Order.OperationsKeepOrder.{add_which}
use Rattle.history_cases.proofs.Stepping.{commits, votes, rules, KeptByDue, settled, with_work, Step, op_dies, op_answers, rolls_back, request_refused, request_doomed, request_again, request_closes, looks_well, looks_ill, drops, prepare_closes, decision_comes, Happens, finishes, stops}
use Rattle.history_laws.proofs.Entries.WhatOperationsDo.{OpIs, dies, rolls, performs, reply_is}
use Rattle.law_base.proofs.Names.{restored_there, MayStand}

-- ---- a lock is that of a part, with its birth, and closed as it is

abbrev pub StageIs : Bool → Stage → Type 0
StageIs closed st = st ≡ cond closed Closed Active

abbrev pub LockOf : Table Held → TxId → Birth → Bool → Type 0
LockOf parts tx birth closed = (h : Held) × (tx_get tx parts ≡ Some h) × (h.birth ≡ birth) × StageIs closed h.stage

-- E t p: the predecessor asked before its successor, or is of an earlier run
abbrev pub ListsAre : (TxId → TxId → Type 0) → LogRecord → Type 0
ListsAre E (Prepare tx home ps) = AllByRecursion (E tx) ps
ListsAre E (Update tx key before after) = Unit {0}
ListsAre E (Clr tx next key after) = Unit {0}
ListsAre E (Commit tx parts) = Unit {0}
ListsAre E (Abort tx) = Unit {0}
ListsAre E (End tx) = Unit {0}
ListsAre E (RestartRecord run epoch) = Unit {0}
ListsAre E (Add tx key by) = Unit {0}
ListsAre E (Unadd tx next key by) = Unit {0}
ListsAre E Forgotten = Unit {0}
ListsAre E (Check run' epoch' upto base) = Unit {0}

pub record Tied (E : TxId → TxId → Type 0) (s : Shard) : Type 0 where
  pub rows : Rows (LockOf s.local.parts) s.local.locks
  pub pairs : (t p : TxId) → is_pair s.local.pairs t p ≡ true → E t p
  pub listed : AllByRecursion (ListsAre E) s.local.log

-- ---- records that list nobody

none_aborts : (E : TxId → TxId → Type 0) (ts : List TxId) → AllByRecursion (ListsAre E) (map (λ t. Abort t) ts)
none_aborts E [] = tt
none_aborts E (t ∷ ts) = (tt, none_aborts E ts)

none_clrs : (E : TxId → TxId → Type 0) (gone : StandingUpdate → Bool) (ws : List StandingUpdate) → AllByRecursion (ListsAre E) (clrs_by gone ws)
none_clrs E gone [] = tt
none_clrs E gone (w ∷ ws) = at (gone w) w.change (none_clrs E gone ws)
  where
    at : (b : Bool) (c : Change) → AllByRecursion (ListsAre E) (clrs_by gone ws) → AllByRecursion (ListsAre E) (cond b (compensation w.tx (newest_lsn w.tx ws) w.key c ∷ clrs_by gone ws) (clrs_by gone ws))
    at true (Sets before after) k = (tt, k)
    at true (Adds by) k = (tt, k)
    at false c k = k

-- ---- parts that leave

rows_left : (set : List TxId) (d : Option TxId) (parts : Table Held) (locks : Locks) → Rows (LockOf parts) locks → Rows (LockOf (gone_in set d parts)) (release set locks)
rows_left set d parts locks rows = rows_release (LockOf parts) (LockOf (gone_in set d parts)) set locks (λ u b c h out. (h.0, get_other set d u parts out ∙ h.1, h.2, h.3)) rows

tied_rolled : (E : TxId → TxId → Type 0) (s : Shard) (tx : TxId) → Tied E s → Tied E (with_local (roll_back tx) s)
tied_rolled E s tx k =
    let set = doomed_here s.local tx in
    record {
      rows = rows_left set (Some tx) s.local.parts s.local.locks k.rows;
      pairs = λ t p e. k.pairs t p (without_pairs set s.local.pairs t p e).0;
      listed = all_append (ListsAre E) (s.local.log ++ aborts_of s.local.log set) (clrs_of set (standing s.local.log))
          (all_append (ListsAre E) s.local.log (aborts_of s.local.log set) k.listed (none_aborts E (filter (has_standing s.local.log) set))) (none_clrs E (is_of set) (standing s.local.log));
    }

-- a going back leaves locks, pairs and parts
tied_back : (E : TxId → TxId → Type 0) (s : Shard) (tx : TxId) (i : ℕ) → Tied E s → Tied E (with_local (roll_to tx i) s)
tied_back E s tx i k =
    let ws = standing s.local.log in
    let gone = is_at (newest_lsns i tx ws) in
    record { rows = k.rows; pairs = k.pairs; listed = all_append (ListsAre E) s.local.log (clrs_by gone ws) k.listed (none_clrs E gone ws) }

tied_finished : (E : TxId → TxId → Type 0) (s : Shard) (tx : TxId) → Tied E s → Tied E (finish_part tx s)
tied_finished E s tx k = record {
  rows = rows_left (tx ∷ []) None s.local.parts s.local.locks k.rows;
  pairs = λ t p e. k.pairs t p (without_pairs (tx ∷ []) s.local.pairs t p e).0;
  listed = k.listed;
}

tied_push : (E : TxId → TxId → Type 0) (s : Shard) (r : LogRecord) → ListsAre E r → Tied E s → Tied E (record s { local = record s.local { log = s.local.log ++ r ∷ [] } })
tied_push E s r a k = record { rows = k.rows; pairs = k.pairs; listed = all_append (ListsAre E) s.local.log (r ∷ []) k.listed (a, tt) }

-- the same but for what is around
pub tied_as : (E : TxId → TxId → Type 0) (s t : Shard) → t.local ≡ s.local → Tied E s → Tied E t
tied_as E s t e k = record {
  rows = subst (λ (l : Local). Rows (LockOf l.parts) l.locks) (sym e) k.rows;
  pairs = subst (λ (l : Local). (t p : TxId) → is_pair l.pairs t p ≡ true → E t p) (sym e) k.pairs;
  listed = subst (λ (l : Local). AllByRecursion (ListsAre E) l.log) (sym e) k.listed;
}

-- ---- what is due

tied_ruling : (E : TxId → TxId → Type 0) (s : Shard) (tx : TxId) (r : Ruling) → Tied E s → Tied E (do_ruling tx r s)
tied_ruling E s tx (CommitVerdict parts) k = tied_push E s (Commit tx parts) tt k
tied_ruling E s tx Acknowledge k = tied_finished E s tx k
tied_ruling E s tx (AbortVerdict cause to) k = tied_as E (with_local (roll_back tx) s) _ refl (tied_rolled E s tx k)
tied_ruling E s tx EndVerdict k = tied_push E s (End tx) tt k

tied_reader : (E : TxId → TxId → Type 0) (s : Shard) (tx : TxId) (vote : Vote) → Tied E s → Tied E (finish_reader tx vote s)
tied_reader E s tx Yes k = k
tied_reader E s tx Read k = tied_finished E s tx k
tied_reader E s tx (No why) k = k

tied_due : (E : TxId → TxId → Type 0) → KeptByDue (Tied E)
tied_due E s _ (commits tx c d) k = tied_as E (finish_part tx s) _ refl (tied_finished E s tx k)
tied_due E s _ (votes tx v vote g e) k = tied_reader E (with_vote s tx v vote) tx vote (tied_as E s (with_vote s tx v vote) refl k)
tied_due E s _ (rules tx q r g e) k = tied_ruling E (with_ruling tx q r s) tx r (tied_as E s (with_ruling tx q r s) refl k)

tied_finish : (E : TxId → TxId → Type 0) (s : Shard) → Tied E s → Tied E (finish s)
tied_finish E s k = let q = settled (Tied E) s (tied_due E) k in record { rows = q.rows; pairs = q.pairs; listed = q.listed }

-- ---- an operation

stays_part : (tx u : TxId) (birth b : Birth) (c : Bool) (o : Option Held) (parts : Table Held) → tx_get tx parts ≡ o → LockOf parts u b c → LockOf (new_part tx birth o parts) u b c
stays_part tx u birth b c (Some h) parts e k = k
stays_part tx u birth b c None parts e (h, f, g, i) = (h, get_put tx u (active_part birth) parts ∙ at (tx_same u tx) refl, g, i)
  where
    at : (x : Bool) → tx_same u tx ≡ x → cond x (Some (active_part birth)) (tx_get u parts) ≡ Some h
    at true q = absurd (none_some h (sym (subst (λ z. tx_get z parts ≡ None) (sym (tx_true u tx q)) e) ∙ f))
    at false q = f

own_part : (tx : TxId) (birth : Birth) (o : Option Held) (parts : Table Held) → tx_get tx parts ≡ o → MayStand parts tx birth → LockOf (new_part tx birth o parts) tx birth false
own_part tx birth None parts e m = (active_part birth, get_put tx tx (active_part birth) parts ∙ cond-true (tx_same tx tx) (Some (active_part birth)) (tx_get tx parts) (tx_self tx), refl, refl)
own_part tx birth (Some h) parts e (inl f) = absurd (none_some h (sym f ∙ e))
own_part tx birth (Some h) parts e (inr (g, f, b, a)) = (g, f, b, a)

rows_mono : (P Q : TxId → Birth → Bool → Type 0) (locks : Locks) → ((u : TxId) (b : Birth) (c : Bool) → P u b c → Q u b c) → Rows P locks → Rows Q locks
rows_mono P Q [] k a = tt
rows_mono P Q (r ∷ rs) k a = (k (r.1).tx (r.1).birth (r.1).closed a.0, rows_mono P Q rs k a.1)

rows_inserted : (P : TxId → Birth → Bool → Type 0) (tx : TxId) (birth : Birth) (rs : Records) (o : Option ℕ) (locks : Locks) → P tx birth false → Rows P locks → Rows P (inserted_locks tx birth rs o locks)
rows_inserted P tx birth rs None locks p a = a
rows_inserted P tx birth rs (Some k) locks p a = rows_all P tx birth (need (At k) (on_key X) ∷ []) (split_gap (lower_anchor k rs) (At k) locks) p (rows_split P (lower_anchor k rs) (At k) locks a)

written_rest : (tx : TxId) (w : Option (ℕ × Change)) (l : Local) → ((written tx w l).parts ≡ l.parts) × ((written tx w l).locks ≡ l.locks) × ((written tx w l).pairs ≡ l.pairs)
written_rest tx None l = (refl, refl, refl)
written_rest tx (Some w) l = (refl, refl, refl)

written_listed : (E : TxId → TxId → Type 0) (tx : TxId) (w : Option (ℕ × Change)) (l : Local) → AllByRecursion (ListsAre E) l.log → AllByRecursion (ListsAre E) (written tx w l).log
written_listed E tx None l a = a
written_listed E tx (Some (key, Sets before after)) l a = all_append (ListsAre E) l.log (Update tx key before after ∷ []) a (tt, tt)
written_listed E tx (Some (key, Adds by)) l a = all_append (ListsAre E) l.log (Add tx key by ∷ []) a (tt, tt)

tied_performed : (E : TxId → TxId → Type 0) (s : Shard) (tx : TxId) (birth : Birth) (op : Op) → MayStand s.local.parts tx birth → ((p : TxId) → stage_of s.local p ≡ Some Closed → E tx p) → Tied E s → Tied E (with_work (performed tx birth op s.local) s)
tied_performed E s tx birth op m closed k =
    let w = writes_of op (value_at (key_of op) s.local.records) in
    let l = locked tx birth op s.local in
    let r = written_rest tx w l in
    let o = tx_get tx s.local.parts in
    let ns = needs_of op s.local.records in
    let q = LockOf (new_part tx birth o s.local.parts) in
    let own = own_part tx birth o s.local.parts refl m in
    let rows0 : Rows q l.locks = rows_inserted q tx birth s.local.records _ (take_all tx birth ns s.local.locks) own (rows_all q tx birth ns s.local.locks own (rows_mono (LockOf s.local.parts) q s.local.locks (λ u b c. stays_part tx u birth b c o s.local.parts refl) k.rows)) in
    record {
      rows = subst (λ z. Rows (LockOf z) (written tx w l).locks) (sym r.0) (subst (λ z. Rows q z) (sym r.1) rows0);
      pairs = λ t p e. ⊎_elim (λ a. k.pairs t p a)
          (λ a. subst (λ z. E z p) (sym a.0) (closed p (closed_row p (violated_row (LockOf s.local.parts) tx p ns s.local.locks k.rows (in_filter (has_standing s.local.log) p (violated tx ns s.local.locks) a.1).0))))
          (add_which tx (violated_here s.local tx op) s.local.pairs t p (subst (λ z. is_pair z t p ≡ true) r.2 e));
      listed = written_listed E tx w l k.listed;
    }
  where
    closed_row : (p : TxId) → (b : Birth) × LockOf s.local.parts p b true → stage_of s.local p ≡ Some Closed
    closed_row p (b, (h, e, f, st)) = ap stage_by e ∙ ap (λ x. Some x) st

-- ---- closing a part

closed_other : (tx u : TxId) (parts : Table Held) (h : Held) → tx_same tx u ≡ false → tx_get u parts ≡ Some h → tx_get u (closed_in tx parts) ≡ Some h
closed_other tx u parts h e f =
    get_changed (λ t. tx_same tx t) closed_part u parts ∙ ap (λ o. elim o [ Some g ↦ Some (cond (tx_same tx u) (closed_part g) g) | None ↦ None ]) f ∙ ap (λ b. Some (cond b (closed_part h) h)) e

all_pred : (P : TxId → Type 0) (test : TxId → Bool) (xs : List TxId) → ((p : TxId) → tx_in p xs ≡ true → P p) → AllByRecursion P (filter test xs)
all_pred P test [] k = tt
all_pred P test (x ∷ xs) k = at (test x) (all_pred P test xs (λ p i. k p (or_right (tx_same x p) (tx_in p xs) i)))
  where
    at : (b : Bool) → AllByRecursion P (filter test xs) → AllByRecursion P (cond b (x ∷ filter test xs) (filter test xs))
    at true a = (k x (or_left (tx_same x x) (tx_in x xs) (tx_self x)), a)
    at false a = a

closing_listed : (E : TxId → TxId → Type 0) (b one : Bool) (tx : TxId) (home : ℕ) (us : List TxId) → AllByRecursion (E tx) us → AllByRecursion (ListsAre E) (closing b one tx home us)
closing_listed E false one tx home us a = tt
closing_listed E true true tx home [] a = (tt, tt)
closing_listed E true true tx home (u ∷ us) a = (a, tt)
closing_listed E true false tx home us a = (a, tt)

tied_close : (E : TxId → TxId → Type 0) (s : Shard) (tx : TxId) (home : ℕ) (one : Bool) → Tied E s → Tied E (with_local (close_part tx home one) s)
tied_close E s tx home one k = record {
  rows = rows_close (LockOf s.local.parts) (LockOf (closed_in tx s.local.parts)) tx s.local.locks
      (λ u b c h e. (closed_part h.0, get_closed_own tx u s.local.parts h.0 e h.1, h.2, refl))
      (λ u b c h e. (h.0, closed_other tx u s.local.parts h.0 e h.1, h.2, h.3)) k.rows;
  pairs = k.pairs;
  listed = all_append (ListsAre E) s.local.log (closing (has_standing s.local.log tx) one tx home (undecided_of s.local tx)) k.listed
      (closing_listed E (has_standing s.local.log tx) one tx home (undecided_of s.local tx) (all_pred (E tx) (λ p. not (committed_in s.local.log p)) (predecessors_of s.local.pairs tx) (λ p i. k.pairs tx p (in_pair s.local.pairs tx p i))));
}

-- ---- a drop

marked_get : (tx u : TxId) (parts : Table Held) (h : Held) → tx_get u parts ≡ Some h → (g : Held) × (tx_get u (marked_in tx parts) ≡ Some g) × (g.birth ≡ h.birth) × (g.stage ≡ h.stage)
marked_get tx u parts h f = at (tx_same tx u) refl
  where
    is : (b : Bool) → tx_same tx u ≡ b → tx_get u (marked_in tx parts) ≡ Some (cond b (dropped_part h) h)
    is b e = get_changed (λ t. tx_same tx t) dropped_part u parts ∙ ap (λ o. elim o [ Some g ↦ Some (cond (tx_same tx u) (dropped_part g) g) | None ↦ None ]) f ∙ ap (λ c. Some (cond c (dropped_part h) h)) e

    at : (b : Bool) → tx_same tx u ≡ b → (g : Held) × (tx_get u (marked_in tx parts) ≡ Some g) × (g.birth ≡ h.birth) × (g.stage ≡ h.stage)
    at true e = (dropped_part h, is true e, refl, refl)
    at false e = (h, is false e, refl, refl)

tied_marked : (E : TxId → TxId → Type 0) (s : Shard) (tx : TxId) → Tied E s → Tied E (with_local (mark_dropped tx) s)
tied_marked E s tx k = record {
  rows = rows_mono (LockOf s.local.parts) (LockOf (marked_in tx s.local.parts)) s.local.locks (λ u b c h. let g = marked_get tx u s.local.parts h.0 h.1 in (g.0, g.1, g.2 ∙ h.2, g.3 ∙ h.3)) k.rows;
  pairs = k.pairs;
  listed = k.listed;
}

tied_rolled_if : (E : TxId → TxId → Type 0) (s : Shard) (tx : TxId) (b : Bool) → Tied E s → Tied E (with_local (rolled_back_if b tx) s)
tied_rolled_if E s tx true k = tied_rolled E s tx k
tied_rolled_if E s tx false k = record { rows = k.rows; pairs = k.pairs; listed = k.listed }

tied_drop : (E : TxId → TxId → Type 0) (s : Shard) (tx : TxId) → Tied E s → Tied E (with_local (drop_part tx) s)
tied_drop E s tx k = tied_marked E (with_local (without_part tx) s) tx (tied_rolled_if E s tx (is_present (stage_of s.local tx)) k)

-- ---- each step: an operation's transaction stands as its session has it, and what is closed asked before it

abbrev pub OpOwes : (TxId → TxId → Type 0) → Shard → Event → Outcome → Type 0
OpOwes E s (OpEvent tx birth nth seen op) (Answered answer epoch) = MayStand s.local.parts tx birth × ((p : TxId) → stage_of s.local p ≡ Some Closed → E tx p)
OpOwes E s (OpEvent tx birth nth seen op) _ = Unit {0}
OpOwes E s _ o = Unit {0}

tied_answers : (E : TxId → TxId → Type 0) (s : Shard) (tx : TxId) (birth : Birth) (seen : Option ℕ) (op : Op) (a : Answer) (l : Local) → OpIs s.local tx birth seen op (OpAnswers a l) → MayStand s.local.parts tx birth → ((p : TxId) → stage_of s.local p ≡ Some Closed → E tx p) → Tied E s → Tied E (with_work l s)
tied_answers E s tx birth seen op _ _ (performs f e) m c k = tied_performed E s tx birth op m c k

tied_dies : (E : TxId → TxId → Type 0) (s : Shard) (tx : TxId) (birth : Birth) (seen : Option ℕ) (op : Op) (c : AbortCause) (l : Local) → OpIs s.local tx birth seen op (OpDies c l) → Tied E s → Tied E (with_work l s)
tied_dies E s tx birth seen op c _ dies k = tied_as E s _ refl k
tied_dies E s tx birth seen op c _ rolls k = tied_as E (with_local (roll_back tx) s) _ refl (tied_rolled E s tx k)

tied_decided : (E : TxId → TxId → Type 0) (s : Shard) (tx : TxId) (commit : Bool) → Tied E s → Tied E (decided s tx commit)
tied_decided E s tx true k = tied_push E s (Commit tx []) tt k
tied_decided E s tx false k = tied_rolled E s tx k

tied_step : (E : TxId → TxId → Type 0) (s t : Shard) {e : Event} {o : Outcome} → Step s e o t → OpOwes E s e o → Tied E s → Tied E t
tied_step E s _ (op_dies tx birth nth seen op cause l g) w k = tied_dies E s tx birth seen op cause l (reply_is s.shard s.local tx birth seen op (OpDies cause l) g) k
tied_step E s _ (op_answers tx birth nth seen op answer l g) w k = tied_answers E s tx birth seen op answer l (reply_is s.shard s.local tx birth seen op (OpAnswers answer l) g) w.0 w.1 k
tied_step E s _ (rolls_back tx nth seen upto f g) w k = tied_back E s tx (count_after upto (standing_numbers tx s.journal)) k
tied_step E s _ (request_refused tx ts cause g) w k = k
tied_step E s _ (request_doomed tx ts doom g) w k = k
tied_step E s _ (request_again tx ts f g) w k = k
tied_step E s _ (request_closes tx ts f g) w k = tied_as E (with_local (close_part tx s.shard (is_alone (others s.shard ts))) s) _ refl (tied_close E s tx s.shard (is_alone (others s.shard ts)) k)
tied_step E s _ (looks_well tx g) w k = k
tied_step E s _ (looks_ill tx cause d g) w k = k
tied_step E s _ (drops tx stage g) w k = tied_drop E s tx k
tied_step E s _ (prepare_closes tx home seen stamp g) w k = tied_as E (with_local (close_part tx home false) s) _ refl (tied_close E s tx home false k)
tied_step E s _ (decision_comes tx home commit stamp g) w k = tied_decided E s tx commit k
tied_step E s _ _ w k = tied_as E s _ refl k

pub tied_happens : (E : TxId → TxId → Type 0) (s t : Shard) {e : Event} {o : Outcome} → Happens s e o t → OpOwes E s e o → Tied E s → Tied E t
tied_happens E s _ (finishes {t = t} u g) w k = tied_finish E t (tied_step E s t g w k)
tied_happens E s _ (stops u) w k = tied_as E s _ refl k

pub tied_flushed : (E : TxId → TxId → Type 0) (s : Shard) (n : ℕ) → Tied E s → Tied E (finish (with_durable n s))
tied_flushed E s n k = tied_finish E (with_durable n s) (tied_as E s (with_durable n s) refl k)

pub tied_down : (E : TxId → TxId → Type 0) (s : Shard) → Tied E s → Tied E (put_down s)
tied_down E s k = tied_as E s (put_down s) refl k

-- ---- a restart

rows_of_restored : (txs : List TxId) (ws : List StandingUpdate) (locks : Locks) → Rows (LockOf (restored_parts txs)) locks → Rows (LockOf (restored_parts txs)) (restored_locks txs ws locks)
rows_of_restored txs [] locks h = h
rows_of_restored txs (w ∷ ws) locks h = rows_of_restored txs ws (cond (tx_in w.tx txs) (restored_lock w.tx w.key (part_of w.change) locks) locks) (at (tx_in w.tx txs) refl)
  where
    at : (c : Bool) → tx_in w.tx txs ≡ c → Rows (LockOf (restored_parts txs)) (cond c (restored_lock w.tx w.key (part_of w.change) locks) locks)
    at true i =
        rows_take (LockOf (restored_parts txs)) (At w.key) (record { tx = w.tx; birth = old_birth w.tx; mode = on_key (part_of w.change); closed = true }) locks
        (restored_part w.tx, restored_there txs w.tx i, refl, refl) h
    at false i = h

-- whom a PREPARE lists
prepare_listed : (E : TxId → TxId → Type 0) (t : TxId) (log : List LogRecord) (q : ℕ × List TxId) → AllByRecursion (ListsAre E) log → prepare_of log t ≡ Some q → AllByRecursion (E t) q.1
prepare_listed E t [] q a e = absurd (none_some q e)
prepare_listed E t (Prepare tx home ps ∷ rs) q a e = at (tx_same t tx) refl e (prepare_listed E t rs q a.1)
  where
    at : (b : Bool) → tx_same t tx ≡ b → ◌≡◌ {A = Option (ℕ × List TxId)} (cond b (Some (home, ps)) (prepare_of rs t)) (Some q) → (prepare_of rs t ≡ Some q → AllByRecursion (E t) q.1) → AllByRecursion (E t) q.1
    at true s f k = subst (λ (z : ℕ × List TxId). AllByRecursion (E t) z.1) (some_same (home, ps) q f) (subst (λ z. AllByRecursion (E z) ps) (sym (tx_true t tx s)) a.0)
    at false s f k = k f
prepare_listed E t (Update tx key b x ∷ rs) q a e = prepare_listed E t rs q a.1 e
prepare_listed E t (Clr tx u key x ∷ rs) q a e = prepare_listed E t rs q a.1 e
prepare_listed E t (Commit tx ps ∷ rs) q a e = prepare_listed E t rs q a.1 e
prepare_listed E t (Abort tx ∷ rs) q a e = prepare_listed E t rs q a.1 e
prepare_listed E t (End tx ∷ rs) q a e = prepare_listed E t rs q a.1 e
prepare_listed E t (RestartRecord run epoch ∷ rs) q a e = prepare_listed E t rs q a.1 e
prepare_listed E t (Add tx key by ∷ rs) q a e = prepare_listed E t rs q a.1 e
prepare_listed E t (Unadd tx u key by ∷ rs) q a e = prepare_listed E t rs q a.1 e
prepare_listed E t (Forgotten ∷ rs) q a e = prepare_listed E t rs q a.1 e
prepare_listed E t (Check run' epoch' upto base ∷ rs) q a e = prepare_listed E t rs q a.1 e

abbrev Ties : (TxId → TxId → Type 0) → List (TxId × TxId) → Type 0
Ties E ps = AllByRecursion (λ (q : TxId × TxId). E q.0 q.1) ps

tie_of : (E : TxId → TxId → Type 0) (ps : List (TxId × TxId)) (t p : TxId) → Ties E ps → is_pair ps t p ≡ true → E t p
tie_of E [] t p a e = absurd (both_ways false refl e)
tie_of E (q ∷ qs) t p a e =
    ⊎_elim (λ b. let c = and_parts (tx_same t q.0) (tx_same p q.1) b in subst (λ z. E z p) (sym (tx_true t q.0 c.0)) (subst (E q.0) (sym (tx_true p q.1 c.1)) a.0)) (λ b. tie_of E qs t p a.1 b)
    (or_cases (tx_same t q.0 && tx_same p q.1) (is_pair qs t p) e)

listed_ties : (E : TxId → TxId → Type 0) (test : TxId → Bool) (t : TxId) (ps : List TxId) → AllByRecursion (E t) ps → Ties E (map (λ q. (t, q)) (filter test ps))
listed_ties E test t [] a = tt
listed_ties E test t (p ∷ ps) a = at (test p) (listed_ties E test t ps a.1)
  where
    at : (b : Bool) → Ties E (map (λ q. (t, q)) (filter test ps)) → Ties E (map (λ q. (t, q)) (cond b (p ∷ filter test ps) (filter test ps)))
    at true k = (a.0, k)
    at false k = k

of_listed : (E : TxId → TxId → Type 0) (log : List LogRecord) (t : TxId) (o : Option (ℕ × List TxId)) → prepare_of log t ≡ o → AllByRecursion (ListsAre E) log → Ties E (pairs_of_listed log t o)
of_listed E log t None e a = tt
of_listed E log t (Some q) e a = listed_ties E (λ p. not (committed_in log p)) t q.1 (prepare_listed E t log q a e)

restored_ties : (E : TxId → TxId → Type 0) (log : List LogRecord) (ts : List TxId) → AllByRecursion (ListsAre E) log → Ties E (restored_pairs log ts)
restored_ties E log [] a = tt
restored_ties E log (t ∷ ts) a = all_append (λ (q : TxId × TxId). E q.0 q.1) (pairs_of_listed log t (prepare_of log t)) (restored_pairs log ts) (of_listed E log t (prepare_of log t) refl a) (restored_ties E log ts a)

front_listed : (E : TxId → TxId → Type 0) (n : ℕ) (log : List LogRecord) → AllByRecursion (ListsAre E) log → AllByRecursion (ListsAre E) (take n log)
front_listed E zero log a = tt
front_listed E (suc n) [] a = tt
front_listed E (suc n) (r ∷ rs) a = (a.0, front_listed E n rs a.1)

restart_listed : (E : TxId → TxId → Type 0) (shard : ℕ) (log : List LogRecord) (run epoch : ℕ) → AllByRecursion (ListsAre E) (restart_records shard log run epoch)
restart_listed E shard log run epoch =
    all_append (ListsAre E) (undo_records shard log) (RestartRecord run epoch ∷ [])
    (all_append (ListsAre E) _ (clrs_of (losers shard log) (standing log)) (none_aborts E (filter (λ t. not (aborted_in log t)) (losers shard log))) (none_clrs E (is_of (losers shard log)) (standing log))) (tt, tt)

opened_listed : (E : TxId → TxId → Type 0) (shard : ℕ) (log : List LogRecord) (run epoch : ℕ) → AllByRecursion (ListsAre E) log → AllByRecursion (ListsAre E) (log_after_restart shard log run epoch)
opened_listed E shard log run epoch a = all_append (ListsAre E) log (restart_records shard log run epoch) a (restart_listed E shard log run epoch)

failed_listed : (E : TxId → TxId → Type 0) (s : Shard) (found left : List LogRecord) → FailedRestarts s found left → AllByRecursion (ListsAre E) found → AllByRecursion (ListsAre E) left
failed_listed E s found _ untouched a = a
failed_listed E s found left (failed_first n f) a =
    failed_listed E s (found ++ take n (restart_records s.shard found s.run (next_epoch s found))) left f
    (all_append (ListsAre E) found _ a (front_listed E n (restart_records s.shard found s.run (next_epoch s found)) (restart_listed E s.shard found s.run (next_epoch s found))))

restarts_listed : (E : TxId → TxId → Type 0) (s : Shard) (found : List LogRecord) (epoch : ℕ) (after : List LogRecord) → Restarts s found epoch after → AllByRecursion (ListsAre E) found → AllByRecursion (ListsAre E) after
restarts_listed E s found epoch after (left, f, e, q) a = subst (AllByRecursion (ListsAre E)) (sym q) (opened_listed E s.shard left s.run epoch (failed_listed E s found left f a))

tied_log : (E : TxId → TxId → Type 0) (s : Shard) (epoch : ℕ) (log : List LogRecord) → AllByRecursion (ListsAre E) log → Tied E (revived s epoch log)
tied_log E s epoch log a = record {
  rows = rows_of_restored (in_doubt s.shard log) (standing log) [] tt;
  pairs = λ t p e. tie_of E (restored_pairs log (in_doubt s.shard log)) t p (restored_ties E log (in_doubt s.shard log) a) e;
  listed = a;
}

pub tied_revived : (E : TxId → TxId → Type 0) (s : Shard) (kept : Bool) (epoch : ℕ) (after : List LogRecord) → Restarts s (log_left s kept) epoch after → Tied E s → Tied E (revived s epoch after)
tied_revived E s kept epoch after r k = tied_log E s epoch after (restarts_listed E s (log_left s kept) epoch after r (front_listed E _ s.local.log k.listed))

pub tied_opened : (E : TxId → TxId → Type 0) (n run : ℕ) (log : List LogRecord) → AllByRecursion (ListsAre E) log → Tied E (opened n run log)
tied_opened E n run log a =
    let s : Shard = opened n run log in
    let k = tied_log E s 0 (log_after_restart n log run 0) (opened_listed E n log run 0 a) in
    record { rows = k.rows; pairs = k.pairs; listed = k.listed }

-- ---- with more entries

lists_mono : (E F : TxId → TxId → Type 0) → ((t p : TxId) → E t p → F t p) → (r : LogRecord) → ListsAre E r → ListsAre F r
lists_mono E F k (Prepare tx home ps) a = all_rows ps a
  where
    all_rows : (ps : List TxId) → AllByRecursion (E tx) ps → AllByRecursion (F tx) ps
    all_rows [] a = tt
    all_rows (p ∷ ps) a = (k tx p a.0, all_rows ps a.1)
lists_mono E F k (Update tx key before after) a = tt
lists_mono E F k (Clr tx next key after) a = tt
lists_mono E F k (Commit tx parts) a = tt
lists_mono E F k (Abort tx) a = tt
lists_mono E F k (End tx) a = tt
lists_mono E F k (RestartRecord run epoch) a = tt
lists_mono E F k (Add tx key by) a = tt
lists_mono E F k (Unadd tx next key by) a = tt
lists_mono E F k Forgotten a = tt
lists_mono E F k (Check run' epoch' upto base) a = tt

pub tied_mono : (E F : TxId → TxId → Type 0) (s : Shard) → ((t p : TxId) → E t p → F t p) → Tied E s → Tied F s
tied_mono E F s k a = record { rows = a.rows; pairs = λ t p e. k t p (a.pairs t p e); listed = all_mono (ListsAre E) (ListsAre F) (lists_mono E F k) s.local.log a.listed }
