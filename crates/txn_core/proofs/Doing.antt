-- What is granted leaves a state of which all can still be taken away.
use Rattle.std.proofs.Common.{◌≡◌, ℕ, ◌+◌, ◌≤◌, ◌⊎◌, inl, inr, ⊎_elim, Bool, true, false, cond, ◌&&◌, ◌||◌, ◌==◌, List, [], ◌∷◌, length, Option, Some, None, is_none, is_some, refl, sym, ap, subst, ◌∙◌, arith}
use Rattle.std.proofs.lemmas.Bool.{both_ways, cases_Bool, cond-true, false_from_ne_true}
use Rattle.std.specs.List.{AllByRecursion}
use Rattle.std.specs.BTreeSet.{insert_key}
use Rattle.std.specs.declared.cmp.Ordering.{Ordering}
use Rattle.std.specs.declared.cmp.Ordering.TheVariants.{Less, Equal, Greater}
use Rattle.std.specs.Ordering.{match_ordering}
use Rattle.clv_base.specs.declared.values.Value.{Value as ValueType}
use Rattle.clv_base.specs.declared.names.TxId.{TxId}
use Rattle.clv_base.specs.declared.names.Birth.{Birth}
use Rattle.clv_base.specs.declared.ops.Op.{Op}
use Rattle.clv_base.specs.declared.ops.Op.TheVariants.{Get, Put, Del, Scan, Add}
use Rattle.clv_base.specs.declared.logs.LogRecord.{LogRecord}
use Rattle.clv_base.specs.declared.modes.Anchor.TheVariants.{At}
use Rattle.clv_base.specs.declared.modes.Part.TheVariants.{N}
use Rattle.clv_base.specs.declared.modes.Need.{Need}
use Rattle.clv_base.specs.declared.modes.Found.{Found}
use Rattle.clv_base.specs.declared.modes.Found.TheVariants.{Live, Ghost, Absent}
use Rattle.clv_base.specs.declared.state.Stage.{Stage}
use Rattle.clv_base.specs.declared.state.Stage.TheVariants.{Active, Closed, Gone}
use Rattle.clv_base.specs.declared.state.Held.{Held}
use Rattle.clv_base.specs.Orders.{tx_same, tx_get, pair_cmp, pair_insert, anchor_same}
use Rattle.clv_base.specs.declared.changes.Change.{Change}
use Rattle.clv_base.specs.declared.changes.Change.TheVariants.{Sets, Adds}
use Rattle.clv_base.specs.declared.values.Value.TheVariants.{Num, Bytes}
use Rattle.clv_base.specs.Logs.{StandingUpdate, standing, standing_after, has_standing}
use Rattle.clv_base.specs.Locks.{Locks, take_all, split_gap}
use Rattle.clv_base.specs.Needs.{Records, found_at, found_by, is_there, live_of, record_set, needs_of, needs_by, inserts, writes_of}
use Rattle.clv_base.specs.State.{Local, is_present}
use Rattle.clv_base.specs.Undo.{stage_of}
use Rattle.clv_base.specs.OneShard.{update_of, new_part, active_part, add_pairs}
use Rattle.clv_base.proofs.SameNames.{or_left, tx_true, tx_self, tx_flip}
use Rattle.law_base.proofs.Cells.{record_at}
use Rattle.law_base.proofs.Tables.{get_put, stage_in, stage_by as stage_at}
use Rattle.law_base.proofs.Anchors.{record_at_set}
use Rattle.law_base.proofs.Standing.{all_stand, standing_append}
use Rattle.law_base.proofs.LockRows.{holds, asks, need_asks, anchor_self, all_keeps, all_gives, split_keeps}
use Rattle.law_base.proofs.Stages.{other_part}
use Rattle.shard_ops.specs.declared.plan.Insert.{Insert}
use Rattle.shard_ops.specs.declared.plan.Write.{Write}
use Rattle.shard_ops.specs.Planned.{insert_by, write_by, insert_of, write_of}
use Rattle.shard_ops.specs.Effects.{performed_by, locks_after, records_after, log_after, new_key, record_count, CanSet, CanWrite}
use Rattle.txn_core.specs.Sound.{is_here, has_lock, IsHeld, owed_by, owed_for, owed_more, IsSound, may_work, has_need, IsCovered}
use Rattle.txn_core.proofs.Owing.{owed-one, owed-own, owed_of_others, count_owed_fewer}
use Rattle.txn_core.proofs.Undoing.{lock_is_held}
use Rattle.law_base.proofs.Lists.{all_both, all_mono as all_weaker}
use Rattle.law_base.proofs.Names.{set_has}

-- ---- what a plan writes is locked

pub covers : (op : Op) (rs : Records) → IsCovered (needs_of op rs) (insert_of op rs) (write_of op rs)
covers (Get k) rs = tt
covers (Scan lo hi) rs = tt
covers (Put k v) rs = at (found_at k rs)
  where
    at : (f : Found) → IsCovered (needs_by (Put k v) rs f) (insert_by rs (inserts (Put k v) f)) (write_by (live_of (found_at k rs)) (writes_of (Put k v) (live_of (found_at k rs))))
    at (Live w) = inl (or_left _ _ (anchor_self (At k)))
    at Ghost = inl (or_left _ _ (anchor_self (At k)))
    at Absent = inr (_, refl, refl)
covers (Del k) rs = at (found_at k rs)
  where
    at : (f : Found) → IsCovered (needs_by (Del k) rs f) (insert_by rs (inserts (Del k) f)) (write_by (live_of f) (writes_of (Del k) (live_of f)))
    at (Live w) = inl (or_left _ _ (anchor_self (At k)))
    at Ghost = tt
    at Absent = tt
covers (Add k n) rs = at (found_at k rs)
  where
    at : (f : Found) → IsCovered (needs_by (Add k n) rs f) (insert_by rs (inserts (Add k n) f)) (write_by (live_of f) (writes_of (Add k n) (live_of f)))
    at (Live (Num v)) = inl (or_left _ _ (anchor_self (At k)))
    at (Live (Bytes b)) = tt
    at Ghost = tt
    at Absent = tt

-- ---- lists of pairs

all_insert_key : {K : Type 0} (R : K → K → Ordering) (P : K → Type 0) (k : K) (xs : List K) → P k → AllByRecursion P xs → AllByRecursion P (insert_key R xs k)
all_insert_key R P k [] h a = (h, tt)
all_insert_key R P k (x ∷ xs) h a = at (R k x) (all_insert_key R P k xs h a.1)
  where
    at : (c : Ordering) → AllByRecursion P (insert_key R xs k) → AllByRecursion P (match_ordering c (k ∷ x ∷ xs) (x ∷ xs) (x ∷ insert_key R xs k))
    at Less more = (h, a)
    at Equal more = a
    at Greater more = (a.0, more)

all_add : (P : TxId × TxId → Type 0) (tx : TxId) (ps : List TxId) (pairs : List (TxId × TxId)) → ((p : TxId) → P (tx, p)) → AllByRecursion P pairs → AllByRecursion P (add_pairs tx ps pairs)
all_add P tx [] pairs h a = a
all_add P tx (p ∷ ps) pairs h a = all_add P tx ps (pair_insert (tx, p) pairs) h (all_insert_key pair_cmp P (tx, p) pairs (h p) a)

-- ---- records and locks stay

set_keeps : (q k : ℕ) (v : Option ValueType) (rs : Records) → is_there (found_at q rs) ≡ true → is_there (found_at q (record_set k v rs)) ≡ true
set_keeps q k v rs h = ap (λ o. is_there (found_by o)) (record_at_set q k v rs) ∙ at (q == k) v
  where
    at : (b : Bool) (v : Option ValueType) → is_there (found_by (cond b (Some v) (record_at q rs))) ≡ true
    at true None = refl
    at true (Some u) = refl
    at false v = h

after_keeps : (write : Option Write) (q : ℕ) (rs : Records) → is_there (found_at q rs) ≡ true → is_there (found_at q (records_after write rs)) ≡ true
after_keeps None q rs h = h
after_keeps (Some w) q rs h = set_keeps q w.key w.after rs h

module _ (tx : TxId) (birth : Birth) (needs : List Need) (locks : Locks) where
  pub locks_keep : (insert : Option Insert) (u : TxId) (k : ℕ) → holds true N (At k) u locks ≡ true → holds true N (At k) u (locks_after tx birth needs insert locks) ≡ true
  locks_keep None u k h = all_keeps true N (At k) u tx birth needs locks h
  locks_keep (Some i) u k h =
      all_keeps true N (At k) u tx birth (new_key i.key) (split_gap i.lower (At i.key) (take_all tx birth needs locks))
      (split_keeps true N (At k) u i.lower (At i.key) (take_all tx birth needs locks) (all_keeps true N (At k) u tx birth needs locks h))

  asks_need : (k : ℕ) (ns : List Need) → has_need k ns ≡ asks true N (At k) ns
  asks_need k [] = refl
  asks_need k (n ∷ ns) = ap (λ b. b || has_need k ns) (sym (and_true (anchor_same (At k) n.anchor))) ∙ ap (λ b. need_asks true N (At k) n || b) (asks_need k ns)
    where
      and_true : (b : Bool) → (b && true) ≡ b
      and_true true = refl
      and_true false = refl

  locks_needed : (insert : Option Insert) (k : ℕ) → has_need k needs ≡ true → holds true N (At k) tx (locks_after tx birth needs insert locks) ≡ true
  locks_needed None k h = all_gives true N (At k) tx birth needs locks (sym (asks_need k needs) ∙ h)
  locks_needed (Some i) k h =
      all_keeps true N (At k) tx tx birth (new_key i.key) (split_gap i.lower (At i.key) (take_all tx birth needs locks))
      (split_keeps true N (At k) tx i.lower (At i.key) (take_all tx birth needs locks) (all_gives true N (At k) tx birth needs locks (sym (asks_need k needs) ∙ h)))

  locks_new : (insert : Option Insert) (k : ℕ) (i : Insert) → insert ≡ Some i → i.key ≡ k → holds true N (At k) tx (locks_after tx birth needs insert locks) ≡ true
  locks_new None k i e same = absurd cc
  locks_new (Some j) k i e same =
      let key : k ≡ j.key = cc in
      all_gives true N (At k) tx birth (new_key j.key) (split_gap j.lower (At j.key) (take_all tx birth needs locks)) (or_left _ _ (own k j.key key))
    where
      own : (a b : ℕ) → a ≡ b → (anchor_same (At a) (At b) && true) ≡ true
      own a b e = subst (λ c. (anchor_same (At a) (At c) && true) ≡ true) e (ap (λ x. x && true) (anchor_self (At a)))

  pub covered_lock : (insert : Option Insert) (w : Write) → IsCovered needs insert (Some w) → has_lock tx w.key (locks_after tx birth needs insert locks) ≡ true
  covered_lock insert w c = lock_is_held tx w.key (locks_after tx birth needs insert locks) ∙ ⊎_elim (λ h. locks_needed insert w.key h) (λ n. locks_new insert w.key n.0 n.1 n.2) c

  lock_stays : (insert : Option Insert) (u : TxId) (k : ℕ) → has_lock u k locks ≡ true → has_lock u k (locks_after tx birth needs insert locks) ≡ true
  lock_stays insert u k h = lock_is_held u k (locks_after tx birth needs insert locks) ∙ locks_keep insert u k (sym (lock_is_held u k locks) ∙ h)

-- ---- the parts

work_here : (s : Stage) → may_work (Some s) ≡ true → is_present (Some s) ≡ true
work_here Active e = refl
work_here Closed e = absurd (both_ways false refl e)
work_here (Gone doom) e = absurd (both_ways false refl e)

module _ (tx : TxId) (birth : Birth) (needs : List Need) (insert : Option Insert) (write : Option Write) (preds : List TxId) (l : Local) where
  abbrev after : Local
  after = performed_by tx birth needs insert write preds l

  own_by : (o : Option Held) → tx_get tx l.parts ≡ o → may_work (stage_of l tx) ≡ true → is_present (stage_in (new_part tx birth o l.parts) tx) ≡ true
  own_by None e m = let got = get_put tx tx (active_part birth) l.parts ∙ cond-true (tx_same tx tx) (Some (active_part birth)) (tx_get tx l.parts) (tx_self tx) in ap (λ o. is_present (stage_at o)) got
  own_by (Some h) e m = ap (λ o. is_present (stage_at o)) e ∙ work_here h.stage (ap (λ o. may_work (stage_at o)) (sym e) ∙ m)

  pub own_here : may_work (stage_of l tx) ≡ true → is_here after tx ≡ true
  own_here m = own_by (tx_get tx l.parts) refl m

  others : (u : TxId) → tx_same u tx ≡ false → is_here after u ≡ is_here l u
  others u e = let same = other_part tx birth l.parts u (tx_get tx l.parts) e in ap (λ o. is_present (stage_at o)) same

  here_keeps : may_work (stage_of l tx) ≡ true → (u : TxId) → is_here l u ≡ true → is_here after u ≡ true
  here_keeps m u h = ⊎_elim (λ s. subst (λ x. is_here after x ≡ true) (sym (tx_true u tx s)) (own_here m)) (λ n. others u n ∙ h) (cases_Bool (tx_same u tx))

  abbrev Known : Type 0
  Known = (is_here l tx ≡ true) ⊎ (has_standing l.log tx ≡ false)

  held_still : Known → (w : StandingUpdate) → IsHeld l w × (has_standing l.log w.tx ≡ true) → IsHeld after w
  held_still known w h here =
      let before : is_here l w.tx ≡ true =
      ⊎_elim
      (λ s. let name = tx_true w.tx tx s in
      ⊎_elim (λ k. subst (λ x. is_here l x ≡ true) (sym name) k) (λ n. absurd (both_ways _ n (subst (λ x. has_standing l.log x ≡ true) name h.1))) known)
      (λ n. sym (others w.tx n) ∙ here) (cases_Bool (tx_same w.tx tx)) in
      let held = h.0 before in
      (after_keeps write w.key l.records held.0, lock_stays tx birth needs l.locks insert w.tx w.key held.1)

  standing_still : Known → AllByRecursion (IsHeld l) (standing l.log) → AllByRecursion (IsHeld after) (standing l.log)
  standing_still known a = all_weaker (λ w. IsHeld l w × (has_standing l.log w.tx ≡ true)) (IsHeld after) (held_still known) (standing l.log) (all_both (IsHeld l) (λ w. has_standing l.log w.tx ≡ true) (standing l.log) a (all_stand l.log))

  owed_before : Known → owed_by (is_here after) l.log ≤ owed_by (is_here l) l.log
  owed_before known =
      ⊎_elim
      (λ k. count_owed_fewer (is_here after) (is_here l) l.log
      (λ t h. ⊎_elim (λ s. subst (λ x. is_here l x ≡ true) (sym (tx_true t tx s)) k) (λ n. sym (others t n) ∙ h) (cases_Bool (tx_same t tx))))
      (λ n. owed_of_others tx (is_here after) (is_here l) l.log n (λ t e h. sym (others t (flipped t e)) ∙ h)) known
    where
      flipped : (t : TxId) → tx_same tx t ≡ false → tx_same t tx ≡ false
      flipped t e = false_from_ne_true _ (λ s. both_ways _ e (tx_flip t tx s))

stands_then : (n : ℕ) (tx : TxId) (key : ℕ) (c : Change) (ws : List StandingUpdate) → standing_after n (update_of tx key c) ws ≡ record { lsn = n; tx = tx; key = key; change = c } ∷ ws
stands_then n tx key (Sets b a) ws = refl
stands_then n tx key (Adds by) ws = refl

one_more : (tx : TxId) (w : Write) (log : List LogRecord) → standing (log_after tx (Some w) log) ≡ record { lsn = 0 + length log; tx = tx; key = w.key; change = w.change } ∷ standing log
one_more tx w log = standing_append 0 log (update_of tx w.key w.change ∷ []) [] ∙ stands_then (0 + length log) tx w.key w.change (standing log)

written_all : (P : StandingUpdate → Type 0) (tx : TxId) (write : Option Write) (log : List LogRecord) → AllByRecursion P (standing log)
    → ((w : Write) → write ≡ Some w → (n : ℕ) → P (record { lsn = n; tx = tx; key = w.key; change = w.change })) → AllByRecursion P (standing (log_after tx write log))
written_all P tx None log a new = a
written_all P tx (Some w) log a new =
    subst (AllByRecursion P) (sym (one_more tx w log)) (new w refl (0 + length log), a)

owed_written : (test : TxId → Bool) (tx : TxId) (write : Option Write) (log : List LogRecord) → owed_by test (log_after tx write log) ≤ owed_by test log + owed_more (has_standing log tx) write
owed_written test tx None log = omega arith
owed_written test tx (Some w) log = let e = ap (owed_for test) (one_more tx w log) in let a = owed-one test (record { lsn = 0 + length log; tx = tx; key = w.key; change = w.change }) (standing log) in omega (arith, e, a)

owed_own : (test : TxId → Bool) (tx : TxId) (write : Option Write) (log : List LogRecord) → test tx ≡ true → owed_by test log + owed_more (has_standing log tx) write ≤ owed_by test (log_after tx write log)
owed_own test tx None log own = omega arith
owed_own test tx (Some w) log own = let e = ap (owed_for test) (one_more tx w log) in let a = owed-own test (record { lsn = 0 + length log; tx = tx; key = w.key; change = w.change }) (standing log) own in omega (arith, e, a)

-- what is reserved beyond the undo of the parts that are here stays so
pub spare_performed : (tx : TxId) (birth : Birth) (needs : List Need) (insert : Option Insert) (write : Option Write) (preds : List TxId) (l : Local) (spare left : ℕ)
    → (is_here l tx ≡ true) ⊎ (has_standing l.log tx ≡ false) → spare + owed_more (has_standing l.log tx) write ≤ left
    → spare + owed_by (is_here (performed_by tx birth needs insert write preds l)) (log_after tx write l.log) ≤ left + owed_by (is_here l) l.log
spare_performed tx birth needs insert write preds l spare left known room =
    let a = owed_before tx birth needs insert write preds l known in let b = owed_written (is_here (performed_by tx birth needs insert write preds l)) tx write l.log in omega (arith, a, b, room)

-- nor is there more of it
pub back_performed : (tx : TxId) (birth : Birth) (needs : List Need) (insert : Option Insert) (write : Option Write) (preds : List TxId) (l : Local) (spare left : ℕ)
    → may_work (stage_of l tx) ≡ true → left ≤ spare + owed_more (has_standing l.log tx) write
    → left + owed_by (is_here l) l.log ≤ spare + owed_by (is_here (performed_by tx birth needs insert write preds l)) (log_after tx write l.log)
back_performed tx birth needs insert write preds l spare left work room =
    let a = count_owed_fewer (is_here l) (is_here (performed_by tx birth needs insert write preds l)) l.log (here_keeps tx birth needs insert write preds l work) in
    let b = owed_own (is_here (performed_by tx birth needs insert write preds l)) tx write l.log (own_here tx birth needs insert write preds l work) in omega (arith, a, b, room)

-- what is done by a plan that locks what it writes
pub sound_performed : (tx : TxId) (birth : Birth) (needs : List Need) (insert : Option Insert) (write : Option Write) (preds : List TxId) (l : Local) (spare left : ℕ)
    → IsSound l spare → may_work (stage_of l tx) ≡ true → (is_here l tx ≡ true) ⊎ (has_standing l.log tx ≡ false) → IsCovered needs insert write
    → spare + owed_more (has_standing l.log tx) write ≤ left → IsSound (performed_by tx birth needs insert write preds l) left
sound_performed tx birth needs insert write preds l spare left sound work known covered room = record {
  successors =
      all_add (λ p. is_here (performed_by tx birth needs insert write preds l) p.0 ≡ true) tx preds l.pairs (λ p. own_here tx birth needs insert write preds l work)
      (all_weaker (λ p. is_here l p.0 ≡ true) (λ p. is_here (performed_by tx birth needs insert write preds l) p.0 ≡ true) (λ p h. here_keeps tx birth needs insert write preds l work p.0 h) l.pairs sound.successors);
  writes =
      written_all (IsHeld (performed_by tx birth needs insert write preds l)) tx write l.log (standing_still tx birth needs insert write preds l known sound.writes)
      (λ w e n h. (
        subst (λ o. is_there (found_at w.key (records_after o l.records)) ≡ true) (sym e) (set_has w.key w.after l.records),
        covered_lock tx birth needs l.locks insert w (subst (IsCovered needs insert) e covered),
      ));
  room = let a = spare_performed tx birth needs insert write preds l spare left known room in omega (arith, a, sound.room);
}

-- ---- room for what is written

pub can_write : (write : Option Write) (room : ℕ) (rs : Records) → record_count write ≤ room → CanWrite write 1 rs → CanWrite write room rs
can_write None room rs enough can = can
can_write (Some w) room rs enough can = at w.after can
  where
    at : (v : Option ValueType) → CanSet w.key v 1 rs → CanSet w.key v room rs
    at (Some v) can = omega (arith, enough)
    at None can = can

-- ---- what is known of a transaction that may work

pub known_from : (l : Local) (tx : TxId) (stage : Option Stage) → stage ≡ stage_of l tx → may_work (stage_of l tx) ≡ true → (is_none stage && has_standing l.log tx) ≡ false → (is_here l tx ≡ true) ⊎ (has_standing l.log tx ≡ false)
known_from l tx None same work e = inr e
known_from l tx (Some s) same work e = inl (subst (λ o. is_present o ≡ true) same (work_here s (ap may_work same ∙ work)))

-- who has a part has a stage
pub known_alike : (l : Local) (tx : TxId) (stage : Option Stage) → stage ≡ stage_of l tx → is_some stage ≡ is_some (tx_get tx l.parts)
known_alike l tx stage same = ap is_some same ∙ at (tx_get tx l.parts)
  where
    at : (o : Option Held) → is_some (stage_at o) ≡ is_some o
    at None = refl
    at (Some h) = refl
