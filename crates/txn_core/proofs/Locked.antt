-- Each ghost bears a lock, whatever was done, and a purge leaves what a part did.
use Rattle.std.proofs.Common.{◌≡◌, ℕ, Bool, true, false, not, List, [], ◌∷◌, Option, Some, None, refl, sym, ap, subst, ◌∙◌, ⊎_elim}
use Rattle.std.proofs.lemmas.Bool.{both_ways, not-false, and_from, or_cases, false_from_ne_true}
use Rattle.std.specs.List.{AllByRecursion}
use Rattle.std.specs.declared.cmp.Ordering.{Ordering}
use Rattle.std.specs.declared.cmp.Ordering.TheVariants.{Less, Equal, Greater}
use Rattle.std.specs.Ordering.{nat_cmp, is_eq, match_ordering}
use Rattle.clv_base.specs.declared.values.Value.{Value as ValueType}
use Rattle.clv_base.specs.declared.names.TxId.{TxId}
use Rattle.clv_base.specs.declared.names.Birth.{Birth}
use Rattle.clv_base.specs.declared.modes.Anchor.TheVariants.{At}
use Rattle.clv_base.specs.declared.modes.Part.TheVariants.{N}
use Rattle.clv_base.specs.declared.modes.Need.{Need}
use Rattle.clv_base.specs.Orders.{tx_in, anchor_same}
use Rattle.clv_base.specs.Logs.{StandingUpdate, standing}
use Rattle.clv_base.specs.Locks.{Locks}
use Rattle.clv_base.specs.Needs.{Records, found_by, is_there, record_set, is_locked_or_live}
use Rattle.clv_base.specs.State.{Local}
use Rattle.clv_base.specs.Undo.{is_of, undone_at, records_without}
use Rattle.clv_base.specs.OneShard.{purge}
use Rattle.clv_base.proofs.SameNames.{or_left, or_right, tx_self, nat_cmp_true}
use Rattle.law_base.proofs.Anchors.{record_kept}
use Rattle.law_base.proofs.LockRows.{holds, held_not_free}
use Rattle.law_base.proofs.Undoing.{unwritten}
use Rattle.cascade_undo.proofs.Laws.{all_mono}
use Rattle.shard_ops.specs.Ghosts.{GhostsAreLocked}
use Rattle.shard_ops.proofs.Laws.{all_pass, all_stay}
use Rattle.shard_ops.specs.declared.plan.Insert.{Insert}
use Rattle.shard_ops.specs.declared.plan.Write.{Write}
use Rattle.shard_ops.specs.Effects.{locks_after, records_after}
use Rattle.txn_core.specs.State.{TxState, IsSameBut}
use Rattle.txn_core.specs.Sound.{is_here, has_lock, IsHeld, IsSound, IsCovered}
use Rattle.txn_core.proofs.Undoing.{lock_is_held}
use Rattle.txn_core.proofs.Doing.{locks_keep, covered_lock}
use Rattle.law_base.proofs.Names.{Stays as AllStay, is_held_at}
use Rattle.law_base.proofs.Lists.{all_mono as all_weaker}

held_stays : (locks : Locks) (k : ℕ) → is_held_at k locks ≡ true → (v : Option ValueType) → is_locked_or_live locks (k, v) ≡ true
held_stays locks k h (Some v) = refl
held_stays locks k h None = ap (λ b. not (not b)) h

-- a lock of one is a lock
lock_on : (t : TxId) (k : ℕ) (locks : Locks) → has_lock t k locks ≡ true → is_held_at k locks ≡ true
lock_on t k locks h = not-false _ (held_not_free true N (At k) t locks (sym (lock_is_held t k locks) ∙ h))

-- who holds it
holder_at : (k : ℕ) (locks : Locks) → is_held_at k locks ≡ true → (t : TxId) × (holds true N (At k) t locks ≡ true)
holder_at k [] e = absurd (both_ways false refl e)
holder_at k (r ∷ rs) e =
    ⊎_elim
    (λ h. ((r.1).tx, or_left _ _ (and_from _ true (and_from _ _ h (tx_self (r.1).tx)) refl)))
    (λ h. let more = holder_at k rs h in (more.0, or_right _ _ more.1))
    (or_cases (anchor_same (At k) r.0) (is_held_at k rs) e)

-- ---- what is granted

set_all : (locks : Locks) (k : ℕ) (v : Option ValueType) (rs : Records) → is_held_at k locks ≡ true → AllStay locks rs → AllStay locks (record_set k v rs)
set_all locks k v [] h a = (held_stays locks k h v, tt)
set_all locks k v (r ∷ rs) h a = at (nat_cmp k r.0) (λ e. nat_cmp_true k r.0 (ap is_eq e)) (set_all locks k v rs h a.1)
  where
    at : (o : Ordering) → (o ≡ Equal → k ≡ r.0) → AllStay locks (record_set k v rs) → AllStay locks (match_ordering o ((k, v) ∷ r ∷ rs) ((r.0, v) ∷ rs) (r ∷ record_set k v rs))
    at Less same more = (held_stays locks k h v, a)
    at Equal same more = (held_stays locks r.0 (subst (λ j. is_held_at j locks ≡ true) (same refl) h) v, a.1)
    at Greater same more = (a.0, more)

module _ (tx : TxId) (birth : Birth) (needs : List Need) (insert : Option Insert) (locks : Locks) where
  abbrev granted : Locks
  granted = locks_after tx birth needs insert locks

  held_still : (k : ℕ) → is_held_at k locks ≡ true → is_held_at k granted ≡ true
  held_still k h = let t = holder_at k locks h in not-false _ (held_not_free true N (At k) t.0 granted (locks_keep tx birth needs locks insert t.0 k t.1))

  stays_still : (k : ℕ) (v : Option ValueType) → is_locked_or_live locks (k, v) ≡ true → is_locked_or_live granted (k, v) ≡ true
  stays_still k (Some v) e = refl
  stays_still k None e = ap (λ b. not (not b)) (held_still k (twice (is_held_at k locks) e))
    where
      twice : (b : Bool) → not (not b) ≡ true → b ≡ true
      twice true e = refl
      twice false e = e

  written_all : (write : Option Write) (rs : Records) → IsCovered needs insert write → AllStay granted rs → AllStay granted (records_after write rs)
  written_all None rs covered a = a
  written_all (Some w) rs covered a = set_all granted w.key w.after rs (lock_on tx w.key granted (covered_lock tx birth needs locks insert w covered)) a

  -- what is written is locked, and no lock goes
  pub granted_ghosts_are_locked : (write : Option Write) (rs : Records) → IsCovered needs insert write → GhostsAreLocked locks rs → GhostsAreLocked granted (records_after write rs)
  granted_ghosts_are_locked write rs covered locked =
      all_stay (is_locked_or_live granted) (records_after write rs)
      (written_all write rs covered (all_weaker (λ r. is_locked_or_live locks r ≡ true) (λ r. is_locked_or_live granted r ≡ true) (λ r e. stays_still r.0 r.1 e) rs (all_pass (is_locked_or_live locks) rs locked)))

-- ---- what is undone

-- each write that goes has a lock on its record
abbrev pub AreLocked : (StandingUpdate → Bool) → Locks → List StandingUpdate → Type 0
AreLocked gone locks ws = AllByRecursion (λ (w : StandingUpdate). gone w ≡ true → is_held_at w.key locks ≡ true) ws

-- where no lock is, none goes
none_written : (gone : StandingUpdate → Bool) (k : ℕ) (locks : Locks) (ws : List StandingUpdate) → AreLocked gone locks ws → is_held_at k locks ≡ false → AllByRecursion (λ (w : StandingUpdate). w.key ≡ k → gone w ≡ false) ws
none_written gone k locks ws a free =
    all_weaker (λ (w : StandingUpdate). gone w ≡ true → is_held_at w.key locks ≡ true) (λ (w : StandingUpdate). w.key ≡ k → gone w ≡ false)
    (λ w h same. false_from_ne_true _ (λ i. both_ways _ (ap (λ j. is_held_at j locks) same ∙ free) (h i))) ws a

undone_all : (gone : StandingUpdate → Bool) (ws : List StandingUpdate) (locks : Locks) (rs : Records) → AreLocked gone locks ws → AllStay locks rs → AllStay locks (records_without gone ws rs)
undone_all gone ws locks [] held a = tt
undone_all gone ws locks (r ∷ rs) held a = (at (is_held_at r.0 locks) refl, undone_all gone ws locks rs held a.1)
  where
    at : (b : Bool) → is_held_at r.0 locks ≡ b → is_locked_or_live locks (r.0, undone_at gone r.0 ws r.1) ≡ true
    at true h = held_stays locks r.0 h (undone_at gone r.0 ws r.1)
    at false h = ap (λ v. is_locked_or_live locks (r.0, v)) (unwritten gone r.0 ws r.1 (none_written gone r.0 locks ws held h)) ∙ a.0

-- an undo of parts' writes leaves ghosts alone that their locks are on
pub back_ghosts_are_locked : (gone : StandingUpdate → Bool) (l : Local) → AllByRecursion (IsHeld l) (standing l.log) → AllByRecursion (λ w. gone w ≡ true → is_here l w.tx ≡ true) (standing l.log)
    → GhostsAreLocked l.locks l.records → GhostsAreLocked l.locks (records_without gone (standing l.log) l.records)
back_ghosts_are_locked gone l held here locked =
    all_stay (is_locked_or_live l.locks) (records_without gone (standing l.log) l.records)
    (undone_all gone (standing l.log) l.locks l.records (locks_of (standing l.log) held here) (all_pass (is_locked_or_live l.locks) l.records locked))
  where
    locks_of : (ws : List StandingUpdate) → AllByRecursion (IsHeld l) ws → AllByRecursion (λ w. gone w ≡ true → is_here l w.tx ≡ true) ws → AreLocked gone l.locks ws
    locks_of [] a b = tt
    locks_of (w ∷ ws) a b = ((λ i. lock_on w.tx w.key l.locks (a.0 (b.0 i)).1), locks_of ws a.1 b.1)

pub undone_ghosts_are_locked : (set : List TxId) (l : Local) (spare : ℕ) → IsSound l spare → ((t : TxId) → tx_in t set ≡ true → is_here l t ≡ true)
    → GhostsAreLocked l.locks l.records → GhostsAreLocked l.locks (records_without (is_of set) (standing l.log) l.records)
undone_ghosts_are_locked set l spare sound here locked = back_ghosts_are_locked (is_of set) l sound.writes (each (standing l.log)) locked
  where
    each : (ws : List StandingUpdate) → AllByRecursion (λ w. tx_in w.tx set ≡ true → is_here l w.tx ≡ true) ws
    each [] = tt
    each (w ∷ ws) = (here w.tx, each ws)

-- ---- a purge

-- a record that a part's write needs bears its lock, and stays
held_purged : (l : Local) (w : StandingUpdate) → IsHeld l w → IsHeld (purge l) w
held_purged l w h here =
    let held = h here in
    (ap (λ o. is_there (found_by o)) (record_kept (is_locked_or_live l.locks) w.key l.records (held_stays l.locks w.key (lock_on w.tx w.key l.locks held.1))) ∙ held.0, held.1)

pub sound_purged : (l : Local) (spare : ℕ) → IsSound l spare → IsSound (purge l) spare
sound_purged l spare sound = record { successors = sound.successors; writes = all_mono (IsHeld l) (IsHeld (purge l)) (held_purged l) (standing l.log) sound.writes; room = sound.room }

pub ghosts_same : (locks few : Locks) (rs qs : Records) → few ≡ locks → qs ≡ rs → GhostsAreLocked locks rs → GhostsAreLocked few qs
ghosts_same locks few rs qs a b h = subst (λ (x : Locks). GhostsAreLocked x qs) (sym a) (subst (λ (x : Records). GhostsAreLocked locks x) (sym b) h)

-- where each ghost bears a lock, a purge takes none away
pub purged_same : (l : Local) → GhostsAreLocked l.locks l.records → purge l ≡ l
purged_same l h = ap (λ (rs : Records). record l { records = rs }) h

pub same_purged : (s t : TxState) → t ≡ s → GhostsAreLocked (t.local).locks (t.local).records → IsSameBut s (purge s.local) t
same_purged s t e h =
    subst (λ (x : TxState). IsSameBut s (purge s.local) x) (sym e)
    (ap (λ (l : Local). record s { local = l }) (sym (purged_same s.local (subst (λ (x : TxState). GhostsAreLocked (x.local).locks (x.local).records) e h))))

pub known_purged : (s t : TxState) → IsSameBut s t.local t → GhostsAreLocked (t.local).locks (t.local).records → IsSameBut s (purge t.local) t
known_purged s t e h = subst (λ (l : Local). IsSameBut s l t) (sym (purged_same t.local h)) e
