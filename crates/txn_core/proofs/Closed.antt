-- What can be taken away after a part was closed, committed or finished.
use Rattle.std.proofs.Common.{◌≡◌, ℕ, ◌+◌, ◌≤◌, ⊎_elim, Bool, true, false, cond, not, ◌||◌, List, [], ◌∷◌, ◌++◌, length, Option, Some, None, refl, sym, ap, subst, ◌∙◌, arith}
use Rattle.std.proofs.lemmas.Bool.{both_ways, cases_Bool, false_from_ne_true}
use Rattle.std.specs.List.{AllByRecursion, list_any}
use Rattle.clv_base.specs.declared.values.Value.{Value as ValueType}
use Rattle.clv_base.specs.declared.names.TxId.{TxId}
use Rattle.clv_base.specs.declared.logs.LogRecord.{LogRecord}
use Rattle.clv_base.specs.declared.logs.LogRecord.TheVariants.{Prepare, Commit, End}
use Rattle.clv_base.specs.declared.modes.Anchor.{Anchor}
use Rattle.clv_base.specs.declared.modes.Anchor.TheVariants.{At}
use Rattle.clv_base.specs.declared.modes.Part.TheVariants.{N}
use Rattle.clv_base.specs.declared.state.Stage.TheVariants.{Active}
use Rattle.clv_base.specs.declared.state.Held.{Held}
use Rattle.clv_base.specs.Orders.{Table, tx_same, tx_in, anchor_same}
use Rattle.clv_base.specs.Facts.{undecided_of}
use Rattle.clv_base.specs.Logs.{has_standing, StandingUpdate, standing, standing_from}
use Rattle.clv_base.specs.Locks.{Locks, close_locks}
use Rattle.clv_base.specs.Needs.{Records, is_locked_or_live, without_ghosts}
use Rattle.clv_base.specs.State.{Local, is_present}
use Rattle.clv_base.specs.Undo.{stage_of, release_parts}
use Rattle.clv_base.specs.OneShard.{closing, closed_in, close_part}
use Rattle.clv_base.proofs.SameNames.{tx_true}
use Rattle.law_base.proofs.Undoing.{standing_append}
use Rattle.law_base.proofs.LockRows.{close_holds}
use Rattle.law_base.proofs.Stages.{stage_closed, closed_other as stage_other}
use Rattle.law_base.proofs.Stages.{own_go, stage_other as other_stays}
use Rattle.cascade_undo.proofs.Laws.{all_mono}
use Rattle.shard_ops.specs.Ghosts.{GhostsAreLocked}
use Rattle.txn_core.specs.State.{TxState}
use Rattle.txn_core.specs.Sound.{is_here, has_lock, IsHeld, owed_by, IsSound, SpendsSpare, UsesSpare}
use Rattle.txn_core.proofs.Owing.{owed-still, count_owed_fewer}
use Rattle.txn_core.proofs.Undoing.{lock_is_held, release_keeps, all_filter}
use Rattle.law_base.proofs.Bools.{not_true as not_false}

-- ---- records that neither write nor undo

pub record Plain (more : List LogRecord) : Type 0 where
  pub standing : (n : ℕ) (ws : List StandingUpdate) → standing_from n more ws ≡ ws

pub plain_commit : (tx : TxId) (parts : List ℕ) → Plain (Commit tx parts ∷ [])
plain_commit tx parts = record { standing = λ n ws. refl }

pub plain_prepare : (tx : TxId) (home : ℕ) (ps : List TxId) → Plain (Prepare tx home ps ∷ [])
plain_prepare tx home ps = record { standing = λ n ws. refl }

pub plain_end : (tx : TxId) → Plain (End tx ∷ [])
plain_end tx = record { standing = λ n ws. refl }

plain_none : Plain []
plain_none = record { standing = λ n ws. refl }

pub plain_closing : (wrote one : Bool) (tx : TxId) (home : ℕ) (us : List TxId) → Plain (closing wrote one tx home us)
plain_closing true true tx home [] = plain_commit tx []
plain_closing true true tx home (u ∷ us) = plain_prepare tx home (u ∷ us)
plain_closing true false tx home us = plain_prepare tx home us
plain_closing false one tx home us = plain_none

standing_plain : (log more : List LogRecord) → Plain more → standing (log ++ more) ≡ standing log
standing_plain log more p = standing_append 0 log more [] ∙ p.standing (0 + length log) (standing_from 0 log [])

-- such records, other parts that are here where these were, and other locks that hold what these held
abbrev changed : Local → Locks → Table Held → List LogRecord → Local
changed l locks parts more = record { records = l.records; locks = locks; parts = parts; pairs = l.pairs; log = l.log ++ more; epoch = l.epoch }

module _ (l : Local) (locks : Locks) (parts : Table Held) (more : List LogRecord) (plain : Plain more) (here : (t : TxId) → is_here (changed l locks parts more) t ≡ is_here l t) where
  pub spare_plain : owed_by (is_here (changed l locks parts more)) (l.log ++ more) ≤ owed_by (is_here l) l.log
  spare_plain =
      let a = owed-still (is_here (changed l locks parts more)) l.log more (standing_plain l.log more plain) in
      let b = count_owed_fewer (is_here (changed l locks parts more)) (is_here l) l.log (λ t h. sym (here t) ∙ h) in omega (arith, a, b)

  pub back_plain : owed_by (is_here l) l.log ≤ owed_by (is_here (changed l locks parts more)) (l.log ++ more)
  back_plain =
      let a = owed-still (is_here (changed l locks parts more)) l.log more (standing_plain l.log more plain) in
      let b = count_owed_fewer (is_here l) (is_here (changed l locks parts more)) l.log (λ t h. here t ∙ h) in omega (arith, a, b)

  pairs_again : (ps : List (TxId × TxId)) → AllByRecursion (λ p. is_here l p.0 ≡ true) ps → AllByRecursion (λ p. is_here (changed l locks parts more) p.0 ≡ true) ps
  pairs_again [] a = tt
  pairs_again (p ∷ ps) a = (here p.0 ∙ a.0, pairs_again ps a.1)

  pub sound_plain : (spare left : ℕ) → ((t : TxId) (k : ℕ) → has_lock t k l.locks ≡ true → has_lock t k locks ≡ true) → IsSound l spare → owed_by (is_here l) l.log ≤ left → IsSound (changed l locks parts more) left
  sound_plain spare left keep sound room = record {
    successors = pairs_again l.pairs sound.successors;
    writes =
        subst (AllByRecursion (IsHeld (changed l locks parts more))) (sym (standing_plain l.log more plain))
        (all_mono (IsHeld l) (IsHeld (changed l locks parts more)) (λ w h i. let held = h (sym (here w.tx) ∙ i) in (held.0, keep w.tx w.key held.1)) (standing l.log) sound.writes);
    room = let a = spare_plain in omega (arith, a, room);
  }

-- ---- a part that is closed

pub closed_here : (l : Local) (tx : TxId) → stage_of l tx ≡ Some Active → (t : TxId) → is_here (record l { parts = closed_in tx l.parts }) t ≡ is_here l t
closed_here l tx active t =
    ⊎_elim
    (λ e. ap (λ u. is_here (record l { parts = closed_in tx l.parts }) u) (sym (tx_true tx t e)) ∙ ap is_present (stage_closed l.parts tx active) ∙ sym (ap is_present active) ∙ ap (is_here l) (tx_true tx t e))
    (λ e. ap is_present (stage_other l.parts tx t e))
    (cases_Bool (tx_same tx t))

pub closed_locks_keep : (tx t : TxId) (k : ℕ) (locks : Locks) → has_lock t k locks ≡ true → has_lock t k (close_locks tx locks) ≡ true
closed_locks_keep tx t k locks h = lock_is_held t k (close_locks tx locks) ∙ close_holds tx true N (At k) t locks ∙ sym (lock_is_held t k locks) ∙ h

held_alike : (tx : TxId) (a : Anchor) (locks : Locks) → list_any (λ r. anchor_same a r.0) (close_locks tx locks) ≡ list_any (λ r. anchor_same a r.0) locks
held_alike tx a [] = refl
held_alike tx a (r ∷ rs) = ap (λ b. anchor_same a r.0 || b) (held_alike tx a rs)

stays_alike : (tx : TxId) (locks : Locks) (k : ℕ) (v : Option ValueType) → is_locked_or_live (close_locks tx locks) (k, v) ≡ is_locked_or_live locks (k, v)
stays_alike tx locks k (Some v) = refl
stays_alike tx locks k None = ap (λ b. not (not b)) (held_alike tx (At k) locks)

ghosts_alike : (tx : TxId) (locks : Locks) (rs : Records) → without_ghosts (close_locks tx locks) rs ≡ without_ghosts locks rs
ghosts_alike tx locks [] = refl
ghosts_alike tx locks (r ∷ rs) =
    ap (λ l. cond (is_locked_or_live (close_locks tx locks) r) (r ∷ l) l) (ghosts_alike tx locks rs)
    ∙ ap (λ b. cond b (r ∷ without_ghosts locks rs) (without_ghosts locks rs)) (stays_alike tx locks r.0 r.1)

pub closed_ghosts : (tx : TxId) (locks : Locks) (rs : Records) → GhostsAreLocked locks rs → GhostsAreLocked (close_locks tx locks) rs
closed_ghosts tx locks rs h = ghosts_alike tx locks rs ∙ h

pub closed_fewer : (l : Local) (tx : TxId) (home : ℕ) (one : Bool) → stage_of l tx ≡ Some Active → owed_by (is_here (close_part tx home one l)) (close_part tx home one l).log ≤ owed_by (is_here l) l.log
closed_fewer l tx home one active =
    spare_plain l (close_locks tx l.locks) (closed_in tx l.parts) (closing (has_standing l.log tx) one tx home (undecided_of l tx)) (plain_closing (has_standing l.log tx) one tx home (undecided_of l tx)) (closed_here l tx active)

pub closed_back : (l : Local) (tx : TxId) (home : ℕ) (one : Bool) → stage_of l tx ≡ Some Active → owed_by (is_here l) l.log ≤ owed_by (is_here (close_part tx home one l)) (close_part tx home one l).log
closed_back l tx home one active =
    back_plain l (close_locks tx l.locks) (closed_in tx l.parts) (closing (has_standing l.log tx) one tx home (undecided_of l tx)) (plain_closing (has_standing l.log tx) one tx home (undecided_of l tx)) (closed_here l tx active)

pub closed_sound : (l : Local) (tx : TxId) (home : ℕ) (one : Bool) (spare left : ℕ) → stage_of l tx ≡ Some Active → IsSound l spare → owed_by (is_here l) l.log ≤ left → IsSound (close_part tx home one l) left
closed_sound l tx home one spare left active sound room =
    sound_plain l (close_locks tx l.locks) (closed_in tx l.parts) (closing (has_standing l.log tx) one tx home (undecided_of l tx)) (plain_closing (has_standing l.log tx) one tx home (undecided_of l tx)) (closed_here l tx active)
    spare left (λ t k h. closed_locks_keep tx t k l.locks h) sound room

-- ---- a part that is finished

module _ (tx : TxId) (l : Local) where
  pub finished_here : (t : TxId) → is_here (release_parts (tx ∷ []) None l) t ≡ true → (tx_in t (tx ∷ []) ≡ false) × (is_here l t ≡ true)
  finished_here t h =
      let out : tx_in t (tx ∷ []) ≡ false = false_from_ne_true _ (λ i. both_ways _ (own_go (tx ∷ []) None t l.parts i) h) in
      (out, ap is_present (sym (other_stays (tx ∷ []) None t l.parts out)) ∙ h)

  pub still_here : (t : TxId) → tx_in t (tx ∷ []) ≡ false → is_here l t ≡ true → is_here (release_parts (tx ∷ []) None l) t ≡ true
  still_here t out h = ap is_present (other_stays (tx ∷ []) None t l.parts out) ∙ h

  pub spare_finished : owed_by (is_here (release_parts (tx ∷ []) None l)) l.log ≤ owed_by (is_here l) l.log
  spare_finished = count_owed_fewer (is_here (release_parts (tx ∷ []) None l)) (is_here l) l.log (λ t h. (finished_here t h).1)

  pub sound_finished : (spare : ℕ) → IsSound l spare → IsSound (release_parts (tx ∷ []) None l) spare
  sound_finished spare sound = record {
    successors = all_filter (λ p. is_here l p.0 ≡ true) (λ p. is_here (release_parts (tx ∷ []) None l) p.0 ≡ true) (λ p. not (tx_in p.0 (tx ∷ []))) l.pairs (λ p h e. still_here p.0 (not_false _ e) h) sound.successors;
    writes =
        all_mono (IsHeld l) (IsHeld (release_parts (tx ∷ []) None l))
        (λ w h i. let q = finished_here w.tx i in let held = h q.1 in (held.0, release_keeps (tx ∷ []) w.tx w.key l.locks q.0 held.1)) (standing l.log) sound.writes;
    room = let a = spare_finished in let r = sound.room in omega (arith, a, r);
  }

-- of a state the parts and the log alone count
pub spends_like : (n : ℕ) (s t : TxState) (m : Local) → (t.local).parts ≡ m.parts → (t.local).log ≡ m.log → s.room + owed_by (is_here m) m.log ≤ n + t.room + owed_by (is_here s.local) (s.local).log → SpendsSpare n s t
spends_like n s t m parts log h =
    subst (λ (ps : Table Held). s.room + owed_by (is_here (record m { parts = ps })) (t.local).log ≤ n + t.room + owed_by (is_here s.local) (s.local).log) (sym parts)
    (subst (λ (lg : List LogRecord). s.room + owed_by (is_here m) lg ≤ n + t.room + owed_by (is_here s.local) (s.local).log) (sym log) h)

pub uses_like : (n : ℕ) (s t : TxState) (m : Local) → (t.local).parts ≡ m.parts → (t.local).log ≡ m.log → n + t.room + owed_by (is_here s.local) (s.local).log ≡ s.room + owed_by (is_here m) m.log → UsesSpare n s t
uses_like n s t m parts log h =
    subst (λ (ps : Table Held). n + t.room + owed_by (is_here s.local) (s.local).log ≡ s.room + owed_by (is_here (record m { parts = ps })) (t.local).log) (sym parts)
    (subst (λ (lg : List LogRecord). n + t.room + owed_by (is_here s.local) (s.local).log ≡ s.room + owed_by (is_here m) lg) (sym log) h)

-- ---- a record more

pub more_owed : (l : Local) (more : List LogRecord) → Plain more → owed_by (is_here (record l { log = l.log ++ more })) (l.log ++ more) ≡ owed_by (is_here l) l.log
more_owed l more plain = owed-still (is_here l) l.log more (standing_plain l.log more plain)

pub more_sound : (l : Local) (more : List LogRecord) (spare left : ℕ) → Plain more → IsSound l spare → owed_by (is_here l) l.log ≤ left → IsSound (record l { log = l.log ++ more }) left
more_sound l more spare left plain sound room = sound_plain l l.locks l.parts more plain (λ t. refl) spare left (λ t k h. h) sound room
