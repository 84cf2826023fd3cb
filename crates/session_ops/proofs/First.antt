-- A transaction before its first operation.
use Rattle.std.proofs.Common.{◌≡◌, ◌∙◌, refl, sym, ap, subst, ℕ, suc, ◌≤◌, ◌<◌, ◌^◌, ◌==◌, true, false, cond, ◌&&◌, List, [], ◌∷◌, Option, Some, None, arith, inr, eq-eqb}
use Rattle.std.specs.Ordering.{nat_cmp, ordering_then, is_eq, is_lt}
use Rattle.std.specs.declared.cmp.Ordering.TheVariants.{Less, Equal, Greater}
use Rattle.std.proofs.lemmas.Bool.{and_from, and_parts, lt-ltb, false_from_ne_true, or_left}
use Rattle.clv_base.specs.declared.names.TxId.{TxId}
use Rattle.clv_base.specs.declared.names.Birth.{Birth}
use Rattle.clv_base.specs.declared.logs.LogRecord.{LogRecord}
use Rattle.clv_base.specs.FileRules.{tx_has_spelling}
use Rattle.clv_base.specs.Orders.{tx_same, birth_cmp, is_older}
use Rattle.clv_base.specs.Restarts.{run_after}
use Rattle.clv_base.specs.Sessions.{SessionState, Phase, begins, begun, follows_birth, may_drop, is_session_number}
use Rattle.clv_base.proofs.SameNames.{tx_true}
use Rattle.cluster_turns.specs.declared.shards.Shards.{Shards}
use Rattle.cluster_turns.specs.declared.shards.Walker.{Walker}
use Rattle.cluster_turns.specs.Walkers.{IsWalker, kept}
use Rattle.cluster_turns.specs.States.{session_of}
use Rattle.cluster_turns.proofs.Laws.{states_bear_walkers}
use Rattle.cluster_turns.specs.Unborn.{UnbornUnless}
use Rattle.cluster_turns.proofs.Laws.{informed_later, new_is_free, new_is_unborn, unborn_unless_any}
use Rattle.law_base.proofs.Changed.{none_some}
use Rattle.session_ops.specs.Standing.{IsOld, IsReady, IsActive}
use Rattle.session_ops.specs.Beginnings.{Begun}

pub runs_count : (founds : List (List LogRecord)) → 0 < run_after founds
runs_count [] = omega arith
runs_count (log ∷ logs) = let h = runs_count logs in omega arith

older_so : (old new : Birth) → old.stamp < new.stamp → is_older old new ≡ true
older_so old new l = ap (λ b. is_lt (ordering_then (cond b Less (cond (old.stamp == new.stamp) Equal Greater)) (ordering_then (nat_cmp old.session new.session) (nat_cmp old.serial new.serial)))) (lt-ltb old.stamp new.stamp l)

follows_so : (clock : ℕ) (old : Option Birth) (new : Birth) (phase : Phase) → IsOld clock old → clock < new.stamp → follows_birth old new phase ≡ true
follows_so clock None new phase h l = refl
follows_so clock (Some old) new phase h l = or_left (is_older old new) (is_eq (birth_cmp old new) && may_drop phase) (older_so old new (omega arith))

pub other_name : (tx : TxId) (t : SessionState) → (t.tx).serial < tx.serial → tx_same tx t.tx ≡ false
other_name tx t l = false_from_ne_true (tx_same tx t.tx) (λ h. let same = ap (λ x. x.serial) (tx_true tx t.tx h) in omega arith)

begins_so : (t : SessionState) (tx : TxId) (birth : Birth) (clock : ℕ) → tx.run ≡ (t.tx).run → tx.session ≡ (t.tx).session → (t.tx).serial < tx.serial → birth.session ≡ tx.session → IsOld clock t.birth → clock < birth.stamp → begins t tx birth ≡ true
begins_so t tx birth clock a b l s o c =
    and_from _ _ (and_from _ _ (and_from _ _ (and_from _ _ (eq-eqb tx.run (t.tx).run a) (eq-eqb tx.session (t.tx).session b)) (lt-ltb (t.tx).serial tx.serial l)) (eq-eqb birth.session tx.session s))
    (follows_so clock t.birth birth t.phase o c)

pub spelled_so : (tx : TxId) → 0 < tx.run → tx.run < 2 ^ 32 → is_session_number tx.session ≡ true → 0 < tx.serial → tx.serial < 2 ^ 64 → tx_has_spelling tx ≡ true
spelled_so tx a b s c d =
    let p = and_parts _ _ s in
    and_from _ _ (and_from _ _ (and_from _ _ (and_from _ _ (and_from _ _ (lt-ltb 0 tx.run a) (lt-ltb tx.run (2 ^ 32) b)) p.0) p.1) (lt-ltb 0 tx.serial c)) (lt-ltb tx.serial (2 ^ 64) d)

module _ {M S G : Type 0} (sh : Shards M S G) (w v : Walker M S G) (t : SessionState) (tx : TxId) (birth : Birth) where
  begun_so : IsReady sh w t → IsWalker sh v → tx ≡ record { run = sh.run; session = w.number; serial = suc w.serial } → birth ≡ record { stamp = suc w.clock; session = w.number; serial = suc w.serial }
      → v ≡ record w { clock = suc w.clock; serial = suc w.serial } → tx.run < 2 ^ 32 → tx.serial < 2 ^ 64 → IsActive sh v (begun t tx birth)
  begun_so ready is_walker tx_is birth_is v_is low32 low64 =
      let bears = states_bear_walkers sh.splits sh.run w.number (kept w.passes.items) t ready.state in
      let run_is = ap (λ x. x.run) tx_is in let session_is = ap (λ x. x.session) tx_is in let serial_is = ap (λ x. x.serial) tx_is in
      let stamp_is = ap (λ x. x.stamp) birth_is in let born_is = ap (λ x. x.session) birth_is in
      let clock_is = ap (λ x. x.clock) v_is in let number_is = ap (λ x. x.number) v_is in let last_is = ap (λ x. x.serial) v_is in
      let runs = runs_count (Rattle.cluster_turns.specs.Walkers.founds_of sh) in let run_after_is = ready.walker.run in
      record {
        state = t;
        ready = record {
          walker = is_walker;
          number = ap is_session_number number_is ∙ ready.number;
          state = ap (λ x. session_of sh.splits sh.run x.number (kept x.passes.items)) v_is ∙ ready.state;
          serial = (let h = ready.serial in omega arith);
          old = later t.birth (omega arith) ready.old;
          informed = subst (λ x. Rattle.cluster_turns.specs.Births.AreInformed x.number x.clock x.passes.items) (sym v_is) (informed_later w.number w.clock (suc w.clock) w.passes.items (omega arith) ready.informed);
        };
        goes = inr (birth, refl, other_name tx t (let h = ready.serial in omega arith), begins_so t tx birth w.clock (run_is ∙ sym bears.0) (session_is ∙ sym bears.1) (let h = ready.serial in omega arith) (born_is ∙ sym session_is) ready.old (omega arith));
        touching = refl;
        born = record {
          birth = birth;
          is = refl;
          bears = born_is ∙ sym number_is;
          old = omega arith;
          free = subst (λ x. Rattle.cluster_turns.specs.Births.AllSeeFree tx birth x.passes.items) (sym v_is) (new_is_free w.number w.clock w.passes.items tx birth ready.informed born_is (omega arith));
          parts = λ n. subst (λ x. UnbornUnless n None birth x.passes.items) (sym v_is) (unborn_unless_any n None birth w.passes.items (new_is_unborn w.number w.clock w.passes.items birth ready.informed born_is (omega arith) n));
          reached = λ n epoch h. absurd (none_some epoch h);
        };
        serial = omega arith;
        spelled = spelled_so tx (omega arith) low32 (ap is_session_number session_is ∙ ready.number) (omega arith) low64;
        counted = omega arith;
        few = omega arith;
      }
    where
      later : (b : Option Birth) → w.clock ≤ v.clock → IsOld w.clock b → IsOld v.clock b
      later None l h = tt
      later (Some b) l h = omega arith

  pub begins_next : IsReady sh w t → IsWalker sh v → tx ≡ record { run = sh.run; session = w.number; serial = suc w.serial } → birth ≡ record { stamp = suc w.clock; session = w.number; serial = suc w.serial }
      → v ≡ record w { clock = suc w.clock; serial = suc w.serial } → tx.run < 2 ^ 32 → tx.serial < 2 ^ 64 → Begun sh w v (begun t tx birth)
  begins_next ready is_walker tx_is birth_is v_is low32 low64 =
      record { birth = birth; is = λ before. ap (λ x. begun before x birth) tx_is; birth_is = birth_is; walker_is = v_is; active = begun_so ready is_walker tx_is birth_is v_is low32 low64 }
