-- The next try of a transaction.
use Rattle.std.proofs.Common.{◌≡◌, ◌∙◌, refl, sym, ap, subst, suc, ◌≤◌, ◌<◌, ◌^◌, ◌-◌, ◌&&◌, true, Option, Some, None, arith, inl, inr, eq-eqb}
use Rattle.std.specs.Prelude.{◌⊎◌}
use Rattle.std.specs.Ordering.{is_eq}
use Rattle.std.proofs.lemmas.Bool.{and_from, and_parts, lt-ltb, or_right}
use Rattle.clv_base.specs.declared.names.TxId.{TxId}
use Rattle.clv_base.specs.declared.names.Birth.{Birth}
use Rattle.clv_base.specs.Orders.{birth_cmp, is_older}
use Rattle.clv_base.specs.Sessions.{SessionState, begun, follows_birth, may_drop, is_session_number}
use Rattle.cluster_turns.specs.declared.shards.Shards.{Shards}
use Rattle.cluster_turns.specs.declared.shards.Walker.{Walker}
use Rattle.cluster_turns.specs.Walkers.{IsWalker, kept, founds_of}
use Rattle.cluster_turns.specs.States.{session_of, GoesOnBy}
use Rattle.cluster_turns.proofs.Laws.{states_bear_walkers}
use Rattle.cluster_turns.specs.Births.{AllSeeFree, AreInformed}
use Rattle.cluster_turns.specs.Unborn.{AllUnborn, UnbornUnless}
use Rattle.cluster_turns.proofs.Laws.{informed_later, unborn_is_free, unborn_unless_any}
use Rattle.law_base.proofs.Changed.{none_some}
use Rattle.session_ops.specs.Standing.{IsOld, IsActive}
use Rattle.session_ops.proofs.First.{runs_count, other_name, spelled_so}
use Rattle.session_ops.specs.Retried.{IsRetriable, Retried}
use Rattle.law_base.proofs.Names.{birth_self, birth_same as some_birth}

-- ---- the birth follows once more

follows_again : (t p : SessionState) (birth : Birth) → GoesOnBy t p → may_drop p.phase ≡ true → p.birth ≡ Some birth → follows_birth t.birth birth t.phase ≡ true
follows_again t p birth (inl same) may is =
    subst (λ o. follows_birth o birth t.phase ≡ true) (sym is ∙ ap (λ s. s.birth) same) (or_right (is_older birth birth) (is_eq (birth_cmp birth birth) && may_drop t.phase)
    (and_from (is_eq (birth_cmp birth birth)) (may_drop t.phase) (birth_self birth) (ap (λ s. may_drop s.phase) (sym same) ∙ may)))
follows_again t p birth (inr (b, begins_so, other, begins_next)) may is =
    subst (λ x. follows_birth t.birth x t.phase ≡ true) (some_birth b birth (sym (ap (λ s. s.birth) begins_so) ∙ is)) (and_parts _ _ begins_next).1

module _ {M S G : Type 0} (sh : Shards M S G) (w v : Walker M S G) (p : SessionState) (tx : TxId) (a : IsRetriable sh w p) where
  -- the next transaction may have operations
  active_again : IsWalker sh v → tx ≡ record { run = sh.run; session = w.number; serial = suc w.serial } → v ≡ record w { clock = suc w.clock; serial = suc w.serial } → tx.run < 2 ^ 32 → tx.serial < 2 ^ 64
      → AllUnborn a.born.birth w.passes.items → IsActive sh v (begun p tx a.born.birth)
  active_again is_walker tx_is v_is low32 low64 unborn =
      let t = a.state in
      let bears = states_bear_walkers sh.splits sh.run w.number (kept w.passes.items) t a.ready.state in
      let run_is = ap (λ x. x.run) tx_is in let session_is = ap (λ x. x.session) tx_is in let serial_is = ap (λ x. x.serial) tx_is in
      let clock_is = ap (λ x. x.clock) v_is in let number_is = ap (λ x. x.number) v_is in let last_is = ap (λ x. x.serial) v_is in
      let runs = runs_count (founds_of sh) in let run_after_is = a.ready.walker.run in let born = a.born.old in
      record {
        state = t;
        ready = record {
          walker = is_walker;
          number = ap is_session_number number_is ∙ a.ready.number;
          state = ap (λ x. session_of sh.splits sh.run x.number (kept x.passes.items)) v_is ∙ a.ready.state;
          serial = (let h = a.ready.serial in omega arith);
          old = later t.birth (omega arith) a.ready.old;
          informed = subst (λ x. AreInformed x.number x.clock x.passes.items) (sym v_is) (informed_later w.number w.clock (suc w.clock) w.passes.items (omega arith) a.ready.informed);
        };
        goes = inr (
          a.born.birth,
          refl,
          other_name tx t (let h = a.ready.serial in omega arith),
          and_from _ _ (and_from _ _ (and_from _ _ (and_from _ _ (eq-eqb tx.run (t.tx).run (run_is ∙ sym bears.0)) (eq-eqb tx.session (t.tx).session (session_is ∙ sym bears.1))) (lt-ltb (t.tx).serial tx.serial (let h = a.ready.serial in omega arith)))
              (eq-eqb (a.born.birth).session tx.session (a.born.bears ∙ sym session_is))) (follows_again t p a.born.birth a.goes a.may a.born.is),
        );
        touching = refl;
        born = record {
          birth = a.born.birth;
          is = refl;
          bears = a.born.bears ∙ sym number_is;
          old = omega arith;
          free = subst (λ x. AllSeeFree tx a.born.birth x.passes.items) (sym v_is) (unborn_is_free w.passes.items tx a.born.birth unborn);
          parts = λ n. subst (λ x. UnbornUnless n None a.born.birth x.passes.items) (sym v_is) (unborn_unless_any n None a.born.birth w.passes.items (unborn n));
          reached = λ n epoch h. absurd (none_some epoch h);
        };
        serial = omega arith;
        spelled = spelled_so tx (omega arith) low32 (ap is_session_number session_is ∙ a.ready.number) (omega arith) low64;
        counted = omega arith;
        few = omega arith;
      }
    where
      later : (b : Option Birth) → w.clock ≤ v.clock → IsOld w.clock b → IsOld v.clock b
      later None l h = tt
      later (Some b) l h = omega arith

  pub retries_next : (birth : Birth) → p.birth ≡ Some birth → IsWalker sh v → tx ≡ record { run = sh.run; session = w.number; serial = suc w.serial } → v ≡ record w { clock = suc w.clock; serial = suc w.serial } → tx.run < 2 ^ 32 → tx.serial < 2 ^ 64
      → w.clock < 2 ^ 48 - 1 → Retried sh w v p (begun p tx birth)
  retries_next birth is is_walker tx_is v_is low32 low64 early =
      let same : a.born.birth ≡ birth = some_birth a.born.birth birth (sym a.born.is ∙ is) in
      let unborn : AllUnborn a.born.birth w.passes.items = none_worn a.unborn in
      subst (λ b. Retried sh w v p (begun p tx b)) same (record {
        birth = a.born.birth;
        birth_is = a.born.is;
        is = λ before. ap (λ x. begun before x a.born.birth) tx_is;
        walker_is = v_is;
        active = active_again is_walker tx_is v_is low32 low64 unborn;
        unborn = subst (λ x. AllUnborn a.born.birth x.passes.items) (sym v_is) unborn;
      })
    where
      none_worn : (2 ^ 48 - 1 ≤ w.clock) ⊎ ((b : Birth) → p.birth ≡ Some b → AllUnborn b w.passes.items) → AllUnborn a.born.birth w.passes.items
      none_worn (inl worn) = absurd (omega arith)
      none_worn (inr all) = all a.born.birth a.born.is
