use Rattle.std.proofs.Common.{Option, Ok, Err, sym, subst}
use Rattle.std.specs.Prelude.{◌==◌}
use Rattle.std.specs.Map.{lookup}
use Rattle.clv_base.specs.declared.events.Event.TheVariants.{Op}
use Rattle.turn_lock.specs.declared.gate.Batch.{Batch}
use Rattle.session_ops.specs.Rounds.{Rounded}
use Rattle.session_ops.specs.Operated.{Operated}
use Rattle.session_ops.proofs.Trying.{waited, waited_ends}
use Rattle.session_ops.proofs.operating.try_and_pass.Goals as goal

pub returns-in-Ok-clause-turns : goal.returns-in-Ok-clause-turns
returns-in-Ok-clause-turns g c birth is = let w = c.args.walker.now in let u = c.try_once.new.walker in let v = c.pass_round.new.walker in let n = c.args.shard in let p = c.args.place.now in let t = c.in-Ok-None.ensures in
    waited {A = Option Batch} w.number w.clock u.clock v.clock w.passes.items u.passes.items v.passes.items n (Op p.tx birth c.args.nth (lookup (◌==◌ n) p.touched) c.args.op.now) (Ok c.in-Ok.field-0)
    (subst (λ o. Operated w.number w.clock w.passes.items n (Op p.tx birth c.args.nth (lookup (◌==◌ n) p.touched) c.args.op.now) (Ok o) u.clock u.passes.items) c.in-Ok-None.field-0-is (t.turns birth is))
    (subst (λ k. Rounded {A = Option Batch} k u.clock u.passes.items (Ok c.in-Ok.field-0) v.clock v.passes.items) t.walker.0 c.in-Ok.ensures.round)

pub returns-in-Err-pass_round-clause-turns : goal.returns-in-Err-pass_round-clause-turns
returns-in-Err-pass_round-clause-turns g c birth is = let w = c.args.walker.now in let u = c.try_once.new.walker in let v = c.pass_round.new.walker in let n = c.args.shard in let p = c.args.place.now in let t = c.in-Ok-None.ensures in let x = c.in-Err-pass_round.error in
    subst (λ r. Operated w.number w.clock w.passes.items n (Op p.tx birth c.args.nth (lookup (◌==◌ n) p.touched) c.args.op.now) (Err r) v.clock v.passes.items) (sym c.refused.ensures)
    (waited_ends (Option Batch) w.number w.clock u.clock v.clock w.passes.items u.passes.items v.passes.items n (Op p.tx birth c.args.nth (lookup (◌==◌ n) p.touched) c.args.op.now) x
    (subst (λ o. Operated w.number w.clock w.passes.items n (Op p.tx birth c.args.nth (lookup (◌==◌ n) p.touched) c.args.op.now) (Ok o) u.clock u.passes.items) c.in-Ok-None.field-0-is (t.turns birth is))
    (subst (λ k. Rounded {A = Option Batch} k u.clock u.passes.items (Err x) v.clock v.passes.items) t.walker.0 c.in-Err-pass_round.ensures.round))
