use Rattle.std.proofs.Common.{length, Option, Ok, Err, sym, subst}
use Rattle.turn_lock.specs.declared.gate.Batch.{Batch}
use Rattle.clv_base.specs.Sessions.{SessionState}
use Rattle.session_ops.specs.Rounds.{Rounded, RoundRests}
use Rattle.session_ops.specs.Settled.{IsTouched, PlacedBy, Settling}
use Rattle.session_ops.proofs.EndSeeing.{waited, waited_ends}
use Rattle.session_ops.proofs.settling.look_and_wait.Goals as goal

pub returns-in-Ok-clause-turns : goal.returns-in-Ok-clause-turns
returns-in-Ok-clause-turns g c = let w = c.args.walker.now in let u = c.look_once.new.walker in let v = c.wait_once.new.walker in let n = c.args.home in let p = c.args.place.now in let t = c.in-Ok-None.ensures in let count = length c.args.shards.now.locks.items in
    waited {A = Option Batch} count w.number w.clock u.clock v.clock w.passes.items u.passes.items v.passes.items n p (Ok c.in-Ok.field-0)
    (subst (λ o. Settling count w.number w.clock w.passes.items n p (Ok o) u.clock u.passes.items) c.in-Ok-None.field-0-is t.turns)
    (subst (λ k. Rounded {A = Option Batch} k u.clock u.passes.items (Ok c.in-Ok.field-0) v.clock v.passes.items) t.walker.0 c.in-Ok.ensures.rests.round)

pub returns-in-Err-wait_once-clause-turns : goal.returns-in-Err-wait_once-clause-turns
returns-in-Err-wait_once-clause-turns g c = let w = c.args.walker.now in let u = c.look_once.new.walker in let v = c.wait_once.new.walker in let n = c.args.home in let p = c.args.place.now in let m = c.look_once.new.place in let t = c.in-Ok-None.ensures in let x = c.in-Err-wait_once.error in
    let count = length c.args.shards.now.locks.items in
    subst (λ r. Settling count w.number w.clock w.passes.items n p (Err r) v.clock v.passes.items) (sym c.refused.ensures)
    (waited_ends (Option Batch) count w.number w.clock u.clock v.clock w.passes.items u.passes.items v.passes.items n p x
    (subst (λ o. Settling count w.number w.clock w.passes.items n p (Ok o) u.clock u.passes.items) c.in-Ok-None.field-0-is t.turns)
    (subst (λ k. RoundRests {A = Option Batch} count (IsTouched p.touched) k u.clock u.passes.items (Err x) v.clock v.passes.items) t.walker.0
    (subst (λ (z : SessionState). RoundRests {A = Option Batch} count (IsTouched z.touched) u.number u.clock u.passes.items (Err x) v.clock v.passes.items) (subst (λ o. PlacedBy p (Ok o) m) c.in-Ok-None.field-0-is t.place)
    c.in-Err-wait_once.ensures.rests)))
