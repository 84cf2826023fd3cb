use Rattle.std.proofs.Common.{Ok, Err, refl}
use Rattle.cluster_turns.specs.declared.carrying.CarryError.TheVariants.{Down, Worn, Memory}
use Rattle.session_ops.specs.declared.parts.RoundError.TheVariants.{Worn as RoundWorn, Memory as RoundMemory}
use Rattle.session_ops.specs.Rounds.{Whatever}
use Rattle.session_ops.proofs.Rounding.{remind_tells, remind_fails}
use Rattle.session_ops.proofs.Noting.{same_met, round_passed, down_passed}
use Rattle.session_ops.proofs.parts.remind.Goals as goal

pub returns-in-Ok-clause-reminded : goal.returns-in-Ok-clause-reminded
returns-in-Ok-clause-reminded g c = let w = c.args.walker.now in let v = c.remind_once.new.walker in let e = c.in-Ok.ensures.reminded in
    round_passed {A = Unit {0}} c.args.own.now Whatever w.number w.clock v.clock w.passes.items v.passes.items c.args.met.now c.args.met.now (Ok tt) refl (same_met c.args.met.now) tt
    (remind_tells {A = Unit {0}} tt c.args.shard w.number w.clock v.clock w.passes.items v.passes.items e.0 (Ok c.in-Ok.field-0) e.1 e.2) tt

pub returns-in-Err-Down-clause-reminded : goal.returns-in-Err-Down-clause-reminded
returns-in-Err-Down-clause-reminded g c = let w = c.args.walker.now in let v = c.remind_once.new.walker in let t = c.in-Err-Down in let e = t.ensures.reminded in
    down_passed {A = Unit {0}} {B = Unit {0}} c.args.own.now Whatever w.number w.clock v.clock t.down w.passes.items v.passes.items c.args.met.now c.pass_over.new.self c.pass_over.result c.pass_over.ensures.passed
    (remind_fails {A = Unit {0}} tt c.args.shard w.number w.clock v.clock w.passes.items v.passes.items e.0 t.field-0 (Down t.down) e.1 e.2 t.field-0-is) tt

pub returns-in-Err-Worn-clause-reminded : goal.returns-in-Err-Worn-clause-reminded
returns-in-Err-Worn-clause-reminded g c = let w = c.args.walker.now in let v = c.remind_once.new.walker in let t = c.in-Err-Worn in let e = t.ensures.reminded in
    round_passed {A = Unit {0}} c.args.own.now Whatever w.number w.clock v.clock w.passes.items v.passes.items c.args.met.now c.args.met.now (Err (RoundWorn t.at)) refl (same_met c.args.met.now) tt
    (remind_fails {A = Unit {0}} tt c.args.shard w.number w.clock v.clock w.passes.items v.passes.items e.0 t.field-0 (Worn t.at) e.1 e.2 t.field-0-is) tt

pub returns-in-Err-Memory-clause-reminded : goal.returns-in-Err-Memory-clause-reminded
returns-in-Err-Memory-clause-reminded g c = let w = c.args.walker.now in let v = c.remind_once.new.walker in let t = c.in-Err-Memory in let e = t.ensures.reminded in
    round_passed {A = Unit {0}} c.args.own.now Whatever w.number w.clock v.clock w.passes.items v.passes.items c.args.met.now c.args.met.now (Err RoundMemory) refl (same_met c.args.met.now) tt
    (remind_fails {A = Unit {0}} tt c.args.shard w.number w.clock v.clock w.passes.items v.passes.items e.0 t.field-0 Memory e.1 e.2 t.field-0-is) tt
