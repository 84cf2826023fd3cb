use Rattle.std.proofs.Common.{Bool, true, false, length, Ok, Err, refl}
use Rattle.std.specs.Prelude.{◌==◌}
use Rattle.cluster_turns.specs.declared.carrying.CarryError.TheVariants.{Down, Worn, Memory}
use Rattle.session_ops.specs.declared.parts.RoundError.TheVariants.{Worn as RoundWorn, Memory as RoundMemory}
use Rattle.session_ops.specs.Rounds.{CarriedAs}
use Rattle.session_ops.proofs.Rounding.{carry_rounds, carry_fails}
use Rattle.session_ops.proofs.Noting.{same_met, carried_on, round_passed, down_passed, none_carried, down_carried}
use Rattle.session_ops.proofs.parts.carry.Goals as goal

pub returns-in-Ok-Carried-clause-carried : goal.returns-in-Ok-Carried-clause-carried
returns-in-Ok-Carried-clause-carried g c = let w = c.args.walker.now in let v = c.carry_once.new.walker in let x = c.args.met.now in
    round_passed {A = Bool} c.args.own.now (CarriedAs c.args.shard (Ok false)) w.number w.clock v.clock w.passes.items v.passes.items x (record x { moves = true }) (Ok false) refl (carried_on x) tt
    (carry_rounds {A = Bool} false (length c.args.shards.now.locks.items) c.args.shard w.number w.clock v.clock w.passes.items v.passes.items (Ok c.in-Ok-Carried.field-0) c.in-Ok-Carried.ensures.carried) tt

pub returns-in-Ok-Nothing-clause-carried : goal.returns-in-Ok-Nothing-clause-carried
returns-in-Ok-Nothing-clause-carried g c = let w = c.args.walker.now in let v = c.carry_once.new.walker in
    none_carried c.args.own.now (length c.args.shards.now.locks.items) c.args.shard w.number w.clock v.clock w.passes.items v.passes.items c.args.met.now c.in-Ok-Nothing.field-0 c.in-Ok-Nothing.field-0-is c.in-Ok-Nothing.ensures.carried

pub returns-in-Ok-clause-carried : goal.returns-in-Ok-clause-carried
returns-in-Ok-clause-carried g c = let w = c.args.walker.now in let v = c.carry_once.new.walker in let t = c.in-Err-Down in let n = c.args.shard in
    let h = carry_fails {A = Bool} true (length c.args.shards.now.locks.items) n w.number w.clock v.clock w.passes.items v.passes.items t.field-0 (Down t.down) t.ensures.carried t.field-0-is in
    down_passed {A = Bool} {B = Bool} c.args.own.now (CarriedAs n (Ok (t.down == n))) w.number w.clock v.clock t.down w.passes.items v.passes.items c.args.met.now c.pass_over.new.self (Ok (t.down == n)) c.in-Ok.ensures.passed h
    (down_carried t.down n c.pass_over.new.self h.turns h.ended)

pub returns-in-Err-clause-carried : goal.returns-in-Err-clause-carried
returns-in-Err-clause-carried g c = let w = c.args.walker.now in let v = c.carry_once.new.walker in let t = c.in-Err-Down in
    down_passed {A = Bool} {B = Bool} c.args.own.now (CarriedAs c.args.shard (Err c.in-Err.error)) w.number w.clock v.clock t.down w.passes.items v.passes.items c.args.met.now c.pass_over.new.self (Err c.in-Err.error) c.in-Err.ensures.passed
    (carry_fails {A = Bool} true (length c.args.shards.now.locks.items) c.args.shard w.number w.clock v.clock w.passes.items v.passes.items t.field-0 (Down t.down) t.ensures.carried t.field-0-is) tt

pub returns-in-Err-Worn-clause-carried : goal.returns-in-Err-Worn-clause-carried
returns-in-Err-Worn-clause-carried g c = let w = c.args.walker.now in let v = c.carry_once.new.walker in let t = c.in-Err-Worn in let x = c.args.met.now in
    round_passed {A = Bool} c.args.own.now (CarriedAs c.args.shard (Err (RoundWorn t.at))) w.number w.clock v.clock w.passes.items v.passes.items x x (Err (RoundWorn t.at)) refl (same_met x) tt
    (carry_fails {A = Bool} true (length c.args.shards.now.locks.items) c.args.shard w.number w.clock v.clock w.passes.items v.passes.items t.field-0 (Worn t.at) t.ensures.carried t.field-0-is) tt

pub returns-in-Err-Memory-clause-carried : goal.returns-in-Err-Memory-clause-carried
returns-in-Err-Memory-clause-carried g c = let w = c.args.walker.now in let v = c.carry_once.new.walker in let t = c.in-Err-Memory in let x = c.args.met.now in
    round_passed {A = Bool} c.args.own.now (CarriedAs c.args.shard (Err RoundMemory)) w.number w.clock v.clock w.passes.items v.passes.items x x (Err RoundMemory) refl (same_met x) tt
    (carry_fails {A = Bool} true (length c.args.shards.now.locks.items) c.args.shard w.number w.clock v.clock w.passes.items v.passes.items t.field-0 Memory t.ensures.carried t.field-0-is) tt
