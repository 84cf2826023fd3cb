use Rattle.std.proofs.Common.{Err, inl, refl}
use Rattle.cluster_turns.specs.declared.flushing.FlushError.TheVariants.{Failed, Down, Worn, Memory}
use Rattle.session_ops.specs.declared.parts.RoundError.TheVariants.{Worn as RoundWorn, Memory as RoundMemory}
use Rattle.session_ops.specs.Rounds.{FlushedOn}
use Rattle.session_ops.proofs.Rounding.{flush_fails}
use Rattle.session_ops.proofs.Noting.{same_met, flush_passed, round_passed, down_passed}
use Rattle.session_ops.proofs.parts.flush_now.Goals as goal

pub returns-in-Ok-clause-flush : goal.returns-in-Ok-clause-flush
returns-in-Ok-clause-flush g c = let w = c.args.walker.now in let v = c.flush_once.new.walker in
    flush_passed c.args.own.now c.args.shard w.number w.clock v.clock w.passes.items v.passes.items c.args.met.now c.note.new.self c.in-Ok.flushed c.note.ensures c.in-Ok.ensures.flush

pub returns-in-Err-Failed-clause-flush : goal.returns-in-Err-Failed-clause-flush
returns-in-Err-Failed-clause-flush g c = let w = c.args.walker.now in let v = c.flush_once.new.walker in let n = c.args.shard in
    let h = flush_fails {A = Unit {0}} tt n w.number w.clock v.clock w.passes.items v.passes.items c.in-Err-Failed.field-0 Failed c.in-Err-Failed.ensures.flush c.in-Err-Failed.field-0-is in
    down_passed {A = Unit {0}} {B = Unit {0}} c.args.own.now (FlushedOn n) w.number w.clock v.clock n w.passes.items v.passes.items c.args.met.now c.pass_over.new.self c.pass_over.result c.pass_over.ensures.passed h.0 (λ a. h.1, λ q. inl (h.0).ended)

pub returns-in-Err-Down-clause-flush : goal.returns-in-Err-Down-clause-flush
returns-in-Err-Down-clause-flush g c = let w = c.args.walker.now in let v = c.flush_once.new.walker in let n = c.args.shard in let o = c.pass_over-in-Err-Down in
    let h = flush_fails {A = Unit {0}} tt n w.number w.clock v.clock w.passes.items v.passes.items c.in-Err-Down.field-0 Down c.in-Err-Down.ensures.flush c.in-Err-Down.field-0-is in
    down_passed {A = Unit {0}} {B = Unit {0}} c.args.own.now (FlushedOn n) w.number w.clock v.clock n w.passes.items v.passes.items c.args.met.now o.new.self o.result o.ensures.passed h.0 (λ a. h.1, λ q. inl (h.0).ended)

pub returns-in-Err-Worn-clause-flush : goal.returns-in-Err-Worn-clause-flush
returns-in-Err-Worn-clause-flush g c = let w = c.args.walker.now in let v = c.flush_once.new.walker in let x = c.args.met.now in let t = c.in-Err-Worn in
    let h = flush_fails {A = Unit {0}} tt c.args.shard w.number w.clock v.clock w.passes.items v.passes.items t.field-0 (Worn t.at) t.ensures.flush t.field-0-is in
    round_passed {A = Unit {0}} c.args.own.now (FlushedOn c.args.shard) w.number w.clock v.clock w.passes.items v.passes.items x x (Err (RoundWorn t.at)) refl (same_met x) tt h.0 tt

pub returns-in-Err-Memory-clause-flush : goal.returns-in-Err-Memory-clause-flush
returns-in-Err-Memory-clause-flush g c = let w = c.args.walker.now in let v = c.flush_once.new.walker in let x = c.args.met.now in let t = c.in-Err-Memory in
    let h = flush_fails {A = Unit {0}} tt c.args.shard w.number w.clock v.clock w.passes.items v.passes.items t.field-0 Memory t.ensures.flush t.field-0-is in
    round_passed {A = Unit {0}} c.args.own.now (FlushedOn c.args.shard) w.number w.clock v.clock w.passes.items v.passes.items x x (Err RoundMemory) refl (same_met x) tt h.0 tt
