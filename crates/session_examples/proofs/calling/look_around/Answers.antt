use Rattle.std.proofs.Common.{refl, length}
use Rattle.clv_base.specs.declared.events.Event.TheVariants.{Remind}
use Rattle.session_examples.proofs.Turning.{look_took, event_took, flush_took, carry_took, rests_after}
use Rattle.session_examples.proofs.calling.look_around.Goals as goal

pub returns : goal.returns
returns g c = record {
  rest = (let sh = c.args.shards.now in let w = c.args.walker.now in let a = c.horizon_of-horizon.new.walker in let b = c.flush_once-flushed.new.walker in let d = c.carry_once-carried.new.walker in let v = c.remind_once-reminded.new.walker in
      let e = c.horizon_of-horizon.ensures in let f = c.flush_once-flushed.ensures in let h = c.carry_once-carried.ensures in let k = c.remind_once-reminded.ensures in
      let one = rests_after sh w.number w.clock w.clock w a c.requires.rest e.walker.0 e.walker.1.0 (look_took w.number w.clock 0 c.horizon_of-horizon.result w.passes.items a.passes.items e.horizon) in
      let two = rests_after sh w.number a.clock b.clock a b one f.walker.0 f.walker.1.0 (flush_took 0 a.number a.clock b.clock a.passes.items b.passes.items c.flush_once-flushed.result f.flush) in
      let three = rests_after sh w.number b.clock d.clock b d two h.walker.0 h.walker.1.0 (carry_took 0 b.number b.clock d.clock (length sh.locks.items) b.passes.items d.passes.items c.carry_once-carried.result h.carried) in
      rests_after sh w.number d.clock v.clock d v three k.walker.0 k.walker.1.0 (event_took d.number 0 d.clock v.clock Remind k.reminded.0 d.passes.items v.passes.items k.reminded.2 refl));
}
