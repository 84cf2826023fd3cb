use Rattle.std.proofs.Common.{arith}
use Rattle.live_streams.proofs.Pairs.{none_new, pushed_new}
use Rattle.live_streams.proofs.lanes.new_lanes.Goals as goal

pub loop-init : goal.loop-init
loop-init g c = let m = c.in_ok-makers.ensures in let t = c.in_ok-takers.ensures in record {
  new = none_new c.in_ok-makers.makers.items c.in_ok-takers.takers.items m.items t.items;
  room = m.capacity;
  room_too = t.capacity;
}

pub loop-preserved : goal.loop-preserved
loop-preserved g c = let i = c.loop.invariant in let n = c.in_ok-maker.ensures in let p = c.push_reserved.ensures in let q = c.push_reserved-in-loop.ensures in record {
  new = pushed_new c.loop.makers.items c.push_reserved.new.self.items c.loop.takers.items c.push_reserved-in-loop.new.self.items c.loop.counter c.in_ok-maker.maker c.in_ok-maker.taker i.new p.items q.items n.pair n.producer.0 n.consumer.0;
  room = (let h = p.capacity in let e = i.room in omega arith);
  room_too = (let h = q.capacity in let e = i.room_too in omega arith);
}
