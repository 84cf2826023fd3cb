use Rattle.std.proofs.Common.{arith, ◌+◌, Bool, set, sym, subst}
use Rattle.std.specs.Bool.{Decides}
use Rattle.live_streams.specs.Rings.{AreAllTaken}
use Rattle.live_streams.proofs.Pairs.{looked_maker, looked_taker, front_too, none_left, all_of, left_in}
use Rattle.live_streams.proofs.leftovers.all_taken.Goals as goal
use Rattle.live_streams.proofs.leftovers.all_taken.Goals.{then-slots_beside-ne0, else-slots_beside-ne0}

pub loop-lane-preserved : goal.loop-lane-preserved
loop-lane-preserved g c =
    let i = c.loop-lane.invariant in let s = c.slots_beside.ensures in
    let end = c.len-lane-end.ensures in let test = c.loop-lane-test.true in let count = c.requires.count in
    let all = c.args.makers.now.ok in let all' = c.args.takers.now.ok in let long = i.makers.len in let long' = i.takers.len in
    let q = c.slots_beside.new.producer in let e = c.slots_beside.new.self in let makers = c.loop-lane.makers.items in let takers = c.loop-lane.takers.items in let n = c.loop-lane.lane in
    record {
      makers = looked_maker c.args.makers.now.items makers n c.index_mut-in-loop-lane.result.now q i.makers (omega arith) c.index_mut-in-loop-lane.ensures.value s.producer.0 s.producer.1;
      takers = looked_taker c.args.takers.now.items takers n c.index_mut.result.now e i.takers (omega arith) c.index_mut.ensures.value s.looked.0 s.looked.1;
      fronts = front_too makers takers n q e (omega arith) (omega arith) i.fronts s.fifo;
      taken = elim c.if-slots_beside-ne0.branch [
        | then-slots_beside-ne0 w ↦ subst (λ (b : Bool). Decides b (AreAllTaken (n + 1) (set makers n q) (set takers n e))) (sym w.all-is)
            (left_in makers takers n (n + 1) q e (omega arith) (omega arith) (omega arith) s.fifo (let is = s.value in let some = w.if-slots_beside-ne0.true in omega arith))
        | else-slots_beside-ne0 w ↦ subst (λ (b : Bool). Decides b (AreAllTaken (n + 1) (set makers n q) (set takers n e))) (sym w.all-is)
            (none_left makers takers n q e c.loop-lane.all (omega arith) (omega arith) i.taken (all_of q e s.fifo (let is = s.value in let none = w.if-slots_beside-ne0.false in omega arith)))
      ];
    }
