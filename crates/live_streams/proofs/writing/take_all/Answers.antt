use Rattle.std.proofs.Common.{arith, ◌<◌, length}
use Rattle.std.proofs.lemmas.Result.{err_from_is_err_and}
use Rattle.live_streams.proofs.Adding.{lane_adds, lane_adds_last}
use Rattle.live_streams.proofs.writing.take_all.Goals as goal

pub returns-in_err-take_of : goal.returns-in_err-take_of
returns-in_err-take_of c =
    let i = c.loop-lane.invariant in let p = err_from_is_err_and c.from_residual.result c.from_residual.ensures.1 in
    let low : c.loop-lane.lane < length c.loop-lane.all.items = (let end = c.len-lane-end.ensures in let test = c.loop-lane-test.true in let len = i.took.0 in let ok = c.args.all.now.ok in omega arith) in
    rw (p.1, p.2) (lane_adds_last c.args.all.now.items c.loop-lane.all.items c.loop-lane.lane c.index_mut.result.now c.take_of.new.answers i.written c.args.text.now.items c.loop-lane.text.items c.take_of.new.text.items c.in_err-take_of.field-0.0
    low c.index_mut.ensures.value i.took i.text c.in_err-take_of.ensures)

pub loop-lane-preserved : goal.loop-lane-preserved
loop-lane-preserved c =
    let i = c.loop-lane.invariant in
    let low : c.loop-lane.lane < length c.loop-lane.all.items = (let end = c.len-lane-end.ensures in let test = c.loop-lane-test.true in let len = i.took.0 in let ok = c.args.all.now.ok in omega arith) in
    let more = lane_adds c.args.all.now.items c.loop-lane.all.items c.loop-lane.lane c.index_mut.result.now c.take_of.new.answers i.written c.args.text.now.items c.loop-lane.text.items c.take_of.new.text.items
    low c.index_mut.ensures.value i.took i.text c.in_ok-take_of.ensures in
    record { written = more.0; took = more.1; text = more.2 }
