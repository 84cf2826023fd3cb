use Rattle.std.proofs.Common.{◌∙◌, ◌≤◌, ◌+◌, ◌/◌, ◌⊎◌, vec_len, ap, sym, subst, length, arith}
use Rattle.ordered_store.specs.Blocks.{Empties, room_of}
use Rattle.ordered_store.proofs.Splicing.{empties_more, room_enough}
use Rattle.ordered_store.proofs.growing.make_room.Goals as goal

pub loop-alloc-preserved : goal.loop-alloc-preserved
loop-alloc-preserved c = record {
  empties = subst Empties (sym c.in_ok-push.ensures.items) (empties_more c.loop-alloc.spares.items c.in_ok-rows.rows c.loop-alloc.invariant.empties (ap length c.in_ok-rows.ensures.items) (omega (arith, c.in_ok-rows.ensures.exact)));
  room = omega (arith, c.in_ok-push.ensures.len, c.loop-alloc.invariant.room);
  within = omega (arith, c.in_ok-push.ensures.len, c.loop-alloc.invariant.wide, c.loop-alloc-test.true, c.len.ensures);
  wide = c.loop-alloc.invariant.wide;
  blocks = c.loop-alloc.invariant.blocks;
}

pub returns-clause-ok : goal.returns-clause-ok
returns-clause-ok c = let blocks = c.args.blocks.now.items in let spares = vec_len c.loop-alloc.spares in
    subst (λ bs. c.args.count ≤ room_of bs spares) (sym c.in_ok-reserve.ensures.items)
    (room_enough blocks spares c.args.count c.cuts_of-cuts.result c.requires.sized (subst (λ n. (c.args.count ≤ c.cuts_of-cuts.result) ⊎ (c.args.count / 32 + n + 1 ≤ c.cuts_of-cuts.result)) (c.len.ensures ∙ c.args.blocks.now.ok.0) c.cuts_of-cuts.ensures)
    (omega (arith, c.loop-alloc-test.false, c.len-in-loop-alloc.ensures)))
