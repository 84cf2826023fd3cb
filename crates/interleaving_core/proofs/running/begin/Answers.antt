use Rattle.std.proofs.Common.{sym, subst, ◌+◌, arith}
use Rattle.interleaving_core.proofs.Beginning.{Begun, begun_more}
use Rattle.interleaving_core.proofs.running.begin.Goals as goal

pub loop-shard-preserved : goal.loop-shard-preserved
loop-shard-preserved g c =
    let sh = g.M.Machine.shard in let gt = g.M.Machine.gate in let n = c.loop-shard.shard in let count = c.shards-count.result in let p = c.push_reserved.ensures in
    let i = c.loop-shard.invariant in let room = i.1 in let low = c.loop-shard-test.true in let len = p.len in let wide = p.capacity in (
      subst (λ xs. Begun sh gt xs (n + 1) count) (sym p.items) (begun_more sh gt c.loop-shard.seats.items n count c.in-Ok.seat low i.0 c.in-Ok.ensures.shard c.in-Ok.ensures.seated),
      omega (arith, room, low, len, wide),
      i.2,
    )
