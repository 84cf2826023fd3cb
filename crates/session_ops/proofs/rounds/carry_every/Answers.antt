use Rattle.std.proofs.Common.{◌∙◌, ◌+◌, length, Ok, refl, ap, arith}
use Rattle.clv_base.specs.Shards.{shard_count}
use Rattle.session_ops.specs.Rounds.{CarriedOn, EveryCarried}
use Rattle.session_ops.proofs.Noting.{same_met, none_passed, passes_on, passes_to_error, let_go, next_carried}
use Rattle.session_ops.proofs.rounds.carry_every.Goals as goal

pub loop-shard-init : goal.loop-shard-init
loop-shard-init g c = let w = c.args.walker.now in let x = c.args.met.now in
    (c.requires.walker, (refl, refl), none_passed {A = Unit {0}} c.args.own.now (EveryCarried 0) w.number w.clock w.passes.items x x tt refl (same_met x) (λ n low. absurd (omega arith)))

pub returns-in-Err-clause-round : goal.returns-in-Err-clause-round
returns-in-Err-clause-round g c = let w = c.args.walker.now in let u = c.loop-shard.walker in let v = c.carry_all.new.walker in let i = c.loop-shard.invariant in let k = c.loop-shard.shard in
    passes_to_error {A = Unit {0}} {B = Unit {0}} c.args.own.now (EveryCarried k) (CarriedOn k) (EveryCarried (length c.args.shards.now.locks.items)) w.number u.number w.clock u.clock v.clock w.passes.items u.passes.items v.passes.items c.args.met.now c.loop-shard.met c.carry_all.new.met tt
    c.in-Err.error i.1.0 i.2 c.in-Err.ensures.carried

pub loop-shard-preserved : goal.loop-shard-preserved
loop-shard-preserved g c = let w = c.args.walker.now in let u = c.loop-shard.walker in let v = c.carry_all.new.walker in let i = c.loop-shard.invariant in let e = c.in-Ok.ensures in let k = c.loop-shard.shard in (
  e.walker.0,
  (e.walker.1.0 ∙ i.1.0, e.walker.1.1 ∙ i.1.1),
  passes_on {A = Unit {0}} {B = Unit {0}} c.args.own.now (EveryCarried k) (CarriedOn k) (EveryCarried (k + 1)) w.number u.number w.clock u.clock v.clock w.passes.items u.passes.items v.passes.items c.args.met.now c.loop-shard.met c.carry_all.new.met tt (Ok tt)
      (λ xs ys l f h. next_carried k xs ys f h) i.1.0 i.2 e.carried,
)

pub returns-clause-round : goal.returns-clause-round
returns-clause-round g c = let w = c.args.walker.now in let u = c.loop-shard.walker in let i = c.loop-shard.invariant in
    let_go {A = Unit {0}} c.args.own.now (EveryCarried c.loop-shard.shard) (EveryCarried (length c.args.shards.now.locks.items)) w.number w.clock u.clock w.passes.items u.passes.items c.args.met.now c.loop-shard.met (Ok tt)
    (λ ts f n low. f n (let h = c.loop-shard-test.false in let e = c.shards-shard-end.ensures.shards ∙ ap shard_count c.splits.ensures in let k = c.requires.walker.count in omega arith)) i.2
