-- The place of the shard is written where it was empty.
use Rattle.std.proofs.Common.{◌<◌, None, length, get_or, sym, ap, ◌∙◌, arith}
use Rattle.clv_base.specs.Sessions.{touch}
use Rattle.cluster_turns.proofs.Touching.{touch_new, touch_again, none_there, some_there}
use Rattle.cluster_turns.proofs.touched_shards.TouchedShards.touch.Goals as goal

pub returns-then-is_none : goal.returns-then-is_none
returns-then-is_none c =
    let i = c.self.invariant in let r = c.requires in let within : c.args.shard < length c.self.inside.epochs = omega (arith, i, r) in
    let none = none_there (get_or c.self.inside.epochs c.args.shard None) c.is_none.result c.is_none.ensures c.if-is_none.true in
    sym (touch_new c.self.inside.epochs c.args.shard c.args.epoch None within none) ∙ ap (touch c.args.shard c.args.epoch) c.self.view_is

pub returns-else-is_none : goal.returns-else-is_none
returns-else-is_none c =
    let i = c.self.invariant in let r = c.requires in let within : c.args.shard < length c.self.inside.epochs = omega (arith, i, r) in
    some_there (get_or c.self.inside.epochs c.args.shard None) c.is_none.result c.is_none.ensures c.if-is_none.false
    (λ old is. sym c.self.view_is ∙ sym (touch_again c.self.inside.epochs c.args.shard c.args.epoch old None within is) ∙ ap (touch c.args.shard c.args.epoch) c.self.view_is)
