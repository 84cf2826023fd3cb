-- What stands at the shard's place.
use Rattle.std.proofs.Common.{◌≡◌, ◌==◌, Some, None, slice_get, sym, ap, ◌∙◌, arith}
use Rattle.std.specs.Map.{lookup}
use Rattle.clv_base.proofs.Arrays.{present_lookup, flat, get_some, get_none}
use Rattle.cluster_turns.proofs.touched_shards.TouchedShards.seen.Goals as goal

pub returns-in-Some : goal.returns-in-Some
returns-in-Some c =
    let e = c.in-Some.ensures.lookup in let there : slice_get c.self.inside.epochs c.args.shard ≡ Some c.in-Some.epoch.now = get_some c.self.inside.epochs c.args.shard c.in-Some.epoch.now e.3.0 e.1 in
    ap flat (sym there) ∙ sym (present_lookup 0 c.args.shard c.self.inside.epochs c.args.shard (omega arith)) ∙ ap (lookup (◌==◌ c.args.shard)) c.self.view_is

pub returns-in-None : goal.returns-in-None
returns-in-None c =
    let e = c.in-None.ensures.lookup in let there : slice_get c.self.inside.epochs c.args.shard ≡ None = get_none c.self.inside.epochs c.args.shard e.3 in
    ap flat (sym there) ∙ sym (present_lookup 0 c.args.shard c.self.inside.epochs c.args.shard (omega arith)) ∙ ap (lookup (◌==◌ c.args.shard)) c.self.view_is
