-- The place of the shard is written.
use Rattle.std.proofs.Common.{◌<◌, length, sym, ap, ◌∙◌, arith}
use Rattle.std.specs.Ordering.{nat_cmp}
use Rattle.std.specs.BTreeMap.{insert_entry}
use Rattle.clv_base.proofs.Arrays.{present_set}
use Rattle.clv_base.proofs.lists.Votes.set.Goals as goal

pub returns : goal.returns
returns c =
    let i = c.self.invariant in let r = c.requires in let within : c.args.shard < length c.self.inside.given = omega (arith, i, r) in
    sym (present_set 0 c.args.shard c.args.vote c.self.inside.given c.args.shard (omega arith) within) ∙ ap (λ l. insert_entry nat_cmp l c.args.shard c.args.vote) c.self.view_is
