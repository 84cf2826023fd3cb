-- The place of the shard is written.
use Rattle.std.proofs.Common.{◌<◌, length, sym, ap, subst, ◌∙◌, arith}
use Rattle.std.specs.Ordering.{nat_cmp}
use Rattle.std.specs.BTreeMap.{insert_entry}
use Rattle.clv_base.proofs.Arrays.{present_set}
use Rattle.two_phase_commit.specs.Ballots.{Ballot}
use Rattle.two_phase_commit.proofs.ballot.Ballot.set.Goals as goal

pub returns-clause-votes : goal.returns-clause-votes
returns-clause-votes c =
    let within : c.args.shard < length c.self.inside.given.items = subst (λ (b : Ballot). c.args.shard < b.places) (sym c.self.view_is) c.requires in
    sym (present_set 0 c.args.shard c.args.vote c.self.inside.given.items c.args.shard (omega arith) within) ∙ ap (λ (b : Ballot). insert_entry nat_cmp b.votes c.args.shard c.args.vote) c.self.view_is
