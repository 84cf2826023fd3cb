-- What stands at the shard's place.
use Rattle.std.proofs.Common.{◌≡◌, Some, None, Option, List, slice_get, sym, ap, ◌∙◌, arith}
use Rattle.clv_base.specs.declared.causes.Vote.{Vote}
use Rattle.clv_base.specs.Arrays.{present_from}
use Rattle.clv_base.specs.Coordinator.{vote_from}
use Rattle.clv_base.proofs.Arrays.{present_lookup, flat, get_some, get_none}
use Rattle.two_phase_commit.specs.Ballots.{Ballot}
use Rattle.two_phase_commit.proofs.ballot.Ballot.get.Goals as goal

pub returns-in-Some : goal.returns-in-Some
returns-in-Some c =
    let given = c.deref.result.now in let e = c.in-Some.ensures.lookup in
    let there : slice_get given c.args.shard ≡ Some c.in-Some.vote.now = get_some given c.args.shard c.in-Some.vote.now e.3.0 e.1 in
    ap flat (sym there) ∙ sym (present_lookup 0 c.args.shard given c.args.shard (omega arith)) ∙ ap (λ (l : List (Option Vote)). vote_from c.args.shard (present_from 0 l)) c.deref.ensures.value
    ∙ ap (λ (b : Ballot). vote_from c.args.shard b.votes) c.self.view_is

pub returns-in-None : goal.returns-in-None
returns-in-None c =
    let given = c.deref.result.now in let e = c.in-None.ensures.lookup in
    let there : slice_get given c.args.shard ≡ None = get_none given c.args.shard e.3 in
    ap flat (sym there) ∙ sym (present_lookup 0 c.args.shard given c.args.shard (omega arith)) ∙ ap (λ (l : List (Option Vote)). vote_from c.args.shard (present_from 0 l)) c.deref.ensures.value
    ∙ ap (λ (b : Ballot). vote_from c.args.shard b.votes) c.self.view_is
