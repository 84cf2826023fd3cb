-- An acknowledgement that counts is of a part that isn't in yet, so there is room for it.
use Rattle.std.proofs.Common.{ℕ, List, sym, subst, ◌∙◌}
use Rattle.two_phase_commit.specs.Coordinated.{IsFit}
use Rattle.two_phase_commit.specs.Kept.{joint_request}
use Rattle.two_phase_commit.proofs.Acked.{room_for_one, still_fit}
use Rattle.two_phase_commit.proofs.joint.take_done.Goals as goal

pub with-request-requires : goal.with-request-requires
with-request-requires c = room_for_one c.args.shard c.args.from (joint_request c.args.request.now) c.requires.fit (sym c.counts_done.ensures.counts ∙ c.if-not-counts_done.false) c.counts_done.ensures.few

pub returns-clause-fit : goal.returns-clause-fit
returns-clause-fit c =
    let q = joint_request c.args.request.now in
    subst (λ (ns : List ℕ). IsFit c.args.shard (record { touched = q.touched; votes = q.votes; state = q.state; acknowledged_by = ns; is_ended = q.is_ended })) (sym c.with-request.ensures)
    (still_fit c.args.shard c.args.from q c.requires.fit (sym c.counts_done.ensures.counts ∙ c.if-not-counts_done.false))
