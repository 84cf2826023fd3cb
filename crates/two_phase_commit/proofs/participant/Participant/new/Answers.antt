-- One more of the rising transactions goes behind those that are in.
use Rattle.std.proofs.Common.{◌+◌, ◌++◌, ap, drop, ◌∙◌}
use Rattle.std.specs.BTreeMap.{insert_entry}
use Rattle.clv_base.specs.declared.state.Voter.{Voter}
use Rattle.clv_base.specs.Orders.{Table, tx_cmp}
use Rattle.clv_base.specs.Participant.{restored_voters}
use Rattle.two_phase_commit.proofs.Restored.{step_restored}
use Rattle.two_phase_commit.proofs.participant.Participant.new.Goals as goal

pub loop-doubtful-preserved : goal.loop-doubtful-preserved
loop-doubtful-preserved c =
    let homes = c.args.restored.now in let i = c.loop-doubtful.doubtful-index in let now = c.loop-doubtful.voters.entries in
    ap (λ (l : Table Voter). l ++ restored_voters (drop (i + 1) homes)) (c.in-Ok.ensures.entries ∙ ap (insert_entry tx_cmp now _) c.restored_voter.ensures)
    ∙ step_restored i homes (record { run = 0; session = 0; serial = 0 }, 0) now c.requires.rising c.loop-doubtful-test.true c.loop-doubtful.invariant
