use Rattle.std.proofs.Common.{◌≡◌, IfOk, ap, subst, ◌∙◌}
use Rattle.clv_base.specs.Logs.{fold_updates}
use Rattle.history_replay.specs.Transactions.{has_member}
use Rattle.checkpoint_taking.proofs.Maps.{map_is}
use Rattle.checkpoint_taking.proofs.committed.committed_pairs.Goals as goal

pub returns : goal.returns
returns c =
    let log = c.args.log.now in
    let keep = has_member c.in_ok-set.set in
    subst (λ m. IfOk c.pairs-2.result (λ pairs. pairs.items ≡ m))
    (c.in_ok-fold.ensures ∙ ap (fold_updates keep log) c.new-pairs.ensures ∙ map_is keep log c.requires c.in_ok-set.ensures)
    c.pairs-2.ensures
