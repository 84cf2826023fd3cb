use Rattle.std.proofs.Common.{◌&&◌, is_some, ap, ◌∙◌}
use Rattle.std.specs.List.{list_all}
use Rattle.log_rules.specs.Writes.{newest_by}
use Rattle.log_rules.specs.Rules.{is_after, has_no_fate, may_be_listed}
use Rattle.log_rules.proofs.Steps.{all_clear_same}
use Rattle.log_rules.proofs.index.Index.takes_prepare.Goals as goal

pub returns : goal.returns
returns c =
    let x = c.args.self.now in
    c.allows_prepare.ensures
    ∙ ap (λ b. is_some x.last && is_after x.restart_at (newest_by x.writes c.args.tx) && has_no_fate x c.args.tx && list_all (may_be_listed x c.args.tx) c.args.predecessors.now && b)
    (all_clear_same x c.args.tx c.in_ok-listed.listed c.args.predecessors.now c.in_ok-listed.ensures c.args.lsn)
