use Rattle.std.proofs.Common.{◌∙◌, ap}
use Rattle.log_rules.specs.Agreement.{is_undone_by}
use Rattle.log_rules.proofs.Undone.{undone_is}
use Rattle.log_rules.proofs.indexed.IndexedLog.is_undone.Goals as goal

pub returns : goal.returns
returns c = c.has_undone.ensures ∙ ap is_undone_by c.says.ensures ∙ undone_is c.args.self.now c.args.tx
