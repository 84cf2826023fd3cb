use Rattle.std.proofs.Common.{sym, ◌∙◌}
use Rattle.clv_base.specs.Logs.{prepare_of}
use Rattle.log_rules.proofs.Homes.{none_allows, some_allows, home_read}
use Rattle.log_rules.proofs.indexed.IndexedLog.allows_home.Goals as goal

pub returns-in-None : goal.returns-in-None
returns-in-None c =
    let found = home_read c.self.inside.records.now c.args.self.now c.args.tx c.says.result c.home_at.result c.home_at.ensures c.says.ensures c.self.view_is in
    sym (none_allows c.args.home (prepare_of c.args.self.now c.args.tx) (sym found ∙ c.in-None.is))

pub returns-in-Some : goal.returns-in-Some
returns-in-Some c =
    let found = home_read c.self.inside.records.now c.args.self.now c.args.tx c.says.result c.home_at.result c.home_at.ensures c.says.ensures c.self.view_is in
    sym (some_allows c.args.home c.in-Some.named (prepare_of c.args.self.now c.args.tx) (sym found ∙ c.in-Some.is))
