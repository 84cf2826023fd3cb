use Rattle.std.proofs.lemmas.Result.{on_ok_weaker}
use Rattle.log_analysis.proofs.Laws.Growing.{knows_push}
use Rattle.log_analysis.proofs.table.LogFacts.add.Goals as goal

pub returns-clause-added : goal.returns-clause-added
returns-clause-added c = on_ok_weaker c.put.result (λ set log at knows. knows_push c.args.self.now c.put.new.self log c.args.lsn c.args.r.now set at knows) c.put.ensures.set
