use Rattle.clv_commands.proofs.Unread.{unread_report}
use Rattle.clv_commands.proofs.auditing.read_source.Goals as goal

pub returns-in-Err-clause-refused : goal.returns-in-Err-clause-refused
returns-in-Err-clause-refused g c = unread_report c.in-Err.error c.into.result (g.S.Source.left c.args.source.now) c.into.ensures c.in-Err.ensures.too_long
