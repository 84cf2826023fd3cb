use Rattle.clv_commands.proofs.Unread.{unread, has_script}
use Rattle.clv_commands.proofs.running.read_script.Goals as goal

pub returns-in-Err-clause-refused : goal.returns-in-Err-clause-refused
returns-in-Err-clause-refused g c = unread c.in-Err.error c.into.result (g.S.Source.left c.args.source.now) c.into.ensures c.in-Err.ensures.too_long

pub returns-in-Ok-parse-clause-narrow : goal.returns-in-Ok-parse-clause-narrow
returns-in-Ok-parse-clause-narrow g c = c.scripts_are_narrow.ensures c.deref.result.now c.in-Ok-parse.script c.in-Ok-parse.ensures.script

pub returns-in-Ok-parse-clause-few : goal.returns-in-Ok-parse-clause-few
returns-in-Ok-parse-clause-few g c = c.scripts_have_few_sessions.ensures c.deref.result.now c.in-Ok-parse.script c.in-Ok-parse.ensures.script

pub returns-in-Ok-parse-clause-script : goal.returns-in-Ok-parse-clause-script
returns-in-Ok-parse-clause-script g c =
    has_script (g.S.Source.left c.args.source.now) (g.S.Source.left c.read_all.new.source) c.in-Ok.bytes.items c.deref.result.now c.in-Ok-parse.script c.in-Ok.ensures.whole c.deref.ensures.value c.in-Ok-parse.ensures.script
