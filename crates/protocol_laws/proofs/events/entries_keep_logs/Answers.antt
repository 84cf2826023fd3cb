use Rattle.protocol_laws.proofs.LogOnlyGrows.{entries_keep_logs}
use Rattle.protocol_laws.proofs.events.entries_keep_logs.Goals as goal

pub returns : goal.returns
returns c = entries_keep_logs
