use Rattle.live_sessions.proofs.RepliesTellEntries.{replies_tell_entries}
use Rattle.live_sessions.proofs.statements.replies_tell_entries.Goals as goal

pub returns : goal.returns
returns c = replies_tell_entries
