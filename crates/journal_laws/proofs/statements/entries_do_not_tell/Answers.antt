use Rattle.journal_laws.proofs.NotesAreRuns.{entries_do_not_tell}
use Rattle.journal_laws.proofs.statements.entries_do_not_tell.Goals as goal

pub returns : goal.returns
returns c = entries_do_not_tell
