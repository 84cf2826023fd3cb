use Rattle.journal_laws.proofs.NotesAreRuns.{notes_go_on}
use Rattle.journal_laws.proofs.statements.notes_go_on.Goals as goal

pub returns : goal.returns
returns c = notes_go_on
