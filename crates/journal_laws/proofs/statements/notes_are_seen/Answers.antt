use Rattle.journal_laws.proofs.NotesAreRuns.{notes_are_seen}
use Rattle.journal_laws.proofs.statements.notes_are_seen.Goals as goal

pub returns : goal.returns
returns c = notes_are_seen
