use Rattle.journal_laws.proofs.NotesAreRuns.{held_shards_rest}
use Rattle.journal_laws.proofs.statements.held_shards_rest.Goals as goal

pub returns : goal.returns
returns c = held_shards_rest
