use Rattle.record_stream.proofs.Laws.Coming.{came_on}
use Rattle.record_stream.proofs.statements.cutting_changes_nothing.Goals as goal

pub returns : goal.returns
returns c = λ some others tail rest bytes piece a b. came_on some others tail rest bytes piece a b
