use Rattle.record_stream.proofs.Laws.Coming.{came_once}
use Rattle.record_stream.proofs.statements.what_came_is_one.Goals as goal

pub returns : goal.returns
returns c = λ some others tail rest bytes a b. came_once some others tail rest bytes a b
