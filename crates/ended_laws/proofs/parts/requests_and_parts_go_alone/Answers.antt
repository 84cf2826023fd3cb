use Rattle.ended_laws.proofs.Alone.{go_alone}
use Rattle.ended_laws.proofs.parts.requests_and_parts_go_alone.Goals as goal

pub returns : goal.returns
returns c = go_alone
