use Rattle.fate_laws.proofs.Parts.CommitsHaveTheirParts.{commits_have_their_parts}
use Rattle.fate_laws.proofs.commits.commits_have_their_parts.Goals as goal

pub returns : goal.returns
returns c = commits_have_their_parts
