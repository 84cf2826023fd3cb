use Rattle.journal_laws.proofs.GatheredIsLegal.{gathered_is_legal}
use Rattle.journal_laws.proofs.statements.gathered_is_legal.Goals as goal

pub returns : goal.returns
returns c = gathered_is_legal
