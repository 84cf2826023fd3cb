use Rattle.journal_laws.proofs.CutIsLegal.{cut_is_legal}
use Rattle.journal_laws.proofs.cut_statements.cut_is_legal.Goals as goal

pub returns : goal.returns
returns c = cut_is_legal
