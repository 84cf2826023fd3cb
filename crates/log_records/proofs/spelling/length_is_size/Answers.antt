use Rattle.std.proofs.Common.{◌∙◌, ap, length}
use Rattle.log_records.proofs.Laws.Spellings.{length-spelling}
use Rattle.log_records.proofs.spelling.length_is_size.Goals as goal

pub returns : goal.returns
returns c = λ r bytes a. ap length a.is ∙ length-spelling r
