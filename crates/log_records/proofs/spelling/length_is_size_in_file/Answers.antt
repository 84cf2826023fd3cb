use Rattle.std.proofs.Common.{◌∙◌, ap, length}
use Rattle.log_records.proofs.Laws.FileSpellings.{length-file_spelling}
use Rattle.log_records.proofs.spelling.length_is_size_in_file.Goals as goal

pub returns : goal.returns
returns c = λ r bytes a. ap length a.is ∙ length-file_spelling r
