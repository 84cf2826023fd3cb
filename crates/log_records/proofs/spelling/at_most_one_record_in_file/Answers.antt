use Rattle.std.proofs.Common.{◌∙◌, [], sym}
use Rattle.std.proofs.lemmas.List.{append-nil}
use Rattle.log_records.specs.FileSpelling.{file_spelling}
use Rattle.log_records.proofs.Laws.FileSpellings.{one_beginning_in_file}
use Rattle.log_records.proofs.spelling.at_most_one_record_in_file.Goals as goal

pub returns : goal.returns
returns c = λ r s bytes a b. (one_beginning_in_file r s [] [] bytes (record { in_bounds = a.in_bounds; is = a.is ∙ sym (append-nil (file_spelling r)) }) (record { in_bounds = b.in_bounds; is = b.is ∙ sym (append-nil (file_spelling s)) })).0
