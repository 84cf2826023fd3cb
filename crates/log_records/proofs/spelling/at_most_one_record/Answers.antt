use Rattle.std.proofs.Common.{◌∙◌, [], sym}
use Rattle.std.proofs.lemmas.List.{append-nil}
use Rattle.log_records.specs.Spelling.{spelling}
use Rattle.log_records.proofs.Laws.Spellings.{one_beginning}
use Rattle.log_records.proofs.spelling.at_most_one_record.Goals as goal

pub returns : goal.returns
returns c = λ r s bytes a b. (one_beginning r s [] [] bytes (record { in_bounds = a.in_bounds; is = a.is ∙ sym (append-nil (spelling r)) }) (record { in_bounds = b.in_bounds; is = b.is ∙ sym (append-nil (spelling s)) })).0
