use Rattle.std.proofs.Common.{◌∙◌, ◌++◌, ap, ℕ, List}
use Rattle.log_records.proofs.Laws.FileSpellings.{one_beginning_in_file}
use Rattle.log_records.proofs.spelling.no_spelling_begins_another_in_file.Goals as goal

pub returns : goal.returns
returns c = λ r s some others behind after a b e. one_beginning_in_file r s behind after (some ++ behind) (record { in_bounds = a.in_bounds; is = ap (λ (l : List ℕ). l ++ behind) a.is }) (record { in_bounds = b.in_bounds; is = e ∙ ap (λ (l : List ℕ). l ++ after) b.is })
