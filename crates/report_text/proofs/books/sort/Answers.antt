use Rattle.std.proofs.Common.{rules}
use Rattle.std.proofs.lemmas.List.Sorted.{answers_always}
use Rattle.report_text.proofs.books.sort.Goals as goal

pub returns-clause-by_place : goal.returns-clause-by_place
returns-clause-by_place c = c.sort_unstable_by_key.ensures.sorted (λ r. r.point) (answers_always _ _ _ (λ f a r g h. search rules))
