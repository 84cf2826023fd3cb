use Rattle.std.proofs.Common.{◌≡◌, ◌++◌, true}
use Rattle.std.specs.List.{AllByRecursion}
use Rattle.session_books.specs.Laws.{plus, all_rows, all_counts}
use Rattle.report_text.proofs.books.gather.Given as goal

abbrev pub invariant-loop-book : goal.invariant-loop-book
invariant-loop-book l =
    record {
      keeps : AllByRecursion (λ b. b.keeps ≡ true) ((l.book-iterator).rest).items;
      rows : (l.all).rows.items ++ all_rows ((l.book-iterator).rest).items ≡ all_rows l.fn.books.items;
      counts : plus (l.all).counts (all_counts ((l.book-iterator).rest).items) ≡ all_counts l.fn.books.items;
    }
