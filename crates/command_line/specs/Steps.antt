-- Words of the parser's own clauses.
use Rattle.std.specs.Prelude.{ℕ, List, map}
use Rattle.std.specs.Borrow.{Bor}
use Rattle.clap.specs.Words.{Row, Text, rows_of, found_of}
use Rattle.clap.specs.declared.parser.ArgMatches.{ArgMatches}

abbrev pub texts : List (Bor (List ℕ)) → List Text
texts words = map (λ s. s.now) words

abbrev pub given_rows : ArgMatches → List Row
given_rows m = rows_of (found_of m)
