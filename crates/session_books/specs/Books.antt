-- What a history's report is made of, and what of it a session keeps.
use Rattle.std.specs.Prelude.{◌≡◌, ℕ, Bool, cond, List, [], ◌∷◌, ◌++◌, Option, Some, None}
use Rattle.clv_base.specs.declared.names.TxId.{TxId}
use Rattle.clv_base.specs.declared.ops.Op.TheVariants.{Get, Put, Del, Scan, Add}
use Rattle.clv_base.specs.declared.ops.Answer.TheVariants.{Pairs}
use Rattle.clv_base.specs.declared.events.Entry.{Entry}
use Rattle.clv_base.specs.Journals.{History}
use Rattle.clv_base.specs.History.{acknowledged_in, request_of}
use Rattle.session_books.specs.declared.told.Told.{Told}
use Rattle.session_books.specs.Done.{Done, Did, WentBack}
use Rattle.session_books.specs.declared.books.Row.{Row}
use Rattle.session_books.specs.Told.{told_in}
use Rattle.session_books.specs.Parts.{parts_of, upper_of, pairs_of, all_pairs, goes_on}
use Rattle.session_books.specs.declared.counts.Counts.{Counts}
use Rattle.session_books.specs.Counts.{counts_in}

-- an act as a line tells it: a scan goes up to its last part's upper bound, and has the pairs of all parts
abbrev pub whole : Done → List Told → Done
whole (Did (Get k) a) parts = Did (Get k) a
whole (Did (Put k v) a) parts = Did (Put k v) a
whole (Did (Del k) a) parts = Did (Del k) a
whole (Did (Scan lo hi) a) parts = Did (Scan lo (upper_of hi parts)) (Pairs (pairs_of a ++ all_pairs parts))
whole (Did (Add k by) a) parts = Did (Add k by) a
whole (WentBack upto) parts = WentBack upto

-- each act once, with its parts
abbrev pub whole_from : Option ℕ → List Told → List Done
whole_from before [] = []
whole_from before (t ∷ ts) =
    cond (goes_on before t.nth) (whole_from (Some t.nth) ts) (whole t.done (parts_of t.nth ts) ∷ whole_from (Some t.nth) ts)

abbrev pub whole_ops : List Told → List Done
whole_ops ts = whole_from None ts

-- what a history tells of a transaction whose request is this entry
abbrev pub row_of : History → ℕ × Entry → TxId → Row
row_of h e t = record { tx = t; point = record { stamp = (e.1).stamp; shard = e.0 }; ops = whole_ops (told_in t h) }

-- its row, if it is acknowledged
abbrev pub row_at : History → ℕ × Entry → Option TxId → List Row
row_at h e None = []
row_at h e (Some t) = cond (acknowledged_in h t) (row_of h e t ∷ []) []

abbrev pub rows_in : History → History → List Row
rows_in h [] = []
rows_in h (e ∷ es) = row_at h e (request_of (e.1).event (e.1).outcome) ++ rows_in h es

-- a row for each acknowledged transaction, in the order of their requests
abbrev pub rows : History → List Row
rows h = rows_in h h

-- a session's rows and counts, for how many rows more there is room, and whether the rows are kept as data, beside proofs
pub record Book : Type 0 where
  pub rows : List Row
  pub counts : Counts
  pub room : ℕ
  pub keeps : Bool

-- the book tells what these entries tell
pub record IsBook (es : History) (book : Book) : Type 0 where
  pub rows : book.rows ≡ rows es
  pub counts : book.counts ≡ counts_in es es
