-- The books of a run's sessions.
use Rattle.std.specs.Prelude.{◌≡◌, ℕ, suc, ◌<◌, ◌≤◌, List, [], length, slice_index_or}
use Rattle.clv_base.specs.Journals.{History}
use Rattle.cluster_turns.specs.declared.shards.Walker.{Walker}
use Rattle.cluster_turns.specs.Walkers.{kept}
use Rattle.script_runs.specs.Sessions.{session_entries}
use Rattle.session_books.specs.Counts.{nothing_counted}
use Rattle.session_books.specs.Books.{Book, IsBook}
use Rattle.session_books.specs.Laws.{session_part, AreBooks}

-- a book in which nothing was written
pub record IsBlank (book : Book) : Type 0 where
  pub rows : book.rows ≡ []
  pub counts : book.counts ≡ nothing_counted

-- each walker from 1 on has its book, which tells what it kept of its session's entries; those that have none kept none
pub record WalkersHaveBooks {M S G : Type 0} (walkers : List (Walker M S G)) (books : List Book) : Type 0 where
  pub few : length books < length walkers
  pub each : (k : ℕ) (d : Walker M S G) (e : Book) → k < length books → IsBook (session_entries (kept (slice_index_or walkers (suc k) d).passes.items)) (slice_index_or books k e)
  pub others : (k : ℕ) (d : Walker M S G) → length books ≤ k → suc k < length walkers → session_entries (kept (slice_index_or walkers (suc k) d).passes.items) ≡ []

-- the walkers from 1 on kept these books in the history, and no other one made what only sessions make
pub record HasBooks (h : History) (books : List Book) : Type 0 where
  pub kept : AreBooks h 1 books
  pub no_other : (w : ℕ) → length books < w → session_part w h ≡ []
