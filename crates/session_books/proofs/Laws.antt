-- Lemmas that this crate offers to the proofs of the crates above it.
pub use Rattle.session_books.proofs.EntriesAreTheirWalkers.{IsOfWalker, AreTheirs, are_theirs, all_at}
