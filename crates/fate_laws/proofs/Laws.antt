-- Lemmas that this crate offers to the proofs of the crates above it.
pub use Rattle.fate_laws.proofs.AbortedAreCommittedNowhere.{aborted_are_committed_nowhere}
