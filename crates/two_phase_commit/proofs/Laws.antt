-- Lemmas that this crate offers to the proofs of the crates above it.
pub use Rattle.two_phase_commit.proofs.Few.{low_in}
pub use Rattle.two_phase_commit.proofs.Forgotten.{get_drop}
