-- Lemmas that this crate offers to the proofs of the crates above it.
pub mod Moments
pub mod Told
pub mod Counts
