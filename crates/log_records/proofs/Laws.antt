-- Lemmas that this crate offers to the proofs of the crates above it.
pub mod Fields
pub mod Spellings
pub mod FileSpellings
