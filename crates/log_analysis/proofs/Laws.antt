-- Lemmas that this crate offers to the proofs of the crates above it.
pub mod Bools
pub mod Bases
pub mod Growing
pub mod Names
pub mod Places
pub mod Standing
pub mod Whole
pub mod Pushes
pub mod Tables
