-- Lemmas that this crate offers to the proofs of the crates above it.
pub use Rattle.command_line.proofs.Lists.{numbers_once}
