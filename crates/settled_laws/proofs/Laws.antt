-- Lemmas that this crate offers to the proofs of the crates above it.
pub use Rattle.settled_laws.proofs.AbortsAreDeaths.{aborts_are_deaths}
