-- Lemmas that this crate offers to the proofs of the crates above it.
pub use Rattle.ordered_store.proofs.Finding.{none_above}
pub use Rattle.ordered_store.proofs.Rising.{Above, Rises, above_less, rises_from}
