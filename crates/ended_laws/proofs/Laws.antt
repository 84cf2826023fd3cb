-- Lemmas that this crate offers to the proofs of the crates above it.
pub use Rattle.ended_laws.proofs.Rows.{get_own, get_without, OwnRowsAre, own_rows}
pub use Rattle.ended_laws.proofs.Recalled.{drop_is_without, spent_beside}
