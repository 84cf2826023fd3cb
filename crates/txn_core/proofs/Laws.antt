-- Lemmas that this crate offers to the proofs of the crates above it.
pub use Rattle.txn_core.proofs.Totals.{total_of, total_next, total_told}
pub use Rattle.txn_core.proofs.Owing.{count_owed_fewer}
