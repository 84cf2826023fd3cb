-- Lemmas that this crate offers to the proofs of the crates above it.
pub use Rattle.lock_table.proofs.Places.{put, reached, put_last, put_merged, put_before, tx_side, tx_insert-put}
