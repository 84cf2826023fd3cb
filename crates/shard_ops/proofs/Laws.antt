-- Lemmas that this crate offers to the proofs of the crates above it.
pub use Rattle.shard_ops.proofs.Counting.{predecessors_rise, union_rises, in_union}
pub use Rattle.shard_ops.proofs.Purged.{all_pass, all_stay, purged_are_locked}
