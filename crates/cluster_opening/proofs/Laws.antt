-- Lemmas that this crate offers to the proofs of the crates above it.
pub use Rattle.cluster_opening.proofs.DisksStopping.{same_disk}
pub use Rattle.law_base.proofs.Lists.{few_shards}
pub use Rattle.cluster_opening.proofs.Accepting.{same_logs}
pub use Rattle.cluster_opening.proofs.Disks.{same_story}
