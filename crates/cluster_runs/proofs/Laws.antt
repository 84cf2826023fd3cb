-- Lemmas that this crate offers to the proofs of the crates above it.
pub use Rattle.cluster_runs.proofs.Ending.{none_fetched, clusters_end, clusters_keep, others_stand, all_are_in, flushes_tell, disks_tell, own_is_kept, others_own_none, was_drained, quiet_at_end, seen_in_history}
pub use Rattle.cluster_runs.proofs.Before.{before_sessions}
pub use Rattle.cluster_runs.proofs.Promised.{fine_end, worn_end}
pub use Rattle.cluster_runs.proofs.Gone.{new_rest, all_rest, each_rest, here_first, behind}
pub use Rattle.cluster_runs.proofs.Seeing.{sees_settled, rest_still, worn_later}
pub use Rattle.cluster_runs.proofs.Wearing.{seen_at, begun_at, session_worn, drain_worn, worn_still, one_worn}
pub use Rattle.cluster_runs.proofs.Sending.{script_row_send}
pub use Rattle.cluster_runs.proofs.Scripted.{whole_acts}
pub use Rattle.cluster_runs.proofs.Entries.{from_session, from_own}
