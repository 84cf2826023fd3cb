-- Lemmas that this crate offers to the proofs of the crates above it.
pub use Rattle.live_sessions.proofs.RepliesTellEntries.{replies_tell_entries}
pub use Rattle.live_sessions.proofs.RepliesAreTrue.{replies_are_true}
