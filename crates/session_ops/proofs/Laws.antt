-- Lemmas that this crate offers to the proofs of the crates above it.
pub use Rattle.session_ops.proofs.Parting.{any_after, any_before}
pub use Rattle.session_ops.proofs.RetryLeaving.{ended_are_retriable, aborts_are_retriable}
pub use Rattle.session_ops.proofs.Landing.{turns_land}
pub use Rattle.session_ops.proofs.Noting.{told_more}
pub use Rattle.session_ops.proofs.BackNotes.{noted_above, noted_touched}
pub use Rattle.session_ops.proofs.BackBelow.{same_at}
pub use Rattle.session_ops.proofs.Telling.{told_by, value_died, added_died}
pub use Rattle.session_ops.proofs.Pointing.{request_stays, decided_asked, commit_asked}
pub use Rattle.session_ops.proofs.Passing.{still_active}
pub use Rattle.session_ops.proofs.EndPassing.{still_standing}
pub use Rattle.session_ops.proofs.Resting.{still_idle, still_unasked, still_retriable}
