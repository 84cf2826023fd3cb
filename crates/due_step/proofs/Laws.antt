-- Lemmas that this crate offers to the proofs of the crates above it.
pub use Rattle.due_step.proofs.Stepping.{kept}
pub use Rattle.due_step.proofs.Cases.{carries_local}
pub use Rattle.due_step.proofs.Sending.{carries_messages}
pub use Rattle.due_step.proofs.Touched.{carried_covers}
pub use Rattle.due_step.proofs.Noted.{own_doomed, ruled_doomed, noted_covers}
pub use Rattle.due_step.proofs.Known.{known_have_room, keys_length}
pub use Rattle.due_step.proofs.Concerned.{landed_covers, pair_of}
pub use Rattle.due_step.proofs.Sought.{finds_nothing}
pub use Rattle.due_step.proofs.Turning.{ready_rest}
