-- Lemmas that this crate offers to the proofs of the crates above it.
pub use Rattle.script_runs.proofs.TriesSessions.{sessions_go_through, sessions_tell_their_tries, tries_are_few}
pub use Rattle.script_runs.proofs.TriesListed.{acknowledged_did_their_lines, entries_tell_their_lines, entries_tell_their_answers}
pub use Rattle.script_runs.proofs.TriesTell.{acknowledged_end_so}
pub use Rattle.law_base.proofs.Lists.{all_append}
pub use Rattle.script_runs.proofs.Sessions.{tries_more}
pub use Rattle.script_runs.proofs.Tries.{entries_more}
pub use Rattle.script_runs.proofs.Stepping.{operation_more, back_more}
pub use Rattle.script_runs.proofs.Doing.{grows_none, grows_on, grows_over}
pub use Rattle.script_runs.proofs.Doing.{stamped_on}
pub use Rattle.script_runs.proofs.Counting.{session_tries_are_few}
pub use Rattle.script_runs.proofs.Alone.{all_past}
pub use Rattle.script_runs.proofs.KeptTries.{new_books_are_kept}
