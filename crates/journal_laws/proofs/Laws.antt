-- Lemmas that this crate offers to the proofs of the crates above it.
pub use Rattle.journal_laws.proofs.FreeBirthsStay.{free_births_stay, others_leave_births, free_rows, has_none, free_event, new_births_are_free}
pub use Rattle.journal_laws.proofs.EndsFree.{runs_find_active, restarts_free, ends_free, inactive_is_free}
pub use Rattle.journal_laws.proofs.NotesAreRuns.{notes_are_seen, notes_are_runs}
pub use Rattle.journal_laws.proofs.RunsGoOn.{runs_go_on}
pub use Rattle.journal_laws.proofs.CutIsLegal.MadeEntriesAreRuns.{run_made}
