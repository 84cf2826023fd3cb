-- Lemmas that this crate offers to the proofs of the crates above it.
pub use Rattle.protocol_laws.proofs.LogOnlyGrows.DueGrowsLogs.{grows_settled}
pub use Rattle.protocol_laws.proofs.RestartsLeadToOneLog.{misfit_is_exact}
pub use Rattle.history_cases.proofs.Durability.{Framed, framed_finish}
pub use Rattle.journal_laws.proofs.Entries.EntryAtItsPlace.{put_tests}
pub use Rattle.journal_laws.proofs.SteadyIsLegal.SameMessagesWereSent.{was_sent_before}
pub use Rattle.crash_laws.proofs.Steps.WhatStepsMake.{refused_step, rival_step, idle_step, no_shard, taken_step, steady_step}
pub use Rattle.journal_laws.proofs.SteadyIsLegal.{empty_run, new_steady}
pub use Rattle.crash_laws.proofs.WorldsAreSteady.FromEmptyLogs.{Stands, stands, lands_by}
pub use Rattle.crash_laws.proofs.Steps.WhatEventsKeep.{Keeps, Stepped, step_keeps, left_same}
pub use Rattle.crash_laws.proofs.WorldsAreSteady.{worlds_are_steady}
pub use Rattle.crash_laws.proofs.WorldsKeepPromise.{logs_stay_in_order, worlds_keep_promise}
pub use Rattle.law_base.proofs.Shards.{same_outcome, same_after}
pub use Rattle.machine_laws.proofs.Calm.{take_grown}
