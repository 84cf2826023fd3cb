-- That each event of a shard, and what is due after it, keep what the shard keeps.
pub mod DueKeeps
pub mod KeptAfterReplies
pub mod WhoOperatesNow
pub mod OperationsKeep
pub mod RequestsKeep
pub mod LooksAndDropsKeep
pub mod MessagesKeep
pub mod EventsKeep
pub mod EventsKeepTheFrame
pub mod StandingNumbers
pub mod GoingsBackKeep
