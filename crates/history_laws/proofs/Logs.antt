-- What logs that were found, and those that a crash leaves, say of a transaction.
pub mod FoundLogsInOrder
pub mod DoubtedAreUndecided
pub mod CutsKeepTheDurable
