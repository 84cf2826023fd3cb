-- Of a legal history, entry by entry, and of the entries of one transaction.
pub mod EntryByEntry
pub mod EntriesInTurn
pub mod DeedsOfOneEntry
