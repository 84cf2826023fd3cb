-- What each shard knows of the homes of transactions, and that what is decided there is decided for good.
pub mod ShardKnowsHomes
pub mod EventsKeepHomes
pub mod EntriesKeepHomes
pub mod FrontsKeepHomes
pub mod DecidedStaysDecided
pub mod FoundCommitsHaveHomes
