-- Who is prepared on a shard and goes there without a COMMIT.
pub mod WhyPreparedOnesGo
pub mod EntriesKeepAbortedAway
pub mod FrontsKeepAbortedAway
pub mod OutAreLost
