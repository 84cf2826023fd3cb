-- What each shard has and tells of transactions of earlier runs.
pub mod TellsOnlyFoundCommits
pub mod EventsKeepEarlierRuns
pub mod FrontsKeepEarlierRuns
pub mod EarlierFatesAreKnown
