-- The laws over all shards, where there is one.
pub mod NothingIsInDoubt
pub mod LawsOfOneShard
