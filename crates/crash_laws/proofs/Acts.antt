-- What the members of a history did, shard by shard.
pub mod ActsByShards
pub mod ActsAreDeeds
pub mod ShardsHoldTheActs
pub mod MembersActOnShards
