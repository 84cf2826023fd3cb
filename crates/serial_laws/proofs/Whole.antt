-- Transactions over many shards that go whole.
pub mod GoingsBackAreMerged
