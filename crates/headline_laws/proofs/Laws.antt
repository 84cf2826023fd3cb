-- Lemmas that this crate offers to the proofs of the crates above it.
pub use Rattle.headline_laws.proofs.Promise.{promise}
pub use Rattle.headline_laws.proofs.TransactionsReplayByShards.{replay_by_shards}
pub use Rattle.headline_laws.proofs.SharesAreMaps.{losers_are_lost}
