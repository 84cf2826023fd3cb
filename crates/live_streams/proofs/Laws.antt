-- Lemmas that this crate offers to the proofs of the crates above it.
pub use Rattle.live_streams.proofs.OfLanes.{of_lane-append}
