-- Lemmas that this crate offers to the proofs of the crates above it.
pub use Rattle.cluster_closing.proofs.Holding.{new_walkers_hold_none, turns_hold_none, drains_hold_none, fetches_hold_one, refused_fetches_hold_none, new_walkers_fetched_none, turns_fetch_none, drains_fetch_none}
pub use Rattle.cluster_closing.proofs.Homing.{no_disks_are_held}
pub use Rattle.cluster_closing.proofs.Landing.{new_pass, inside, some_inj, events_land, flushes_land}
pub use Rattle.cluster_closing.proofs.Together.{map_at, state_here}
pub use Rattle.cluster_closing.proofs.ReviveLanding.{fetches_land, restarts_land}
pub use Rattle.cluster_closing.proofs.ReviveEnding.{restarts_end_holding}
