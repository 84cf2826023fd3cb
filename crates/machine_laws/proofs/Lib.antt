pub mod Alike
pub mod EventsAlike
pub mod Staying
mod Shards
mod Rows
pub mod Fits
pub mod Begun
pub mod Marking
pub mod Legal
pub mod Calm
pub mod Gating
pub mod Flying
pub mod Freeing
pub mod Single
pub mod Keeping
pub mod Turning
pub mod Holding
pub mod Departing
pub mod Pushing
pub mod Leaving
pub mod Beginning
pub mod Fetching
pub mod Laws
