mod Ending
mod Fetching
mod Idling
mod Lists
mod Seats
mod Sending
mod Turning
mod Walking
pub mod Following
pub mod Trying
pub mod Thinking
pub mod Moving
pub mod Two
