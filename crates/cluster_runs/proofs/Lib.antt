pub mod Promised
pub mod Wearing
mod Drained
mod Settled
pub mod Seeing
pub mod Gone
pub mod Sending
mod Sitting
mod Steps
pub mod Ending
pub mod Holding
pub mod Cutting
pub mod Dealing
pub mod Finding
pub mod Taking
pub mod Undoing
pub mod Undone
pub mod Down
mod Choosing
mod Following
pub mod Promising
mod Entries
mod Beginnings
mod Completing
mod Telling
mod Going
pub mod Before
mod Alone
mod Replaying
mod Stored
mod Scripted
mod Books
pub mod Laws
