pub mod Laws
pub mod Replies
pub mod Settled
pub mod Ends
pub mod Counting
pub mod Writers
pub mod Owing
pub mod Undoing
pub mod Doing
pub mod Locked
pub mod Undoable
pub mod Settling
pub mod Closed
pub mod Joins
mod Crowds
mod Spelling
mod Roomier
pub mod Totals
pub mod Returning
mod Births
mod Backing
