pub mod Doing
pub mod Turning
pub mod RepliesTellEntries
pub mod RepliesAreTrue
pub mod Laws
