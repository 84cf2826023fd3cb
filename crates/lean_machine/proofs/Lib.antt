pub mod Steps
pub mod Settled
pub mod Spent
pub mod Forgotten
