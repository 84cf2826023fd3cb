pub mod Aborting
pub mod Winning
pub mod Fallen
pub mod Recovering
