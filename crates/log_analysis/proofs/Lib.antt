pub mod Writing
pub mod Passing
pub mod Doubted
pub mod Ended
pub mod Restarting
pub mod Laws
