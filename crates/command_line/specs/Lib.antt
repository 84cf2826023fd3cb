pub mod Apps
pub mod Commands
pub mod Steps
pub mod Texts
pub mod Refusals
pub mod Running
