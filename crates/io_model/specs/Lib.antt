pub mod Story
pub mod Disk
pub mod Crash
pub mod Sides
pub mod Streams
pub mod States
pub mod Steps
