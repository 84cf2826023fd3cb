pub mod Lived
pub mod Walked
