pub mod Notes
pub mod Images
pub mod Sound
pub mod Slots
pub mod Counting
