pub mod Sizes
pub mod Joining
pub mod Cutting
pub mod Maps
pub mod StandingLsns
pub mod KeptByFacts
pub mod Spelled
pub mod Whole
