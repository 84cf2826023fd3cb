pub mod Rings
pub mod Inputs
pub mod Cut
pub mod Handed
pub mod Steps
pub mod Outputs
pub mod Written
pub mod Same
