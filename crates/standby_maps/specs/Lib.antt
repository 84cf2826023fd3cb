pub mod Cuts
pub mod Shown
