pub mod Frame
pub mod Fitting
pub mod Notes
pub mod Homes
pub mod Gates
pub mod Sound
pub mod Laws
