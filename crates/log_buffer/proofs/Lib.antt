pub mod Places
pub mod Pushing
pub mod Standing
pub mod Fitting
pub mod Flying
mod BatchSizes
mod BatchFitting
pub mod Laws
