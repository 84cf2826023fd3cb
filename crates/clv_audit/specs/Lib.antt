pub mod Right
pub mod Verdicts
pub mod Keeping
pub mod Laws
