pub mod Undoing
pub mod Going
pub mod Judging
pub mod Comparing
pub mod VerdictsAreOne
pub mod Laws
