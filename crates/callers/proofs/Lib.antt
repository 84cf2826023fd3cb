mod Flying
pub mod LocksAlike
pub mod LocksLonger
pub mod StoreLonger
