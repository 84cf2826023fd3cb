pub mod Facts
pub mod Lists
pub mod Writers
pub mod Standing
pub mod Doubt
pub mod Unended
pub mod Restarting
