pub mod Found
pub mod Lists
pub mod Programs
pub mod Sayings
pub mod Laws
pub mod Options
