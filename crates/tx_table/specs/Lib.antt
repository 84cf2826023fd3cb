pub mod Rows
pub mod Keys
pub mod Held
pub mod Index
pub mod Parts
pub mod Lists
