pub mod Requests
pub mod Recalled
pub mod Parts
pub mod Sessions
pub mod Histories
pub mod Examples
pub mod Epochs
