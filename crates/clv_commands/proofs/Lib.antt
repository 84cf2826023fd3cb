pub mod Words
pub mod Refused
pub mod Unread
pub mod Endings
mod LiveEndings
mod Reported
mod Lines
mod Summing
pub mod Loaded
pub mod Completing
pub mod Audited
pub mod Standbys
