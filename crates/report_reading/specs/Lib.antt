pub mod Told
pub mod Finding
pub mod Standing
pub mod Texts
pub mod Faults
pub mod Reading
