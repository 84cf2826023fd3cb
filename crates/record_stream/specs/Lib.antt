pub mod Streams
pub mod Scanning
pub mod Naming
