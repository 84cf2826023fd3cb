pub mod Streams
pub mod Serial
