pub mod Joining
pub mod Joined
pub mod Looking
pub mod Moving
pub mod Serving
