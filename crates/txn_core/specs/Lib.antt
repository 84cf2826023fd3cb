pub mod State
pub mod Closings
pub mod Committed
pub mod Judged
pub mod Attempts
pub mod Replies
pub mod Sound
pub mod Landed
