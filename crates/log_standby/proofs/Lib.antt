pub mod FeedingLaws
pub mod Placed
