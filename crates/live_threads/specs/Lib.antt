pub mod Lives
pub mod Ends
pub mod Seated
