pub mod Machined
pub mod Stamps
pub mod Answers
pub mod Happening
pub mod Journaled
pub mod Numbers
