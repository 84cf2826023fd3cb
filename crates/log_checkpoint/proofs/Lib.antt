pub mod Leaving
pub mod StandingAlike
pub mod Keeping
pub mod Again
pub mod Restarting
pub mod GoingOn
pub mod StayingAlike
