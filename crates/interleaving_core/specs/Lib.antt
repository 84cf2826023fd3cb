pub mod Sound
pub mod Making
pub mod Listed
pub mod Placed
pub mod Naming
pub mod Seated
pub mod GoneBack
