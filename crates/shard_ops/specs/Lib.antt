pub mod Planned
pub mod Met
pub mod Effects
pub mod Ghosts
