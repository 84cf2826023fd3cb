pub mod Events
pub mod Steps
pub mod Flights
pub mod Restored
pub mod Settled
pub mod Recovered
pub mod Disks
