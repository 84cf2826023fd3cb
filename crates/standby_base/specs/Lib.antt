pub mod Standby
