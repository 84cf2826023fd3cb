pub mod Places
pub mod Records
pub mod Blocks
pub mod InTurn
