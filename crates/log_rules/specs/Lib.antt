pub mod Shares
pub mod Writes
pub mod Listers
pub mod Rules
pub mod Adding
pub mod Committed
pub mod Agreement
pub mod Order
