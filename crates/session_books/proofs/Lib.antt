pub mod EntriesAreTheirWalkers
pub mod Parting
pub mod Spreading
pub mod Ordered
pub mod Summing
pub mod Making
pub mod Laws
