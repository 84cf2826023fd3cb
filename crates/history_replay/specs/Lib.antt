pub mod Entries
pub mod Transactions
pub mod Replayed
pub mod Laws
pub mod Acting
pub mod Folds
