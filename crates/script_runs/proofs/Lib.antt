mod Doing
mod Stepping
mod Dropped
mod EntryKinds
mod ActsTold
mod Ending
mod Tries
mod Sessions
mod Retried
pub mod TriesListed
pub mod TriesSessions
mod TriesTell
mod Quiet
mod BooksApart
mod Wholes
mod TryBooks
mod TransactionBooks
mod Open
mod Kept
mod KeptTries
mod Alone
mod Begun
pub mod Laws
pub mod Counting
