-- Where what a shard has of transactions comes from.
pub mod DueKeepsOrigins
pub mod EventsKeepOrigins
pub mod FrontsKeepOrigins
pub mod AllComesOfEntries
pub mod DoubtedWereFoundSo
pub mod OldPartsWereDoubted
