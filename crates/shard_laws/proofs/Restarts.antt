-- What a restart finds, makes and restores, and that it keeps what the shard keeps.
pub mod RestoredLocksAndParts
pub mod AddsFindNumbers
pub mod OperationsAlone
pub mod FoundDoubtedActedBefore
pub mod WinnersKeepTheirWrites
pub mod RestoredRequestsAndPairs
pub mod UnrestoredFell
pub mod RestartsKeepOrder
pub mod RecordsAfterRestart
pub mod RestartsKeep
pub mod OpeningKeeps
