pub mod LockRuns
pub mod StoreRuns
