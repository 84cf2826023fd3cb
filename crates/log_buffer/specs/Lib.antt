pub mod Links
pub mod Chains
pub mod Chained
pub mod Buffers
pub mod Flushing
pub mod Batches
