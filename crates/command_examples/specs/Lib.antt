pub mod Chains
pub mod Audits
