pub mod NoFloats
pub mod Reporting
