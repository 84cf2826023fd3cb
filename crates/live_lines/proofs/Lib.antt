pub mod CallWords
pub mod NoFloats
