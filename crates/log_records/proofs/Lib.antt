pub mod Laws
pub mod Loops
pub mod Records
pub mod UnknownKinds
