pub mod BothSides
pub mod Following
pub mod Laws
