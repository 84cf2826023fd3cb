-- Operations that hold.
pub mod OperationsAtPlaces
pub mod OperationsPassOthers
pub mod TrailsAreHeldMaps
