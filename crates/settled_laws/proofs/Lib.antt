pub mod AbortsAreDeaths
pub mod Laws
