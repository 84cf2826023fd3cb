pub mod Arrays
pub mod SameNames
pub mod Spans
pub mod Settling
pub mod Sums
pub mod Folding
pub mod Grouping
pub mod Fitting
