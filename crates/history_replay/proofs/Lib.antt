pub mod Acting
pub mod Folding
pub mod Merging
pub mod Trees
