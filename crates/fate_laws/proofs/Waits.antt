-- Whoever waits, waits for one that asked before.
pub mod OnlyYoungerInWay
pub mod PredecessorsAskedFirst
pub mod AllOfOneBirth
pub mod DependsOnEarlierAsker
pub mod WaitsGoDown
