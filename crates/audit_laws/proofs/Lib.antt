pub mod BirthsAreTakenOnce
pub mod AllAreTold
pub mod MembersAreAcknowledged
pub mod NumbersHaveNoGap
pub mod EntriesAreWhole
pub mod Joining
pub mod JoinedRuns
pub mod ReportsAreTrue
