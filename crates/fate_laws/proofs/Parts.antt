-- What binds the parts of a transaction, from its votes to its commit.
pub mod OthersCloseOrGo
pub mod ClosedPartsKeepWrites
pub mod YesVotesArePrepared
pub mod CommittedAreVotedFor
pub mod EventsKeepParts
pub mod RestartsKeepParts
pub mod FoundCommitsAreBound
pub mod BoundStaysBound
pub mod FrontsKeepParts
pub mod CommitsHaveTheirParts
pub mod PutVotesAreHeld
