pub mod InOrder
pub mod GoingOn
pub mod WritesThatStay
pub mod CheckpointsAreInOrder
pub mod CheckpointsGoOnInOrder
pub mod CheckpointsLeaveTheState
pub mod ExchangedStandAlike
pub mod ExchangedMayBeOpened
