-- What one shard keeps of its past, and that each change of its state keeps it.
pub mod DeedsThatHold
pub mod ChangesKeepPrepared
pub mod WhatOneShardKeeps
pub mod RecordsAndFrontsKeep
pub mod RecordsOfAnUndo
pub mod DeedsInTheLog
pub mod ClosingKeeps
pub mod LeavingKeeps
pub mod WhatGrantsHold
pub mod GrantingKeeps
pub mod FallenAndLost
pub mod DoomedMayGo
pub mod MarkingKeeps
pub mod NumbersOfWrites
pub mod GoingBackKeeps
