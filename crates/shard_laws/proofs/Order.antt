-- What a shard keeps for the order rules of its log.
pub mod RecordByRecord
pub mod WhoIsListed
pub mod RisingAreDistinct
pub mod WhoseWritesStand
pub mod NewestWritesOfOne
pub mod UndoMayFollow
pub mod ChangesKeepOrder
pub mod ClosingKeepsOrder
pub mod OperationsKeepOrder
pub mod StepsKeepOrder
pub mod WritesLieOnListed
pub mod WhatRulingsMayWrite
