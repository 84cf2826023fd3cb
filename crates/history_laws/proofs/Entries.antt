-- The entries of a history, one by one, and those of one session.
pub mod SublistsOfHistories
pub mod LaterJournalsGoOn
pub mod GoingsBackOfSessions
pub mod NothingFollowsRequests
pub mod WalkedEntryByEntry
pub mod AllFromEach
pub mod WhatOperationsDo
pub mod WhatLooksFind
pub mod WhatEntriesAdd
pub mod LowerPlacesStandBefore
