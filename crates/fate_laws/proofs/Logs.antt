-- What the logs of a history hold, and what adds to them.
pub mod LogOnlyGrows
pub mod WhatAddsNoPrepare
pub mod RestoredRequestsAreCommitted
pub mod WhatPreparesOrCommits
pub mod RestartsWriteNoUpdate
pub mod PreparedWritesStand
