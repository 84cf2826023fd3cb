-- What a cut of a log holds, and that those whom it commits replay.
pub mod WhatCutsHold
pub mod MembersRunSerially
pub mod MembersOfCutsReplay
pub mod WhoIsInDoubt
