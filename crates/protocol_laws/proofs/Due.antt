-- What is due: by which facts, in which order, and who changes it.
pub mod DueByFacts
pub mod LeastIsNext
pub mod DoingGoesOn
pub mod OthersLeaveWrites
pub mod WhoseFactsChange
pub mod WhatEventsTouch
pub mod DueCaseByCase
