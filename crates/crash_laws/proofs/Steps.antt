-- One step of a world, and what it makes.
pub mod WhichStepsAreTaken
pub mod WhatStepsMake
pub mod WhatEventsKeep
