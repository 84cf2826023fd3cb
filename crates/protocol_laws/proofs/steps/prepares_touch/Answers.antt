use Rattle.protocol_laws.proofs.Due.WhatEventsTouch.{prepares_touch}
use Rattle.protocol_laws.proofs.steps.prepares_touch.Goals as goal

pub returns : goal.returns
returns c = prepares_touch
