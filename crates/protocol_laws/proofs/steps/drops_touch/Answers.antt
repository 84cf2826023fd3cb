use Rattle.protocol_laws.proofs.Due.WhatEventsTouch.{drops_touch}
use Rattle.protocol_laws.proofs.steps.drops_touch.Goals as goal

pub returns : goal.returns
returns c = drops_touch
