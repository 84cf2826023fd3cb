use Rattle.protocol_laws.proofs.Due.WhatEventsTouch.{decisions_touch}
use Rattle.protocol_laws.proofs.steps.decisions_touch.Goals as goal

pub returns : goal.returns
returns c = decisions_touch
