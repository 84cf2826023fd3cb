use Rattle.protocol_laws.proofs.Due.WhatEventsTouch.{requests_touch}
use Rattle.protocol_laws.proofs.steps.requests_touch.Goals as goal

pub returns : goal.returns
returns c = requests_touch
