use Rattle.protocol_laws.proofs.Due.WhatEventsTouch.{operations_touch}
use Rattle.protocol_laws.proofs.steps.operations_touch.Goals as goal

pub returns : goal.returns
returns c = operations_touch
