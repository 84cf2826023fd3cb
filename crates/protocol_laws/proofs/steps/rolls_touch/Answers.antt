use Rattle.protocol_laws.proofs.Due.WhatEventsTouch.{rolls_touch}
use Rattle.protocol_laws.proofs.steps.rolls_touch.Goals as goal

pub returns : goal.returns
returns c = rolls_touch
