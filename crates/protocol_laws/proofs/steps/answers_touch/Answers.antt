use Rattle.protocol_laws.proofs.Due.WhatEventsTouch.{answers_touch}
use Rattle.protocol_laws.proofs.steps.answers_touch.Goals as goal

pub returns : goal.returns
returns c = answers_touch
