use Rattle.protocol_laws.proofs.Due.WhatEventsTouch.{rulings_touch}
use Rattle.protocol_laws.proofs.steps.rulings_touch.Goals as goal

pub returns : goal.returns
returns c = rulings_touch
