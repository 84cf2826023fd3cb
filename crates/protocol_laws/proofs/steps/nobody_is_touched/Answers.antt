use Rattle.protocol_laws.proofs.Due.WhatEventsTouch.{nobody_is_touched}
use Rattle.protocol_laws.proofs.steps.nobody_is_touched.Goals as goal

pub returns : goal.returns
returns c = nobody_is_touched
