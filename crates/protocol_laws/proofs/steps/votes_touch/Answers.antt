use Rattle.protocol_laws.proofs.Due.WhatEventsTouch.{votes_touch}
use Rattle.protocol_laws.proofs.steps.votes_touch.Goals as goal

pub returns : goal.returns
returns c = votes_touch
