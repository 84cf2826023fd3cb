use Rattle.protocol_laws.proofs.Due.WhatEventsTouch.{commits_touch}
use Rattle.protocol_laws.proofs.steps.commits_touch.Goals as goal

pub returns : goal.returns
returns c = commits_touch
