use Rattle.due_step.proofs.Sending.{carries_messages}
use Rattle.due_step.proofs.telling.carries_messages.Goals as goal

pub returns : goal.returns
returns c = carries_messages
