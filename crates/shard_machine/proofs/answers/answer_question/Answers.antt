-- A question that is taken is what the protocol's event comes to.
use Rattle.std.proofs.Common.{refl, ap}
use Rattle.shard_core.specs.Core.{Core}
use Rattle.shard_machine.proofs.answers.answer_question.Goals as goal

pub returns-in-Ok-clause-ok : goal.returns-in-Ok-clause-ok
returns-in-Ok-clause-ok g c = (c.in-Ok.ensures.taken, refl)

pub returns-in-Err-clause-err : goal.returns-in-Err-clause-err
returns-in-Err-clause-err g c = ap (λ (d : Core). d.shard) c.in-Err.ensures.err
