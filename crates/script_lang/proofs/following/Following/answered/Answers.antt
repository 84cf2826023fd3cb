use Rattle.script_lang.proofs.Progress.{stands_further}
use Rattle.script_lang.proofs.following.Following.answered.Goals as goal

pub returns : goal.returns
returns c = λ lines answers way op stands is. stands_further lines answers way c.args.self.now c.step.new.self op c.args.answer.now stands is c.step.ensures
