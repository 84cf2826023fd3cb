use Rattle.std.proofs.Common.{sym, subst}
use Rattle.script_lang.specs.Places.{IsNext}
use Rattle.script_lang.proofs.Progress.{is_next}
use Rattle.script_lang.proofs.following.Following.next.Goals as goal

pub returns-clause-next : goal.returns-clause-next
returns-clause-next c = λ lines answers way stands. subst (IsNext lines answers way) (sym c.next_step.ensures) (is_next lines answers way c.args.self.now stands)
