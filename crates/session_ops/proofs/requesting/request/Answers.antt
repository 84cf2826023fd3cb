use Rattle.clv_base.specs.declared.events.Event.TheVariants.{Request}
use Rattle.session_ops.proofs.Making.{no_request}
use Rattle.session_ops.proofs.requesting.request.Goals as goal

pub returns-in-Err-clause-turn : goal.returns-in-Err-clause-turn
returns-in-Err-clause-turn g c = let p = c.args.place.now in no_request c.args.walker.now c.args.home (Request p.tx p.touched)
