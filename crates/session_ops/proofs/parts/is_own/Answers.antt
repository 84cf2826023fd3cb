use Rattle.std.proofs.Common.{◌∙◌, true, Some, sym, ap}
use Rattle.clv_base.proofs.Arrays.{get_some}
use Rattle.law_base.proofs.Options.{some_inj}
use Rattle.session_ops.proofs.parts.is_own.Goals as goal

pub returns-in-Some-clause-own : goal.returns-in-Some-clause-own
returns-in-Some-clause-own c h = let e = c.in-Some.ensures.lookup in get_some c.args.own.now c.args.shard c.in-Some.needs.now e.3.0 e.1 ∙ ap Some h

pub returns-in-Some-clause-all : goal.returns-in-Some-clause-all
returns-in-Some-clause-all c h = let e = c.in-Some.ensures.lookup in some_inj c.in-Some.needs.now true (sym (get_some c.args.own.now c.args.shard c.in-Some.needs.now e.3.0 e.1) ∙ h)
