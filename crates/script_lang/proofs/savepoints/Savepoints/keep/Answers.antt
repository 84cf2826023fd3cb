use Rattle.std.proofs.Common.{arith}
use Rattle.script_lang.proofs.Keeping.{numbered_push_as}
use Rattle.script_lang.proofs.savepoints.Savepoints.keep.Goals as goal

pub invariant_of-self-2 : goal.invariant_of-self-2
invariant_of-self-2 c =
    numbered_push_as c.self.inside.standing.items c.push.new.self.items c.self.inside.kept c.in-Some.number c.args.upto (c.in_ok-push.ensures {u = tt}).items (omega (arith, c.in-Some.ensures)) c.self.invariant
