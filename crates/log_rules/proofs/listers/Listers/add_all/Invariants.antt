use Rattle.std.proofs.Common.{take}
use Rattle.log_rules.specs.Listers.{ListsAll}
use Rattle.log_rules.proofs.listers.Listers.add_all.Given as goal

abbrev pub invariant-loop-p : goal.invariant-loop-p
invariant-loop-p l = ListsAll l.fn.self l.self l.tx (take l.p-index l.listed)
