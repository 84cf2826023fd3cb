use Rattle.std.proofs.Common.{◌≡◌, ◌++◌, map, take, drop}
use Rattle.clv_base.specs.Locks.{close_holder}
use Rattle.lock_index.proofs.group.close.Given as goal

abbrev pub invariant-loop-holder : goal.invariant-loop-holder
invariant-loop-holder l = l.holders ≡ map (close_holder l.tx) (take l.holder-index l.initial.holders) ++ drop l.holder-index l.initial.holders
