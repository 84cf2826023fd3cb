use Rattle.std.proofs.Common.{length, Option, Some, None}
use Rattle.turn_lock.specs.declared.gate.Batch.{Batch}
use Rattle.session_ops.specs.Rounds.{IsOwn}
use Rattle.session_ops.proofs.Noting.{none_rests, tells_alone}
use Rattle.session_ops.proofs.rounds.stand_by_own.Goals as goal

pub returns-then-met-clause-rests : goal.returns-then-met-clause-rests
returns-then-met-clause-rests g c = let w = c.args.walker.now in none_rests {A = Option Batch} (length c.args.shards.now.locks.items) (IsOwn c.args.own.now) w.number w.clock w.passes.items None

pub returns-in-Some-clause-rests : goal.returns-in-Some-clause-rests
returns-in-Some-clause-rests g c = let w = c.args.walker.now in none_rests {A = Option Batch} (length c.args.shards.now.locks.items) (IsOwn c.args.own.now) w.number w.clock w.passes.items (Some c.in-Some.batch)

pub returns-else-met-clause-rests : goal.returns-else-met-clause-rests
returns-else-met-clause-rests g c = c.round.ensures.told.rests

pub returns-then-met-clause-round : goal.returns-then-met-clause-round
returns-then-met-clause-round g c = (returns-then-met-clause-rests g c).round

pub returns-in-Some-clause-round : goal.returns-in-Some-clause-round
returns-in-Some-clause-round g c = (returns-in-Some-clause-rests g c).round

pub returns-then-met-clause-away : goal.returns-then-met-clause-away
returns-then-met-clause-away g c = λ none. c.in-None.is

pub returns-else-met-clause-away : goal.returns-else-met-clause-away
returns-else-met-clause-away g c = tells_alone c.args.met c.round.result c.in-None.is
