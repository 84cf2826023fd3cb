use Rattle.std.proofs.Common.{length, Option}
use Rattle.turn_lock.specs.declared.gate.Batch.{Batch}
use Rattle.session_ops.specs.Rounds.{IsOwn}
use Rattle.session_ops.specs.Settled.{IsTouched}
use Rattle.session_ops.proofs.EndPassing.{still_standing}
use Rattle.session_ops.proofs.Noting.{wants_more}
use Rattle.session_ops.proofs.waiting.pass_round.Goals as goal

pub returns-clause-rests : goal.returns-clause-rests
returns-clause-rests g c = let w = c.args.walker.now in let v = c.round_for.new.walker in
    wants_more {A = Option Batch} (length c.args.shards.now.locks.items) (IsOwn c.needed_by-own.result) (IsTouched c.args.place.now.touched) w.number w.clock v.clock w.passes.items v.passes.items c.round_for.result c.needed_by-own.ensures c.round_for.ensures.told.rests

pub returns-clause-stands : goal.returns-clause-stands
returns-clause-stands g c = let w = c.args.walker.now in let v = c.round_for.new.walker in let r = c.round_for.ensures.round in
    still_standing c.args.shards.now w v c.args.place.now c.args.home r.turns r.took r.others c.round_for.ensures.walker.0 c.round_for.ensures.walker.1 c.requires.standing
