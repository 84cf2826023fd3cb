use Rattle.std.proofs.Common.{◌∙◌, refl, Ok, Err}
use Rattle.std.proofs.lemmas.Result.{err_from_is_err_and}
use Rattle.live_streams.proofs.Adding.{none_written, writes_on, writes_gone}
use Rattle.live_streams.proofs.writing.write_until_over.Goals as goal

pub loop-init : goal.loop-init
loop-init g c = record { took = none_written c.args.all.now.items (g.K.Sink.taken c.args.sink.now) (tt {0}); text = c.new-text.ensures.items; faults = refl }

pub returns-in_err-write_round-clause-took : goal.returns-in_err-write_round-clause-took
returns-in_err-write_round-clause-took g c =
    let p = err_from_is_err_and c.from_residual.result c.from_residual.ensures.1 in
    rw (p.1, p.2) (writes_on {C = Unit {0}} c.args.all.now.items c.loop.all.items c.write_round.new.all.items (g.K.Sink.taken c.args.sink.now) (g.K.Sink.taken c.loop.sink) (g.K.Sink.taken c.write_round.new.sink) (tt {0})
    (Err c.in_err-write_round.field-0.0) c.loop.invariant.took c.in_err-write_round.ensures.took)

pub loop-preserved-then-lies : goal.loop-preserved-then-lies
loop-preserved-then-lies g c = let i = c.loop.invariant in let w = c.in_ok-write_round.ensures in record {
  took = writes_on c.args.all.now.items c.loop.all.items c.write_round.new.all.items (g.K.Sink.taken c.args.sink.now) (g.K.Sink.taken c.loop.sink) (g.K.Sink.taken c.write_round.new.sink) (tt {0}) (Ok c.in_ok-write_round.field-0) i.took w.took;
  text = w.empty;
  faults = w.cause ∙ i.faults;
}

pub loop-preserved-else-lies : goal.loop-preserved-else-lies
loop-preserved-else-lies g c = let i = c.loop.invariant in let w = c.in_ok-write_round.ensures in record {
  took = writes_on c.args.all.now.items c.loop.all.items c.write_round.new.all.items (g.K.Sink.taken c.args.sink.now) (g.K.Sink.taken c.loop.sink) (g.K.Sink.taken c.write_round.new.sink) (tt {0}) (Ok c.in_ok-write_round.field-0) i.took w.took;
  text = w.empty;
  faults = w.cause ∙ i.faults;
}

pub returns-then-is_gone-clause-took : goal.returns-then-is_gone-clause-took
returns-then-is_gone-clause-took g c =
    writes_gone (Unit {0}) c.args.all.now.items c.write_round.new.all.items (g.K.Sink.taken c.args.sink.now) (g.K.Sink.taken c.write_round.new.sink) c.in_ok-write_round.field-0
    (writes_on c.args.all.now.items c.loop.all.items c.write_round.new.all.items (g.K.Sink.taken c.args.sink.now) (g.K.Sink.taken c.loop.sink) (g.K.Sink.taken c.write_round.new.sink) (tt {0}) (Ok c.in_ok-write_round.field-0)
    c.loop.invariant.took c.in_ok-write_round.ensures.took)

pub returns-then-is_over-clause-took : goal.returns-then-is_over-clause-took
returns-then-is_over-clause-took g c =
    writes_on c.args.all.now.items c.loop.all.items c.write_round.new.all.items (g.K.Sink.taken c.args.sink.now) (g.K.Sink.taken c.loop.sink) (g.K.Sink.taken c.write_round.new.sink) (tt {0}) (Ok c.in_ok-write_round.field-0)
    c.loop.invariant.took c.in_ok-write_round.ensures.took

pub loop-preserved-then-lies-2 : goal.loop-preserved-then-lies-2
loop-preserved-then-lies-2 g c = let i = c.loop.invariant in let w = c.in_ok-write_round.ensures in record {
  took = writes_on c.args.all.now.items c.loop.all.items c.write_round.new.all.items (g.K.Sink.taken c.args.sink.now) (g.K.Sink.taken c.loop.sink) (g.K.Sink.taken c.write_round.new.sink) (tt {0}) (Ok c.in_ok-write_round.field-0) i.took w.took;
  text = w.empty;
  faults = w.cause ∙ i.faults;
}

pub loop-preserved : goal.loop-preserved
loop-preserved g c = let i = c.loop.invariant in let w = c.in_ok-write_round.ensures in record {
  took = writes_on c.args.all.now.items c.loop.all.items c.write_round.new.all.items (g.K.Sink.taken c.args.sink.now) (g.K.Sink.taken c.loop.sink) (g.K.Sink.taken c.write_round.new.sink) (tt {0}) (Ok c.in_ok-write_round.field-0) i.took w.took;
  text = w.empty;
  faults = w.cause ∙ i.faults;
}
