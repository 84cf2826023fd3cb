use Rattle.std.proofs.Common.{sym, subst, refl, ◌∙◌, ◌++◌, ℕ, [], length-take, length-append, length-drop, Option, Ok, arith}
use Rattle.std.proofs.lemmas.Result.{err_from_is_err_and}
use Rattle.live_lines.specs.Cutting.{none_begun}
use Rattle.live_streams.specs.Steps.{HandsEnded, ReadsSome}
use Rattle.live_streams.specs.declared.reading.Read.{Read}
use Rattle.live_streams.proofs.Taking.{none_consumed, consumed_on, none_ended, ended_on, reads_nothing, reads_to, reads_failed}
use Rattle.live_streams.proofs.reading.Reader.read_until_over.Goals as goal

pub returns-in_err-piece-clause-read : goal.returns-in_err-piece-clause-read
returns-in_err-piece-clause-read g c =
    let p = err_from_is_err_and c.from_residual.result c.from_residual.ensures.1 in
    rw (p.1, p.2) (reads_nothing (g.S.Source.left c.args.source.now) c.args.self.now.lines.items c.args.self.now.own.answers)

pub returns-in_err-cutter-clause-read : goal.returns-in_err-cutter-clause-read
returns-in_err-cutter-clause-read g c =
    let p = err_from_is_err_and c.from_residual-in_err-cutter.result c.from_residual-in_err-cutter.ensures.1 in
    rw (p.1, p.2) (reads_nothing (g.S.Source.left c.args.source.now) c.args.self.now.lines.items c.args.self.now.own.answers)

pub loop-init : goal.loop-init
loop-init g c =
    let lines = c.args.self.now.lines.items in
    let own = c.args.self.now.own.answers in
    record {
      bytes = [];
      consumes = none_consumed (g.S.Source.left c.args.source.now);
      ended = subst (λ k. HandsEnded none_begun k [] lines lines own own) (sym c.in_ok-cutter.ensures) (none_ended none_begun lines own);
      room = omega (arith, c.in_ok-piece.ensures);
      fine = refl;
    }

pub loop-preserved : goal.loop-preserved
loop-preserved g c =
    let i = c.loop.invariant in
    let step = subst (λ (x : Option Read). ReadsSome (g.S.Source.left c.loop.source) (g.S.Source.left c.read_some.new.source) c.loop.cutter c.read_some.new.cutter c.loop.self.lines.items c.read_some.new.self.lines.items c.loop.self.own.answers c.read_some.new.self.own.answers (Ok x)) c.in_default.is c.in_ok-read.ensures.read in
    record {
      bytes = i.bytes ++ step.0;
      consumes = consumed_on (g.S.Source.left c.args.source.now) (g.S.Source.left c.loop.source) (g.S.Source.left c.read_some.new.source) i.bytes step.0 i.consumes step.1;
      ended =
          ended_on none_begun c.loop.cutter c.read_some.new.cutter i.bytes step.0 c.args.self.now.lines.items c.loop.self.lines.items c.read_some.new.self.lines.items
          c.args.self.now.own.answers c.loop.self.own.answers c.read_some.new.self.own.answers i.ended step.2;
      room = omega (arith, i.room, c.loop.piece.ok.0, length-take {A = ℕ}, length-append {A = ℕ}, length-drop {A = ℕ});
      fine = c.in_ok-read.ensures.cause ∙ i.fine;
    }

pub returns-in_err-read-clause-read : goal.returns-in_err-read-clause-read
returns-in_err-read-clause-read g c =
    let i = c.loop.invariant in
    let p = err_from_is_err_and c.from_residual-in_err-read.result c.from_residual-in_err-read.ensures.1 in
    rw (p.1, p.2)
    (reads_failed (g.S.Source.left c.args.source.now) (g.S.Source.left c.loop.source) (g.S.Source.left c.read_some.new.source) i.bytes c.loop.cutter c.read_some.new.cutter
    c.args.self.now.lines.items c.loop.self.lines.items c.read_some.new.self.lines.items c.args.self.now.own.answers c.loop.self.own.answers c.read_some.new.self.own.answers
    c.in_err-read.field-0.0 i.consumes i.ended c.in_err-read.ensures.read)

pub returns-in-Some-2-clause-read : goal.returns-in-Some-2-clause-read
returns-in-Some-2-clause-read g c =
    let i = c.loop.invariant in
    let step = subst (λ (x : Option Read). ReadsSome (g.S.Source.left c.loop.source) (g.S.Source.left c.read_some.new.source) c.loop.cutter c.read_some.new.cutter c.loop.self.lines.items c.read_some.new.self.lines.items c.loop.self.own.answers c.read_some.new.self.own.answers (Ok x)) c.in-Some-2.is c.in_ok-read.ensures.read in
    reads_to (g.S.Source.left c.args.source.now) (g.S.Source.left c.loop.source) (g.S.Source.left c.read_some.new.source) i.bytes c.loop.cutter c.read_some.new.cutter
    c.args.self.now.lines.items c.loop.self.lines.items c.read_some.new.self.lines.items c.args.self.now.own.answers c.loop.self.own.answers c.read_some.new.self.own.answers
    c.in-Some-2.read i.consumes i.ended step
