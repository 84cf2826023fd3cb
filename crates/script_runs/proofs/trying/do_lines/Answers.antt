use Rattle.std.proofs.Common.{◌∙◌, refl, sym, subst}
use Rattle.script_lang.specs.Places.{IsNext}
use Rattle.script_runs.specs.Acts.{answers_in}
use Rattle.script_runs.specs.Lines.{way_by, Doing}
use Rattle.script_runs.proofs.Stepping.{nothing_done}
use Rattle.script_runs.proofs.trying.do_lines.Goals as goal

pub loop-init : goal.loop-init
loop-init g c = record {
  session = c.requires.session;
  base = refl;
  misses = λ tx n es h. h;
  doing = λ tx birth is.
      let u = g.C.SessionCalls.seen c.args.session.now in
      let going = g.C.SessionCalls.going c.args.session.now in
      subst (Doing tx birth c.args.lines.now u u going c.new-following.result) (sym c.new-done.ensures.items) (nothing_done tx birth c.args.lines.now u going c.new-following.result is c.requires.fresh c.new-following.ensures);
}

pub returns-in_default-clause-told : goal.returns-in_default-clause-told
returns-in_default-clause-told g c tx birth is =
    let d = c.loop.invariant.doing tx birth is in
    let none = subst (IsNext c.args.lines.now (answers_in d.done.acts) (way_by d.over d.done.acts)) c.in_default.is (c.next-in-loop.ensures.next c.args.lines.now (answers_in d.done.acts) (way_by d.over d.done.acts) d.place) in
    (d.done, none, c.new.ensures ∙ d.acts_are)

pub returns-in_default-clause-whole : goal.returns-in_default-clause-whole
returns-in_default-clause-whole g c = let b = c.requires.begun in let d = c.loop.invariant.doing b.0 b.1 b.2 in (d.over, d.going_is)

pub do_step-requires-clause-doing : goal.do_step-requires-clause-doing
do_step-requires-clause-doing g c =
    let b = c.requires.begun in (b.0, b.1, c.args.lines.now, g.C.SessionCalls.seen c.args.session.now, c.requires.narrow, c.loop.invariant.doing b.0 b.1 b.2)

pub do_step-requires-clause-next : goal.do_step-requires-clause-next
do_step-requires-clause-next g c = sym c.next-in-loop.ensures.step ∙ c.in-Some-next.is

pub loop-preserved : goal.loop-preserved
loop-preserved g c = record {
  session = c.in-Ok.ensures.session;
  base = c.in-Ok.ensures.base ∙ c.loop.invariant.base;
  misses = λ tx n es h. c.in-Ok.ensures.misses tx n es (c.loop.invariant.misses tx n es h);
  doing = λ tx birth is. c.in-Ok.ensures.told tx birth c.args.lines.now (g.C.SessionCalls.seen c.args.session.now) (c.loop.invariant.doing tx birth is);
}

pub returns-in-Err-clause-told : goal.returns-in-Err-clause-told
returns-in-Err-clause-told g c tx birth is = c.in-Err.ensures.told tx birth c.args.lines.now (g.C.SessionCalls.seen c.args.session.now) (c.loop.invariant.doing tx birth is)
