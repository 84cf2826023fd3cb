use Rattle.std.proofs.Common.{subst, Ok, Err}
use Rattle.script_runs.specs.Lines.{LinesTold}
use Rattle.script_runs.proofs.Kept.{kept_whole, kept_part, adds_none}
use Rattle.script_runs.proofs.trying.run_try.Goals as goal

pub returns-in-Ok-clause-kept : goal.returns-in-Ok-clause-kept
returns-in-Ok-clause-kept g c tx birth is =
    let u = g.C.SessionCalls.seen c.args.session.now in
    let w = g.C.SessionCalls.seen c.do_lines.new.session in
    let t = subst (λ ls. LinesTold tx birth ls (Ok c.in-Ok.done) u w) c.actions.ensures (c.in-Ok.ensures.told tx birth is) in
    kept_whole (g.C.SessionCalls.missed c.end_as.new.session) c.args.transaction.now tx birth c.ending.result c.end_as.result.end c.end_as.result.fate c.args.book.now c.end_as.new.book c.in-Ok.done u w (g.C.SessionCalls.seen c.end_as.new.session)
    t.0 t.1 c.ending.ensures t.2 c.requires.splits c.requires.narrow c.end_as.ensures.kept

pub returns-in-Err-clause-kept : goal.returns-in-Err-clause-kept
returns-in-Err-clause-kept g c tx birth is =
    let u = g.C.SessionCalls.seen c.args.session.now in
    let x = g.C.SessionCalls.seen c.do_lines.new.session in
    let t = subst (λ ls. LinesTold tx birth ls (Err c.in-Err.end) u x) c.actions.ensures (c.in-Err.ensures.told tx birth is) in
    kept_part (g.C.SessionCalls.missed c.give_up.new.session) c.args.transaction.now tx birth c.in-Err.end c.fate_of-fate.result c.args.book.now c.args.book.now c.has_touched-touched.result u t.0 x (g.C.SessionCalls.seen c.give_up.new.session) t.1 t.2
    c.give_up.ensures.told c.has_touched-touched.ensures c.fate_of-fate.ensures (adds_none c.args.book.now)
