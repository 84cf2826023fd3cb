use Rattle.std.proofs.Common.{◌∙◌, ◌<◌, sym, subst, inl}
use Rattle.script_runs.specs.Ran.{stop_in}
use Rattle.script_runs.specs.Books.{total}
use Rattle.script_runs.proofs.Tries.{ran}
use Rattle.script_runs.proofs.KeptTries.{few_before, transaction_kept, kept_unbegun}
use Rattle.script_runs.proofs.retrying.run_transaction.Goals as goal

pub count-requires : goal.count-requires
count-requires g c =
    let t = c.in-Ok.ensures.told in
    let b = t.4 in
    subst (λ n. total c.run_tries-tries.new.book.counts < n) (sym c.clock.ensures)
    (few_before (g.C.SessionCalls.missed c.run_tries-tries.new.session) c.args.transaction.now c.args.most c.run_tries-tries.result.ended c.run_tries-tries.result.fate t.0 (g.C.SessionCalls.seen c.args.session.now) (g.C.SessionCalls.seen c.begin.new.self) (g.C.SessionCalls.seen c.run_tries-tries.new.session)
    c.args.book.now c.run_tries-tries.new.book c.run_tries-tries.new.book t.2 t.3 b
    (c.run_tries-tries.ensures.kept b.tx t.0 b.active b.serial_is (b.run_is ∙ sym (b.grows).run_is) (b.session_is ∙ sym (b.grows).walker_is)) c.requires.kept)

pub returns-in-Ok-clause-ran : goal.returns-in-Ok-clause-ran
returns-in-Ok-clause-ran g c =
    let u = g.C.SessionCalls.seen c.args.session.now in
    let v = g.C.SessionCalls.seen c.begin.new.self in
    let t = c.in-Ok.ensures.told in
    let b = t.4 in
    inl
    (ran (g.C.SessionCalls.missed c.run_tries-tries.new.session) c.args.transaction.now c.args.most (stop_in c.run_tries-tries.result.ended) t.0 u v (g.C.SessionCalls.seen c.run_tries-tries.new.session) t.1 t.2 t.3 b
    (c.run_tries-tries.ensures.kept b.tx t.0 b.active b.serial_is (b.run_is ∙ sym (b.grows).run_is) (b.session_is ∙ sym (b.grows).walker_is)).told)

pub returns-in-Ok-clause-kept : goal.returns-in-Ok-clause-kept
returns-in-Ok-clause-kept g c =
    let t = c.in-Ok.ensures.told in
    let b = t.4 in
    transaction_kept (g.C.SessionCalls.missed c.run_tries-tries.new.session) c.args.transaction.now c.args.most c.run_tries-tries.result.ended c.run_tries-tries.result.fate t.0 (g.C.SessionCalls.seen c.args.session.now) (g.C.SessionCalls.seen c.begin.new.self) (g.C.SessionCalls.seen c.run_tries-tries.new.session)
    c.args.book.now c.run_tries-tries.new.book c.count.new.book t.1 t.2 t.3 b
    (c.run_tries-tries.ensures.kept b.tx t.0 b.active b.serial_is (b.run_is ∙ sym (b.grows).run_is) (b.session_is ∙ sym (b.grows).walker_is)) c.requires.kept c.count.ensures.rows c.count.ensures.counts

pub returns-in-Ok-clause-keeps : goal.returns-in-Ok-clause-keeps
returns-in-Ok-clause-keeps g c =
    let t = c.in-Ok.ensures.told in
    let b = t.4 in
    c.count.ensures.keeps ∙ ((c.run_tries-tries.ensures.kept b.tx t.0 b.active b.serial_is (b.run_is ∙ sym (b.grows).run_is) (b.session_is ∙ sym (b.grows).walker_is)).adds).keeps_same

pub returns-in-Err-clause-kept : goal.returns-in-Err-clause-kept
returns-in-Err-clause-kept g c = kept_unbegun (g.C.SessionCalls.seen c.args.session.now) (g.C.SessionCalls.seen c.begin.new.self) c.in-Err.cause c.args.book.now c.in-Err.ensures.told c.requires.kept
