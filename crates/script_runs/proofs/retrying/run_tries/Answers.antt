use Rattle.std.proofs.Common.{◌∙◌, refl, ap, subst}
use Rattle.script_runs.proofs.Tries.{no_try, tries_done, tries_stopped, tries_stopped_between, tries_go_on, trying_later, tried_later, can_retry, idle_when_done, try_of}
use Rattle.clv_base.specs.Shards.{are_splits}
use Rattle.script_runs.specs.Ran.{NextIs}
use Rattle.script_runs.proofs.Kept.{adds_none}
use Rattle.script_runs.proofs.KeptTries.{adds_on, fate_on}
use Rattle.script_runs.proofs.retrying.run_tries.Goals as goal

pub loop-init : goal.loop-init
loop-init g c = record {
  session = c.requires.session;
  fresh = c.requires.fresh;
  base = refl;
  misses = λ tx n es h. h;
  trying = λ tx birth active serial run session. record {
    so = no_try (g.C.SessionCalls.missed c.args.session.now) c.args.transaction.now tx birth c.args.most (g.C.SessionCalls.seen c.args.session.now) active serial run session;
    fate_is = refl;
    adds = adds_none c.args.book.now;
  };
}

pub run_try-made-requires-clause-begun : goal.run_try-made-requires-clause-begun
run_try-made-requires-clause-begun g c =
    let b = c.requires.begun in
    let d = (c.loop.invariant.trying b.0 b.1 b.2 b.3 b.4 b.5).so in
    (d.tx, b.1, d.active)

pub run_try-made-requires-clause-splits : goal.run_try-made-requires-clause-splits
run_try-made-requires-clause-splits g c =
    let b = c.requires.begun in
    let d = (c.loop.invariant.trying b.0 b.1 b.2 b.3 b.4 b.5).so in
    ap are_splits (d.grows).splits_are ∙ c.requires.splits

pub retry-requires-clause-ended : goal.retry-requires-clause-ended
retry-requires-clause-ended g c =
    let b = c.requires.begun in
    let d = (c.loop.invariant.trying b.0 b.1 b.2 b.3 b.4 b.5).so in
    let t = (c.run_try-made.ensures.kept d.tx b.1 d.active).tried in
    let p = subst (NextIs c.run_try-made.result.end c.args.most c.loop.tried) c.in-Again.is c.next_after.ensures in
    (b.1, can_retry b.1 c.run_try-made.result.end (g.C.SessionCalls.seen c.run_try-made.new.session).standing t.left p.0)

pub loop-preserved : goal.loop-preserved
loop-preserved g c = record {
  session = c.in-Ok.ensures.session;
  fresh = c.in-Ok.ensures.going;
  base = c.in-Ok.ensures.base ∙ (c.run_try-made.ensures.base ∙ c.loop.invariant.base);
  misses = λ tx n es h. c.in-Ok.ensures.misses tx n es (c.run_try-made.ensures.misses tx n es (c.loop.invariant.misses tx n es h));
  trying = λ tx birth active serial run session.
      let h = c.loop.invariant.trying tx birth active serial run session in
      let d = h.so in
      let k = c.run_try-made.ensures.kept d.tx birth d.active in
      let t = k.tried in
      record {
        so = tries_go_on (g.C.SessionCalls.missed c.retry.new.self) c.args.transaction.now tx birth c.args.most c.loop.tried c.next_number-tried.result c.run_try-made.result.end c.next_after.result (g.C.SessionCalls.seen c.args.session.now) (g.C.SessionCalls.seen c.loop.session)
            (g.C.SessionCalls.seen c.run_try-made.new.session) (g.C.SessionCalls.seen c.retry.new.self)
            (trying_later (g.C.SessionCalls.missed c.loop.session) (g.C.SessionCalls.missed c.retry.new.self) c.args.transaction.now tx birth c.args.most c.loop.tried (g.C.SessionCalls.seen c.args.session.now) (g.C.SessionCalls.seen c.loop.session) (λ tx n es h. c.in-Ok.ensures.misses tx n es (c.run_try-made.ensures.misses tx n es h)) d)
            (tried_later (g.C.SessionCalls.missed c.run_try-made.new.session) (g.C.SessionCalls.missed c.retry.new.self) c.args.transaction.now d.tx birth c.run_try-made.result.end (g.C.SessionCalls.seen c.loop.session) (g.C.SessionCalls.seen c.run_try-made.new.session) c.in-Ok.ensures.misses t)
            c.in-Again.is c.next_after.ensures c.in-Ok.ensures.told c.next_number-tried.ensures;
        fate_is = fate_on d.tries (try_of (g.C.SessionCalls.missed c.run_try-made.new.session) c.args.transaction.now d.tx birth c.run_try-made.result.end (g.C.SessionCalls.seen c.loop.session) (g.C.SessionCalls.seen c.run_try-made.new.session) t) c.later_fate-fate.result c.run_try-made.result.fate c.loop.fate c.later_fate-fate.ensures k.fate_is h.fate_is;
        adds = adds_on d.tries (try_of (g.C.SessionCalls.missed c.run_try-made.new.session) c.args.transaction.now d.tx birth c.run_try-made.result.end (g.C.SessionCalls.seen c.loop.session) (g.C.SessionCalls.seen c.run_try-made.new.session) t) c.args.book.now c.loop.book c.run_try-made.new.book h.adds k.adds;
      };
}

pub returns-in-Err-clause-kept : goal.returns-in-Err-clause-kept
returns-in-Err-clause-kept g c tx birth active serial run session =
    let h = c.loop.invariant.trying tx birth active serial run session in
    let d = h.so in
    let k = c.run_try-made.ensures.kept d.tx birth d.active in
    let t = k.tried in
    record {
      told = tries_stopped_between (g.C.SessionCalls.missed c.retry.new.self) c.args.transaction.now tx birth c.args.most c.loop.tried c.run_try-made.result.end c.next_after.result c.in-Err.cause (g.C.SessionCalls.seen c.args.session.now) (g.C.SessionCalls.seen c.loop.session)
          (g.C.SessionCalls.seen c.run_try-made.new.session) (g.C.SessionCalls.seen c.retry.new.self)
          (trying_later (g.C.SessionCalls.missed c.loop.session) (g.C.SessionCalls.missed c.retry.new.self) c.args.transaction.now tx birth c.args.most c.loop.tried (g.C.SessionCalls.seen c.args.session.now) (g.C.SessionCalls.seen c.loop.session) (λ tx n es h. c.in-Err.ensures.misses tx n es (c.run_try-made.ensures.misses tx n es h)) d)
          (tried_later (g.C.SessionCalls.missed c.run_try-made.new.session) (g.C.SessionCalls.missed c.retry.new.self) c.args.transaction.now d.tx birth c.run_try-made.result.end (g.C.SessionCalls.seen c.loop.session) (g.C.SessionCalls.seen c.run_try-made.new.session) c.in-Err.ensures.misses t)
          c.in-Again.is c.next_after.ensures c.in-Err.ensures.told;
      fate_is = fate_on d.tries (try_of (g.C.SessionCalls.missed c.run_try-made.new.session) c.args.transaction.now d.tx birth c.run_try-made.result.end (g.C.SessionCalls.seen c.loop.session) (g.C.SessionCalls.seen c.run_try-made.new.session) t) c.later_fate-fate.result c.run_try-made.result.fate c.loop.fate c.later_fate-fate.ensures k.fate_is h.fate_is;
      adds = adds_on d.tries (try_of (g.C.SessionCalls.missed c.run_try-made.new.session) c.args.transaction.now d.tx birth c.run_try-made.result.end (g.C.SessionCalls.seen c.loop.session) (g.C.SessionCalls.seen c.run_try-made.new.session) t) c.args.book.now c.loop.book c.run_try-made.new.book h.adds k.adds;
    }

pub returns-in-Done-clause-kept : goal.returns-in-Done-clause-kept
returns-in-Done-clause-kept g c tx birth active serial run session =
    let h = c.loop.invariant.trying tx birth active serial run session in
    let d = h.so in
    let k = c.run_try-made.ensures.kept d.tx birth d.active in
    let t = k.tried in
    record {
      told = tries_done (g.C.SessionCalls.missed c.run_try-made.new.session) c.args.transaction.now tx birth c.args.most c.loop.tried c.run_try-made.result.end c.next_after.result (g.C.SessionCalls.seen c.args.session.now) (g.C.SessionCalls.seen c.loop.session)
          (g.C.SessionCalls.seen c.run_try-made.new.session)
          (trying_later (g.C.SessionCalls.missed c.loop.session) (g.C.SessionCalls.missed c.run_try-made.new.session) c.args.transaction.now tx birth c.args.most c.loop.tried (g.C.SessionCalls.seen c.args.session.now) (g.C.SessionCalls.seen c.loop.session) c.run_try-made.ensures.misses d) t
          c.in-Done.is c.next_after.ensures;
      fate_is = fate_on d.tries (try_of (g.C.SessionCalls.missed c.run_try-made.new.session) c.args.transaction.now d.tx birth c.run_try-made.result.end (g.C.SessionCalls.seen c.loop.session) (g.C.SessionCalls.seen c.run_try-made.new.session) t) c.later_fate-fate.result c.run_try-made.result.fate c.loop.fate c.later_fate-fate.ensures k.fate_is h.fate_is;
      adds = adds_on d.tries (try_of (g.C.SessionCalls.missed c.run_try-made.new.session) c.args.transaction.now d.tx birth c.run_try-made.result.end (g.C.SessionCalls.seen c.loop.session) (g.C.SessionCalls.seen c.run_try-made.new.session) t) c.args.book.now c.loop.book c.run_try-made.new.book h.adds k.adds;
    }

pub returns-in-Done-clause-idle : goal.returns-in-Done-clause-idle
returns-in-Done-clause-idle g c =
    let b = c.requires.begun in
    let d = (c.loop.invariant.trying b.0 b.1 b.2 b.3 b.4 b.5).so in
    let t = (c.run_try-made.ensures.kept d.tx b.1 d.active).tried in
    idle_when_done b.1 c.run_try-made.result.end c.args.most c.loop.tried c.next_after.result (g.C.SessionCalls.seen c.run_try-made.new.session) t.left c.in-Done.is c.next_after.ensures

pub returns-in-Stop-clause-kept : goal.returns-in-Stop-clause-kept
returns-in-Stop-clause-kept g c tx birth active serial run session =
    let h = c.loop.invariant.trying tx birth active serial run session in
    let d = h.so in
    let k = c.run_try-made.ensures.kept d.tx birth d.active in
    let t = k.tried in
    record {
      told = tries_stopped (g.C.SessionCalls.missed c.run_try-made.new.session) c.args.transaction.now tx birth c.args.most c.loop.tried c.run_try-made.result.end c.next_after.result c.in-Stop.cause (g.C.SessionCalls.seen c.args.session.now) (g.C.SessionCalls.seen c.loop.session)
          (g.C.SessionCalls.seen c.run_try-made.new.session)
          (trying_later (g.C.SessionCalls.missed c.loop.session) (g.C.SessionCalls.missed c.run_try-made.new.session) c.args.transaction.now tx birth c.args.most c.loop.tried (g.C.SessionCalls.seen c.args.session.now) (g.C.SessionCalls.seen c.loop.session) c.run_try-made.ensures.misses d) t
          c.in-Stop.is c.next_after.ensures;
      fate_is = fate_on d.tries (try_of (g.C.SessionCalls.missed c.run_try-made.new.session) c.args.transaction.now d.tx birth c.run_try-made.result.end (g.C.SessionCalls.seen c.loop.session) (g.C.SessionCalls.seen c.run_try-made.new.session) t) c.later_fate-fate.result c.run_try-made.result.fate c.loop.fate c.later_fate-fate.ensures k.fate_is h.fate_is;
      adds = adds_on d.tries (try_of (g.C.SessionCalls.missed c.run_try-made.new.session) c.args.transaction.now d.tx birth c.run_try-made.result.end (g.C.SessionCalls.seen c.loop.session) (g.C.SessionCalls.seen c.run_try-made.new.session) t) c.args.book.now c.loop.book c.run_try-made.new.book h.adds k.adds;
    }
