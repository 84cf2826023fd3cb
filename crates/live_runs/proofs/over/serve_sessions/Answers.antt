use Rattle.std.proofs.Common.{arith, ◌∙◌, suc, ◌+◌, ◌-◌, ◌^◌, ◌<◌, ◌≤◌, max, get_or, length, sym, ap, subst, IfErr}
use Rattle.std.specs.List.{AllByRecursion}
use Rattle.cluster_turns.specs.Walkers.{kept}
use Rattle.cluster_turns.specs.Dates.{last_seen}
use Rattle.session_api.specs.Grounds.{Grounds}
use Rattle.session_api.specs.Standing.{IsAtRest}
use Rattle.session_api.proofs.Laws.{new_walkers_keep_none, new_walkers_rest}
use Rattle.script_runs.specs.Sessions.{session_entries}
use Rattle.cluster_runs.specs.Sessions.{base_from}
use Rattle.cluster_runs.proofs.Laws.{session_worn, one_worn}
use Rattle.live_runs.specs.Lived.{Lived}
use Rattle.live_runs.proofs.Walking.{no_life, nothing_served, all_lived, dated_from}
use Rattle.live_runs.proofs.over.serve_sessions.Goals as goal
use Rattle.law_base.proofs.Lists.{elem_at as some_elem}

-- ---- where there was no memory for places

pub returns-in_default-clause-rest : goal.returns-in_default-clause-rest
returns-in_default-clause-rest g c = λ k d l. new_walkers_rest _ _ _ c.args.shards.now (suc k) 0 _ (c.requires.new k d l)

pub returns-in_default-clause-lived : goal.returns-in_default-clause-lived
returns-in_default-clause-lived g c =
    let r = c.served_nothing.result in
    (no_life, nothing_served c.args.shards.now c.args.sessions c.args.walkers.now.items (g.S.Source.left c.args.source.now) (g.K.Sink.taken c.args.sink.now) _ r.end r.read r.written c.served_nothing.ensures c.requires.none c.requires.new)

pub returns-in_default-clause-later : goal.returns-in_default-clause-later
returns-in_default-clause-later g c = λ k d l. subst (λ h. AllByRecursion (λ e. c.args.clock < (e.1).stamp) (session_entries h)) (sym (new_walkers_keep_none _ _ _ c.args.shards.now (suc k) 0 _ (c.requires.new k d l))) tt

-- ---- behind them

pub returns-clause-rest : goal.returns-clause-rest
returns-clause-rest g c =
    let S = c.serve_placed-read.new.places in let okS = S.ok in let many = c.serve_placed-read.ensures.len in let took = c.take_places-places.ensures.len.2 in let (lives, each, streamed) = c.serve_placed-read.ensures.lived in
    λ k d l. (let e = some_elem S.items k (omega arith) in subst (λ w. IsAtRest c.args.shards.now (suc k) w) (sym (c.leave_places.ensures.walkers k d e (omega arith))) (each k e (omega arith)).rest)

pub returns-clause-later : goal.returns-clause-later
returns-clause-later g c =
    let S = c.serve_placed-read.new.places in let okS = S.ok in let many = c.serve_placed-read.ensures.len in let took = c.take_places-places.ensures.len.2 in let (lives, each, streamed) = c.serve_placed-read.ensures.lived in
    λ k d l. (let e = some_elem S.items k (omega arith) in
    subst (λ w. AllByRecursion (λ e. c.args.clock < (e.1).stamp) (session_entries (kept w.passes.items))) (sym (c.leave_places.ensures.walkers k d e (omega arith))) (each k e (omega arith)).later)

pub returns-clause-lived : goal.returns-clause-lived
returns-clause-lived g c =
    let S = c.serve_placed-read.new.places in let okS = S.ok in let many = c.serve_placed-read.ensures.len in let took = c.take_places-places.ensures.len.2 in let (lives, each, streamed) = c.serve_placed-read.ensures.lived in
    let sh = c.args.shards.now in let r = c.serve_placed-read.result in let left = g.S.Source.left in let taken = g.K.Sink.taken in (
      lives,
      all_lived sh c.args.sessions _ c.leave_places.new.walkers.items lives (left c.args.source.now) (left c.serve_placed-read.new.source) (taken c.args.sink.now) (taken c.serve_placed-read.new.sink) r.read r.written c.gravest-end.result took streamed
          (λ k d l. (let e = some_elem S.items k (omega arith) in
          subst (λ w. Lived sh.splits sh.run (suc k) (lives (suc k)) (session_entries (kept w.passes.items))) (sym (c.leave_places.ensures.walkers k d e (omega arith))) (each k e (omega arith)).lived))
          (λ d. ap (λ w. w.serial) (c.leave_places.ensures.first d) ∙ (ap (λ w. w.serial) (c.take_places-places.ensures.first d) ∙ c.requires.none d))
          (λ k d l. (let e = some_elem S.items k (omega arith) in
          subst (λ w. w.serial ≤ length (lives (suc k)).asked) (sym (c.leave_places.ensures.walkers k d e (omega arith))) (each k e (omega arith)).few)),
    )

pub returns-clause-worn : goal.returns-clause-worn
returns-clause-worn g c =
    let S = c.serve_placed-read.new.places in let okS = S.ok in let many = c.serve_placed-read.ensures.len in let took = c.take_places-places.ensures.len.2 in let (lives, each, streamed) = c.serve_placed-read.ensures.lived in
    let ws = c.leave_places.new.walkers.items in let len = c.leave_places.ensures.len in let okW = c.leave_places.new.walkers.ok in
    λ d start at is. (
    let one = one_worn c.as_slice.result.now S.items (λ x. x.ended) c.gravest-end.result at c.as_slice.ensures.value is c.gravest-end.ensures.one in
    let k = one.0 in
    let e = some_elem S.items k one.1 in
    let sat = each k e (omega arith) in
    let ground = subst (λ x. IfErr x (Grounds (get_or S.items k e).session.session.walker)) (one.2 e) sat.grounds in
    let there = c.leave_places.ensures.walkers k d e (omega arith) in (
      ground.0,
      session_worn ws c.args.clock c.args.clock k d (omega arith) start (omega arith)
          (subst (λ w. w.clock ≤ w.serial + max (base_from c.args.clock c.args.clock k) (last_seen w.passes.items)) (sym there) (dated_from c.args.clock k _ _ _ sat.dated)) (subst (λ w. 2 ^ 48 - 1 ≤ w.clock) (sym there) ground.1),
    ))
