use Rattle.std.proofs.Common.{arith, ◌≡◌, ◌∙◌, ap, ⊎_elim, suc, ◌+◌, ◌<◌, ◌≤◌, sym, subst, get_or, set}
use Rattle.std.specs.List.{AllByRecursion}
use Rattle.cluster_opening.specs.Made.{IsNewWalker}
use Rattle.cluster_turns.specs.Walkers.{kept}
use Rattle.cluster_turns.specs.Dates.{last_seen}
use Rattle.script_runs.specs.Sessions.{session_entries}
use Rattle.session_api.specs.Standing.{IsAtRest}
use Rattle.session_api.proofs.Laws.{new_walkers_rest}
use Rattle.cluster_runs.specs.Drained.{WasSettled}
use Rattle.cluster_runs.proofs.Laws.{rest_still, worn_later, drain_worn, worn_still}
use Rattle.live_runs.proofs.Walking.{no_life, nothing_served, nothing_drained, behind, here, all_rest, lived_still, drained_still}
use Rattle.live_runs.proofs.over.serve_over.Goals as goal

pub drain_all-requires : goal.drain_all-requires
drain_all-requires g c = record {
  rest = subst (λ w. IsAtRest c.args.shards.now 0 w) (sym c.index_mut.ensures.value) (new_walkers_rest _ _ _ c.args.shards.now 0 0 _ (c.requires.new 0 c.index_mut.result.now (omega arith)));
}

-- ---- where the first drain didn't go well

pub returns-in-Err-clause-rest : goal.returns-in-Err-clause-rest
returns-in-Err-clause-rest g c = let count = c.requires.count in let ok = c.args.walkers.now.ok in
    all_rest c.args.shards.now c.args.sessions c.args.walkers.now.items c.drain_all.new.walker (omega arith) c.drain_all.ensures.rest
    (λ k d l. new_walkers_rest _ _ _ c.args.shards.now (suc k) 0 _ (c.requires.new (suc k) d (omega arith)))

pub returns-in-Err-clause-lived : goal.returns-in-Err-clause-lived
returns-in-Err-clause-lived g c =
    let count = c.requires.count in let ok = c.args.walkers.now.ok in let sh = c.args.shards.now in let ws = c.args.walkers.now.items in let v = c.drain_all.new.walker in let r = c.served_nothing.result in
    let new : (k : _) (d : _) → k < c.args.sessions → IsNewWalker sh (suc k) 0 (get_or (set ws 0 v) (suc k) d) =
    λ k d l. subst (λ w. IsNewWalker sh (suc k) 0 w) (sym (behind sh ws v d k)) (c.requires.new (suc k) d (omega arith)) in
    let none : v.serial ≡ 0 = (let s = c.drain_all.ensures.serial in let at = ap (λ w. w.serial) c.index_mut.ensures.value in let first = (c.requires.new 0 c.index_mut.result.now (omega arith)).none_begun in omega arith) in (
      no_life,
      nothing_served sh c.args.sessions (set ws 0 v) (g.S.Source.left c.args.source.now) (g.K.Sink.taken c.args.sink.now) _ r.end r.read r.written c.served_nothing.ensures (λ d. ap (λ w. w.serial) (here sh ws v d (omega arith)) ∙ none) new,
      nothing_drained sh c.args.sessions (set ws 0 v) new,
    )

-- ---- behind the last one

pub returns-clause-rest : goal.returns-clause-rest
returns-clause-rest g c = let count = c.requires.count in let many = c.serve_sessions-served.ensures.len in let ok = c.serve_sessions-served.new.walkers.ok in let ok0 = c.args.walkers.now.ok in
    let sh = c.args.shards.now in let us = c.serve_sessions-served.new.walkers.items in let (v, has, looked) = c.drain_last-last.ensures.drained in
    rest_still sh (set us 0 v) c.drain_last-last.new.walkers.items looked (c.args.sessions + 1)
    (all_rest sh c.args.sessions us v (omega arith) (has c.index.result.now).rest c.serve_sessions-served.ensures.rest)

pub returns-clause-lived : goal.returns-clause-lived
returns-clause-lived g c =
    let (lives, lived) = c.serve_sessions-served.ensures.lived in let sh = c.args.shards.now in let ws = c.args.walkers.now.items in let first = c.drain_all.new.walker in
    let us = c.serve_sessions-served.new.walkers.items in let vs = c.drain_last-last.new.walkers.items in let (v, has, looked) = c.drain_last-last.ensures.drained in
    let count = c.requires.count in let many = c.serve_sessions-served.ensures.len in let ok = c.serve_sessions-served.new.walkers.ok in let ok0 = c.args.walkers.now.ok in
    let clock : c.index.result.now ≡ first = c.index.ensures ∙ here sh ws first c.index.result.now (omega arith) in
    let d = c.index.result.now in
    let last : get_or us 0 d ≡ first = c.serve_sessions-served.ensures.first d ∙ here sh ws first d (omega arith) in
    let none : v.serial ≡ 0 = (let s = (has d).serial in let t = ap (λ w. w.serial) last in let f = c.drain_all.ensures.serial in let at = ap (λ w. w.serial) c.index_mut.ensures.value in
    let new = (c.requires.new 0 c.index_mut.result.now (omega arith)).none_begun in omega arith) in
    let r = c.serve_sessions-served.result in let left = g.S.Source.left in let taken = g.K.Sink.taken in (
      lives,
      lived_still sh us vs v (omega arith) looked c.args.sessions lives (left c.args.source.now) (left c.serve_sessions-served.new.source) (taken c.args.sink.now) (taken c.serve_sessions-served.new.sink) r.read r.written r.end c.graver.result
          (λ fine. (c.graver.ensures.fine fine).0) none lived,
      drained_still sh us vs v (omega arith) looked c.args.sessions lives first.clock
          (λ n low. (has d).stays n first.clock (subst (λ w. WasSettled n first.clock w.passes.items) (sym last) (c.in_default.ensures.settled n low)))
          (λ k e l. subst (λ w. AllByRecursion (λ x. w.clock < (x.1).stamp) (session_entries (kept (get_or us (suc k) e).passes.items))) clock (c.serve_sessions-served.ensures.later k e l)),
    )

pub returns-clause-worn : goal.returns-clause-worn
returns-clause-worn g c =
    let many = c.serve_sessions-served.ensures.len in let ok = c.serve_sessions-served.new.walkers.ok in let ok0 = c.args.walkers.now.ok in let count = c.requires.count in
    let sh = c.args.shards.now in let first = c.drain_all.new.walker in let ws = c.args.walkers.now.items in let us = c.serve_sessions-served.new.walkers.items in
    let (v, has, looked) = c.drain_last-last.ensures.drained in let d = c.index.result.now in let u = get_or us 0 d in
    let there : (e : _) → get_or (set ws 0 first) 0 e ≡ first = λ e. here sh ws first e (omega arith) in
    let same : (e : _) → get_or us 0 e ≡ first = λ e. c.serve_sessions-served.ensures.first e ∙ there e in
    let new = c.requires.new 0 c.index_mut.result.now (omega arith) in
    let zero = new.clock_is in
    let start = ap (λ w. w.clock) c.index_mut.ensures.value in
    let dated = c.drain_all.ensures.dated.1 in
    let low : first.clock ≤ last_seen first.passes.items = omega arith in
    let more = (has d).dated in
    let at_u = ap (λ w. last_seen w.passes.items) (same d) in
    let clock_u = ap (λ w. w.clock) (same d) in
    let serial_u = ap (λ w. w.serial) (same d) in
    let serial = (has d).serial in
    worn_later sh (set us 0 v) c.drain_last-last.new.walkers.items looked c.graver.result
    (λ at is. ⊎_elim
    (λ ran. let told = c.serve_sessions-served.ensures.worn d (let f = ap (λ w. last_seen w.passes.items) (same d) in let k = ap (λ w. w.clock) (c.index.ensures ∙ there d) in omega arith) at (sym ran ∙ is) in
    (told.0, worn_still us v (λ e. (let f = ap (λ w. last_seen w.passes.items) (same e) in let m = more.0 in omega arith)) (λ e. (let f = ap (λ w. w.serial) (same e) in omega arith)) told.1))
    (λ end. let told = (has d).worn at (sym end ∙ is) in (told.0, drain_worn us v (omega arith) (let z = more.1 in let m = more.0 in omega arith) told.1))
    c.graver.ensures.one)
