use Rattle.std.proofs.Common.{arith, ◌≡◌, ◌∙◌, suc, ◌+◌, ◌-◌, ◌^◌, ◌<◌, ◌≤◌, max, get_or, length, map, sym, ap, subst, IfErr}
use Rattle.std.specs.List.{AllByRecursion}
use Rattle.std.proofs.lemmas.List.{get_or-map, length-map}
use Rattle.std.proofs.lemmas.Option.{slice_get_within}
use Rattle.script_runs.specs.declared.ends.StopCause.TheVariants.{Memory}
use Rattle.command_line.specs.Running.{IsOk}
use Rattle.cluster_turns.specs.Walkers.{kept}
use Rattle.cluster_turns.specs.Dates.{last_seen}
use Rattle.session_api.specs.Grounds.{Grounds}
use Rattle.script_runs.specs.Sessions.{session_entries}
use Rattle.session_api.specs.Standing.{IsAtRest}
use Rattle.session_api.proofs.Laws.{new_walkers_keep_none}
use Rattle.cluster_runs.specs.PromisedSessions.{NotBegun}
use Rattle.cluster_runs.specs.Sessions.{HasSat, base_from, went_by}
use Rattle.cluster_runs.specs.Alone.{BeginsWith}
use Rattle.cluster_runs.proofs.Alone.{none_alone}
use Rattle.cluster_runs.proofs.Wearing.{session_worn, one_worn}
use Rattle.cluster_runs.proofs.Gone.{gone, none_gone, new_rest}
use Rattle.session_books.specs.Books.{IsBook}
use Rattle.cluster_runs.proofs.Books.{no_books, none_keep, all_keep}
use Rattle.cluster_runs.proofs.sessions.run_sessions.Goals as goal
use Rattle.law_base.proofs.Lists.{elem_at as some_elem}

pub returns-in_default-clause-rest : goal.returns-in_default-clause-rest
returns-in_default-clause-rest g c = λ k d l. new_rest c.args.shards.now c.args.plan.most c.args.plan.sessions.now (suc k) _ (c.requires.new k d l)

pub returns-in_default-clause-went : goal.returns-in_default-clause-went
returns-in_default-clause-went g c = (λ k. NotBegun, none_gone c.args.shards.now c.args.plan.most c.args.plan.sessions.now c.args.walkers.now.items Memory c.requires.new)

pub returns-clause-rest : goal.returns-clause-rest
returns-clause-rest g c =
    let S = c.run_seats.new.seats in let okS = S.ok in let many = c.run_seats.ensures.len in let took = c.take_seats-seats.ensures.len.2 in
    λ k d l. (let e = some_elem S.items k (omega arith) in subst (λ w. IsAtRest c.args.shards.now (suc k) w) (sym (c.leave_seats.ensures.walkers k d e (omega arith))) (c.run_seats.ensures.sat.each k e l).rest)

pub returns-clause-went : goal.returns-clause-went
returns-clause-went g c =
    let S = c.run_seats.new.seats in let okS = S.ok in let many = c.run_seats.ensures.len in let took = c.take_seats-seats.ensures.len.2 in
    let ends = map (λ s. s.ended) S.items in (
      went_by ends,
      gone c.args.shards.now c.args.plan.most c.args.plan.sessions.now c.args.clock c.run_seats.ensures.sat.base c.leave_seats.new.walkers.items ends c.gravest-end.result (length-map S.items (λ s. s.ended) ∙ (omega arith))
          (λ k d e l. (let x = some_elem S.items k (omega arith) in
          subst (λ w. HasSat c.args.shards.now c.args.clock (base_from c.args.clock c.run_seats.ensures.sat.base k) c.args.plan.most c.args.plan.sessions.now k w (get_or ends k e)) (sym (c.leave_seats.ensures.walkers k d x (omega arith)))
          (subst (λ z. HasSat c.args.shards.now c.args.clock (base_from c.args.clock c.run_seats.ensures.sat.base k) c.args.plan.most c.args.plan.sessions.now k (get_or S.items k x).session.session.walker z) (sym (get_or-map (λ s. s.ended) S.items k x e (omega arith))) (c.run_seats.ensures.sat.each k x l))))
          (λ ok k e l. (let x = some_elem S.items k (omega arith) in subst IsOk (sym (get_or-map (λ s. s.ended) S.items k x e (omega arith))) (subst (λ z. IsOk (get_or z k x).ended) c.as_slice.ensures.value (c.gravest-end.ensures.fine ok k x (let a = c.as_slice.ensures.len in omega arith))))),
    )

pub returns-in_default-clause-later : goal.returns-in_default-clause-later
returns-in_default-clause-later g c = λ k d l. subst (λ h. AllByRecursion (λ e. c.args.clock < (e.1).stamp) (session_entries h)) (sym (new_walkers_keep_none _ _ _ c.args.shards.now (suc k) 0 _ (c.requires.new k d l))) tt

pub returns-clause-later : goal.returns-clause-later
returns-clause-later g c =
    let S = c.run_seats.new.seats in let okS = S.ok in let many = c.run_seats.ensures.len in let took = c.take_seats-seats.ensures.len.2 in
    λ k d l. (let e = some_elem S.items k (omega arith) in
    subst (λ w. AllByRecursion (λ e. c.args.clock < (e.1).stamp) (session_entries (kept w.passes.items))) (sym (c.leave_seats.ensures.walkers k d e (omega arith))) (c.run_seats.ensures.sat.each k e l).later)

pub returns-in_default-clause-alone : goal.returns-in_default-clause-alone
returns-in_default-clause-alone g c = λ is. none_alone c.args.shards.now c.args.plan.most c.args.plan.sessions.now (λ k d. get_or c.args.walkers.now.items (suc k) d) c.requires.new

pub returns-clause-alone : goal.returns-clause-alone
returns-clause-alone g c =
    let S = c.run_seats.new.seats in let okS = S.ok in let many = c.run_seats.ensures.len in let took = c.take_seats-seats.ensures.len.2 in let sh = c.args.shards.now in
    λ is. (let a = c.run_seats.ensures.alone is in record {
      clock = a.clock;
      first = λ bodies d at. (let some = slice_get_within c.args.plan.sessions.now 0 bodies at in let e = some_elem S.items 0 (omega arith) in
          subst (λ w. BeginsWith sh.splits sh.run c.args.plan.most bodies a.clock (session_entries (kept w.passes.items))) (sym (c.leave_seats.ensures.walkers 0 d e (omega arith))) (a.first bodies e at));
      others = λ k d pos l. (let e = some_elem S.items k (omega arith) in
          subst (λ w. AllByRecursion (λ x. a.clock < (x.1).stamp) (session_entries (kept w.passes.items))) (sym (c.leave_seats.ensures.walkers k d e (omega arith))) (a.others k e pos l));
    })

-- ---- tries, and stamps that came to their end

pub returns-in_default-clause-counted : goal.returns-in_default-clause-counted
returns-in_default-clause-counted g c k bodies d at = let none = (c.requires.new k d (slice_get_within c.args.plan.sessions.now k bodies at)).none_begun in omega arith

pub returns-in_default-clause-worn : goal.returns-in_default-clause-worn
returns-in_default-clause-worn g c d start at is = absurd cc

pub returns-clause-counted : goal.returns-clause-counted
returns-clause-counted g c =
    let S = c.run_seats.new.seats in let okS = S.ok in let many = c.run_seats.ensures.len in let took = c.take_seats-seats.ensures.len.2 in
    λ k bodies d at. (let l = slice_get_within c.args.plan.sessions.now k bodies at in let e = some_elem S.items k (omega arith) in
    subst (λ w. w.serial ≤ length bodies + length (session_entries (kept w.passes.items))) (sym (c.leave_seats.ensures.walkers k d e (omega arith))) ((c.run_seats.ensures.sat.each k e l).few bodies at))

pub returns-clause-worn : goal.returns-clause-worn
returns-clause-worn g c =
    let S = c.run_seats.new.seats in let okS = S.ok in let many = c.run_seats.ensures.len in let took = c.take_seats-seats.ensures.len.2 in let r = c.run_seats.ensures.sat in let ws = c.leave_seats.new.walkers.items in let len = c.leave_seats.ensures.len in
    let okW = c.leave_seats.new.walkers.ok in
    λ d start at is. (
    let one = one_worn c.as_slice.result.now S.items (λ x. x.ended) c.gravest-end.result at c.as_slice.ensures.value is c.gravest-end.ensures.one in
    let k = one.0 in
    let e = some_elem S.items k one.1 in
    let e0 = some_elem S.items 0 (omega arith) in
    let sat = r.each k e (omega arith) in
    let ground = subst (λ x. IfErr x (Grounds (get_or S.items k e).session.session.walker)) (one.2 e) sat.grounds in
    let here = c.leave_seats.ensures.walkers k d e (omega arith) in
    let there = c.leave_seats.ensures.walkers 0 d e0 (omega arith) in (
      ground.0,
      session_worn ws c.args.clock r.base k d (omega arith) start (subst (λ w. r.base ≤ w.serial + max c.args.clock (last_seen w.passes.items)) (sym there) (r.reached e0 (omega arith)))
          (subst (λ w. w.clock ≤ w.serial + max (base_from c.args.clock r.base k) (last_seen w.passes.items)) (sym here) sat.dated) (subst (λ w. 2 ^ 48 - 1 ≤ w.clock) (sym here) ground.1),
    ))

-- ---- books

pub leave_seats-requires-clause-none : goal.leave_seats-requires-clause-none
leave_seats-requires-clause-none g c = (c.requires.none, (let ok = c.args.books.now.ok in let none = ap length c.requires.none in omega arith))

pub returns-in_default-clause-books : goal.returns-in_default-clause-books
returns-in_default-clause-books g c =
    let count = c.requires.count in let ok = c.args.walkers.now.ok in no_books c.args.shards.now (length c.args.plan.sessions.now) c.args.walkers.now.items c.args.books.now.items (omega arith) c.requires.none c.requires.new

pub returns-clause-books : goal.returns-clause-books
returns-clause-books g c =
    let S = c.run_seats.new.seats in let okS = S.ok in let many = c.run_seats.ensures.len in let took = c.take_seats-seats.ensures.len.2 in let len = c.leave_seats.ensures.len in let okW = c.leave_seats.new.walkers.ok in
    let out = c.leave_seats.ensures.many in let B = c.leave_seats.new.books in let okB = B.ok in
    record {
      few = omega arith;
      each = λ k d e low. (let x = some_elem S.items k (omega arith) in
          subst (λ w. IsBook (session_entries (kept w.passes.items)) (get_or B.items k e)) (sym (c.leave_seats.ensures.walkers k d x (omega arith)))
          (subst (λ b. IsBook (session_entries (kept (get_or S.items k x).session.session.walker.passes.items)) b) (sym (c.leave_seats.ensures.books k e x (omega arith))) (c.run_seats.ensures.books k x (omega arith))));
      others = λ k d past low. absurd (omega arith);
    }

pub returns-in_default-clause-keeps : goal.returns-in_default-clause-keeps
returns-in_default-clause-keeps g c = none_keep c.args.plan.keeps_rows c.args.books.now.items c.requires.none

pub returns-clause-keeps : goal.returns-clause-keeps
returns-clause-keeps g c =
    let S = c.run_seats.new.seats in let okS = S.ok in let many = c.run_seats.ensures.len in let took = c.take_seats-seats.ensures.len.2 in
    let out = c.leave_seats.ensures.many in let B = c.leave_seats.new.books in let okB = B.ok in
    all_keep c.args.plan.keeps_rows B.items
    (λ k e low. (let x = some_elem S.items k (omega arith) in
    subst (λ b. b.keeps ≡ c.args.plan.keeps_rows) (sym (c.leave_seats.ensures.books k e x (omega arith))) (c.run_seats.ensures.keeps k x (omega arith))))
