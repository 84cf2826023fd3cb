use Rattle.std.proofs.Common.{arith, refl, ◌≡◌, ◌∙◌, ap, ⊎_elim, suc, ◌+◌, ◌<◌, ◌≤◌, length, true, false, sym, subst, get_or, set, Ok, Err}
use Rattle.std.specs.Prelude.{IfOk, IsTrue}
use Rattle.std.specs.Result.{is_err, is_ok}
use Rattle.std.specs.List.{AllByRecursion}
use Rattle.std.proofs.lemmas.Option.{slice_get_within}
use Rattle.cluster_turns.specs.Walkers.{kept}
use Rattle.cluster_turns.specs.Dates.{last_seen}
use Rattle.script_runs.specs.Sessions.{session_entries}
use Rattle.command_line.specs.Running.{End, IsOk}
use Rattle.session_api.specs.Standing.{IsAtRest}
use Rattle.cluster_runs.specs.PromisedSessions.{NotBegun}
use Rattle.cluster_runs.specs.Drained.{WasSettled}
use Rattle.script_runs.specs.declared.ends.StopCause.TheVariants.{Memory}
use Rattle.cluster_runs.proofs.Gone.{none_gone, new_rest, all_rest, each_rest, goes_on, none_drained, here_first, all_drained}
use Rattle.cluster_runs.proofs.Wearing.{first_counted, drain_worn, worn_still}
use Rattle.cluster_runs.proofs.Alone.{none_alone, same_alone, behind_first}
use Rattle.cluster_runs.proofs.Seeing.{rest_still, gone_still, drained_still, alone_still, counted_still, worn_later}
use Rattle.cluster_runs.proofs.Books.{no_books, none_keep, books_behind, books_still}
use Rattle.cluster_runs.proofs.over.run_over.Goals as goal

pub drain_all-first-requires : goal.drain_all-first-requires
drain_all-first-requires g c = record {
  rest = subst (λ w. IsAtRest c.args.shards.now 0 w) (sym c.index_mut.ensures.value) (new_rest c.args.shards.now c.args.plan.most c.args.plan.sessions.now 0 _ (c.requires.new 0 c.index_mut.result.now (omega arith)));
}

pub returns-then-is_err-clause-rest : goal.returns-then-is_err-clause-rest
returns-then-is_err-clause-rest g c = let count = c.requires.count in let ok = c.args.walkers.now.ok in
    all_rest c.args.shards.now c.args.plan.most c.args.plan.sessions.now c.args.walkers.now.items c.drain_all-first.new.walker (omega arith) c.drain_all-first.ensures.rest
    (λ k d l. new_rest c.args.shards.now c.args.plan.most c.args.plan.sessions.now (suc k) _ (c.requires.new (suc k) d (omega arith)))

-- an end that is an error isn't fine
refused : (end : End) → true ≡ is_err end → IsOk end → IsOk (Err Memory)
refused (Ok u) is ok = absurd cc
refused (Err cause) is ok = ok

pub returns-then-is_err-clause-went : goal.returns-then-is_err-clause-went
returns-then-is_err-clause-went g c = (
  λ k. NotBegun,
  goes_on c.args.shards.now c.args.plan.most c.args.plan.sessions.now c.args.walkers.now.items c.drain_all-first.new.walker (λ k. NotBegun) (Err Memory) c.drain_all-first.result
      (refused c.drain_all-first.result (sym c.if-is_err.true ∙ c.is_err.ensures.value))
      (none_gone c.args.shards.now c.args.plan.most c.args.plan.sessions.now c.args.walkers.now.items Memory (λ k d l. c.requires.new (suc k) d (omega arith))),
  none_drained c.args.shards.now c.args.plan.most c.args.plan.sessions.now c.args.walkers.now.items c.drain_all-first.new.walker (λ k d l. c.requires.new (suc k) d (omega arith)),
)

pub drain_last-last-requires : goal.drain_last-last-requires
drain_last-last-requires g c = let count = c.requires.count in let many = c.run_sessions-ran.ensures.len in let ok = c.run_sessions-ran.new.walkers.ok in let ok0 = c.args.walkers.now.ok in
    let sh = c.args.shards.now in let most = c.args.plan.most in let script = c.args.plan.sessions.now in let first = c.drain_all-first.new.walker in
    record {
      some = omega arith;
      rest = each_rest sh most script c.run_sessions-ran.new.walkers.items first (omega arith)
          (λ d. c.run_sessions-ran.ensures.first d ∙ here_first sh most script c.args.walkers.now.items first d (omega arith)) c.drain_all-first.ensures.rest c.run_sessions-ran.ensures.rest;
    }

pub returns-clause-rest : goal.returns-clause-rest
returns-clause-rest g c = let count = c.requires.count in let many = c.run_sessions-ran.ensures.len in let ok = c.run_sessions-ran.new.walkers.ok in let ok0 = c.args.walkers.now.ok in
    let sh = c.args.shards.now in let us = c.run_sessions-ran.new.walkers.items in let (v, has, looked) = c.drain_last-last.ensures.drained in
    rest_still sh (set us 0 v) c.drain_last-last.new.walkers.items looked (length c.args.plan.sessions.now + 1)
    (all_rest sh c.args.plan.most c.args.plan.sessions.now us v (omega arith) (has c.index.result.now).rest c.run_sessions-ran.ensures.rest)

-- an end that is no error is well
well : {P : Type 0} (end : End) → false ≡ is_err end → IfOk end (λ u. P) → P
well (Ok u) is h = h
well (Err cause) is h = absurd cc

not_well : (P : Type 0) (end : End) → true ≡ is_err end → IfOk end (λ u. P)
not_well P (Ok u) is = absurd cc
not_well P (Err cause) is = tt

where_fine : {P : Type 0} (end : End) → (IsOk end → P) → IfOk end (λ u. P)
where_fine (Ok u) h = h tt
where_fine (Err cause) h = tt

went_well : (end : End) → IsOk end → IsTrue (is_ok end)
went_well (Ok u) ok = refl
went_well (Err cause) ok = absurd ok

from_well : {P : Type 0} (end : End) → IsOk end → IfOk end (λ u. P) → P
from_well (Ok u) ok h = h
from_well (Err cause) ok h = absurd ok

pub returns-clause-went : goal.returns-clause-went
returns-clause-went g c =
    let w = c.run_sessions-ran.ensures.went in let sh = c.args.shards.now in let most = c.args.plan.most in let script = c.args.plan.sessions.now in let ws = c.args.walkers.now.items in let first = c.drain_all-first.new.walker in
    let us = c.run_sessions-ran.new.walkers.items in let vs = c.drain_last-last.new.walkers.items in let (v, has, looked) = c.drain_last-last.ensures.drained in
    let count = c.requires.count in let many = c.run_sessions-ran.ensures.len in let ok = c.run_sessions-ran.new.walkers.ok in let ok0 = c.args.walkers.now.ok in
    let here : (d : _) → get_or (set ws 0 first) 0 d ≡ first = λ d. here_first sh most script ws first d (omega arith) in
    let clock : c.index.result.now ≡ first = c.index.ensures ∙ here c.index.result.now in
    let d = c.index.result.now in
    let last : get_or us 0 d ≡ first = c.run_sessions-ran.ensures.first d ∙ here d in (
      w.0,
      gone_still sh (set us 0 v) vs looked most script w.0 c.graver.result (goes_on sh most script us v w.0 c.run_sessions-ran.result c.graver.result (λ ok. (c.graver.ensures.fine ok).0) w.1),
      drained_still sh (set us 0 v) vs looked (length script) w.0
          (all_drained sh most script first.clock w.0 us first v (omega arith)
          (well c.drain_all-first.result (sym c.if-is_err.false ∙ c.is_err.ensures.value) c.drain_all-first.ensures.settled)
          (λ n k. (has d).stays n first.clock (subst (λ z. WasSettled n first.clock z.passes.items) (sym last) k))
          (λ k e l. subst (λ z. AllByRecursion (λ x. z.clock < (x.1).stamp) (session_entries (kept (get_or us (suc k) e).passes.items))) clock (c.run_sessions-ran.ensures.later k e l))),
    )

-- where no end is fine nothing is asked
pub returns-then-is_err-clause-quiet : goal.returns-then-is_err-clause-quiet
returns-then-is_err-clause-quiet g c = not_well _ c.drain_all-first.result (sym c.if-is_err.true ∙ c.is_err.ensures.value)

pub returns-clause-quiet : goal.returns-clause-quiet
returns-clause-quiet g c = where_fine c.graver.result
    (λ ok. (let fine = c.graver.ensures.fine ok in
    from_well c.drain_last-last.result fine.1 (c.drain_last-last.ensures.quiet (subst IsTrue (sym c.is_ok.ensures.value) (went_well c.run_sessions-ran.result fine.0)))))

pub returns-then-is_err-clause-alone : goal.returns-then-is_err-clause-alone
returns-then-is_err-clause-alone g c = let sh = c.args.shards.now in let script = c.args.plan.sessions.now in let ws = c.args.walkers.now.items in
    λ is. same_alone sh c.args.plan.most script (λ k d. get_or ws (suc k) d) (λ k d. get_or (set ws 0 c.drain_all-first.new.walker) (suc k) d) (behind_first ws c.drain_all-first.new.walker)
    (none_alone sh c.args.plan.most script (λ k d. get_or ws (suc k) d) (λ k d l. c.requires.new (suc k) d (omega arith)))

pub returns-clause-alone : goal.returns-clause-alone
returns-clause-alone g c = let sh = c.args.shards.now in let script = c.args.plan.sessions.now in let us = c.run_sessions-ran.new.walkers.items in let (v, has, looked) = c.drain_last-last.ensures.drained in
    λ is. alone_still sh (set us 0 v) c.drain_last-last.new.walkers.items looked c.args.plan.most script
    (same_alone sh c.args.plan.most script (λ k d. get_or us (suc k) d) (λ k d. get_or (set us 0 v) (suc k) d) (behind_first us v) (c.run_sessions-ran.ensures.alone is))

-- ---- stamps that came to their end

pub returns-then-is_err-clause-worn : goal.returns-then-is_err-clause-worn
returns-then-is_err-clause-worn g c at is =
    let count = c.requires.count in let ok = c.args.walkers.now.ok in let v = c.drain_all-first.new.walker in
    let told = c.drain_all-first.ensures.worn at is in
    let dated = c.drain_all-first.ensures.dated.1 in
    let new = c.requires.new 0 c.index_mut.result.now (omega arith) in
    let zero = new.clock_is in let same = ap (λ w. w.clock) c.index_mut.ensures.value in
    (told.0, drain_worn c.args.walkers.now.items v (omega arith) (omega arith) told.1)

pub returns-then-is_err-clause-counted : goal.returns-then-is_err-clause-counted
returns-then-is_err-clause-counted g c =
    let count = c.requires.count in let ok = c.args.walkers.now.ok in let v = c.drain_all-first.new.walker in let ws = c.args.walkers.now.items in
    let none : v.serial ≡ 0 = (let s = c.drain_all-first.ensures.serial in let at = ap (λ w. w.serial) c.index_mut.ensures.value in let new = (c.requires.new 0 c.index_mut.result.now (omega arith)).none_begun in omega arith) in
    first_counted c.args.plan.sessions.now ws v (omega arith) none (λ k bodies d is. (let new = (c.requires.new (suc k) d (let l = slice_get_within c.args.plan.sessions.now k bodies is in omega arith)).none_begun in omega arith))

pub returns-clause-counted : goal.returns-clause-counted
returns-clause-counted g c =
    let many = c.run_sessions-ran.ensures.len in let ok = c.run_sessions-ran.new.walkers.ok in let ok0 = c.args.walkers.now.ok in let count = c.requires.count in
    let sh = c.args.shards.now in let first = c.drain_all-first.new.walker in let ws = c.args.walkers.now.items in let us = c.run_sessions-ran.new.walkers.items in
    let (v, has, looked) = c.drain_last-last.ensures.drained in let d = c.index.result.now in
    let last : get_or us 0 d ≡ first = c.run_sessions-ran.ensures.first d ∙ here_first sh c.args.plan.most c.args.plan.sessions.now ws first d (omega arith) in
    let none : v.serial ≡ 0 = (let s = (has d).serial in let t = ap (λ w. w.serial) last in let f = c.drain_all-first.ensures.serial in let at = ap (λ w. w.serial) c.index_mut.ensures.value in
    let new = (c.requires.new 0 c.index_mut.result.now (omega arith)).none_begun in omega arith) in
    counted_still sh (set us 0 v) c.drain_last-last.new.walkers.items looked c.args.plan.sessions.now (first_counted c.args.plan.sessions.now us v (omega arith) none c.run_sessions-ran.ensures.counted)

pub returns-clause-worn : goal.returns-clause-worn
returns-clause-worn g c =
    let many = c.run_sessions-ran.ensures.len in let ok = c.run_sessions-ran.new.walkers.ok in let ok0 = c.args.walkers.now.ok in let count = c.requires.count in
    let sh = c.args.shards.now in let first = c.drain_all-first.new.walker in let ws = c.args.walkers.now.items in let us = c.run_sessions-ran.new.walkers.items in
    let (v, has, looked) = c.drain_last-last.ensures.drained in let d = c.index.result.now in let u = get_or us 0 d in
    let here : (e : _) → get_or (set ws 0 first) 0 e ≡ first = λ e. here_first sh c.args.plan.most c.args.plan.sessions.now ws first e (omega arith) in
    let same : (e : _) → get_or us 0 e ≡ first = λ e. c.run_sessions-ran.ensures.first e ∙ here e in
    let new = c.requires.new 0 c.index_mut.result.now (omega arith) in
    let zero = new.clock_is in
    let start = ap (λ w. w.clock) c.index_mut.ensures.value in
    let dated = c.drain_all-first.ensures.dated.1 in
    let low : first.clock ≤ last_seen first.passes.items = omega arith in
    let more = (has d).dated in
    let at_u = ap (λ w. last_seen w.passes.items) (same d) in
    let clock_u = ap (λ w. w.clock) (same d) in
    let serial_u = ap (λ w. w.serial) (same d) in
    let serial = (has d).serial in
    worn_later sh (set us 0 v) c.drain_last-last.new.walkers.items looked c.graver.result
    (λ at is. ⊎_elim
    (λ ran. let told = c.run_sessions-ran.ensures.worn d (let f = ap (λ w. last_seen w.passes.items) (same d) in let k = ap (λ w. w.clock) (c.index.ensures ∙ here d) in omega arith) at (sym ran ∙ is) in
    (told.0, worn_still us v (λ e. (let f = ap (λ w. last_seen w.passes.items) (same e) in let m = more.0 in omega arith)) (λ e. (let f = ap (λ w. w.serial) (same e) in omega arith)) told.1))
    (λ end. let told = (has d).worn at (sym end ∙ is) in (told.0, drain_worn us v (omega arith) (let z = more.1 in let m = more.0 in omega arith) told.1))
    c.graver.ensures.one)

-- ---- books

pub returns-then-is_err-clause-books : goal.returns-then-is_err-clause-books
returns-then-is_err-clause-books g c =
    let count = c.requires.count in let ok = c.args.walkers.now.ok in let ws = c.args.walkers.now.items in let books = c.args.books.now.items in
    books_behind ws c.drain_all-first.new.walker books (no_books c.args.shards.now (length c.args.plan.sessions.now) ws books (omega arith) c.requires.none (λ k d l. c.requires.new (suc k) d (omega arith)))

pub returns-clause-books : goal.returns-clause-books
returns-clause-books g c =
    let us = c.run_sessions-ran.new.walkers.items in let books = c.run_sessions-ran.new.books.items in let (v, has, looked) = c.drain_last-last.ensures.drained in
    books_still c.args.shards.now (set us 0 v) c.drain_last-last.new.walkers.items books looked (books_behind us v books c.run_sessions-ran.ensures.books)

pub returns-then-is_err-clause-keeps : goal.returns-then-is_err-clause-keeps
returns-then-is_err-clause-keeps g c = none_keep c.args.plan.keeps_rows c.args.books.now.items c.requires.none
