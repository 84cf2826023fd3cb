use Rattle.std.proofs.Common.{◌≡◌, max, true, sym, subst, slice_index_or}
use Rattle.std.specs.List.{list_all}
use Rattle.script_lang.specs.Laws.{is_narrow_body}
use Rattle.script_runs.specs.Ran.{stop_in, IsIdle, FollowsFrom}
use Rattle.script_runs.specs.Books.{IsKept}
use Rattle.script_runs.specs.Seen.{Keeps}
use Rattle.script_runs.specs.Alone.{BeginsPast}
use Rattle.script_runs.proofs.seats.run_together.Goals as goal

-- each seat may be run
pub for_each_mut-requires-clause-accepts : goal.for_each_mut-requires-clause-accepts
for_each_mut-requires-clause-accepts g c κs within =
    λ i p l same. (
      subst (λ s. g.C.SessionCalls.holds s.session) (sym same) (c.requires.session i p.now l),
      (
        subst (λ s. IsIdle (g.C.SessionCalls.seen s.session)) (sym same) (c.requires.idle i p.now l),
        (
          subst (λ s. list_all is_narrow_body s.transactions.now ≡ true) (sym same) (c.requires.narrow i p.now l),
          subst (λ s. IsKept (g.C.SessionCalls.seen s.session) s.book) (sym same) (c.requires.kept i p.now l),
        ),
      ),
    )

-- what its call left is what stands in its place
pub returns-clause-follows : goal.returns-clause-follows
returns-clause-follows g c =
    λ k d l.
    let seen = g.C.SessionCalls.seen in
    let e = (c.for_each_mut.ensures k d l).1 in
    subst (λ y. FollowsFrom (max (seen (slice_index_or c.args.seats.now k d).session).clock c.args.clock) (g.C.SessionCalls.missed y.session) (slice_index_or c.args.seats.now k d).transactions.now c.args.most (stop_in y.ended) (seen (slice_index_or c.args.seats.now k d).session) (seen y.session)) e.left
    (subst (λ x. FollowsFrom (max (seen x.session).clock c.args.clock) (g.C.SessionCalls.missed e.after_call.now.session) x.transactions.now c.args.most (stop_in e.after_call.now.ended) (seen x.session) (seen e.after_call.now.session)) e.argument_is e.call.1.1.1.1.0)

pub returns-clause-base : goal.returns-clause-base
returns-clause-base g c =
    λ k d l.
    let base = g.C.SessionCalls.base in
    let e = (c.for_each_mut.ensures k d l).1 in
    subst (λ y. base y.session ≡ base (slice_index_or c.args.seats.now k d).session) e.left
    (subst (λ x. base e.after_call.now.session ≡ base x.session) e.argument_is e.call.1.0)

pub returns-clause-misses : goal.returns-clause-misses
returns-clause-misses g c =
    λ k d l.
    let missed = g.C.SessionCalls.missed in
    let e = (c.for_each_mut.ensures k d l).1 in
    subst (λ y. Keeps (missed (slice_index_or c.args.seats.now k d).session) (missed y.session)) e.left
    (subst (λ x. Keeps (missed x.session) (missed e.after_call.now.session)) e.argument_is e.call.1.1.0)

pub returns-clause-past : goal.returns-clause-past
returns-clause-past g c =
    λ k d l.
    let seen = g.C.SessionCalls.seen in
    let e = (c.for_each_mut.ensures k d l).1 in
    subst (λ y. BeginsPast c.args.clock (seen (slice_index_or c.args.seats.now k d).session) (seen y.session)) e.left
    (subst (λ x. BeginsPast c.args.clock (seen x.session) (seen e.after_call.now.session)) e.argument_is e.call.1.1.1.1.1.1.0)

pub returns-clause-kept : goal.returns-clause-kept
returns-clause-kept g c =
    λ k d l.
    let e = (c.for_each_mut.ensures k d l).1 in
    subst (λ y. IsKept (g.C.SessionCalls.seen y.session) y.book) e.left e.call.1.1.1.1.1.1.1.0

pub returns-clause-keeps : goal.returns-clause-keeps
returns-clause-keeps g c =
    λ k d l.
    let e = (c.for_each_mut.ensures k d l).1 in
    subst (λ y. y.book.keeps ≡ (slice_index_or c.args.seats.now k d).book.keeps) e.left
    (subst (λ x. e.after_call.now.book.keeps ≡ x.book.keeps) e.argument_is e.call.1.1.1.1.1.1.1.1)
