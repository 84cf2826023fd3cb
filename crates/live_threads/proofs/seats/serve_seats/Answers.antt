use Rattle.std.proofs.Common.{sym, subst, slice_index_or}
use Rattle.live_threads.proofs.seats.serve_seats.Goals as goal

-- each may begin
pub for_each_mut-requires-clause-accepts : goal.for_each_mut-requires-clause-accepts
for_each_mut-requires-clause-accepts g c κs within = λ i p l same. subst (λ s. g.X.Sits.ready s) (sym same) (c.requires i p.now l)

-- what its call left is what stands in its place
pub returns : goal.returns
returns g c =
    λ k d l.
    let e = (c.for_each_mut.ensures k d l).1 in
    subst (λ y. g.X.Sits.sat (slice_index_or c.args.seats.now k d) y) e.left (subst (λ x. g.X.Sits.sat x e.after_call.now) e.argument_is e.call)
