use mir.Syntax.{named}
use denote.Ref.{NamedLft}
use denote.Param.{param}
use denote.Param.Send.{param_send}
use Rattle.std.proofs.Common.{◌≡◌, sym, subst, slice_index_or, None}
use Rattle.session_api.specs.Progresses.{active_tx}
use Rattle.session_api.specs.Savepoints.{Saved}
use Rattle.session_api.specs.Standing.{Holds}
use Rattle.session_examples.proofs.Sending.{seat_row_send}
use Rattle.session_examples.proofs.together.run_together.Goals as goal

-- a seat may be sent to a thread
pub for_each_mut-requires-send-T : goal.for_each_mut-requires-send-T
for_each_mut-requires-send-T g c κs within =
    let l : NamedLft = record { mir = named 4; lft = κs.1.1.1.1.0 } in
    let b = c.type_bounds in
    let s = seat_row_send l (param 0 g.row.M) (param 1 g.row.P) (param 2 g.row.R) (param 3 g.row.M-Store) (param 4 g.row.M-Gate) g.M.Machine g.M.Store.Store g.M.Gate.Gate b.send-M b.sync-P b.sync-R in
    record { owned = s.owned; leaving = (param_send 1 _ s).leaving }

-- each seat may be run
pub for_each_mut-requires-clause-accepts : goal.for_each_mut-requires-clause-accepts
for_each_mut-requires-clause-accepts g c κs within =
    λ i p l same. (
      subst (λ s. Holds s.session.shards.now s.session.walker s.session.progress) (sym same) (c.requires.session i p.now l),
      (
        subst (λ s. Saved s.session.progress s.session.saves.items) (sym same) (c.requires.saved i p.now l),
        subst (λ s. active_tx s.session.progress ≡ None) (sym same) (c.requires.idle i p.now l),
      ),
    )

-- what its call left is what stands in its place
pub returns-clause-shards : goal.returns-clause-shards
returns-clause-shards g c =
    λ k d l. let e = (c.for_each_mut.ensures k d l).1 in
    subst (λ y. y.session.shards.now ≡ (slice_index_or c.args.seats.now k d).session.shards.now) e.left (subst (λ x. e.after_call.now.session.shards.now ≡ x.session.shards.now) e.argument_is e.call.1.1.0)

pub returns-clause-number : goal.returns-clause-number
returns-clause-number g c =
    λ k d l. let e = (c.for_each_mut.ensures k d l).1 in
    subst (λ y. y.session.walker.number ≡ (slice_index_or c.args.seats.now k d).session.walker.number) e.left
    (subst (λ x. e.after_call.now.session.walker.number ≡ x.session.walker.number) e.argument_is e.call.1.1.1)
