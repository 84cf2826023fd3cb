use mir.Syntax.{named}
use denote.Ref.{NamedLft}
use denote.Param.{param}
use denote.Param.Send.{param_send}
use Rattle.std.proofs.Common.{sym, subst, slice_index_or}
use Rattle.session_api.specs.Standing.{IsAtRest}
use Rattle.session_examples.proofs.Sending.{seat_row_send}
use Rattle.session_examples.proofs.together.drain_together.Goals as goal

-- a seat may be sent to a thread
pub for_each_mut-requires-send-T : goal.for_each_mut-requires-send-T
for_each_mut-requires-send-T g c κs within =
    let l : NamedLft = record { mir = named 4; lft = κs.1.1.1.1.0 } in
    let b = c.type_bounds in
    let s = seat_row_send l (param 0 g.row.M) (param 1 g.row.P) (param 2 g.row.R) (param 3 g.row.M-Store) (param 4 g.row.M-Gate) g.M.Machine g.M.Store.Store g.M.Gate.Gate b.send-M b.sync-P b.sync-R in
    record { owned = s.owned; leaving = (param_send 1 _ s).leaving }

-- each walker may drain
pub for_each_mut-requires-clause-accepts : goal.for_each_mut-requires-clause-accepts
for_each_mut-requires-clause-accepts g c κs within =
    λ i p l same. subst (λ s. IsAtRest s.session.shards.now s.session.walker.number s.session.walker) (sym same) (c.requires.rest i p.now l)

pub returns : goal.returns
returns g c = record {
  rest = (λ k d l. let e = (c.for_each_mut.ensures k d l).1 in let o = (slice_index_or c.args.seats.now k d).session in
      subst (λ y. IsAtRest o.shards.now o.walker.number y.session.walker) e.left (subst (λ x. IsAtRest x.session.shards.now x.session.walker.number e.after_call.now.session.walker) e.argument_is e.call));
}
