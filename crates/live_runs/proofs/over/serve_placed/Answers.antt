use mir.Syntax.{named}
use denote.Ref.{NamedLft}
use denote.Param.{param}
use denote.Param.Send.{param_send}
use Rattle.std.proofs.Common.{arith, suc, get_or}
use Rattle.cluster_runs.proofs.Laws.{script_row_send}
use Rattle.live_runs.proofs.Walking.{idle, holds_on, walked}
use Rattle.live_runs.proofs.over.serve_placed.Goals as goal

-- a session may be sent to a thread
pub serve_places-requires-send-C : goal.serve_places-requires-send-C
serve_places-requires-send-C g c κs within =
    let l : NamedLft = record { mir = named 4; lft = κs.1.1.1.1.1.0 } in
    let b = c.type_bounds in
    let s = script_row_send l (param 0 g.row.M) (param 1 g.row.P) (param 2 g.row.R) (param 5 g.row.M-Store) (param 6 g.row.M-Gate) g.M.Machine g.M.Store.Store g.M.Gate.Gate b.send-M b.sync-P b.sync-R in
    record { owned = s.owned; leaving = (param_send 1 _ s).leaving }

pub serve_places-requires-clause-session : goal.serve_places-requires-clause-session
serve_places-requires-clause-session g c κs within k d l = holds_on c.args.shards.now _ c.args.clock k _ _ _ _ (c.requires.placed k d l)

pub serve_places-requires-clause-idle : goal.serve_places-requires-clause-idle
serve_places-requires-clause-idle g c κs within k d l = idle c.args.shards.now _ c.args.clock k _ (get_or c.args.places.now.items k d).session.asked _ _ _ (c.requires.placed k d l)

pub returns-clause-lived : goal.returns-clause-lived
returns-clause-lived g c =
    let E = c.serve_places.ensures in let (lives, each, streamed) = E.lived in let ok = c.args.places.now.ok in (
      lives,
      (λ k d l. (let o = get_or c.args.places.now.items k d in let n = get_or c.serve_places.new.places.items k d in
          walked c.args.shards.now o.session.session.shards.now n.session.session.shards.now c.args.clock k o.session.session.walker n.session.session.walker o.session.asked n.session.asked o.session.session.progress n.session.session.progress o.session.session.saves.items o.session.saves (lives (suc k)) n.ended
          (c.requires.placed k d l) (E.session k d l).holds (E.base k d l) (each k d (omega arith)) (E.grounds k d l))),
      streamed,
    )
