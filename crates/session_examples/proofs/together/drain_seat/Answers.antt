use Rattle.session_examples.proofs.Walking.{drained}
use Rattle.session_examples.proofs.together.drain_seat.Goals as goal

pub returns : goal.returns
returns g c = record { rest = (let x = c.args.seat.now.session in let w = x.walker in drained x.shards.now c.drains_land.ensures w.number w c.drain-drained.new.walker c.drain-drained.result c.requires.rest c.drain-drained.ensures.walker c.drain-drained.ensures.drained) }
