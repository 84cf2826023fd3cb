use Rattle.std.proofs.Common.{arith, ◌≤◌, subst}
use Rattle.turn_lock.specs.Journals.{durable_of}
use Rattle.turn_lock.specs.Passes.{seen_in}
use Rattle.turn_lock.proofs.Sums.{only_one}
use Rattle.turn_lock.proofs.Keeps.{publishes}
use Rattle.turn_lock.proofs.pass.TurnLock.publish.Goals as goal

pub fetch_max-requires : goal.fetch_max-requires
fetch_max-requires g c = let z = c.args.self.now.sized in let p = c.args.pass.now in let one = only_one p.seat.me.0.records p.rests.2 in (
  c.requires.pass,
  omega arith,
  publishes g.T.Journaled.journal g.T.Journaled.origin g.T.Journaled.maker g.T.Journaled.durable g.T.Journaled.sound _ _ _ _ _ c.args.count one.0 p.rests.1 one.1 (subst (λ l. c.args.count ≤ durable_of g.T.Journaled.durable (seen_in l)) one.1 c.requires.found),
)
