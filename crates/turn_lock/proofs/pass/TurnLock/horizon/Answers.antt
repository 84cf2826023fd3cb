use Rattle.std.proofs.Common.{arith}
use Rattle.turn_lock.proofs.Keeps.{reads}
use Rattle.turn_lock.proofs.pass.TurnLock.horizon.Goals as goal

pub load-requires : goal.load-requires
load-requires g c = let z = c.args.self.now.sized in
    (c.requires, omega arith, reads g.T.Journaled.journal g.T.Journaled.origin g.T.Journaled.maker g.T.Journaled.durable g.T.Journaled.sound _ _ _ _ _ c.args.pass.now.rests.1)
