use Rattle.std.proofs.Common.{◌≡◌, length, drop, arith, length-take}
use Rattle.log_gate.proofs.Pieces.{piece_told}
use Rattle.log_gate.proofs.walking.fill.Goals as goal

pub returns-clause-told : goal.returns-clause-told
returns-clause-told g c =
    let size : length c.read.new.into ≡ c.args.count = omega (arith, c.read.auto.into, length-take c.args.count c.args.into.now, c.requires.room) in
    piece_told _ _ c.args.at c.args.count c.read.new.into (drop c.args.count c.args.into.now) c.read.result size c.read.ensures.told
