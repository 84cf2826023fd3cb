use Rattle.std.proofs.Common.{sym, ◌∙◌, arith}
use Rattle.txn_core.proofs.Returning.{own_fits}
use Rattle.txn_core.proofs.trimming.room_without.Goals as goal
use Rattle.law_base.proofs.Names.{one_rises}

pub room_beyond-requires-clause-rising : goal.room_beyond-requires-clause-rising
room_beyond-requires-clause-rising c = one_rises c.args.tx

pub room_beyond-requires-clause-room : goal.room_beyond-requires-clause-room
room_beyond-requires-clause-room c =
    let fits = own_fits c.args.parts.now.entries c.args.tx c.args.buffer.now.records (sym c.is_here.ensures ∙ c.if-is_here.true) in
    omega (arith, fits, c.requires)
