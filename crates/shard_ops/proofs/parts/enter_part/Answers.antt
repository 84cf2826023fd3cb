-- A part that is known stays, and a new one is put in.
use Rattle.std.proofs.Common.{sym, ◌∙◌}
use Rattle.clv_base.specs.Orders.{tx_get}
use Rattle.shard_ops.proofs.Entering.{known_stays, new_enters}
use Rattle.shard_ops.proofs.parts.enter_part.Goals as goal

pub returns-then-known-clause-ok : goal.returns-then-known-clause-ok
returns-then-known-clause-ok c =
    let parts = c.args.parts.now.entries in
    known_stays c.args.tx c.args.birth (tx_get c.args.tx parts) parts (sym c.requires ∙ c.if-known.true)

pub returns-in-Ok-clause-ok : goal.returns-in-Ok-clause-ok
returns-in-Ok-clause-ok c =
    let parts = c.args.parts.now.entries in
    c.in-Ok.ensures.ok ∙ new_enters c.args.tx c.args.birth (tx_get c.args.tx parts) parts (sym c.requires ∙ c.if-known.false)
