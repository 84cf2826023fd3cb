-- What is noted changes nothing before the abort.
use Rattle.std.proofs.Common.{ap, ◌∙◌}
use Rattle.clv_base.specs.Undo.{roll_back}
use Rattle.clv_base.specs.OneShard.{purge}
use Rattle.txn_core.specs.State.{TxState}
use Rattle.shard_core.proofs.deciding.abort_noted.Goals as goal

pub returns-clause-aborted : goal.returns-clause-aborted
returns-clause-aborted g c =
    let u = c.abort.new.self in
    c.abort.ensures.without ∙ ap (λ (x : TxState). record x { local = purge (roll_back c.args.tx x.local); room = u.room; pairs_room = u.pairs_room }) c.note_doomed.ensures.same
