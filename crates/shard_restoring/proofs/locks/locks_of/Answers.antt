-- What was taken open and then closed is what a restart restores.
use Rattle.std.proofs.Common.{◌∙◌, ap}
use Rattle.clv_base.specs.Logs.{standing}
use Rattle.shard_restoring.specs.Opened.{open_locks, close_each}
use Rattle.shard_restoring.proofs.Closing.{shut_restored}
use Rattle.shard_restoring.proofs.locks.locks_of.Goals as goal

pub returns : goal.returns
returns g c =
    let txs = c.args.txs.now in let ws = standing c.args.log.now in
    c.close_all.ensures ∙ ap (close_each txs) (c.in_ok-take_standing.ensures ∙ ap (open_locks c.args.doubtful.now ws) c.in_ok-locks.ensures) ∙ shut_restored c.args.doubtful.now txs c.requires ws
