-- Those undecided already, and those that are new.
use Rattle.std.proofs.Common.{◌&&◌, not, refl, ap, is_none, length, arith}
use Rattle.std.proofs.lemmas.List.Filters.{length-filter_both}
use Rattle.clv_base.specs.declared.names.TxId.{TxId}
use Rattle.clv_base.specs.Orders.{tx_get, tx_in}
use Rattle.clv_base.specs.Facts.{predecessors_of}
use Rattle.shard_ops.proofs.Counting.{passing-union, predecessors_rise}
use Rattle.shard_ops.proofs.meeting.undecided_with.Goals as goal

pub both-requires : goal.both-requires
both-requires c =
    let commits = c.args.deps.now.commits in let known = predecessors_of c.args.deps.now.pairs c.args.tx in
    let open_one = λ (p : TxId). is_none (tx_get p commits) in let new_one = λ (p : TxId). is_none (tx_get p commits) && not (tx_in p known) in
    let some = length-filter_both open_one (λ p. not (open_one p)) (λ p. refl) known in
    let more = length-filter_both new_one (λ p. not (new_one p)) (λ p. refl) c.args.preds.now in
    let same = ap length c.predecessors-known.ensures in
    (omega (arith, some, c.undecided.ensures, same), omega (arith, more, c.count_new.ensures))

pub returns : goal.returns
returns c =
    let pairs = c.args.deps.now.pairs in let tx = c.args.tx in
    let all = passing-union (λ p. is_none (tx_get p c.args.deps.now.commits)) c.args.preds.now (predecessors_of pairs tx) c.requires (predecessors_rise pairs tx) in
    omega (arith, all, c.undecided.ensures, c.count_new.ensures, c.both.ensures)
