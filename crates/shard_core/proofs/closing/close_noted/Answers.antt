-- The place of the PREPARE that was written is kept.
use Rattle.std.proofs.Common.{sym, ap, ◌∙◌}
use Rattle.clv_base.specs.Orders.{tx_same}
use Rattle.clv_base.specs.Logs.{prepare_lsn, has_standing}
use Rattle.clv_base.specs.Facts.{undecided_of}
use Rattle.clv_base.specs.OneShard.{closing}
use Rattle.txn_core.specs.State.{TxState}
use Rattle.shard_core.specs.Requesting.{place_after}
use Rattle.shard_core.proofs.Placing.{closing_place}
use Rattle.shard_core.proofs.closing.close_noted.Goals as goal

pub returns-clause-places : goal.returns-clause-places
returns-clause-places g c = λ t.
    let tx = c.args.tx in let home = c.args.home in let l = c.note_touched.new.transactions.local in let written = c.close_as-closing.result in
    c.keep_place.ensures t ∙ ap (place_after (tx_same tx t) written) (c.requires.places t ∙ ap (λ (x : TxState). prepare_lsn (x.local).log t) (sym c.note_touched.ensures.same))
    ∙ closing_place l.log (closing (has_standing l.log tx) c.args.one_shard tx home (undecided_of l tx)) tx home written t c.close_as-closing.ensures.written
    ∙ ap (λ (x : TxState). prepare_lsn (x.local).log t) (sym c.close_as-closing.ensures.closed)
