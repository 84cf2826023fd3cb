use Rattle.std.proofs.Common.{◌<◌, length, get_or, take, sym, ap, ◌∙◌}
use Rattle.std.proofs.lemmas.List.{take_more, take_all}
use Rattle.clv_base.specs.declared.names.TxId.{TxId}
use Rattle.clv_base.specs.Logs.{standing}
use Rattle.clv_base.specs.Undo.{newest_lsn}
use Rattle.cascade_undo.specs.Steps.{newest_in, lsn_of}
use Rattle.cascade_undo.proofs.Newest.{later, newest_in_none, newest_with}
use Rattle.cascade_undo.proofs.marks.greatest_lsn.Goals as goal

nobody : TxId
nobody = record { run = 0; session = 0; serial = 0 }

pub loop-tx-init : goal.loop-tx-init
loop-tx-init c = ap lsn_of (sym (newest_in_none (standing c.args.buffer.now.records)))

pub loop-tx-preserved : goal.loop-tx-preserved
unfolding nobody
loop-tx-preserved c =
    let set = c.args.set.now in let i = c.loop-tx.tx-index in let within : i < length set = c.loop-tx-test.true in
    let log = c.args.buffer.now.records in
    c.max-greatest.ensures ∙ ap (later c.loop-tx.greatest) c.newest.ensures
    ∙ ap (λ o. later o (newest_lsn (get_or set i nobody) (standing log))) c.loop-tx.invariant
    ∙ sym (newest_with (take i set) (get_or set i nobody) log)
    ∙ ap (λ l. lsn_of (newest_in l (standing log))) (sym (take_more set i nobody within))

pub returns : goal.returns
returns c =
    let set = c.args.set.now in
    c.loop-tx.invariant ∙ ap (λ l. lsn_of (newest_in l (standing c.args.buffer.now.records))) (take_all c.loop-tx.tx-index set c.loop-tx-test.false)
