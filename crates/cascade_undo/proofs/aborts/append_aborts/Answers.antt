use Rattle.std.proofs.Common.{◌<◌, length, ◌∙◌}
use Rattle.clv_base.specs.declared.names.TxId.{TxId}
use Rattle.cascade_undo.proofs.Aborting.{next_fits, log_more, room_more}
use Rattle.cascade_undo.proofs.aborts.append_aborts.Goals as goal

nobody : TxId
nobody = record { run = 0; session = 0; serial = 0 }

pub append_abort-requires : goal.append_abort-requires
unfolding nobody
append_abort-requires c =
    let set = c.args.set.now in let i = c.loop-tx.tx-index in let within : i < length set = c.loop-tx-test.true in
    next_fits c.args.buffer.now.records set i nobody within c.loop-tx.buffer.records c.loop-tx.invariant.standing c.loop-tx.invariant.log
    c.args.buffer.now.room c.loop-tx.buffer.room c.requires c.loop-tx.invariant.room

pub loop-tx-preserved : goal.loop-tx-preserved
unfolding nobody
loop-tx-preserved c =
    let set = c.args.set.now in let i = c.loop-tx.tx-index in let within : i < length set = c.loop-tx-test.true in
    let first = c.args.buffer.now.records in let log = c.loop-tx.buffer.records in let after = c.append_abort.new.buffer.records in
    record {
      log = log_more first set i nobody within log c.loop-tx.invariant.standing c.loop-tx.invariant.log after c.append_abort.ensures.log;
      standing = c.append_abort.ensures.standing ∙ c.loop-tx.invariant.standing;
      durable = c.append_abort.ensures.fronts.0 ∙ c.loop-tx.invariant.durable;
      taken = c.append_abort.ensures.fronts.1 ∙ c.loop-tx.invariant.taken;
      room = room_more first set i nobody within log c.loop-tx.invariant.standing c.loop-tx.invariant.log after c.args.buffer.now.room c.loop-tx.buffer.room c.append_abort.new.buffer.room c.append_abort.ensures.log c.loop-tx.invariant.room c.append_abort.ensures.room;
    }
