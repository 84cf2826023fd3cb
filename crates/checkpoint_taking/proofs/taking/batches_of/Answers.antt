use Rattle.checkpoint_taking.proofs.Whole.{all_put}
use Rattle.checkpoint_taking.proofs.taking.batches_of.Goals as goal

pub returns : goal.returns
returns c =
    all_put c.args.shard c.args.log.now c.in_ok-batches.batches c.put_base.new.batches c.put_kept_records.new.batches c.put.new.self
    c.in_ok-batches.ensures c.in_ok-put_base.ensures c.in_ok-put_kept_records.ensures c.in_ok-put.ensures
