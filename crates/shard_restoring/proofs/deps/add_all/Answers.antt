-- One more of the rising pairs goes behind those that are in.
use Rattle.std.proofs.Common.{◌+◌, ◌++◌, List, ap, drop, ◌∙◌}
use Rattle.clv_base.specs.declared.names.TxId.{TxId}
use Rattle.shard_restoring.proofs.Settling.{step_pairs}
use Rattle.shard_restoring.proofs.deps.add_all.Goals as goal

pub loop-pair-preserved : goal.loop-pair-preserved
loop-pair-preserved c =
    let ps = c.args.pairs.now in let i = c.loop-pair.pair-index in let inv = c.loop-pair.invariant in let none : TxId = record { run = 0; session = 0; serial = 0 } in (
      ap (λ (l : List (TxId × TxId)). l ++ drop (i + 1) ps) c.in_ok-add.ensures.pairs ∙ step_pairs i ps (none, none) c.loop-pair.deps.pairs c.requires.rising c.loop-pair-test.true inv.0,
      c.add.ensures.commits ∙ inv.1,
    )
