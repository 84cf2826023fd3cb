-- Parts end one after another.
use Rattle.std.proofs.Common.{◌≡◌, ◌+◌, [], Some, drop, sym, ap, ◌∙◌}
use Rattle.std.proofs.lemmas.List.{drop_all}
use Rattle.clv_base.specs.Undo.{gone_in}
use Rattle.txn_core.proofs.Ends.{gone_in-nobody, gone_in-step}
use Rattle.txn_core.proofs.ending.end_parts.Goals as goal

pub loop-tx-preserved : goal.loop-tx-preserved
loop-tx-preserved c =
    let txs = c.args.txs.now in let i = c.loop-tx.tx-index in let doom = Some c.args.doom in
    ap (gone_in (drop (i + 1) txs) doom) c.end_part.ensures ∙ gone_in-step doom i txs _ c.loop-tx.parts.entries c.loop-tx-test.true ∙ c.loop-tx.invariant

pub returns : goal.returns
returns c =
    let txs = c.args.txs.now in let done : drop c.loop-tx.tx-index txs ≡ [] = drop_all c.loop-tx.tx-index txs c.loop-tx-test.false in let doom = Some c.args.doom in
    sym (gone_in-nobody doom c.loop-tx.parts.entries) ∙ ap (λ l. gone_in l doom c.loop-tx.parts.entries) (sym done) ∙ c.loop-tx.invariant
