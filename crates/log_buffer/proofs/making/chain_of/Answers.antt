use Rattle.std.proofs.Common.{sym, ◌∙◌, ap, subst, map, take, ◌++◌, ◌∷◌, []}
use Rattle.std.proofs.lemmas.List.{map_more}
use Rattle.log_buffer.specs.Chained.{IsChainOf}
use Rattle.log_buffer.proofs.making.chain_of.Goals as goal

pub loop-record-preserved : goal.loop-record-preserved
loop-record-preserved g c =
    let link = g.R.Measured.link in let xs = c.args.records.now in let i = c.loop-record.record-index in
    let told = c.link.ensures ∙ ap link c.record-item.is in
    subst (IsChainOf c.add.new.self) (ap (λ l. map link (take i xs) ++ l ∷ []) told ∙ sym (map_more link xs i c.record-item.result c.loop-record-test.true))
    (c.in_ok-add.ensures (map link (take i xs)) c.loop-record.invariant)
