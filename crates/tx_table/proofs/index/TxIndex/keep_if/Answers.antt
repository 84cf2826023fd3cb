use Rattle.std.proofs.Common.{◌&&◌, false, cond, sym, ap, ◌∙◌}
use Rattle.clv_base.specs.Orders.{tx_in, tx_same}
use Rattle.law_base.proofs.Names.{in_flipped}
use Rattle.tx_table.proofs.index.TxIndex.keep_if.Goals as goal

pub returns-then-not-stays : goal.returns-then-not-stays
returns-then-not-stays c = record {
  members = λ t.
      let same = tx_same c.args.tx t in let was = tx_in t c.self.inside.txs.keys in
      sym (in_flipped t c.remove.new.self.keys) ∙ c.remove.ensures.updates.0 t ∙ ap (λ b. cond same false b) (in_flipped t c.self.inside.txs.keys)
      ∙ ap (λ b. cond same (b && was) was) (sym c.if-not-stays.true) ∙ ap (λ xs. cond same (c.args.stays && tx_in t xs) (tx_in t xs)) c.self.view_is;
}
