use Rattle.std.proofs.Common.{◌≡◌, arith, sym, ap, subst, ◌∙◌}
use Rattle.clv_base.specs.declared.state.Held.{Held}
use Rattle.clv_base.specs.Orders.{Table, tx_in, tx_put}
use Rattle.tx_table.specs.Index.{IsIndex}
use Rattle.tx_table.specs.Parts.{AreAlike, is_here}
use Rattle.tx_table.proofs.IndexKeeping.{index_entered, alike_put}
use Rattle.tx_table.proofs.part_table.PartTable.enter.Goals as goal

pub invariant_of-self : goal.invariant_of-self
invariant_of-self c = (c.self.invariant.0, λ t. c.reserve.ensures.rows t ∙ c.self.invariant.1 t)

pub invariant_of-self-in_err-insert_if : goal.invariant_of-self-in_err-insert_if
invariant_of-self-in_err-insert_if c = (λ t. ap (tx_in t) c.in_err-insert_if.ensures.err ∙ c.self.invariant.0 t, λ t. c.reserve.ensures.rows t ∙ c.self.invariant.1 t)

pub set-requires : goal.set-requires
set-requires c = let room = c.in_ok-reserve.ensures.ok in omega arith

pub invariant_of-self-in-Ok : goal.invariant_of-self-in-Ok
invariant_of-self-in-Ok c =
    let rows = c.self.inside.parts.entries in
    let put : c.insert.new.self.entries ≡ tx_put c.args.tx c.args.part rows = c.in-Ok.ensures.entries in (
      subst (λ (es : Table Held). IsIndex is_here es c.keep_if.new.self) (sym put)
          (index_entered is_here c.args.tx c.args.part c.is_here-is_here.result rows c.self.inside.here c.insert_if.new.self c.keep_if.new.self c.is_here-is_here.ensures c.self.invariant.0 c.in_ok-insert_if.ensures.members c.keep_if.ensures.members),
      subst (AreAlike c.set.new.self.rows) (sym put)
          (alike_put c.args.tx c.args.part rows c.reserve.new.self.rows c.set.new.self.rows (λ t. c.reserve.ensures.rows t ∙ c.self.invariant.1 t) c.set.ensures.rows),
    )
