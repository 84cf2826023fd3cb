use Rattle.std.proofs.Common.{subst, sym}
use Rattle.law_base.proofs.Sets.{nothing_rises}
use Rattle.tx_table.specs.Lists.{ListEntries, lists_of, AllRise}
use Rattle.tx_table.proofs.lists.TxLists.new.Goals as goal

pub invariant_of-result : goal.invariant_of-result
invariant_of-result c = subst (λ (es : ListEntries). AllRise (lists_of es)) (sym c.new.ensures.empty) (λ t. nothing_rises)
