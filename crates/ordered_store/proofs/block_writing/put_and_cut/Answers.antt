use Rattle.std.proofs.Common.{◌∙◌, subst}
use Rattle.ordered_store.specs.Blocks.{Empties}
use Rattle.ordered_store.proofs.Splicing.{none_left, empties_last, cut_whole, cut_chain}
use Rattle.ordered_store.proofs.block_writing.put_and_cut.Goals as goal

pub cut_off-requires-clause-empty : goal.cut_off-requires-clause-empty
cut_off-requires-clause-empty c = none_left c.in-Some.spare.items (empties_last c.pop.new.self.items c.in-Some.spare (subst Empties c.in-Some.ensures.items c.requires.empties)).1.0

pub cut_off-requires-clause-room : goal.cut_off-requires-clause-room
cut_off-requires-clause-room c = (empties_last c.pop.new.self.items c.in-Some.spare (subst Empties c.in-Some.ensures.items c.requires.empties)).1.1

pub returns-clause-rows : goal.returns-clause-rows
returns-clause-rows c = cut_whole c.cut_off.new.block.rows.items c.cut_off.result.rows.items c.put_in-before.new.block.rows.items 33 c.cut_off.ensures.lower c.cut_off.ensures.upper ∙ c.put_in-before.ensures.rows

pub returns-clause-chain : goal.returns-clause-chain
returns-clause-chain c = cut_chain c.cut_off.new.block c.cut_off.result c.put_in-before.new.block.rows.items c.put_in-before.ensures.rising
    (cut_whole c.cut_off.new.block.rows.items c.cut_off.result.rows.items c.put_in-before.new.block.rows.items 33 c.cut_off.ensures.lower c.cut_off.ensures.upper) c.cut_off.ensures.fence_above

pub returns-clause-empties : goal.returns-clause-empties
returns-clause-empties c = (empties_last c.pop.new.self.items c.in-Some.spare (subst Empties c.in-Some.ensures.items c.requires.empties)).0
