use Rattle.std.proofs.Common.{refl}
use Rattle.ordered_store.proofs.Counted.{rest_climbs, slot_at, slot_between}
use Rattle.ordered_store.proofs.counting.slot_counting.Goals as goal

pub search-requires : goal.search-requires
search-requires g c = record { rising = rest_climbs c.args.blocks.now c.requires }

pub returns-in-Ok-clause-slot : goal.returns-in-Ok-clause-slot
returns-in-Ok-clause-slot g c = slot_at c.args.key c.args.blocks.now c.in-Ok.at _ c.requires c.in-Ok.ensures.there.0 c.in-Ok.ensures.there.1 refl

pub returns-in-Err-clause-slot : goal.returns-in-Err-clause-slot
returns-in-Err-clause-slot g c = slot_between c.args.key c.args.blocks.now c.in-Err.at c.in-Err.ensures.within c.in-Err.ensures.below c.in-Err.ensures.above
