use Rattle.std.proofs.Common.{◌≡◌, ℕ, ◌-◌, length, Some, refl, sym, ◌∙◌, ap, subst, arith}
use Rattle.std.specs.List.{slice_get, slice_set}
use Rattle.std.proofs.lemmas.Option.{slice_get_read}
use Rattle.io_model.specs.Disk.{HasCause}
use Rattle.disk_memory.specs.House.{faults_of, is_out_of, is_out_state, story_of_slot, story_in_state, faults_at}
use Rattle.disk_memory.proofs.Slots.{get_same, get_other}
use Rattle.disk_memory.proofs.house.MemoryHouseHouse.open_side.Goals as goal

pub returns-clause-cause : goal.returns-clause-cause
returns-clause-cause c =
    let slots = c.args.self.now.slots.items in
    let new : faults_at (slice_set slots c.args.shard c.take_out.new.slot) c.args.shard ≡ c.take_out.new.slot.faults = ap faults_of (get_same slots c.args.shard c.take_out.new.slot (omega (arith, c.args.self.now.sixteen, c.requires.shard))) in
    let old : faults_at slots c.args.shard ≡ c.index_mut.result.now.faults = ap faults_of (slice_get_read slots (length slots) c.args.shard c.index_mut.result.now refl (omega (arith, c.args.self.now.sixteen, c.requires.shard)) c.index_mut.ensures.value) in
    subst (λ (n : ℕ). HasCause n (faults_at (slice_set slots c.args.shard c.take_out.new.slot) c.args.shard) c.take_out.result) (sym old)
    (subst (λ (n : ℕ). HasCause c.index_mut.result.now.faults n c.take_out.result) (sym new) c.take_out.ensures.cause)

pub returns-clause-other_side : goal.returns-clause-other_side
returns-clause-other_side c =
    let slots = c.args.self.now.slots.items in
    let other : ℕ = 1 - c.args.side in
    let new : slice_get (slice_set slots c.args.shard c.take_out.new.slot) c.args.shard ≡ Some c.take_out.new.slot = get_same slots c.args.shard c.take_out.new.slot (omega (arith, c.args.self.now.sixteen, c.requires.shard)) in
    let old : slice_get slots c.args.shard ≡ Some c.index_mut.result.now = slice_get_read slots (length slots) c.args.shard c.index_mut.result.now refl (omega (arith, c.args.self.now.sixteen, c.requires.shard)) c.index_mut.ensures.value in
    (ap (is_out_of (1 - c.args.side)) new ∙ ap is_out_state c.take_out.ensures.other_side ∙ sym (ap (is_out_of (1 - c.args.side)) old), ap (story_of_slot (1 - c.args.side)) new ∙ ap story_in_state c.take_out.ensures.other_side ∙ sym (ap (story_of_slot (1 - c.args.side)) old))

pub returns-clause-others : goal.returns-clause-others
returns-clause-others c = λ other differs.
    let e = get_other c.args.self.now.slots.items c.args.shard other c.take_out.new.slot differs in
    (ap faults_of e, λ s. (ap (is_out_of s) e, ap (story_of_slot s) e))
