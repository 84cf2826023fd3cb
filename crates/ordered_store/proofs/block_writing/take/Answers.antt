use Rattle.std.proofs.Common.{◌≡◌, ◌∙◌, ◌∷◌, [], ◌<◌, ◌≤◌, IsTrue, length, vec_len, vec_capacity, ap, sym, subst, arith}
use Rattle.std.proofs.lemmas.Bool.{both_ways, eqb-true, eq-eqb}
use Rattle.std.specs.Ordering.{nat_cmp}
use Rattle.std.specs.FinMap.{is_sorted}
use Rattle.clv_base.specs.declared.modes.Found.{Found}
use Rattle.clv_base.specs.Needs.{is_there}
use Rattle.ordered_store.specs.declared.block.Block.{Block}
use Rattle.ordered_store.specs.Blocks.{Chained, Sized, excess, flat, slot_of}
use Rattle.ordered_store.proofs.Chains.{sorted_among, records_rise}
use Rattle.ordered_store.proofs.Splicing.{set_splice, remove_set, sized_at, same_found, after_take, chained_take, after_gone, chained_alone, none_left, excess_less}
use Rattle.ordered_store.proofs.block_writing.take.Goals as goal
use Rattle.ordered_store.proofs.block_writing.take.Goals.{else-emptied-via-then-emptied+else-len-gt1, else-emptied-via-else-emptied}

pub take_out-emptied-requires-clause-rising : goal.take_out-emptied-requires-clause-rising
take_out-emptied-requires-clause-rising c = let blocks = c.args.blocks.now.items in let old = c.index_mut.result.now in let at = c.slot-at.result in let k = c.args.key in
    let place = c.slot-at.ensures.slot ∙ ap (slot_of k) c.deref.ensures.value in
    ap (λ (b : Block). is_sorted nat_cmp b.rows.items) c.index_mut.ensures.value ∙ sorted_among blocks at old c.requires.chained (subst (λ bs. at < length bs) c.deref.ensures.value c.slot-at.ensures.within)

pub take_out-emptied-requires-clause-there : goal.take_out-emptied-requires-clause-there
take_out-emptied-requires-clause-there c = let blocks = c.args.blocks.now.items in let old = c.index_mut.result.now in let at = c.slot-at.result in let k = c.args.key in
    let place = c.slot-at.ensures.slot ∙ ap (slot_of k) c.deref.ensures.value in
    subst (λ (x : Found). IsTrue (is_there x)) (sym (same_found k blocks at old old c.requires.chained c.requires.sized place c.index_mut.ensures.value)) c.requires.there

pub returns-then-len-gt1-clause-rows : goal.returns-then-len-gt1-clause-rows
returns-then-len-gt1-clause-rows c = let blocks = c.args.blocks.now.items in let old = c.index_mut.result.now in let at = c.slot-at.result in let k = c.args.key in
    let place = c.slot-at.ensures.slot ∙ ap (slot_of k) c.deref.ensures.value in
    let new = c.take_out-emptied.new.block in
    let empty : new.rows.items ≡ [] = none_left new.rows.items (eqb-true (length new.rows.items) 0 (sym c.take_out-emptied.ensures.emptied ∙ c.if-emptied.true)) in
    let kept = after_gone k blocks at old new c.requires.chained c.requires.sized place c.index_mut.ensures.value (sym c.take_out-emptied.ensures.rows ∙ empty) (omega (arith, c.if-len-gt1.true)) in
    let now = c.remove.ensures.items ∙ remove_set blocks at new (subst (λ bs. at < length bs) c.deref.ensures.value c.slot-at.ensures.within) in
    ap flat now ∙ kept.0

pub returns-then-len-gt1-clause-chained : goal.returns-then-len-gt1-clause-chained
returns-then-len-gt1-clause-chained c = let blocks = c.args.blocks.now.items in let old = c.index_mut.result.now in let at = c.slot-at.result in let k = c.args.key in
    let place = c.slot-at.ensures.slot ∙ ap (slot_of k) c.deref.ensures.value in
    let new = c.take_out-emptied.new.block in
    let empty : new.rows.items ≡ [] = none_left new.rows.items (eqb-true (length new.rows.items) 0 (sym c.take_out-emptied.ensures.emptied ∙ c.if-emptied.true)) in
    let kept = after_gone k blocks at old new c.requires.chained c.requires.sized place c.index_mut.ensures.value (sym c.take_out-emptied.ensures.rows ∙ empty) (omega (arith, c.if-len-gt1.true)) in
    let now = c.remove.ensures.items ∙ remove_set blocks at new (subst (λ bs. at < length bs) c.deref.ensures.value c.slot-at.ensures.within) in
    subst Chained (sym now) kept.1.0

pub returns-then-len-gt1-clause-sized : goal.returns-then-len-gt1-clause-sized
returns-then-len-gt1-clause-sized c = let blocks = c.args.blocks.now.items in let old = c.index_mut.result.now in let at = c.slot-at.result in let k = c.args.key in
    let place = c.slot-at.ensures.slot ∙ ap (slot_of k) c.deref.ensures.value in
    let new = c.take_out-emptied.new.block in
    let empty : new.rows.items ≡ [] = none_left new.rows.items (eqb-true (length new.rows.items) 0 (sym c.take_out-emptied.ensures.emptied ∙ c.if-emptied.true)) in
    let kept = after_gone k blocks at old new c.requires.chained c.requires.sized place c.index_mut.ensures.value (sym c.take_out-emptied.ensures.rows ∙ empty) (omega (arith, c.if-len-gt1.true)) in
    let now = c.remove.ensures.items ∙ remove_set blocks at new (subst (λ bs. at < length bs) c.deref.ensures.value c.slot-at.ensures.within) in
    subst Sized (sym now) kept.1.1

pub returns-else-emptied-clause-rows : goal.returns-else-emptied-clause-rows
returns-else-emptied-clause-rows c = let blocks = c.args.blocks.now.items in let old = c.index_mut.result.now in let at = c.slot-at.result in let k = c.args.key in
    let place = c.slot-at.ensures.slot ∙ ap (slot_of k) c.deref.ensures.value in
    let new = c.take_out-emptied.new.block in
    let size = sized_at blocks at old c.requires.sized (subst (λ bs. at < length bs) c.deref.ensures.value c.slot-at.ensures.within) in
    let kept = after_take k blocks at old new c.requires.chained c.requires.sized place c.index_mut.ensures.value c.take_out-emptied.ensures.rising c.take_out-emptied.ensures.fence c.take_out-emptied.ensures.rows
    (subst (λ (b : Block). (vec_len b.rows ≤ 64) × (65 ≤ vec_capacity b.rows) → (vec_len new.rows ≤ 64) × (65 ≤ vec_capacity new.rows)) c.index_mut.ensures.value (λ s. (omega (arith, s.0, c.take_out-emptied.ensures.room.1), omega (arith, s.1, c.take_out-emptied.ensures.room.0))) size) in
    let now = set_splice blocks at new (subst (λ bs. at < length bs) c.deref.ensures.value c.slot-at.ensures.within) in
    ap flat now ∙ kept.0

pub returns-else-emptied-clause-sized : goal.returns-else-emptied-clause-sized
returns-else-emptied-clause-sized c = let blocks = c.args.blocks.now.items in let old = c.index_mut.result.now in let at = c.slot-at.result in let k = c.args.key in
    let place = c.slot-at.ensures.slot ∙ ap (slot_of k) c.deref.ensures.value in
    let new = c.take_out-emptied.new.block in
    let size = sized_at blocks at old c.requires.sized (subst (λ bs. at < length bs) c.deref.ensures.value c.slot-at.ensures.within) in
    let kept = after_take k blocks at old new c.requires.chained c.requires.sized place c.index_mut.ensures.value c.take_out-emptied.ensures.rising c.take_out-emptied.ensures.fence c.take_out-emptied.ensures.rows
    (subst (λ (b : Block). (vec_len b.rows ≤ 64) × (65 ≤ vec_capacity b.rows) → (vec_len new.rows ≤ 64) × (65 ≤ vec_capacity new.rows)) c.index_mut.ensures.value (λ s. (omega (arith, s.0, c.take_out-emptied.ensures.room.1), omega (arith, s.1, c.take_out-emptied.ensures.room.0))) size) in
    let now = set_splice blocks at new (subst (λ bs. at < length bs) c.deref.ensures.value c.slot-at.ensures.within) in
    subst Sized (sym now) kept.1

pub returns-else-emptied-clause-chained : goal.returns-else-emptied-clause-chained
returns-else-emptied-clause-chained c = let blocks = c.args.blocks.now.items in let old = c.index_mut.result.now in let at = c.slot-at.result in let k = c.args.key in
    let place = c.slot-at.ensures.slot ∙ ap (slot_of k) c.deref.ensures.value in
    let new = c.take_out-emptied.new.block in
    let now = set_splice blocks at new (subst (λ bs. at < length bs) c.deref.ensures.value c.slot-at.ensures.within) in
    subst Chained (sym now) (elim c.else-emptied.branch [
      | else-emptied-via-then-emptied+else-len-gt1 w ↦ chained_alone k blocks at new c.requires.chained place (omega (arith, w.if-len-gt1.false)) c.take_out-emptied.ensures.rising c.take_out-emptied.ensures.fence
      | else-emptied-via-else-emptied w ↦ chained_take k blocks at old new c.requires.chained c.requires.sized place c.index_mut.ensures.value c.take_out-emptied.ensures.rising c.take_out-emptied.ensures.fence c.take_out-emptied.ensures.rows (λ e. both_ways c.take_out-emptied.result w.if-emptied.false (c.take_out-emptied.ensures.emptied ∙ eq-eqb (length new.rows.items) 0 e))
    ])

pub returns-then-len-gt1-clause-rising : goal.returns-then-len-gt1-clause-rising
returns-then-len-gt1-clause-rising c = records_rise c.remove.new.self.items (returns-then-len-gt1-clause-chained c)

pub returns-else-emptied-clause-rising : goal.returns-else-emptied-clause-rising
returns-else-emptied-clause-rising c = records_rise _ (returns-else-emptied-clause-chained c)

pub returns-then-len-gt1-clause-excess : goal.returns-then-len-gt1-clause-excess
returns-then-len-gt1-clause-excess c = let blocks = c.args.blocks.now.items in let old = c.index_mut.result.now in let at = c.slot-at.result in let k = c.args.key in
    let place = c.slot-at.ensures.slot ∙ ap (slot_of k) c.deref.ensures.value in
    subst (λ cs. excess cs ≤ excess blocks) (sym (c.remove.ensures.items ∙ remove_set blocks at c.take_out-emptied.new.block (subst (λ bs. at < length bs) c.deref.ensures.value c.slot-at.ensures.within)))
    (excess_less blocks at old [] (subst (λ bs. at < length bs) c.deref.ensures.value c.slot-at.ensures.within) c.index_mut.ensures.value (omega arith))

pub returns-else-emptied-clause-excess : goal.returns-else-emptied-clause-excess
returns-else-emptied-clause-excess c = let blocks = c.args.blocks.now.items in let old = c.index_mut.result.now in let at = c.slot-at.result in let k = c.args.key in
    let place = c.slot-at.ensures.slot ∙ ap (slot_of k) c.deref.ensures.value in
    subst (λ cs. excess cs ≤ excess blocks) (sym (set_splice blocks at c.take_out-emptied.new.block (subst (λ bs. at < length bs) c.deref.ensures.value c.slot-at.ensures.within)))
    (excess_less blocks at old (c.take_out-emptied.new.block ∷ []) (subst (λ bs. at < length bs) c.deref.ensures.value c.slot-at.ensures.within) c.index_mut.ensures.value (omega (arith, c.take_out-emptied.ensures.room.1)))
