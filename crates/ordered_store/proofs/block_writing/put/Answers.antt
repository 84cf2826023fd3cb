use Rattle.std.proofs.Common.{◌≡◌, ◌∙◌, ◌+◌, ◌-◌, ◌*◌, ◌∷◌, [], ◌<◌, ◌≤◌, ◌||◌, ℕ, option_to_list, IsTrue, if◌then◌else◌, length, nat_lt, vec_len, vec_capacity, ap, sym, subst, arith}
use Rattle.std.specs.Ordering.{nat_cmp}
use Rattle.std.specs.FinMap.{is_sorted}
use Rattle.clv_base.specs.declared.modes.Found.{Found}
use Rattle.clv_base.specs.Needs.{found_at, is_there, live_of, record_set}
use Rattle.ordered_store.specs.declared.block.Block.{Block}
use Rattle.ordered_store.specs.Blocks.{Chain, Chained, Sized, excess, flat, room_of, slot_of}
use Rattle.ordered_store.proofs.Chains.{sorted_among, records_rise}
use Rattle.ordered_store.proofs.Splicing.{set_splice, insert_splice, sized_at, same_found, after_put, room_for, room_put}
use Rattle.ordered_store.proofs.block_writing.put.Goals as goal

pub put_and_cut-before-requires-clause-rising : goal.put_and_cut-before-requires-clause-rising
put_and_cut-before-requires-clause-rising c = let blocks = c.args.blocks.now.items in let old = c.index_mut.result.now in let at = c.slot-at.result in let k = c.args.key in
    let place = c.slot-at.ensures.slot ∙ ap (slot_of k) c.deref.ensures.value in
    ap (λ (b : Block). is_sorted nat_cmp b.rows.items) c.index_mut.ensures.value ∙ sorted_among blocks at old c.requires.chained (subst (λ bs. at < length bs) c.deref.ensures.value c.slot-at.ensures.within)

pub put_and_cut-before-requires-clause-size : goal.put_and_cut-before-requires-clause-size
put_and_cut-before-requires-clause-size c = let blocks = c.args.blocks.now.items in let old = c.index_mut.result.now in let at = c.slot-at.result in let k = c.args.key in
    let place = c.slot-at.ensures.slot ∙ ap (slot_of k) c.deref.ensures.value in
    subst (λ (b : Block). (vec_len b.rows ≤ 64) × (65 ≤ vec_capacity b.rows)) (sym c.index_mut.ensures.value) (sized_at blocks at old c.requires.sized (subst (λ bs. at < length bs) c.deref.ensures.value c.slot-at.ensures.within))

pub put_and_cut-before-requires-clause-room : goal.put_and_cut-before-requires-clause-room
put_and_cut-before-requires-clause-room c = let blocks = c.args.blocks.now.items in let old = c.index_mut.result.now in let at = c.slot-at.result in let k = c.args.key in
    let place = c.slot-at.ensures.slot ∙ ap (slot_of k) c.deref.ensures.value in
    let same = same_found k blocks at old old c.requires.chained c.requires.sized place c.index_mut.ensures.value in
    subst (λ (x : Found). IsTrue (is_there x || nat_lt 0 (vec_len c.args.spares.now) || nat_lt (vec_len old.rows) 64)) (sym same)
    (subst (λ (o : Block). IsTrue (is_there (found_at k (flat blocks)) || nat_lt 0 (vec_len c.args.spares.now) || nat_lt (vec_len o.rows) 64)) (sym c.index_mut.ensures.value)
    (room_for (is_there (found_at k (flat blocks))) blocks at old (vec_len c.args.spares.now) (subst (λ bs. at < length bs) c.deref.ensures.value c.slot-at.ensures.within) c.requires.room))

pub returns-in-Ok-clause-before : goal.returns-in-Ok-clause-before
returns-in-Ok-clause-before c = let blocks = c.args.blocks.now.items in let old = c.index_mut.result.now in let at = c.slot-at.result in let k = c.args.key in
    let place = c.slot-at.ensures.slot ∙ ap (slot_of k) c.deref.ensures.value in
    c.put_and_cut-before.ensures.before ∙ ap live_of (same_found k blocks at old old c.requires.chained c.requires.sized place c.index_mut.ensures.value)

pub returns-in-Ok-clause-rows : goal.returns-in-Ok-clause-rows
returns-in-Ok-clause-rows c = let blocks = c.args.blocks.now.items in let old = c.index_mut.result.now in let at = c.slot-at.result in let k = c.args.key in
    let place = c.slot-at.ensures.slot ∙ ap (slot_of k) c.deref.ensures.value in
    let new = c.put_and_cut-before.new.block in let one : option_to_list c.put_and_cut-before.result.1 ≡ (c.in-Some.upper ∷ []) = ap option_to_list c.in-Some.is in
    let kept = after_put k blocks at old new c.requires.chained c.requires.sized place c.index_mut.ensures.value c.args.value (c.in-Some.upper ∷ [])
    (subst (Chain new) one c.put_and_cut-before.ensures.chain) c.put_and_cut-before.ensures.fence (subst (λ us. flat (new ∷ us) ≡ record_set k c.args.value old.rows.items) one c.put_and_cut-before.ensures.rows)
    (subst (λ us. Sized (new ∷ us)) one c.put_and_cut-before.ensures.sized) in
    let now = c.in-Ok.ensures.items ∙ insert_splice blocks at (at + 1) new c.in-Some.upper (subst (λ bs. at < length bs) c.deref.ensures.value c.slot-at.ensures.within) (omega arith) in
    ap flat now ∙ kept.0

pub returns-in-Ok-clause-chained : goal.returns-in-Ok-clause-chained
returns-in-Ok-clause-chained c = let blocks = c.args.blocks.now.items in let old = c.index_mut.result.now in let at = c.slot-at.result in let k = c.args.key in
    let place = c.slot-at.ensures.slot ∙ ap (slot_of k) c.deref.ensures.value in
    let new = c.put_and_cut-before.new.block in let one : option_to_list c.put_and_cut-before.result.1 ≡ (c.in-Some.upper ∷ []) = ap option_to_list c.in-Some.is in
    let kept = after_put k blocks at old new c.requires.chained c.requires.sized place c.index_mut.ensures.value c.args.value (c.in-Some.upper ∷ [])
    (subst (Chain new) one c.put_and_cut-before.ensures.chain) c.put_and_cut-before.ensures.fence (subst (λ us. flat (new ∷ us) ≡ record_set k c.args.value old.rows.items) one c.put_and_cut-before.ensures.rows)
    (subst (λ us. Sized (new ∷ us)) one c.put_and_cut-before.ensures.sized) in
    let now = c.in-Ok.ensures.items ∙ insert_splice blocks at (at + 1) new c.in-Some.upper (subst (λ bs. at < length bs) c.deref.ensures.value c.slot-at.ensures.within) (omega arith) in
    subst Chained (sym now) kept.1.0

pub returns-in-Ok-clause-sized : goal.returns-in-Ok-clause-sized
returns-in-Ok-clause-sized c = let blocks = c.args.blocks.now.items in let old = c.index_mut.result.now in let at = c.slot-at.result in let k = c.args.key in
    let place = c.slot-at.ensures.slot ∙ ap (slot_of k) c.deref.ensures.value in
    let new = c.put_and_cut-before.new.block in let one : option_to_list c.put_and_cut-before.result.1 ≡ (c.in-Some.upper ∷ []) = ap option_to_list c.in-Some.is in
    let kept = after_put k blocks at old new c.requires.chained c.requires.sized place c.index_mut.ensures.value c.args.value (c.in-Some.upper ∷ [])
    (subst (Chain new) one c.put_and_cut-before.ensures.chain) c.put_and_cut-before.ensures.fence (subst (λ us. flat (new ∷ us) ≡ record_set k c.args.value old.rows.items) one c.put_and_cut-before.ensures.rows)
    (subst (λ us. Sized (new ∷ us)) one c.put_and_cut-before.ensures.sized) in
    let now = c.in-Ok.ensures.items ∙ insert_splice blocks at (at + 1) new c.in-Some.upper (subst (λ bs. at < length bs) c.deref.ensures.value c.slot-at.ensures.within) (omega arith) in
    subst Sized (sym now) kept.1.1

pub returns-in_default-clause-before : goal.returns-in_default-clause-before
returns-in_default-clause-before c = let blocks = c.args.blocks.now.items in let old = c.index_mut.result.now in let at = c.slot-at.result in let k = c.args.key in
    let place = c.slot-at.ensures.slot ∙ ap (slot_of k) c.deref.ensures.value in
    c.put_and_cut-before.ensures.before ∙ ap live_of (same_found k blocks at old old c.requires.chained c.requires.sized place c.index_mut.ensures.value)

pub returns-in_default-clause-rows : goal.returns-in_default-clause-rows
returns-in_default-clause-rows c = let blocks = c.args.blocks.now.items in let old = c.index_mut.result.now in let at = c.slot-at.result in let k = c.args.key in
    let place = c.slot-at.ensures.slot ∙ ap (slot_of k) c.deref.ensures.value in
    let new = c.put_and_cut-before.new.block in let one : option_to_list c.put_and_cut-before.result.1 ≡ [] = ap option_to_list c.in_default.is in
    let kept = after_put k blocks at old new c.requires.chained c.requires.sized place c.index_mut.ensures.value c.args.value []
    (subst (Chain new) one c.put_and_cut-before.ensures.chain) c.put_and_cut-before.ensures.fence (subst (λ us. flat (new ∷ us) ≡ record_set k c.args.value old.rows.items) one c.put_and_cut-before.ensures.rows)
    (subst (λ us. Sized (new ∷ us)) one c.put_and_cut-before.ensures.sized) in
    let now = set_splice blocks at new (subst (λ bs. at < length bs) c.deref.ensures.value c.slot-at.ensures.within) in
    ap flat now ∙ kept.0

pub returns-in_default-clause-chained : goal.returns-in_default-clause-chained
returns-in_default-clause-chained c = let blocks = c.args.blocks.now.items in let old = c.index_mut.result.now in let at = c.slot-at.result in let k = c.args.key in
    let place = c.slot-at.ensures.slot ∙ ap (slot_of k) c.deref.ensures.value in
    let new = c.put_and_cut-before.new.block in let one : option_to_list c.put_and_cut-before.result.1 ≡ [] = ap option_to_list c.in_default.is in
    let kept = after_put k blocks at old new c.requires.chained c.requires.sized place c.index_mut.ensures.value c.args.value []
    (subst (Chain new) one c.put_and_cut-before.ensures.chain) c.put_and_cut-before.ensures.fence (subst (λ us. flat (new ∷ us) ≡ record_set k c.args.value old.rows.items) one c.put_and_cut-before.ensures.rows)
    (subst (λ us. Sized (new ∷ us)) one c.put_and_cut-before.ensures.sized) in
    let now = set_splice blocks at new (subst (λ bs. at < length bs) c.deref.ensures.value c.slot-at.ensures.within) in
    subst Chained (sym now) kept.1.0

pub returns-in_default-clause-sized : goal.returns-in_default-clause-sized
returns-in_default-clause-sized c = let blocks = c.args.blocks.now.items in let old = c.index_mut.result.now in let at = c.slot-at.result in let k = c.args.key in
    let place = c.slot-at.ensures.slot ∙ ap (slot_of k) c.deref.ensures.value in
    let new = c.put_and_cut-before.new.block in let one : option_to_list c.put_and_cut-before.result.1 ≡ [] = ap option_to_list c.in_default.is in
    let kept = after_put k blocks at old new c.requires.chained c.requires.sized place c.index_mut.ensures.value c.args.value []
    (subst (Chain new) one c.put_and_cut-before.ensures.chain) c.put_and_cut-before.ensures.fence (subst (λ us. flat (new ∷ us) ≡ record_set k c.args.value old.rows.items) one c.put_and_cut-before.ensures.rows)
    (subst (λ us. Sized (new ∷ us)) one c.put_and_cut-before.ensures.sized) in
    let now = set_splice blocks at new (subst (λ bs. at < length bs) c.deref.ensures.value c.slot-at.ensures.within) in
    subst Sized (sym now) kept.1.1

pub returns-in-Ok-clause-rising : goal.returns-in-Ok-clause-rising
returns-in-Ok-clause-rising c = records_rise c.insert.new.self.items (returns-in-Ok-clause-chained c)

pub returns-in_default-clause-rising : goal.returns-in_default-clause-rising
returns-in_default-clause-rising c = records_rise _ (returns-in_default-clause-chained c)

pub returns-in-Ok-clause-room : goal.returns-in-Ok-clause-room
returns-in-Ok-clause-room c = let blocks = c.args.blocks.now.items in let old = c.index_mut.result.now in let at = c.slot-at.result in let k = c.args.key in
    let place = c.slot-at.ensures.slot ∙ ap (slot_of k) c.deref.ensures.value in
    let new = c.put_and_cut-before.new.block in let one : option_to_list c.put_and_cut-before.result.1 ≡ (c.in-Some.upper ∷ []) = ap option_to_list c.in-Some.is in
    let same = same_found k blocks at old old c.requires.chained c.requires.sized place c.index_mut.ensures.value in
    let p = vec_len c.args.spares.now in let q = vec_len c.put_and_cut-before.new.spares in
    let now = c.in-Ok.ensures.items ∙ insert_splice blocks at (at + 1) new c.in-Some.upper (subst (λ bs. at < length bs) c.deref.ensures.value c.slot-at.ensures.within) (omega arith) in
    subst (λ cs. room_of blocks p ≤ room_of cs q + if◌then◌else◌ {A = ℕ} (is_there (found_at k (flat blocks))) 0 1) (sym now)
    (room_put blocks at old new (c.in-Some.upper ∷ []) p q (if◌then◌else◌ {A = ℕ} (is_there (found_at k (flat blocks))) 0 1) (subst (λ bs. at < length bs) c.deref.ensures.value c.slot-at.ensures.within) c.index_mut.ensures.value
    (subst (λ us. excess (new ∷ us) + 32 * length us ≤ (vec_len old.rows - 33) + if◌then◌else◌ {A = ℕ} (is_there (found_at k (flat blocks))) 0 1) one
    (subst (λ (x : Found). excess (new ∷ option_to_list c.put_and_cut-before.result.1) + 32 * length (option_to_list c.put_and_cut-before.result.1) ≤ (vec_len old.rows - 33) + if◌then◌else◌ {A = ℕ} (is_there x) 0 1) same c.put_and_cut-before.ensures.excess))
    (subst (λ us. p ≡ q + length us) one c.put_and_cut-before.ensures.spares)
    (subst (λ (x : Found). p ≤ q + if◌then◌else◌ {A = ℕ} (is_there x) 0 1) same c.put_and_cut-before.ensures.room))

pub returns-in_default-clause-room : goal.returns-in_default-clause-room
returns-in_default-clause-room c = let blocks = c.args.blocks.now.items in let old = c.index_mut.result.now in let at = c.slot-at.result in let k = c.args.key in
    let place = c.slot-at.ensures.slot ∙ ap (slot_of k) c.deref.ensures.value in
    let new = c.put_and_cut-before.new.block in let one : option_to_list c.put_and_cut-before.result.1 ≡ [] = ap option_to_list c.in_default.is in
    let same = same_found k blocks at old old c.requires.chained c.requires.sized place c.index_mut.ensures.value in
    let p = vec_len c.args.spares.now in let q = vec_len c.put_and_cut-before.new.spares in
    let now = set_splice blocks at new (subst (λ bs. at < length bs) c.deref.ensures.value c.slot-at.ensures.within) in
    subst (λ cs. room_of blocks p ≤ room_of cs q + if◌then◌else◌ {A = ℕ} (is_there (found_at k (flat blocks))) 0 1) (sym now)
    (room_put blocks at old new [] p q (if◌then◌else◌ {A = ℕ} (is_there (found_at k (flat blocks))) 0 1) (subst (λ bs. at < length bs) c.deref.ensures.value c.slot-at.ensures.within) c.index_mut.ensures.value
    (subst (λ us. excess (new ∷ us) + 32 * length us ≤ (vec_len old.rows - 33) + if◌then◌else◌ {A = ℕ} (is_there (found_at k (flat blocks))) 0 1) one
    (subst (λ (x : Found). excess (new ∷ option_to_list c.put_and_cut-before.result.1) + 32 * length (option_to_list c.put_and_cut-before.result.1) ≤ (vec_len old.rows - 33) + if◌then◌else◌ {A = ℕ} (is_there x) 0 1) same c.put_and_cut-before.ensures.excess))
    (subst (λ us. p ≡ q + length us) one c.put_and_cut-before.ensures.spares)
    (subst (λ (x : Found). p ≤ q + if◌then◌else◌ {A = ℕ} (is_there x) 0 1) same c.put_and_cut-before.ensures.room))
