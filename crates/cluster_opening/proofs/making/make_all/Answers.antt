use Rattle.std.proofs.Common.{rules, arith, ◌≡◌, ◌∙◌, ◌≤◌, ◌+◌, ◌-◌, length, get_or, vec_len, vec_capacity, Some, sym, ap, subst, refl, length-take}
use Rattle.std.proofs.lemmas.List.{get_or-take}
use Rattle.cluster_turns.specs.Walkers.{AreNewPasses, founds_of}
use Rattle.cluster_opening.specs.Made.{IsNewWalker}
use Rattle.cluster_opening.proofs.Columns.{column_is_new}
use Rattle.cluster_opening.proofs.making.make_all.Goals as goal
use Rattle.law_base.proofs.Options.{value_or as the}
use Rattle.law_base.proofs.Lists.{elem_at as some_elem, pushed_each}

pub unwrap-room-requires : goal.unwrap-room-requires
unwrap-room-requires g c = let inv = c.loop-i.invariant in let low = c.loop-i-test.true in let h = inv.rooms in let is = c.pop.ensures.variant in search rules

pub take_column-mine-requires-clause-some : goal.take_column-mine-requires-clause-some
take_column-mine-requires-clause-some g c = let inv = c.loop-i.invariant in let low = c.loop-i-test.true in let len = inv.len in λ n d l. (let k = inv.left n d (omega arith) in omega arith)

pub take_column-mine-requires-clause-room : goal.take_column-mine-requires-clause-room
take_column-mine-requires-clause-room g c = let inv = c.loop-i.invariant in let low = c.loop-i-test.true in let hr = inv.rooms in let len = inv.len in let okR = c.loop-i.rooms.ok in
    let is = ap (the c.unwrap-room.result) (sym c.unwrap-room.ensures ∙ c.pop.ensures.value c.unwrap-room.result (omega arith)) in let r = inv.room (vec_len c.loop-i.rooms - 1) c.unwrap-room.result (omega arith) in
    (ap (λ z. vec_len z) is ∙ r.0, let e = ap (λ z. vec_capacity z) is in let r1 = r.1 in omega arith)

pub push_reserved-requires : goal.push_reserved-requires
push_reserved-requires g c = let inv = c.loop-i.invariant in let low = c.loop-i-test.true in let a = inv.walkers in let b = inv.broad in omega arith

pub loop-i-init : goal.loop-i-init
loop-i-init g c = let P = c.args.passes.now in let L = c.args.shards.now.locks in let okP = P.ok in let okL = L.ok in let okR = c.args.rooms.ok in let cnt = c.len-count.ensures in let long = c.requires.len in
    let w = c.requires.walkers in let w0 = w.0 in let w1 = w.1 in record {
      rooms = omega arith;
      room = c.requires.rooms;
      len = refl;
      left = λ n d l. (let o = c.requires.opened n (some_elem L.items n (omega arith)) d (omega arith) in let a = o.all in let v = get_or P.items n d in let okV = v.ok in omega arith);
      wide = λ n d l. (let o = c.requires.opened n (some_elem L.items n (omega arith)) d (omega arith) in let a = o.all in let v = get_or P.items n d in let okV = v.ok in omega arith);
      same = λ n k d e l at. refl;
      walkers = w0;
      broad = omega arith;
      made = λ j d l. absurd (omega arith);
    }

pub new-requires-clause-passes : goal.new-requires-clause-passes
new-requires-clause-passes g c = let inv = c.loop-i.invariant in let low = c.loop-i-test.true in let P = c.args.passes.now in let L = c.args.shards.now.locks in let okP = P.ok in let okL = L.ok in let cnt = c.len-count.ensures in
    let long = c.requires.len in let il = inv.len in let tl = c.take_column-mine.ensures.len.0 in let Q = c.loop-i.passes in let okQ = Q.ok in let mine = c.take_column-mine.result in let okM = mine.ok in
    let number = c.len-count.result - 1 - c.loop-i.i in let run = c.requires.shards.1 in
    column_is_new _ _ c.args.shards.now.run (vec_len c.args.rooms) number L.items P.items mine.items run (omega arith) (omega arith) (omega arith) c.requires.opened
    (λ n d e f l. (let h = inv.left n d (omega arith) in let at : vec_len (get_or Q.items n d) - 1 ≡ number = omega arith in
    c.take_column-mine.ensures.taken n d e f (omega arith) ∙ ap Some (ap (λ m. get_or (get_or Q.items n d).items m f) at ∙ inv.same n number d f (omega arith) (omega arith))))

pub loop-i-preserved : goal.loop-i-preserved
loop-i-preserved g c = let inv = c.loop-i.invariant in let low = c.loop-i-test.true in let i = c.loop-i.i in let P = c.args.passes.now in let L = c.args.shards.now.locks in let okP = P.ok in let okL = L.ok in let cnt = c.len-count.ensures in
    let long = c.requires.len in let il = inv.len in let col = c.take_column-mine.ensures in let tl = col.len.0 in let tl1 = col.len.1 in let Q = c.loop-i.passes in let okQ = Q.ok in let mine = c.take_column-mine.result in let okM = mine.ok in
    let N = c.take_column-mine.new.passes in let okN = N.ok in let okR = c.loop-i.rooms.ok in let okR2 = c.pop.new.self.ok in let okW = c.loop-i.walkers.ok in let okW2 = c.push_reserved.new.self.ok in
    let hr = inv.rooms in let hw = inv.walkers in let hb = inv.broad in let pl = c.push_reserved.ensures.len in let pc = c.push_reserved.ensures.capacity in
    let fewer = ap length c.pop.ensures.rest in let most = length-take (vec_len c.loop-i.rooms - 1) c.loop-i.rooms.items in let run = c.requires.shards.1 in let begins = c.new.ensures.begins in record {
      rooms = omega arith;
      room = λ j d l. (let e = ap (λ z. get_or z j d) c.pop.ensures.rest ∙ get_or-take (vec_len c.loop-i.rooms - 1) c.loop-i.rooms.items j d (omega arith) in
          subst (λ z. (vec_len z ≡ 0) × (vec_len P ≤ vec_capacity z)) (sym e) (inv.room j d (omega arith)));
      len = omega arith;
      left = λ n d l. (let h = inv.left n d l in let v = get_or Q.items n d in let w = get_or N.items n d in let okV = v.ok in let okV2 = w.ok in let e = ap length (col.rest n d (omega arith)) in let m = length-take (vec_len v - 1) v.items in omega arith);
      wide = λ n d l. (let h = inv.wide n d l in let e = col.capacity n d (omega arith) in omega arith);
      same = λ n k d e l at. (let h = inv.left n d l in ap (λ z. get_or z k e) (col.rest n d (omega arith)) ∙ (get_or-take (vec_len (get_or Q.items n d) - 1) (get_or Q.items n d).items k e (omega arith) ∙ inv.same n k d e l (omega arith)));
      walkers = omega arith;
      broad = omega arith;
      made = λ j d l. subst (λ z. (m : _) → j + m + 1 ≡ c.len-count.result → IsNewWalker c.args.shards.now m c.args.first (get_or z j d)) (sym c.push_reserved.ensures.items)
          (pushed_each (λ a z. (m : _) → a + m + 1 ≡ c.len-count.result → IsNewWalker c.args.shards.now m c.args.first z) c.loop-i.walkers.items c.new.result i (omega arith) inv.made
          (λ m at. record {
            walker = c.new.ensures.walker;
            number_is = (let e = begins.0 in omega arith);
            clock_is = begins.1;
            none_begun = begins.2;
            new = subst (λ z. AreNewPasses c.args.shards.now.splits (founds_of c.args.shards.now) L.items m z.items) (sym begins.3)
                (column_is_new _ _ c.args.shards.now.run (vec_len c.args.rooms) m L.items P.items mine.items run (omega arith) (omega arith) (omega arith) c.requires.opened
                (λ n d e f l. (let h = inv.left n d (omega arith) in let at : vec_len (get_or Q.items n d) - 1 ≡ m = omega arith in
                col.taken n d e f (omega arith) ∙ ap Some (ap (λ m. get_or (get_or Q.items n d).items m f) at ∙ inv.same n m d f (omega arith) (omega arith)))));
          }) j d l);
    }

pub returns-clause-made : goal.returns-clause-made
returns-clause-made g c = let inv = c.loop-i.invariant in let hw = inv.walkers in let no = c.loop-i-test.false in let len = c.reverse.ensures.len in let end = c.loop-i.auto.i-end in
    λ k d l. subst (λ z. IsNewWalker c.args.shards.now k c.args.first z) (sym (c.reverse.ensures.by_index k d (omega arith))) (inv.made (vec_len c.loop-i.walkers - 1 - k) d (omega arith) k (omega arith))
