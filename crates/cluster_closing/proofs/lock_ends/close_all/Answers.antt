use Rattle.std.proofs.Common.{rules, arith, ◌≡◌, ◌∙◌, ◌≤◌, ◌+◌, ◌-◌, length, get_or, vec_len, vec_capacity, None, sym, ap, subst, length-take, get_or-set_other}
use Rattle.std.proofs.lemmas.List.{get_or_default, get_or-take}
use Rattle.turn_lock.specs.Passes.{IsPassOf, passes_of}
use Rattle.machine_laws.specs.Notes.{notes_of}
use Rattle.machine_laws.specs.Sound.{IsSound}
use Rattle.cluster_closing.specs.Ending.{ClosedAt}
use Rattle.cluster_closing.proofs.Gathering.{closed_same}
use Rattle.cluster_closing.proofs.lock_ends.close_all.Goals as goal
use Rattle.law_base.proofs.Options.{value_or as the}
use Rattle.law_base.proofs.Lists.{pushed_each}

pub unwrap-room-requires : goal.unwrap-room-requires
unwrap-room-requires g c = let inv = c.loop-i.invariant in let low = c.loop-i-test.true in let h = inv.rooms in let is = c.pop.ensures.variant in search rules

pub close_last-requires : goal.close_last-requires
close_last-requires g c = let inv = c.loop-i.invariant in let low = c.loop-i-test.true in let i = c.loop-i._i in let L = c.args.shards.locks.items in let W = c.args.walkers in let okL = c.args.shards.locks.ok in let okW = W.ok in let okV = c.loop-i.walkers.ok in
    let okK = c.loop-i.locks.ok in let okR = c.loop-i.rooms.ok in let cnt = c.len-count.ensures in let hl = inv.locks in let hr = inv.rooms in let hw = inv.walkers in record {
      some = omega arith;
      walkers = λ n k d at l. (let q = c.requires.walkers k d (omega arith) in let t = q.walks.are_passes.each n None (omega arith) in let many = q.walks.are_passes.count in (
        t.0,
        λ o. inv.passes k d n o l (omega arith) ∙ (get_or_default (get_or W.items k d).passes.items n o None (omega arith) ∙ t.1),
        λ x. subst (λ z. IsPassOf z t.0) (sym (inv.same n x (omega arith))) (t.2.ours x),
        t.2.number_is ∙ sym (inv.numbers k d l),
      ));
      all = λ j d l. (subst (λ z. passes_of z ≡ vec_len c.loop-i.walkers) (sym (inv.same j d (omega arith))) (c.requires.all j d (omega arith) ∙ sym hw));
      room = (let is = ap (the c.unwrap-room.result) (sym c.unwrap-room.ensures ∙ c.pop.ensures.value c.unwrap-room.result (omega arith)) in let r = inv.room (vec_len c.loop-i.rooms - 1) c.unwrap-room.result (omega arith) in
          (ap (λ z. vec_len z) is ∙ r.0, let e = ap (λ z. vec_capacity z) is in let r1 = r.1 in omega arith));
    }

pub loop-i-preserved : goal.loop-i-preserved
loop-i-preserved g c = let inv = c.loop-i.invariant in let low = c.loop-i-test.true in let i = c.loop-i._i in let L = c.args.shards.locks.items in let W = c.args.walkers in let okL = c.args.shards.locks.ok in let okW = W.ok in let okV = c.loop-i.walkers.ok in
    let okK = c.loop-i.locks.ok in let okR = c.loop-i.rooms.ok in let okK2 = c.close_last.new.locks.ok in let okR2 = c.pop.new.self.ok in let okH = c.loop-i.homes.ok in let okH2 = c.push_reserved.new.self.ok in
    let cnt = c.len-count.ensures in let hl = inv.locks in let hr = inv.rooms in let hw = inv.walkers in let hh = inv.homes in let ends = c.close_last.ensures in let nw = ends.len in
    let n = vec_len c.loop-i.locks - 1 in let last : n + 1 ≡ vec_len c.loop-i.locks = omega arith in
    let fewer = ap length ends.locks in let most = length-take n c.loop-i.locks.items in let fewer2 = ap length c.pop.ensures.rest in let most2 = length-take (vec_len c.loop-i.rooms - 1) c.loop-i.rooms.items in
    let pl = c.push_reserved.ensures.len in let pc = c.push_reserved.ensures.capacity in let hwide = inv.wide in record {
      locks = omega arith;
      same = λ j d l. ap (λ z. get_or z j d) ends.locks ∙ (get_or-take n c.loop-i.locks.items j d (omega arith) ∙ inv.same j d (omega arith));
      rooms = omega arith;
      room = λ j d l. (let e = ap (λ z. get_or z j d) c.pop.ensures.rest ∙ get_or-take (vec_len c.loop-i.rooms - 1) c.loop-i.rooms.items j d (omega arith) in
          subst (λ z. (vec_len z ≡ 0) × (vec_len W ≤ vec_capacity z)) (sym e) (inv.room j d (omega arith)));
      homes = omega arith;
      wide = omega arith;
      walkers = nw ∙ hw;
      numbers = λ k d l. ends.number k d (omega arith) ∙ inv.numbers k d (omega arith);
      passes = λ k d m o l at. ap (λ z. get_or z m o) (ends.rest n k d last (omega arith)) ∙ (get_or-set_other (get_or c.loop-i.walkers.items k d).passes.items n m None o (λ e. absurd (omega arith)) ∙ inv.passes k d m o (omega arith) (omega arith));
      done = λ j d l. subst (λ z. (m : _) → j + m + 1 ≡ c.len-count.result → ClosedAt W.items m (get_or z j d).origin (notes_of (g.M.Machine.shard (get_or z j d).machine).journal (get_or z j d).marks.items)) (sym c.push_reserved.ensures.items)
          (pushed_each (λ a z. (m : _) → a + m + 1 ≡ c.len-count.result → ClosedAt W.items m z.origin (notes_of (g.M.Machine.shard z.machine).journal z.marks.items)) c.loop-i.homes.items c.close_last.result i (omega arith) inv.done
          (λ m at. closed_same c.loop-i.walkers.items W.items m c.close_last.result.origin (notes_of (g.M.Machine.shard c.close_last.result.machine).journal c.close_last.result.marks.items) (omega arith) (λ k d l. inv.numbers k d (omega arith))
          (λ k d l. inv.passes k d m None (omega arith) (omega arith)) (ends.closed m (omega arith))) j d l);
      sound = λ j d l. subst (λ z. IsSound g.M.Gate.Gate.is_shut g.M.Gate.Gate.faults g.M.Gate.Gate.shard g.M.Gate.Gate.logs (get_or z j d).origin (get_or z j d).marks.items (vec_capacity (get_or z j d).marks) (g.M.Machine.shard (get_or z j d).machine) (g.M.Machine.gate (get_or z j d).machine)) (sym c.push_reserved.ensures.items)
          (pushed_each (λ a z. IsSound g.M.Gate.Gate.is_shut g.M.Gate.Gate.faults g.M.Gate.Gate.shard g.M.Gate.Gate.logs z.origin z.marks.items (vec_capacity z.marks) (g.M.Machine.shard z.machine) (g.M.Machine.gate z.machine)) c.loop-i.homes.items c.close_last.result i (omega arith) inv.sound ends.sound j d l);
    }
