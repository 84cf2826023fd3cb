use Rattle.std.proofs.Common.{arith, ◌≡◌, ◌∙◌, ◌<◌, length, get_or, set, vec_len, None, Some, sym, ap}
use Rattle.std.proofs.lemmas.List.{get_or_default}
use Rattle.std.proofs.Common.{get_or-set_other}
use Rattle.cluster_closing.proofs.Gathering.{set_each}
use Rattle.cluster_closing.proofs.ending.gather.Goals as goal
use Rattle.law_base.proofs.Lists.{pushed_each}

pub take_pass-requires : goal.take_pass-requires
take_pass-requires g c = let W = c.args.walkers.now in let k = c.loop-k.k in let v = c.index_mut.result.now in let inv = c.loop-k.invariant in
    let same : v ≡ get_or W.items k v = c.index_mut.ensures.value ∙ inv.ahead k v (omega arith) in
    let low : k < vec_len W = (let h = c.loop-k-test.true in let e = inv.long in let s = c.len-k-end.ensures in omega arith) in
    let t = c.requires.walkers k v low in (t.0, λ d. ap (λ w. get_or w.passes.items c.args.n d) same ∙ t.1 d)

pub loop-k-preserved : goal.loop-k-preserved
loop-k-preserved g c = let W = c.args.walkers.now in let k = c.loop-k.k in let v = c.index_mut.result.now in let inv = c.loop-k.invariant in let n = c.args.n in
    let same : v ≡ get_or W.items k v = c.index_mut.ensures.value ∙ inv.ahead k v (omega arith) in
    let low : k < vec_len W = (let h = c.loop-k-test.true in let e = inv.long in let s = c.len-k-end.ensures in omega arith) in
    let okw = W.ok in let okl = c.loop-k.walkers.ok in let okr = c.loop-k.room.ok in
    let lw : k < length W.items = omega arith in
    let ll : k < length c.loop-k.walkers.items = (let e = inv.long in omega arith) in
    record {
      len = (let h = c.push_reserved.ensures.len in let e = inv.len in omega arith);
      wide = (let h = c.push_reserved.ensures.capacity in let e = inv.wide in omega arith);
      long = inv.long;
      ahead = λ j d l. get_or-set_other c.loop-k.walkers.items k j c.take_pass.new.walker d (λ e. absurd (omega arith)) ∙ inv.ahead j d (omega arith);
      taken = λ j e l. rw c.push_reserved.ensures.items (pushed_each (λ i p. (d : _) → get_or (get_or W.items i d).passes.items n None ≡ Some p) c.loop-k.room.items c.take_pass.result k (let h = inv.len in omega arith) inv.taken
          (λ d. ap (λ w. get_or w.passes.items n None) (get_or_default W.items k d v lw ∙ sym same) ∙ c.take_pass.ensures.pass) j e l);
      numbers = set_each (λ i w. (d : _) → w.number ≡ (get_or W.items i d).number) c.loop-k.walkers.items c.take_pass.new.walker k ll inv.numbers
          (λ d. c.take_pass.ensures.number ∙ ap (λ w. w.number) (same ∙ get_or_default W.items k v d lw));
      left = set_each (λ i w. (d : _) → w.passes.items ≡ set (get_or W.items i d).passes.items n None) c.loop-k.walkers.items c.take_pass.new.walker k ll inv.left
          (λ d. c.take_pass.ensures.rest ∙ ap (λ w. set w.passes.items n None) (same ∙ get_or_default W.items k v d lw));
    }
