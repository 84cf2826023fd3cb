use Rattle.std.proofs.Common.{rules, arith, ◌≡◌, ◌∙◌, ◌<◌, ◌≤◌, Some, length, sym, ap, subst, refl}
use Rattle.std.proofs.lemmas.List.{get_or_default, set-set}
use Rattle.turn_lock.specs.Passes.{known, IsPassOf, IsSamePass}
use Rattle.cluster_turns.specs.Walkers.{IsWalkerOf, IsPassAt, founds_of}
use Rattle.cluster_turns.proofs.Walking.{looks}
use Rattle.cluster_turns.proofs.shards.Shards.horizon_of.Goals as goal
use Rattle.law_base.proofs.Options.{value_or as the}

pub unwrap-pass-requires : goal.unwrap-pass-requires
unwrap-pass-requires g c = let t = c.requires.walker.walks.are_passes.each c.args.shard c.index_mut.result.now c.requires.shard in let is : c.take.result ≡ Some t.0 = c.take.ensures.value ∙ (c.index_mut.ensures.value ∙ t.1) in search rules

pub horizon-horizon-requires : goal.horizon-horizon-requires
horizon-horizon-requires g c = let t = c.requires.walker.walks.are_passes.each c.args.shard c.index_mut.result.now c.requires.shard in let is : c.take.result ≡ Some t.0 = c.take.ensures.value ∙ (c.index_mut.ensures.value ∙ t.1) in
    let same : t.0 ≡ c.unwrap-pass.result = ap (the t.0) (sym is ∙ c.unwrap-pass.ensures) in
    subst (λ p. IsPassOf c.index.result.now p) same (subst (λ l. IsPassOf l t.0) (sym c.index.ensures) (t.2.ours c.index.result.now))

pub returns : goal.returns
returns g c = let w = c.args.walker.now in let sh = c.args.self.now in let locks = sh.locks.items in let n = c.args.shard in let low = c.requires.shard in let is_walker = c.requires.walker in
    let t = is_walker.walks.are_passes.each n c.index_mut.result.now low in let is : c.take.result ≡ Some t.0 = c.take.ensures.value ∙ (c.index_mut.ensures.value ∙ t.1) in
    let same : t.0 ≡ c.unwrap-pass.result = ap (the t.0) (sym is ∙ c.unwrap-pass.ensures) in
    let long : n < length w.passes.items = (let h = is_walker.walks.are_passes.count in omega arith) in
    let q = c.horizon-horizon.new.pass in
    let e = c.horizon-horizon.ensures in
    let like : IsSamePass t.0 q = subst (λ p. IsSamePass p q) (sym same) e.pass.1 in
    let new : IsPassAt sh.splits (founds_of sh) locks w.number n q = record {
      ours = λ l. subst (λ x. IsPassOf x q) (c.index.ensures ∙ get_or_default locks n c.index.result.now l low) e.pass.0;
      number_is = like.1 ∙ t.2.number_is;
      origin = t.2.origin;
      has_origin = like.0 ∙ t.2.has_origin;
      origin_is = t.2.origin_is;
    } in
    let h = looks sh.splits (founds_of sh) locks n w.number w.clock w.passes.items t.0 q is_walker.walks low (λ d. get_or_default w.passes.items n d c.index_mut.result.now long ∙ t.1) new like.3 in
    let twice = sym (set-set w.passes.items n c.take.new.self (Some q)) in
    record {
      walker = (record { count = is_walker.count; run = is_walker.run; walks = subst (λ ps. IsWalkerOf sh.splits (founds_of sh) locks w.number w.clock ps) twice h; serials = is_walker.serials }, (refl, refl), refl);
      horizon = record { p = t.0; q = q; had = λ d. get_or_default w.passes.items n d c.index_mut.result.now long ∙ t.1; after_is = sym twice; same = like; rises = subst (λ p. known p ≤ c.horizon-horizon.result) (sym same) e.answer.0; knows = e.answer.1 };
    }
