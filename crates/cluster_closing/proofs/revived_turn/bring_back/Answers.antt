use Rattle.std.proofs.Common.{rules, arith, ◌≡◌, ◌∙◌, ◌<◌, Some, length, sym, ap, subst, refl, get_or-set_same}
use Rattle.std.proofs.lemmas.List.{get_or_default, set-set}
use Rattle.clv_base.specs.Restarts.{run_after}
use Rattle.turn_lock.specs.Passes.{number, seen, pass_origin, IsPassOf}
use Rattle.cluster_turns.specs.Turns.{Turned}
use Rattle.cluster_turns.specs.Walkers.{IsWalkerOf, Walked, kept, founds_of}
use Rattle.cluster_turns.proofs.Laws.{walks, still_pass, the}
use Rattle.cluster_closing.specs.EndHeld.{Holds}
use Rattle.cluster_closing.specs.Restarts.{Recovers}
use Rattle.cluster_closing.specs.Revived.{IsReadyFor, ReviveTold, IsSameSeen}
use Rattle.cluster_closing.proofs.ReviveHolding.{revive_adds, on_err}
use Rattle.cluster_closing.proofs.revived_turn.bring_back.Goals as goal
use Rattle.cluster_closing.proofs.Adding.{revive_later as revive_rises}

pub unwrap-pass-requires : goal.unwrap-pass-requires
unwrap-pass-requires g c = let t = c.requires.walker.walks.are_passes.each c.args.shard c.index_mut.result.now c.requires.shard in let is : c.take.result ≡ Some t.0 = c.take.ensures.value ∙ (c.index_mut.ensures.value ∙ t.1) in search rules

pub take_up-pass-requires-clause-pass : goal.take_up-pass-requires-clause-pass
take_up-pass-requires-clause-pass g c = let t = c.requires.walker.walks.are_passes.each c.args.shard c.index_mut.result.now c.requires.shard in let is : c.take.result ≡ Some t.0 = c.take.ensures.value ∙ (c.index_mut.ensures.value ∙ t.1) in
    let same : t.0 ≡ c.unwrap-pass.result = ap (the t.0) (sym is ∙ c.unwrap-pass.ensures) in
    (subst (λ p. IsPassOf c.index.result.now p) same (subst (λ l. IsPassOf l t.0) (sym c.index.ensures) (t.2.ours c.index.result.now)), subst (λ p. number p ≡ c.args.walker.now.number) same t.2.number_is)

pub take_up-pass-requires-clause-held : goal.take_up-pass-requires-clause-held
take_up-pass-requires-clause-held g c = let a = c.requires.held in let is : c.take.result ≡ Some a.0 = c.take.ensures.value ∙ (c.index_mut.ensures.value ∙ a.1 c.index_mut.result.now) in
    let same : a.0 ≡ c.unwrap-pass.result = ap (the a.0) (sym is ∙ c.unwrap-pass.ensures) in let y = c.args.ready in let G = g.M.Gate.Gate in
    subst (λ p. Holds c.args.walker.now.number (λ layout s. IsReadyFor s y.epoch y.found.value.items (g.M.Store.Store.records y.store) y.recovered × Recovers s y.recovered.buffer.records (G.is_shut y.gate) (G.faults y.gate) (G.shard y.gate) (G.logs y.gate layout)) p) same a.2

pub returns : goal.returns
returns g c = let w = c.args.walker.now in let sh = c.args.shards.now in let locks = sh.locks.items in let n = c.args.shard in let low = c.requires.shard in let is_walker = c.requires.walker in let r = c.take_up-pass.result in let y = c.args.ready in
    let t = is_walker.walks.are_passes.each n c.index_mut.result.now low in let is : c.take.result ≡ Some t.0 = c.take.ensures.value ∙ (c.index_mut.ensures.value ∙ t.1) in
    let same : t.0 ≡ c.unwrap-pass.result = ap (the t.0) (sym is ∙ c.unwrap-pass.ensures) in
    let long : n < length w.passes.items = (let h = is_walker.walks.are_passes.count in omega arith) in
    let told = ReviveTold w.clock w.number y.epoch y.found.value.items r.2 r.1 in
    let turned : Turned told w.number t.0 r.0 = subst (λ p. Turned told w.number p r.0) (sym same) c.take_up-pass.ensures.turned in
    let new = still_pass sh.splits (founds_of sh) locks w.number n told t.0 r.0 t.2 turned (λ l. subst (λ x. IsPassOf x r.0) (c.index.ensures ∙ get_or_default locks n c.index.result.now l low) c.take_up-pass.ensures.pass) in
    let adds = revive_adds sh.splits (run_after (founds_of sh)) w.number n w.clock r.1 y.epoch (kept w.passes.items) y.found.value.items r.2 turned.s turned.t turned.added turned.told is_walker.walks.keeps.session in
    let h = walks sh.splits (founds_of sh) locks n w.number w.clock r.1 told w.passes.items t.0 r.0 is_walker.walks is_walker.count low (λ d. get_or_default w.passes.items n d c.index_mut.result.now long ∙ t.1) turned new adds in
    let twice = sym (set-set w.passes.items n c.take.new.self (Some r.0)) in
    let rises = revive_rises w.clock w.number y.epoch y.found.value.items r.2 r.1 turned.s turned.t turned.added turned.told in
    record {
      walker = (
        record {
          count = is_walker.count;
          run = is_walker.run;
          walks = subst (λ ps. IsWalkerOf sh.splits (founds_of sh) locks w.number r.1 ps) twice h.0;
          serials = (let s = is_walker.serials in omega arith);
        },
        (refl, refl),
      );
      walked = subst (λ ps. Walked told n w.number w.passes.items ps) twice h.1;
      same = on_err r.2
          (λ (k : (seen r.0 ≡ seen c.unwrap-pass.result) × (pass_origin r.0 ≡ pass_origin c.unwrap-pass.result)). subst (λ ps. IsSameSeen n w.passes.items ps) twice
          (record { p = t.0; q = r.0; had = λ d. get_or_default w.passes.items n d c.index_mut.result.now long ∙ t.1; has = λ d. get_or-set_same w.passes.items n (Some r.0) d long; same = subst (λ p. (seen r.0 ≡ seen p) × (pass_origin r.0 ≡ pass_origin p)) (sym same) k })) c.take_up-pass.ensures.same;
      back = c.take_up-pass.ensures.back;
    }
