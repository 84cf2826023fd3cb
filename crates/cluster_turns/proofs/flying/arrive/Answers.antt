use Rattle.std.proofs.Common.{rules, arith, ◌≡◌, ◌∙◌, ◌<◌, Some, get_or, length, sym, ap, subst, refl, get_or-set_same}
use Rattle.std.proofs.lemmas.List.{get_or_default, set-set}
use Rattle.clv_base.specs.declared.events.Event.TheVariants.{FlushIn}
use Rattle.clv_base.specs.Events.{land}
use Rattle.clv_base.specs.Restarts.{run_after}
use Rattle.turn_lock.specs.Passes.{number, IsPassOf}
use Rattle.machine_laws.specs.Homes.{entries_in}
use Rattle.machine_laws.specs.Gates.{Landable}
use Rattle.machine_laws.proofs.Laws.{above}
use Rattle.cluster_turns.specs.Turns.{Turned}
use Rattle.cluster_turns.specs.Walkers.{IsWalkerOf, Walked, kept, founds_of}
use Rattle.cluster_turns.proofs.Walking.{Adds, walks, still_pass, made_adds}
use Rattle.law_base.proofs.Options.{value_or as the}
use Rattle.cluster_turns.specs.Flights.{LandTold, Away, landed_as}
use Rattle.cluster_turns.proofs.flying.arrive.Goals as goal

pub unwrap-pass-requires : goal.unwrap-pass-requires
unwrap-pass-requires g c = let t = c.requires.walker.walks.are_passes.each c.args.shard c.index_mut.result.now c.requires.shard in let is : c.take.result ≡ Some t.0 = c.take.ensures.value ∙ (c.index_mut.ensures.value ∙ t.1) in search rules

pub touch_down-pass-requires-clause-pass : goal.touch_down-pass-requires-clause-pass
touch_down-pass-requires-clause-pass g c = let t = c.requires.walker.walks.are_passes.each c.args.shard c.index_mut.result.now c.requires.shard in let is : c.take.result ≡ Some t.0 = c.take.ensures.value ∙ (c.index_mut.ensures.value ∙ t.1) in
    let same : t.0 ≡ c.unwrap-pass.result = ap (the t.0) (sym is ∙ c.unwrap-pass.ensures) in
    (subst (λ p. IsPassOf c.index.result.now p) same (subst (λ l. IsPassOf l t.0) (sym c.index.ensures) (t.2.ours c.index.result.now)), subst (λ p. number p ≡ c.args.walker.now.number) same t.2.number_is)

pub touch_down-pass-requires-clause-away : goal.touch_down-pass-requires-clause-away
touch_down-pass-requires-clause-away g c = let a = c.requires.away in let is : c.take.result ≡ Some a.0 = c.take.ensures.value ∙ (c.index_mut.ensures.value ∙ a.1 c.index_mut.result.now) in
    let same : a.0 ≡ c.unwrap-pass.result = ap (the a.0) (sym is ∙ c.unwrap-pass.ensures) in
    subst (λ p. Away c.args.walker.now.number (λ layout s. Landable c.args.pushed s c.args.flight.upto (g.M.Gate.Gate.faults c.args.flight.as_taken.value) (g.M.Gate.Gate.is_shut c.args.flight.gate) (g.M.Gate.Gate.faults c.args.flight.gate) (g.M.Gate.Gate.shard c.args.flight.gate) (g.M.Gate.Gate.logs c.args.flight.gate layout)) p) same a.2

pub returns : goal.returns
returns g c = let w = c.args.walker.now in let sh = c.args.shards.now in let locks = sh.locks.items in let n = c.args.shard in let low = c.requires.shard in let is_walker = c.requires.walker in let r = c.touch_down-pass.result in
    let pushed = c.args.pushed in let upto = c.args.flight.upto in
    let t = is_walker.walks.are_passes.each n c.index_mut.result.now low in let is : c.take.result ≡ Some t.0 = c.take.ensures.value ∙ (c.index_mut.ensures.value ∙ t.1) in
    let same : t.0 ≡ c.unwrap-pass.result = ap (the t.0) (sym is ∙ c.unwrap-pass.ensures) in
    let long : n < length w.passes.items = (let h = is_walker.walks.are_passes.count in omega arith) in
    let told = LandTold w.clock w.number pushed upto r.1 in
    let turned : Turned told w.number t.0 r.0 = subst (λ p. Turned told w.number p r.0) (sym same) c.touch_down-pass.ensures.turned in
    let new = still_pass sh.splits (founds_of sh) locks w.number n told t.0 r.0 t.2 turned (λ l. subst (λ x. IsPassOf x r.0) (c.index.ensures ∙ get_or_default locks n c.index.result.now l low) c.touch_down-pass.ensures.pass) in
    let v = turned.told in
    let adds = subst (λ l. Adds sh.splits (run_after (founds_of sh)) w.number n w.clock r.1 (kept w.passes.items) (entries_in l)) (sym v.added_is)
    (made_adds sh.splits (run_after (founds_of sh)) w.number n w.clock r.1 (kept w.passes.items) FlushIn (land turned.s w.clock w.number pushed) turned.s turned.t (landed_as pushed upto) v.made v.made_is (let k = v.clock_is in omega arith) is_walker.walks.keeps.session refl tt) in
    let h = walks sh.splits (founds_of sh) locks n w.number w.clock r.1 told w.passes.items t.0 r.0 is_walker.walks is_walker.count low (λ d. get_or_default w.passes.items n d c.index_mut.result.now long ∙ t.1) turned new adds in
    let twice = sym (set-set w.passes.items n c.take.new.self (Some r.0)) in
    record {
      walker = (
        record {
          count = is_walker.count;
          run = is_walker.run;
          walks = subst (λ ps. IsWalkerOf sh.splits (founds_of sh) locks w.number r.1 ps) twice h.0;
          serials = (let s = is_walker.serials in let e = above (land turned.s w.clock w.number pushed) turned.s w.clock w.number FlushIn (landed_as pushed upto) turned.t v.made v.made_is in let k = v.clock_is in omega arith);
        },
        (refl, refl),
      );
      walked = subst (λ ps. Walked told n w.number w.passes.items ps) twice h.1;
      published = λ p. (r.0, (λ d. subst (λ ps. get_or ps n d ≡ Some r.0) twice (get_or-set_same w.passes.items n (Some r.0) d long)), c.touch_down-pass.ensures.published p);
    }
