use Rattle.std.proofs.Common.{rules, arith, ◌≡◌, ◌∙◌, ◌<◌, Some, get_or, length, sym, ap, subst, refl, get_or-set_same}
use Rattle.std.proofs.lemmas.List.{get_or_default, set-set}
use Rattle.clv_base.specs.declared.events.Event.TheVariants.{FlushOut}
use Rattle.turn_lock.specs.Passes.{number, IsPassOf}
use Rattle.machine_calls.specs.Flights.{outcome_in}
use Rattle.cluster_turns.specs.Turns.{Turned, EventTold}
use Rattle.cluster_turns.specs.Walkers.{IsWalkerOf, Walked, kept, founds_of}
use Rattle.cluster_turns.proofs.Walking.{walks, still_pass, event_adds, event_rises, other_goes_on}
use Rattle.law_base.proofs.Options.{value_or as the}
use Rattle.cluster_turns.proofs.Flights.{flight_taken}
use Rattle.cluster_turns.proofs.flying.depart.Goals as goal

pub unwrap-pass-requires : goal.unwrap-pass-requires
unwrap-pass-requires g c = let t = c.requires.walker.walks.are_passes.each c.args.shard c.index_mut.result.now c.requires.shard in let is : c.take.result ≡ Some t.0 = c.take.ensures.value ∙ (c.index_mut.ensures.value ∙ t.1) in search rules

pub take_off-pass-requires : goal.take_off-pass-requires
take_off-pass-requires g c = let t = c.requires.walker.walks.are_passes.each c.args.shard c.index_mut.result.now c.requires.shard in let is : c.take.result ≡ Some t.0 = c.take.ensures.value ∙ (c.index_mut.ensures.value ∙ t.1) in
    let same : t.0 ≡ c.unwrap-pass.result = ap (the t.0) (sym is ∙ c.unwrap-pass.ensures) in
    (subst (λ p. IsPassOf c.index.result.now p) same (subst (λ l. IsPassOf l t.0) (sym c.index.ensures) (t.2.ours c.index.result.now)), subst (λ p. number p ≡ c.args.walker.now.number) same t.2.number_is)

pub returns : goal.returns
returns g c = let w = c.args.walker.now in let sh = c.args.shards.now in let locks = sh.locks.items in let n = c.args.shard in let low = c.requires.shard in let is_walker = c.requires.walker in let r = c.take_off-pass.result in
    let t = is_walker.walks.are_passes.each n c.index_mut.result.now low in let is : c.take.result ≡ Some t.0 = c.take.ensures.value ∙ (c.index_mut.ensures.value ∙ t.1) in
    let same : t.0 ≡ c.unwrap-pass.result = ap (the t.0) (sym is ∙ c.unwrap-pass.ensures) in
    let long : n < length w.passes.items = (let h = is_walker.walks.are_passes.count in omega arith) in
    let told = EventTold w.clock w.number FlushOut (outcome_in r.2) r.1 in
    let turned : Turned told w.number t.0 r.0 = subst (λ p. Turned told w.number p r.0) (sym same) c.take_off-pass.ensures.turned in
    let new = still_pass sh.splits (founds_of sh) locks w.number n told t.0 r.0 t.2 turned (λ l. subst (λ x. IsPassOf x r.0) (c.index.ensures ∙ get_or_default locks n c.index.result.now l low) c.take_off-pass.ensures.pass) in
    let adds = event_adds sh.splits _ w.number n w.clock r.1 (kept w.passes.items) FlushOut (outcome_in r.2) turned.s turned.t turned.added turned.told
    (other_goes_on sh.splits _ w.number (kept w.passes.items) n FlushOut is_walker.walks.keeps.session refl tt) in
    let h = walks sh.splits (founds_of sh) locks n w.number w.clock r.1 told w.passes.items t.0 r.0 is_walker.walks is_walker.count low (λ d. get_or_default w.passes.items n d c.index_mut.result.now long ∙ t.1) turned new adds in
    let twice = sym (set-set w.passes.items n c.take.new.self (Some r.0)) in
    record {
      walker = (
        record {
          count = is_walker.count;
          run = is_walker.run;
          walks = subst (λ ps. IsWalkerOf sh.splits (founds_of sh) locks w.number r.1 ps) twice h.0;
          serials = (let s = is_walker.serials in let e = event_rises w.clock w.number FlushOut (outcome_in r.2) r.1 turned.s turned.t turned.added turned.told in omega arith);
        },
        (refl, refl),
      );
      walked = subst (λ ps. Walked told n w.number w.passes.items ps) twice h.1;
      flight = flight_taken g.M.Gate.Gate.is_shut g.M.Gate.Gate.faults g.M.Gate.Gate.shard g.M.Gate.Gate.logs n w.number r.1 _ r.0 r.2 (λ d. subst (λ ps. get_or ps n d ≡ Some r.0) twice (get_or-set_same w.passes.items n (Some r.0) d long)) c.take_off-pass.ensures.flight;
    }
