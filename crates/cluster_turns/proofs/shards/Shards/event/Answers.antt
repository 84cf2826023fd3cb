use Rattle.std.proofs.Common.{rules, arith, ◌≡◌, ◌∙◌, ◌<◌, Some, length, sym, ap, subst, refl, true}
use Rattle.std.proofs.lemmas.List.{get_or_default, set-set}
use Rattle.turn_lock.specs.Passes.{number, pass_origin, IsPassOf}
use Rattle.machine_calls.specs.Events.{event_fits}
use Rattle.cluster_turns.specs.Turns.{Turned, EventTold}
use Rattle.cluster_turns.specs.Walkers.{IsWalkerOf, Walked, GoesOn, kept, founds_of}
use Rattle.cluster_turns.proofs.Walking.{walks, still_pass, event_adds, event_rises}
use Rattle.cluster_turns.proofs.Dating.{sent_in_time}
use Rattle.cluster_turns.proofs.shards.Shards.event.Goals as goal
use Rattle.law_base.proofs.Options.{value_or as the, some_inj}

pub unwrap-pass-requires : goal.unwrap-pass-requires
unwrap-pass-requires g c = let t = c.requires.walker.walks.are_passes.each c.args.shard c.index_mut.result.now c.requires.shard in let is : c.take.result ≡ Some t.0 = c.take.ensures.value ∙ (c.index_mut.ensures.value ∙ t.1) in search rules

pub turn-pass-requires-clause-pass : goal.turn-pass-requires-clause-pass
turn-pass-requires-clause-pass g c = let t = c.requires.walker.walks.are_passes.each c.args.shard c.index_mut.result.now c.requires.shard in let is : c.take.result ≡ Some t.0 = c.take.ensures.value ∙ (c.index_mut.ensures.value ∙ t.1) in
    let same : t.0 ≡ c.unwrap-pass.result = ap (the t.0) (sym is ∙ c.unwrap-pass.ensures) in
    (subst (λ p. IsPassOf c.index.result.now p) same (subst (λ l. IsPassOf l t.0) (sym c.index.ensures) (t.2.ours c.index.result.now)), subst (λ p. number p ≡ c.args.walker.now.number) same t.2.number_is)

pub turn-pass-requires-clause-fits : goal.turn-pass-requires-clause-fits
turn-pass-requires-clause-fits g c = let t = c.requires.walker.walks.are_passes.each c.args.shard c.index_mut.result.now c.requires.shard in let is : c.take.result ≡ Some t.0 = c.take.ensures.value ∙ (c.index_mut.ensures.value ∙ t.1) in
    let same : t.0 ≡ c.unwrap-pass.result = ap (the t.0) (sym is ∙ c.unwrap-pass.ensures) in
    λ o h. (let one : t.2.origin ≡ o = some_inj t.2.origin o (sym t.2.has_origin ∙ (ap (λ p. pass_origin p) same ∙ h)) in
    subst (λ n. event_fits n c.args.event ≡ true) (sym t.2.origin_is.shard ∙ ap (λ x. x.shard) one) c.requires.fits)

pub turn-pass-requires-clause-in_time : goal.turn-pass-requires-clause-in_time
turn-pass-requires-clause-in_time g c = sent_in_time c.args.walker.now.clock (kept c.args.walker.now.passes.items) c.args.event c.requires.walker.walks.in_time c.requires.goes.sent

pub turn-pass-requires-clause-named : goal.turn-pass-requires-clause-named
turn-pass-requires-clause-named g c = c.requires.free.named

pub turn-pass-requires-clause-free : goal.turn-pass-requires-clause-free
turn-pass-requires-clause-free g c = let t = c.requires.walker.walks.are_passes.each c.args.shard c.index_mut.result.now c.requires.shard in let is : c.take.result ≡ Some t.0 = c.take.ensures.value ∙ (c.index_mut.ensures.value ∙ t.1) in
    let same : t.0 ≡ c.unwrap-pass.result = ap (the t.0) (sym is ∙ c.unwrap-pass.ensures) in let w = c.args.walker.now in
    let long : c.args.shard < length w.passes.items = (let h = c.requires.walker.walks.are_passes.count in let low = c.requires.shard in omega arith) in
    λ o h. c.requires.free.free c.unwrap-pass.result o (λ d. get_or_default w.passes.items c.args.shard d c.index_mut.result.now long ∙ t.1 ∙ ap (λ p. Some p) same) h

pub returns : goal.returns
returns g c = let w = c.args.walker.now in let sh = c.args.self.now in let locks = sh.locks.items in let n = c.args.shard in let low = c.requires.shard in let is_walker = c.requires.walker in
    let t = is_walker.walks.are_passes.each n c.index_mut.result.now low in let is : c.take.result ≡ Some t.0 = c.take.ensures.value ∙ (c.index_mut.ensures.value ∙ t.1) in
    let same : t.0 ≡ c.unwrap-pass.result = ap (the t.0) (sym is ∙ c.unwrap-pass.ensures) in
    let long : n < length w.passes.items = (let h = is_walker.walks.are_passes.count in omega arith) in
    let told = EventTold w.clock w.number c.args.event c.turn-pass.result.2 c.turn-pass.result.1 in
    let turned : Turned told w.number t.0 c.turn-pass.result.0 = subst (λ p. Turned told w.number p c.turn-pass.result.0) (sym same) c.turn-pass.ensures.turned in
    let new = still_pass sh.splits (founds_of sh) locks w.number n told t.0 c.turn-pass.result.0 t.2 turned (λ l. subst (λ x. IsPassOf x c.turn-pass.result.0) (c.index.ensures ∙ get_or_default locks n c.index.result.now l low) c.turn-pass.ensures.pass) in
    let adds = event_adds sh.splits _ w.number n w.clock c.turn-pass.result.1 (kept w.passes.items) c.args.event c.turn-pass.result.2 turned.s turned.t turned.added turned.told
    (subst (λ run. GoesOn sh.splits run w.number (kept w.passes.items) n c.args.event) is_walker.run c.requires.goes) in
    let h = walks sh.splits (founds_of sh) locks n w.number w.clock c.turn-pass.result.1 told w.passes.items t.0 c.turn-pass.result.0 is_walker.walks is_walker.count low
    (λ d. get_or_default w.passes.items n d c.index_mut.result.now long ∙ t.1) turned new adds in
    let twice = sym (set-set w.passes.items n c.take.new.self (Some c.turn-pass.result.0)) in
    record {
      walker = (
        record {
          count = is_walker.count;
          run = is_walker.run;
          walks = subst (λ ps. IsWalkerOf sh.splits (founds_of sh) locks w.number c.turn-pass.result.1 ps) twice h.0;
          serials = (let s = is_walker.serials in let r = event_rises w.clock w.number c.args.event c.turn-pass.result.2 c.turn-pass.result.1 turned.s turned.t turned.added turned.told in omega arith);
        },
        (refl, refl),
      );
      event = subst (λ ps. Walked told n w.number w.passes.items ps) twice h.1;
      sends = c.turn-pass.ensures.sends;
    }
