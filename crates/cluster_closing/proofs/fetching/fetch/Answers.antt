use Rattle.std.specs.Prelude.{IfOk}
use Rattle.std.proofs.Common.{rules, arith, ◌≡◌, ◌∙◌, ◌<◌, Some, get_or, length, set, sym, ap, subst, refl, get_or-set_same}
use Rattle.std.proofs.lemmas.List.{get_or_default, set-set}
use Rattle.clv_base.specs.Restarts.{run_after}
use Rattle.machine_calls.specs.Disks.{stories_of, faults_of}
use Rattle.turn_lock.specs.Passes.{number, IsPassOf}
use Rattle.cluster_turns.specs.Turns.{Turned}
use Rattle.cluster_turns.specs.Walkers.{IsWalkerOf, Walked, kept, founds_of}
use Rattle.cluster_turns.proofs.Laws.{Adds, none, walks, still_pass, the}
use Rattle.cluster_closing.specs.EndHeld.{FetchTold, HoldsAt, IsDiskOf}
use Rattle.cluster_closing.proofs.Giving.{no_entries, shard_taken, disk_held}
use Rattle.cluster_closing.proofs.fetching.fetch.Goals as goal

pub unwrap-pass-requires : goal.unwrap-pass-requires
unwrap-pass-requires g c = let t = c.requires.walker.walks.are_passes.each c.args.shard c.index_mut.result.now c.requires.shard in let is : c.take.result ≡ Some t.0 = c.take.ensures.value ∙ (c.index_mut.ensures.value ∙ t.1) in search rules

pub take_disk-pass-requires : goal.take_disk-pass-requires
take_disk-pass-requires g c = let t = c.requires.walker.walks.are_passes.each c.args.shard c.index_mut.result.now c.requires.shard in let is : c.take.result ≡ Some t.0 = c.take.ensures.value ∙ (c.index_mut.ensures.value ∙ t.1) in
    let same : t.0 ≡ c.unwrap-pass.result = ap (the t.0) (sym is ∙ c.unwrap-pass.ensures) in
    record { pass = (subst (λ p. IsPassOf c.index.result.now p) same (subst (λ l. IsPassOf l t.0) (sym c.index.ensures) (t.2.ours c.index.result.now)), subst (λ p. number p ≡ c.args.walker.now.number) same t.2.number_is) }

pub returns : goal.returns
returns g c = let w = c.args.walker.now in let sh = c.args.shards.now in let locks = sh.locks.items in let n = c.args.shard in let low = c.requires.shard in let is_walker = c.requires.walker in let r = c.take_disk-pass.result in
    let t = is_walker.walks.are_passes.each n c.index_mut.result.now low in let is : c.take.result ≡ Some t.0 = c.take.ensures.value ∙ (c.index_mut.ensures.value ∙ t.1) in
    let same : t.0 ≡ c.unwrap-pass.result = ap (the t.0) (sym is ∙ c.unwrap-pass.ensures) in
    let long : n < length w.passes.items = (let h = is_walker.walks.are_passes.count in omega arith) in
    let told = FetchTold w.number r.1 in
    let turned : Turned told w.number t.0 r.0 = subst (λ p. Turned told w.number p r.0) (sym same) c.take_disk-pass.ensures.turned in
    let new = still_pass sh.splits (founds_of sh) locks w.number n told t.0 r.0 t.2 turned (λ l. subst (λ x. IsPassOf x r.0) (c.index.ensures ∙ get_or_default locks n c.index.result.now l low) c.take_disk-pass.ensures.pass) in
    let adds = subst (λ es. Adds sh.splits (run_after (founds_of sh)) w.number n w.clock w.clock (kept w.passes.items) es) (sym (no_entries w.number r.1 turned.s turned.t turned.added turned.told)) (none (omega arith)) in
    let h = walks sh.splits (founds_of sh) locks n w.number w.clock w.clock told w.passes.items t.0 r.0 is_walker.walks is_walker.count low (λ d. get_or_default w.passes.items n d c.index_mut.result.now long ∙ t.1) turned new adds in
    let twice = sym (set-set w.passes.items n c.take.new.self (Some r.0)) in
    record {
      walker = (record { count = is_walker.count; run = is_walker.run; walks = subst (λ ps. IsWalkerOf sh.splits (founds_of sh) locks w.number w.clock ps) twice h.0; serials = is_walker.serials }, (refl, refl), refl);
      fetch = subst (λ ps. Walked told n w.number w.passes.items ps) twice h.1;
      disk = (r.0, (λ d. subst (λ ps. get_or ps n d ≡ Some r.0) twice (get_or-set_same w.passes.items n (Some r.0) d long)), c.take_disk-pass.ensures.disk);
      held = subst (λ ps. IfOk r.1 (λ f. HoldsAt f.shard w.number (λ layout. IsDiskOf (faults_of g.M.Disk.Disk.faults) f) ps)) twice
          (disk_held (stories_of g.M.Disk.Disk.story) (faults_of g.M.Disk.Disk.faults) sh.splits (founds_of sh) locks w.number n r.0 new (set w.passes.items n (Some r.0)) (λ d. get_or-set_same w.passes.items n (Some r.0) d long) r.1 c.take_disk-pass.ensures.disk);
      shard = shard_taken (stories_of g.M.Disk.Disk.story) (faults_of g.M.Disk.Disk.faults) sh.splits (founds_of sh) locks w.number n r.0 new r.1 c.take_disk-pass.ensures.disk;
    }
