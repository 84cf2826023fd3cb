use Rattle.std.proofs.Common.{arith, ◌∙◌, ◌<◌, length, get_or, set}
use Rattle.std.proofs.lemmas.List.{get_or_default}
use Rattle.cluster_runs.proofs.Seeing.{none_looked, others_walk, has_drained}
use Rattle.cluster_runs.proofs.draining.drain_last.Goals as goal

pub returns-then-is_err-clause-drained : goal.returns-then-is_err-clause-drained
returns-then-is_err-clause-drained g c = let sh = c.args.shards.now in let ws = c.args.walkers.now.items in let u = c.index_mut.result.now in let v = c.drain_all-drained.new.walker in let e = c.drain_all-drained.ensures in
    let low : 0 < length ws = (let some = c.requires.some in let ok = c.args.walkers.now.ok in omega arith) in (
      v,
      λ d. has_drained sh u (get_or ws 0 d) v c.drain_all-drained.result (c.index_mut.ensures.value ∙ get_or_default ws 0 u d low) e.rest e.stays e.dated e.serial e.worn,
      none_looked sh (set ws 0 v),
    )

pub returns-then-not-well-clause-drained : goal.returns-then-not-well-clause-drained
returns-then-not-well-clause-drained g c = let sh = c.args.shards.now in let ws = c.args.walkers.now.items in let u = c.index_mut.result.now in let v = c.drain_all-drained.new.walker in let e = c.drain_all-drained.ensures in
    let low : 0 < length ws = (let some = c.requires.some in let ok = c.args.walkers.now.ok in omega arith) in (
      v,
      λ d. has_drained sh u (get_or ws 0 d) v c.drain_all-drained.result (c.index_mut.ensures.value ∙ get_or_default ws 0 u d low) e.rest e.stays e.dated e.serial e.worn,
      none_looked sh (set ws 0 v),
    )

pub all_see_quiet-requires : goal.all_see_quiet-requires
all_see_quiet-requires g c = record { walkers = others_walk c.args.shards.now c.args.walkers.now.items c.drain_all-drained.new.walker c.drain_all-drained.ensures.rest.walker c.requires.rest }

pub returns-clause-drained : goal.returns-clause-drained
returns-clause-drained g c = let sh = c.args.shards.now in let ws = c.args.walkers.now.items in let u = c.index_mut.result.now in let v = c.drain_all-drained.new.walker in let e = c.drain_all-drained.ensures in
    let low : 0 < length ws = (let some = c.requires.some in let ok = c.args.walkers.now.ok in omega arith) in (
      v,
      λ d. has_drained sh u (get_or ws 0 d) v c.drain_all-drained.result (c.index_mut.ensures.value ∙ get_or_default ws 0 u d low) e.rest e.stays e.dated e.serial e.worn,
      c.all_see_quiet.ensures.looked,
    )
