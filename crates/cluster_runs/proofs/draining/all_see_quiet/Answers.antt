use Rattle.std.proofs.Common.{arith, ◌∙◌, ◌<◌, length, subst, refl, get_or-set_other}
use Rattle.std.proofs.lemmas.List.{get_or_default}
use Rattle.cluster_runs.specs.Drained.{HasLooked}
use Rattle.cluster_runs.proofs.Seeing.{none_looked, one_looked, one_quiet}
use Rattle.cluster_runs.proofs.draining.all_see_quiet.Goals as goal

pub loop-place-init : goal.loop-place-init
loop-place-init g c = record { len = refl; looked = none_looked c.args.shards.now c.args.walkers.now.items; quiet = λ k n d low few. absurd (omega arith); left = λ k d low. refl }

pub loop-place-preserved : goal.loop-place-preserved
loop-place-preserved g c = let sh = c.args.shards.now in let us = c.args.walkers.now.items in let ws = c.loop-place.walkers.items in let place = c.loop-place.place in let inv = c.loop-place.invariant in
    let u = c.index_mut.result.now in let v = c.see_quiet.new.walker in let e = c.see_quiet.ensures in
    let low : place < length ws = (let h = c.loop-place-test.true in let s = c.len-place-end.ensures in let l = inv.len in let ok = c.loop-place.walkers.ok in omega arith) in
    record {
      len = inv.len;
      looked = one_looked sh us ws place v low inv.looked (λ d. subst (λ z. HasLooked sh z v) (c.index_mut.ensures.value ∙ get_or_default ws place u d low) e.looked);
      quiet = λ k n d less few. one_quiet sh (length sh.locks.items) ws place v low inv.quiet e.quiet k n d (omega arith) few;
      left = λ k d past. get_or-set_other ws place k v d (λ same. omega arith) ∙ inv.left k d (omega arith);
    }
