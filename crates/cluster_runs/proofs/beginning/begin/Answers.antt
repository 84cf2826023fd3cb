use Rattle.std.proofs.Common.{◌∙◌, ◌<◌, ◌^◌, sym, subst, arith}
use Rattle.io_model.specs.Sides.{sides_out, sides_told}
use Rattle.cluster_turns.specs.Walkers.{founds_of}
use Rattle.cluster_opening.proofs.Laws.{few_shards}
use Rattle.cluster_opening.specs.Undone.{AreOpened}
use Rattle.cluster_runs.proofs.Taking.{wanting, went_on, of_splits}
use Rattle.cluster_runs.proofs.beginning.begin.Goals as goal

pub make_walkers-requires-clause-shards : goal.make_walkers-requires-clause-shards
make_walkers-requires-clause-shards g c = let r = c.requires.found in let A = c.in-Ok.ensures.locked r.0 r.1 r.2 r.3 in (A.count, A.run)

pub give_back_locks-requires-clause-few : goal.give_back_locks-requires-clause-few
give_back_locks-requires-clause-few g c =
    let r = c.requires.found in let sh = c.in-Ok.locked.0 in let A = c.in-Ok.ensures.locked r.0 r.1 r.2 r.3 in let many = A.count in let ok = sh.locks.ok in let few = few_shards sh.splits A.shards.splits_rise in omega arith

pub give_back_locks-requires-clause-out : goal.give_back_locks-requires-clause-out
give_back_locks-requires-clause-out g c =
    let r = c.requires.found in let F = r.3 in let sh = c.in-Ok.locked.0 in let A = c.in-Ok.ensures.locked r.0 r.1 r.2 F in let many = A.count in let ok = sh.locks.ok in let same = c.in-Ok.ensures.out in
    λ n l. ((same.1 n).1 ∙ of_splits _ _ _ _ _ _ _ _ same.0 F.went n (omega arith))

pub give_back_locks-requires-clause-opened : goal.give_back_locks-requires-clause-opened
give_back_locks-requires-clause-opened g c =
    let sh = c.in-Ok.locked.0 in
    ((record { splits = sh.splits }), sh.run, c.args.walkers, founds_of sh, c.requires.some.0, subst (λ z. AreOpened (record { splits = sh.splits }) sh.run c.args.walkers (founds_of sh) sh.locks.items z.items) (sym c.in-Err-make_walkers.ensures.unmoved) c.in-Ok.ensures.opened.1)

pub returns-in-Err-make_walkers-clause-taken_back : goal.returns-in-Err-make_walkers-clause-taken_back
returns-in-Err-make_walkers-clause-taken_back g c = λ c0 o0 s0 F. (
    let sh = c.in-Ok.locked.0 in let A = c.in-Ok.ensures.locked c0 o0 s0 F in let okL = sh.locks.ok in let many = A.count in let given = c.give_back_locks.ensures in let same = c.in-Ok.ensures.out in
    let h0 = c.args.house.now in let h1 = c.lock_all.new.house in let h2 = c.give_back_locks.new.house in let faults = g.H.House.faults in let out = g.H.House.is_out in let story = g.H.House.story in
    let opened = subst (λ z. AreOpened (record { splits = sh.splits }) sh.run c.args.walkers (founds_of sh) sh.locks.items z.items) (sym c.in-Err-make_walkers.ensures.unmoved) c.in-Ok.ensures.opened.1 in
    wanting sh.splits (founds_of sh) c0 (faults h1) (faults h2) o0 (sides_out (out h1)) (sides_out (out h2)) s0 (sides_told (story h1)) (sides_told (story h2))
    (went_on c.args.found.splits sh.splits c0 (faults h0) (faults h1) o0 (sides_out (out h0)) (sides_out (out h1)) s0 (sides_told (story h0)) (sides_told (story h1)) same.0 same.1 F.went) F.inside (λ n l. given.others n (omega arith))
    sh.run A.held A.may A.run (subst (λ r. r < 2 ^ 32) (sym A.run) A.shards.run_fits) (λ n l. given.back n (omega arith)) (λ n b l. given.left (record { splits = sh.splits }) sh.run c.args.walkers (founds_of sh) opened n b (omega arith)))
