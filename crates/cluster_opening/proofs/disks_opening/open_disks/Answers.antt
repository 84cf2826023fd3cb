use Rattle.std.proofs.Common.{arith}
use Rattle.io_model.specs.Sides.{sides_out, sides_told}
use Rattle.cluster_opening.proofs.DisksStopping.{all_back, all_unchanged, all_counts}
use Rattle.cluster_opening.proofs.disks_opening.open_disks.Goals as goal

pub returns-in-Err-clause-back : goal.returns-in-Err-clause-back
returns-in-Err-clause-back g c =
    let h = c.args.house.now in let h1 = c.open_and_judge.new.house in let h2 = c.give_back_all.new.house in let F = g.H.House.faults in let O = g.H.House.is_out in let S = g.H.House.story in
    let V = c.open_and_judge.new.gates in let ok = V.ok in
    all_back V.items (F h) (F h1) (F h2) (sides_out (O h1)) (sides_out (O h2)) (sides_told (S h)) (sides_told (S h1)) (sides_told (S h2)) c.in-Err.error c.in-Err.ensures.stopped (λ n d l. c.give_back_all.ensures.back n d (omega arith)) (λ n l. c.give_back_all.ensures.others n (omega arith))

pub returns-in-Err-clause-unchanged : goal.returns-in-Err-clause-unchanged
returns-in-Err-clause-unchanged g c =
    let h = c.args.house.now in let h1 = c.open_and_judge.new.house in let h2 = c.give_back_all.new.house in let F = g.H.House.faults in let O = g.H.House.is_out in let S = g.H.House.story in
    let V = c.open_and_judge.new.gates in let ok = V.ok in
    all_unchanged V.items (F h) (F h1) (F h2) (sides_out (O h1)) (sides_out (O h2)) (sides_told (S h)) (sides_told (S h1)) (sides_told (S h2)) c.in-Err.error c.in-Err.ensures.stopped (λ n d l. c.give_back_all.ensures.back n d (omega arith)) (λ n l. c.give_back_all.ensures.others n (omega arith))

pub returns-in-Err-clause-cause : goal.returns-in-Err-clause-cause
returns-in-Err-clause-cause g c =
    let h = c.args.house.now in let h1 = c.open_and_judge.new.house in let h2 = c.give_back_all.new.house in let F = g.H.House.faults in let O = g.H.House.is_out in let S = g.H.House.story in
    let V = c.open_and_judge.new.gates in let ok = V.ok in
    all_counts V.items (F h) (F h1) (F h2) (sides_out (O h1)) (sides_out (O h2)) (sides_told (S h)) (sides_told (S h1)) (sides_told (S h2)) c.in-Err.error c.in-Err.ensures.stopped (λ n d l. c.give_back_all.ensures.back n d (omega arith)) (λ n l. c.give_back_all.ensures.others n (omega arith))
