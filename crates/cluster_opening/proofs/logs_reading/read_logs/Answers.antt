use Rattle.std.proofs.Common.{◌≡◌, ◌∙◌, map, length, arith}
use Rattle.std.proofs.lemmas.List.{length-map}
use Rattle.clv_base.specs.Shards.{shard_count}
use Rattle.io_model.specs.Sides.{sides_out, sides_told}
use Rattle.cluster_opening.specs.declared.error.OpenError.TheVariants.{Memory}
use Rattle.cluster_opening.proofs.Growing.{logs_of_all}
use Rattle.cluster_opening.proofs.DisksStopping.{all_back, all_unchanged, all_counts}
use Rattle.cluster_opening.proofs.Reading.{all_out}
use Rattle.cluster_opening.proofs.logs_reading.read_logs.Goals as goal

pub returns-in-Ok-open_and_compare-clause-read : goal.returns-in-Ok-open_and_compare-clause-read
returns-in-Ok-open_and_compare-clause-read g c =
    let V = c.open_and_compare.new.gates in let W = c.open_and_compare.new.logs.items in let L = map (λ v. v.items) W in let e = c.in-Ok-open_and_compare.ensures in
    let long : length L ≡ shard_count c.in-Ok-open_and_compare._header.splits = length-map W (λ v. v.items) ∙ e.count in
    (c.in-Ok-open_and_compare._header.splits, logs_of_all c.in-Ok-open_and_compare._header.splits L V.items (sides_told (g.H.House.story c.args.house.now)) c.in-Ok-open_and_compare._header.rising e.gates long)

pub returns-in-Ok-open_and_compare-clause-back : goal.returns-in-Ok-open_and_compare-clause-back
returns-in-Ok-open_and_compare-clause-back g c =
    let h = c.args.house.now in let h1 = c.open_and_compare.new.house in let h2 = c.give_back_all.new.house in let F = g.H.House.faults in let O = g.H.House.is_out in let S = g.H.House.story in
    let V = c.open_and_compare.new.gates in let ok = V.ok in
    let W = c.open_and_compare.new.logs.items in let L = map (λ v. v.items) W in let e = c.in-Ok-open_and_compare.ensures in
    let long : length L ≡ shard_count c.in-Ok-open_and_compare._header.splits = length-map W (λ v. v.items) ∙ e.count in
    all_back V.items (F h) (F h1) (F h2) (sides_out (O h1)) (sides_out (O h2)) (sides_told (S h)) (sides_told (S h1)) (sides_told (S h2)) Memory (all_out c.in-Ok-open_and_compare._header.splits L V.items (F h) (F h1) (sides_out (O h)) (sides_out (O h1)) (sides_told (S h)) (sides_told (S h1)) c.requires.inside c.in-Ok-open_and_compare._header.rising long e.gates e.out) (λ n d l. c.give_back_all.ensures.back n d (omega arith)) (λ n l. c.give_back_all.ensures.others n (omega arith))

pub returns-in-Ok-open_and_compare-clause-unchanged : goal.returns-in-Ok-open_and_compare-clause-unchanged
returns-in-Ok-open_and_compare-clause-unchanged g c =
    let h = c.args.house.now in let h1 = c.open_and_compare.new.house in let h2 = c.give_back_all.new.house in let F = g.H.House.faults in let O = g.H.House.is_out in let S = g.H.House.story in
    let V = c.open_and_compare.new.gates in let ok = V.ok in
    let W = c.open_and_compare.new.logs.items in let L = map (λ v. v.items) W in let e = c.in-Ok-open_and_compare.ensures in
    let long : length L ≡ shard_count c.in-Ok-open_and_compare._header.splits = length-map W (λ v. v.items) ∙ e.count in
    all_unchanged V.items (F h) (F h1) (F h2) (sides_out (O h1)) (sides_out (O h2)) (sides_told (S h)) (sides_told (S h1)) (sides_told (S h2)) Memory (all_out c.in-Ok-open_and_compare._header.splits L V.items (F h) (F h1) (sides_out (O h)) (sides_out (O h1)) (sides_told (S h)) (sides_told (S h1)) c.requires.inside c.in-Ok-open_and_compare._header.rising long e.gates e.out) (λ n d l. c.give_back_all.ensures.back n d (omega arith)) (λ n l. c.give_back_all.ensures.others n (omega arith))

pub returns-in-Ok-open_and_compare-clause-stand : goal.returns-in-Ok-open_and_compare-clause-stand
returns-in-Ok-open_and_compare-clause-stand g c =
    let h = c.args.house.now in let h1 = c.open_and_compare.new.house in let h2 = c.give_back_all.new.house in let F = g.H.House.faults in let O = g.H.House.is_out in let S = g.H.House.story in
    let V = c.open_and_compare.new.gates in let ok = V.ok in
    let W = c.open_and_compare.new.logs.items in let L = map (λ v. v.items) W in let e = c.in-Ok-open_and_compare.ensures in
    let long : length L ≡ shard_count c.in-Ok-open_and_compare._header.splits = length-map W (λ v. v.items) ∙ e.count in
    all_counts V.items (F h) (F h1) (F h2) (sides_out (O h1)) (sides_out (O h2)) (sides_told (S h)) (sides_told (S h1)) (sides_told (S h2)) Memory (all_out c.in-Ok-open_and_compare._header.splits L V.items (F h) (F h1) (sides_out (O h)) (sides_out (O h1)) (sides_told (S h)) (sides_told (S h1)) c.requires.inside c.in-Ok-open_and_compare._header.rising long e.gates e.out) (λ n d l. c.give_back_all.ensures.back n d (omega arith)) (λ n l. c.give_back_all.ensures.others n (omega arith))

pub returns-in-Err-clause-back : goal.returns-in-Err-clause-back
returns-in-Err-clause-back g c =
    let h = c.args.house.now in let h1 = c.open_and_compare.new.house in let h2 = c.give_back_all-in-Err.new.house in let F = g.H.House.faults in let O = g.H.House.is_out in let S = g.H.House.story in
    let V = c.open_and_compare.new.gates in let ok = V.ok in
    all_back V.items (F h) (F h1) (F h2) (sides_out (O h1)) (sides_out (O h2)) (sides_told (S h)) (sides_told (S h1)) (sides_told (S h2)) c.in-Err.error c.in-Err.ensures.stopped (λ n d l. c.give_back_all-in-Err.ensures.back n d (omega arith)) (λ n l. c.give_back_all-in-Err.ensures.others n (omega arith))

pub returns-in-Err-clause-unchanged : goal.returns-in-Err-clause-unchanged
returns-in-Err-clause-unchanged g c =
    let h = c.args.house.now in let h1 = c.open_and_compare.new.house in let h2 = c.give_back_all-in-Err.new.house in let F = g.H.House.faults in let O = g.H.House.is_out in let S = g.H.House.story in
    let V = c.open_and_compare.new.gates in let ok = V.ok in
    all_unchanged V.items (F h) (F h1) (F h2) (sides_out (O h1)) (sides_out (O h2)) (sides_told (S h)) (sides_told (S h1)) (sides_told (S h2)) c.in-Err.error c.in-Err.ensures.stopped (λ n d l. c.give_back_all-in-Err.ensures.back n d (omega arith)) (λ n l. c.give_back_all-in-Err.ensures.others n (omega arith))

pub returns-in-Err-clause-cause : goal.returns-in-Err-clause-cause
returns-in-Err-clause-cause g c =
    let h = c.args.house.now in let h1 = c.open_and_compare.new.house in let h2 = c.give_back_all-in-Err.new.house in let F = g.H.House.faults in let O = g.H.House.is_out in let S = g.H.House.story in
    let V = c.open_and_compare.new.gates in let ok = V.ok in
    all_counts V.items (F h) (F h1) (F h2) (sides_out (O h1)) (sides_out (O h2)) (sides_told (S h)) (sides_told (S h1)) (sides_told (S h2)) c.in-Err.error c.in-Err.ensures.stopped (λ n d l. c.give_back_all-in-Err.ensures.back n d (omega arith)) (λ n l. c.give_back_all-in-Err.ensures.others n (omega arith))
