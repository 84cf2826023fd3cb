use Rattle.std.proofs.Common.{◌≡◌, ◌∙◌, map, length, ap, sym, subst, arith}
use Rattle.std.proofs.lemmas.List.{length-map}
use Rattle.clv_base.specs.Shards.{shard_count}
use Rattle.clv_base.specs.LogRules.{apart}
use Rattle.clv_base.specs.Restarts.{run_after}
use Rattle.log_analysis.specs.Facts.{KnowAll}
use Rattle.cluster_opening.specs.Judging.{FaultsOfAll}
use Rattle.cluster_opening.proofs.Growing.{found}
use Rattle.cluster_opening.proofs.DisksStopping.{all_stopped}
use Rattle.cluster_opening.proofs.disks_opening.open_and_judge.Goals as goal
use Rattle.law_base.proofs.Lists.{few_shards}
use Rattle.io_model.specs.Sides.{sides_out, sides_told}

pub judge_all-requires : goal.judge_all-requires
judge_all-requires g c =
    subst (λ z. KnowAll z (map (λ v. v.items) c.deref.result.now)) (sym c.deref-2.ensures.value) (subst (λ z. KnowAll c.open_logs.new.facts.items (map (λ v. v.items) z)) (sym c.deref.ensures.value) c.in-Ok.ensures.known)

pub returns-in-Ok-judge_all-clause-found : goal.returns-in-Ok-judge_all-clause-found
returns-in-Ok-judge_all-clause-found g c =
    let L = map (λ v. v.items) c.open_logs.new.logs.items in let splits = c.in-Ok.header.splits in
    let long : length L ≡ shard_count splits = length-map c.open_logs.new.logs.items (λ v. v.items) ∙ c.in-Ok.ensures.count in
    let same = ap (map (λ v. v.items)) c.deref.ensures.value in let run = c.in-Ok-judge_all.ensures.run in
    found splits L c.open_logs.new.gates.items (sides_told (g.H.House.story c.args.house.now)) c.in-Ok.header.rising c.in-Ok.ensures.gates long c.in-Ok-judge_all.run'
    (ap apart (sym same) ∙ c.in-Ok-judge_all.ensures.agree) (run.0 ∙ ap run_after same) run.1

pub returns-in-Err-judge_all-clause-stopped : goal.returns-in-Err-judge_all-clause-stopped
returns-in-Err-judge_all-clause-stopped g c =
    let L = map (λ v. v.items) c.open_logs.new.logs.items in let splits = c.in-Ok.header.splits in
    let long : length L ≡ shard_count splits = length-map c.open_logs.new.logs.items (λ v. v.items) ∙ c.in-Ok.ensures.count in
    let same = ap (map (λ v. v.items)) c.deref.ensures.value in
    let h = c.args.house.now in let h1 = c.open_logs.new.house in let F = g.H.House.faults in let O = g.H.House.is_out in let S = g.H.House.story in
    all_stopped splits L c.open_logs.new.gates.items (F h) (F h1) (F h1) (sides_out (O h)) (sides_out (O h1)) (sides_out (O h1)) (sides_told (S h)) (sides_told (S h1)) (sides_told (S h1)) c.requires.inside c.in-Ok.ensures.gates (let few = few_shards splits c.in-Ok.header.rising in omega arith) (shard_count splits) long c.in-Ok.ensures.out c.in-Ok.header.rising long
    c.in-Err-judge_all.error (subst (λ z. FaultsOfAll z c.in-Err-judge_all.error) same c.in-Err-judge_all.ensures.fault)
