use Rattle.std.proofs.Common.{map}
use Rattle.io_model.specs.Sides.{sides_out, sides_told}
use Rattle.cluster_runs.proofs.Finding.{found_in}
use Rattle.cluster_runs.proofs.Taking.{went_on}
use Rattle.cluster_runs.proofs.beginning.open_and_begin.Goals as goal

pub begin-requires-clause-found : goal.begin-requires-clause-found
begin-requires-clause-found g c =
    let h0 = c.args.house.now in let h1 = c.open_disks.new.house in let faults = g.H.House.faults in let out = g.H.House.is_out in let story = g.H.House.story in let f = c.in-Ok.opened in
    (faults h0, sides_out (out h0), sides_told (story h0), found_in f.splits (map (λ v. v.items) f.logs.items) f.run f.gates.items (faults h0) (faults h1) (sides_out (out h0)) (sides_out (out h1)) (sides_told (story h0)) (sides_told (story h1)) c.in-Ok.ensures.found c.in-Ok.ensures.out c.requires.inside)

pub returns-in-Ok-begin-clause-locked : goal.returns-in-Ok-begin-clause-locked
returns-in-Ok-begin-clause-locked g c =
    let h0 = c.args.house.now in let h1 = c.open_disks.new.house in let faults = g.H.House.faults in let out = g.H.House.is_out in let story = g.H.House.story in let f = c.in-Ok.opened in
    let F = found_in f.splits (map (λ v. v.items) f.logs.items) f.run f.gates.items (faults h0) (faults h1) (sides_out (out h0)) (sides_out (out h1)) (sides_told (story h0)) (sides_told (story h1)) c.in-Ok.ensures.found c.in-Ok.ensures.out c.requires.inside in
    c.in-Ok-begin.ensures.locked (faults h0) (sides_out (out h0)) (sides_told (story h0)) F

pub returns-in-Ok-begin-clause-out : goal.returns-in-Ok-begin-clause-out
returns-in-Ok-begin-clause-out g c =
    let h0 = c.args.house.now in let h1 = c.open_disks.new.house in let h2 = c.begin.new.house in let faults = g.H.House.faults in let out = g.H.House.is_out in let story = g.H.House.story in let f = c.in-Ok.opened in let h = c.in-Ok-begin.ensures.out in
    went_on f.splits (c.in-Ok-begin.begun).shards.splits (faults h0) (faults h1) (faults h2) (sides_out (out h0)) (sides_out (out h1)) (sides_out (out h2)) (sides_told (story h0)) (sides_told (story h1)) (sides_told (story h2)) h.0 h.1 c.in-Ok.ensures.out

pub returns-in-Err-begin-clause-taken_back : goal.returns-in-Err-begin-clause-taken_back
returns-in-Err-begin-clause-taken_back g c =
    let h0 = c.args.house.now in let h1 = c.open_disks.new.house in let faults = g.H.House.faults in let out = g.H.House.is_out in let story = g.H.House.story in let f = c.in-Ok.opened in
    let F = found_in f.splits (map (λ v. v.items) f.logs.items) f.run f.gates.items (faults h0) (faults h1) (sides_out (out h0)) (sides_out (out h1)) (sides_told (story h0)) (sides_told (story h1)) c.in-Ok.ensures.found c.in-Ok.ensures.out c.requires.inside in
    c.in-Err-begin.ensures.taken_back (faults h0) (sides_out (out h0)) (sides_told (story h0)) F
