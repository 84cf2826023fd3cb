use Rattle.std.proofs.Common.{◌∙◌, arith, inl, inr}
use Rattle.std.proofs.lemmas.Bool.{cases_lt}
use Rattle.io_model.specs.Sides.{sides_out, sides_told}
use Rattle.machine_calls.specs.Disks.{stories_of, faults_of}
use Rattle.cluster_opening.proofs.Stopping.{all_back, counts_back}
use Rattle.cluster_opening.proofs.undoing.undo.Goals as goal

pub returns-clause-back : goal.returns-clause-back
returns-clause-back g c = let s = c.args.stopped in let many = c.requires.locks in let okR = s.rest.ok in let out = g.H.House.is_out in let story = g.H.House.story in
    let h1 = c.give_back_locks.new.house in let h2 = c.give_sides.new.house in let h3 = c.give_back_above.new.house in let one = c.give_back_locks.ensures in let two = c.give_sides.ensures in let three = c.give_back_above.ensures in
    λ layout run walkers logs gates all st. all_back g.M.OverDisks.story g.M.Gate.Gate.faults layout run logs gates s.shard s.error (stories_of g.H.Disk.Disk.story s.sides) (faults_of g.H.Disk.Disk.faults s.sides) s.rest.items st (sides_out (out h1)) (sides_out (out h2)) (sides_out (out h3)) (sides_told (story h1)) (sides_told (story h2)) (sides_told (story h3))
    (λ n l. (one.back n (omega arith)).1) (λ n b l. one.left layout run walkers logs all n b (omega arith)) two.back two.story (λ n d. (let t = two.others n d in (t.1, t.2)))
    (λ n j d a b. (let t = three.back n j d (omega arith) (omega arith) in (t.is_in, t.story_is))) (λ n l. (let t = three.below n (omega arith) in (t.1, t.2)))

pub returns-clause-counts : goal.returns-clause-counts
returns-clause-counts g c = let s = c.args.stopped in let many = c.requires.locks in let okR = s.rest.ok in let faults = g.H.House.faults in
    let h0 = c.args.house.now in let h1 = c.give_back_locks.new.house in let h2 = c.give_sides.new.house in let h3 = c.give_back_above.new.house in let one = c.give_back_locks.ensures in let two = c.give_sides.ensures in let three = c.give_back_above.ensures in
    λ layout run logs gates fine st. counts_back g.M.OverDisks.story g.M.Gate.Gate.faults layout run logs gates s.shard s.error (stories_of g.H.Disk.Disk.story s.sides) (faults_of g.H.Disk.Disk.faults s.sides) s.rest.items st (faults h0) (faults h1) (faults h2) (faults h3) fine
    (λ n. elim (cases_lt n s.shard) [ inl l ↦ (one.back n (omega arith)).0 | inr l ↦ (one.others n (omega arith)).0 ]) two.adds (λ n d. (two.others n d).0)
    (λ n j d a b. (three.back n j d (omega arith) (omega arith)).adds) (λ n l. (three.below n (omega arith)).0) (λ n l. (three.above n (omega arith)).0)

pub returns-clause-others : goal.returns-clause-others
returns-clause-others g c = let s = c.args.stopped in let many = c.requires.locks in
    λ n l. (let t = c.give_back_above.ensures.above n (omega arith) in let u = c.give_sides.ensures.others n (λ e. absurd (omega (arith, e, l))) in let w = c.give_back_locks.ensures.others n (omega arith) in
    (t.0 ∙ u.0 ∙ w.0, t.1 ∙ u.1 ∙ w.1, t.2 ∙ u.2 ∙ w.2))
