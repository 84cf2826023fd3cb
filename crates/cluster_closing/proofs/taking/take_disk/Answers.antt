use Rattle.std.proofs.Common.{arith, ◌∙◌, ◌++◌, ap, subst, length, drop}
use Rattle.machine_calls.specs.Disks.{stories_of, faults_of}
use Rattle.turn_lock.specs.Passes.{seen, own, turn_seen}
use Rattle.turn_lock.specs.Journals.{GrownByOthers}
use Rattle.machine_laws.specs.Notes.{noter, notes_of}
use Rattle.machine_laws.specs.Homes.{IsLegal}
use Rattle.machine_laws.proofs.Laws.{added_notes}
use Rattle.cluster_closing.proofs.Giving.{adds_own, pass_taken}
use Rattle.cluster_closing.proofs.taking.take_disk.Goals as goal

pub leave-requires-clause-grown : goal.leave-requires-clause-grown
leave-requires-clause-grown g c = let t = c.enter-turn.ensures.turn in let home = c.enter-turn.result.1 in let after = c.give_disk-answer.new.home in let s = g.M.Machine.shard home.machine in let u = g.M.Machine.shard after.machine in
    let h = c.give_disk-answer.ensures.told in
    adds_own c.args.walker _ c.give_disk-answer.result s u (turn_seen c.enter-turn.result.0) (notes_of s.journal home.marks.items) (notes_of u.journal after.marks.items) h.0 h.1 h.2 t.3 (t.1 ∙ c.requires.pass.1)

pub returns-clause-turned : goal.returns-clause-turned
returns-clause-turned g c = let t = c.enter-turn.ensures.turn in let l = c.leave.ensures in let home = c.enter-turn.result.1 in let after = c.give_disk-answer.new.home in let s = g.M.Machine.shard home.machine in let u = g.M.Machine.shard after.machine in
    let before = notes_of s.journal home.marks.items in let h = c.give_disk-answer.ensures.told in
    record {
      origin = home.origin;
      has_origin = c.enter-turn.ensures.origin;
      before = before;
      added = h.0;
      s = s;
      t = u;
      s_is = c.enter-turn.ensures.sound.legal;
      t_is = subst (λ o. IsLegal o (before ++ h.0) u) c.give_disk-answer.ensures.origin (subst (λ ns. IsLegal after.origin ns u) h.2 c.give_disk-answer.ensures.sound.legal);
      told = h.1;
      found = subst (λ w. GrownByOthers noter w (seen c.args.pass) before) c.requires.pass.1 c.enter-turn.ensures.grown;
      seen_is = l.seen ∙ h.2;
      own_is = l.own ∙ ap (λ o. o ++ drop (length (turn_seen c.enter-turn.result.0)) (notes_of u.journal after.marks.items)) t.2
          ∙ ap (λ j. own c.args.pass ++ drop (length j) (notes_of u.journal after.marks.items)) t.3
          ∙ ap (λ o. own c.args.pass ++ o) (added_notes before (notes_of u.journal after.marks.items) h.0 h.2);
      number_is = l.pass.1 ∙ t.1;
      origin_is = l.pass.3 ∙ t.5;
      known_rises = (let k = l.pass.2 ∙ t.4 in omega arith);
    }

pub returns-clause-disk : goal.returns-clause-disk
returns-clause-disk g c = let t = c.enter-turn.ensures.turn in let l = c.leave.ensures in let home = c.enter-turn.result.1 in let after = c.give_disk-answer.new.home in let s = g.M.Machine.shard home.machine in let u = g.M.Machine.shard after.machine in
    let h = c.give_disk-answer.ensures.told in let e = c.give_disk-answer.ensures in
    pass_taken (stories_of g.M.Disk.Disk.story) (faults_of g.M.Disk.Disk.faults) c.args.walker c.leave.result home.origin s u (notes_of s.journal home.marks.items) (notes_of u.journal after.marks.items) h.0 c.give_disk-answer.result h.1 h.2
    (subst (λ o. IsLegal o (notes_of u.journal after.marks.items) u) e.origin e.sound.legal) l.seen (l.pass.3 ∙ (t.5 ∙ c.enter-turn.ensures.origin)) e.disk e.away
