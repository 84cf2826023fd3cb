use Rattle.std.proofs.Common.{arith, ◌≡◌, ◌∙◌, ◌++◌, ap, subst, length, drop, map}
use Rattle.clv_base.specs.Events.{step}
use Rattle.machine_calls.specs.Steps.{listed}
use Rattle.turn_lock.specs.Passes.{seen, own, turn_seen}
use Rattle.turn_lock.specs.Journals.{GrownByOthers}
use Rattle.machine_laws.specs.Notes.{noter, plain, notes_of}
use Rattle.machine_laws.specs.Homes.{IsLegal}
use Rattle.machine_laws.proofs.Laws.{still_free, grown_by, added_notes}
use Rattle.machine_laws.proofs.Laws.{notes_step, grows}
use Rattle.cluster_turns.proofs.turns.turn.Goals as goal

pub event-clock-requires-clause-fits : goal.event-clock-requires-clause-fits
event-clock-requires-clause-fits g c = c.requires.fits c.enter_in-turn.result.1.origin c.enter_in-turn.ensures.origin

pub event-clock-requires-clause-free : goal.event-clock-requires-clause-free
event-clock-requires-clause-free g c = let home = c.enter_in-turn.result.1 in let s = g.M.Machine.shard home.machine in
    still_free home.origin s c.args.walker c.args.event (seen c.args.pass) (notes_of s.journal home.marks.items) c.enter_in-turn.ensures.sound.legal
    (subst (λ w. GrownByOthers noter w (seen c.args.pass) (notes_of s.journal home.marks.items)) c.requires.pass.1 c.enter_in-turn.ensures.grown) c.requires.named (c.requires.free home.origin c.enter_in-turn.ensures.origin)

pub leave_in-pass-requires-clause-grown : goal.leave_in-pass-requires-clause-grown
leave_in-pass-requires-clause-grown g c = let t = c.enter_in-turn.ensures.turn in let h = c.event-clock.ensures.event in let home = c.enter_in-turn.result.1 in
    let s = g.M.Machine.shard home.machine in let u = g.M.Machine.shard c.event-clock.new.self.machine in
    let n = notes_step s u home.marks.items h.0 (grows s u (step s c.args.clock c.args.walker c.args.event) c.args.clock c.args.walker c.args.event c.event-clock.result.1 h.0 h.1) c.enter_in-turn.ensures.sound.marked in
    grown_by (step s c.args.clock c.args.walker c.args.event) s u c.args.clock c.args.walker c.args.event c.event-clock.result.1 h.0 (turn_seen c.enter_in-turn.result.0) (notes_of s.journal home.marks.items) _ _ h.1
    (ap (λ m. notes_of u.journal m.items) c.event-clock.ensures.rest.1 ∙ n.0) t.3 (t.1 ∙ c.requires.pass.1)

pub returns-clause-turned : goal.returns-clause-turned
returns-clause-turned g c = let t = c.enter_in-turn.ensures.turn in let h = c.event-clock.ensures.event in let l = c.leave_in-pass.ensures in let home = c.enter_in-turn.result.1 in let after = c.event-clock.new.self in
    let s = g.M.Machine.shard home.machine in let u = g.M.Machine.shard after.machine in
    let before = notes_of s.journal home.marks.items in
    let n = notes_step s u home.marks.items h.0 (grows s u (step s c.args.clock c.args.walker c.args.event) c.args.clock c.args.walker c.args.event c.event-clock.result.1 h.0 h.1) c.enter_in-turn.ensures.sound.marked in
    let is : notes_of u.journal after.marks.items ≡ before ++ map plain (listed h.0) = ap (λ m. notes_of u.journal m.items) c.event-clock.ensures.rest.1 ∙ n.0 in
    record {
      origin = home.origin;
      has_origin = c.enter_in-turn.ensures.origin;
      before = before;
      added = map plain (listed h.0);
      s = s;
      t = u;
      s_is = c.enter_in-turn.ensures.sound.legal;
      t_is = subst (λ o. IsLegal o (before ++ map plain (listed h.0)) u) c.event-clock.ensures.rest.0 (subst (λ ns. IsLegal after.origin ns u) is c.event-clock.ensures.sound.legal);
      told = record { made = h.0; added_is = Rattle.std.proofs.Common.refl; tells = h.1; clock_is = h.2; in_time = c.requires.in_time };
      found = subst (λ w. GrownByOthers noter w (seen c.args.pass) before) c.requires.pass.1 c.enter_in-turn.ensures.grown;
      seen_is = l.seen ∙ is;
      own_is = l.own ∙ ap (λ o. o ++ drop (length (turn_seen c.enter_in-turn.result.0)) (notes_of u.journal after.marks.items)) t.2
          ∙ ap (λ j. own c.args.pass ++ drop (length j) (notes_of u.journal after.marks.items)) t.3
          ∙ ap (λ o. own c.args.pass ++ o) (added_notes before (notes_of u.journal after.marks.items) (map plain (listed h.0)) is);
      number_is = l.pass.1 ∙ t.1;
      origin_is = l.pass.3 ∙ t.5;
      known_rises = (let k = l.pass.2 ∙ t.4 in omega arith);
    }
