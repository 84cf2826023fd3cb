use Rattle.std.proofs.Common.{arith, ◌≡◌, ◌∙◌, ◌++◌, ap, subst, length, drop, map, refl, vec_capacity}
use Rattle.clv_base.specs.declared.events.Event.TheVariants.{FlushOut}
use Rattle.clv_base.specs.Events.{step}
use Rattle.machine_calls.specs.Steps.{listed, clock_by}
use Rattle.machine_calls.specs.Flights.{outcome_in}
use Rattle.turn_lock.specs.Passes.{seen, own, turn_seen}
use Rattle.turn_lock.specs.Journals.{GrownByOthers}
use Rattle.machine_laws.specs.Notes.{noter, plain, notes_of}
use Rattle.machine_laws.specs.Homes.{IsLegal}
use Rattle.machine_laws.proofs.Laws.{grown_by, added_notes, notes_step, grows, clock_is, sound_departs}
use Rattle.cluster_turns.proofs.Flights.{flight_told}
use Rattle.cluster_turns.proofs.rest_turns.take_off.Goals as goal

pub leave-requires-clause-grown : goal.leave-requires-clause-grown
leave-requires-clause-grown g c = let t = c.enter-turn.ensures.turn in let h = rw c.deref_mut.ensures.value at c.take_flight-answer.ensures.told in let home = c.enter-turn.result.1 in
    let s = g.M.Machine.shard home.machine in let u = g.M.Machine.shard c.take_flight-answer.new.self in let r = outcome_in c.take_flight-answer.result in
    let n = notes_step s u home.marks.items h.0 (grows s u (step s c.args.clock c.args.walker FlushOut) c.args.clock c.args.walker FlushOut r h.0 h.1) c.enter-turn.ensures.sound.marked in
    grown_by (step s c.args.clock c.args.walker FlushOut) s u c.args.clock c.args.walker FlushOut r h.0 (turn_seen c.enter-turn.result.0) (notes_of s.journal home.marks.items) _ _ h.1 n.0 t.3 (t.1 ∙ c.requires.1)

pub leave-requires-clause-sound : goal.leave-requires-clause-sound
leave-requires-clause-sound g c = let h = rw c.deref_mut.ensures.value at c.take_flight-answer.ensures.told in let home = c.enter-turn.result.1 in
    let s = g.M.Machine.shard home.machine in let u = g.M.Machine.shard c.take_flight-answer.new.self in
    sound_departs g.M.Gate.Gate.is_shut g.M.Gate.Gate.faults g.M.Gate.Gate.shard g.M.Gate.Gate.logs home.origin home.marks.items (vec_capacity home.marks) s (g.M.Machine.gate home.machine) (g.M.Machine.gate c.take_flight-answer.new.self) c.args.clock c.args.walker
    c.take_flight-answer.result u h.0 c.enter-turn.ensures.sound h.1 (rw c.deref_mut.ensures.value at c.take_flight-answer.ensures.flight)

pub returns-clause-turned : goal.returns-clause-turned
returns-clause-turned g c = let t = c.enter-turn.ensures.turn in let h = rw c.deref_mut.ensures.value at c.take_flight-answer.ensures.told in let l = c.leave.ensures in let home = c.enter-turn.result.1 in
    let s = g.M.Machine.shard home.machine in let u = g.M.Machine.shard c.take_flight-answer.new.self in let r = outcome_in c.take_flight-answer.result in
    let before = notes_of s.journal home.marks.items in
    let n = notes_step s u home.marks.items h.0 (grows s u (step s c.args.clock c.args.walker FlushOut) c.args.clock c.args.walker FlushOut r h.0 h.1) c.enter-turn.ensures.sound.marked in
    let k = sound_departs g.M.Gate.Gate.is_shut g.M.Gate.Gate.faults g.M.Gate.Gate.shard g.M.Gate.Gate.logs home.origin home.marks.items (vec_capacity home.marks) s (g.M.Machine.gate home.machine) (g.M.Machine.gate c.take_flight-answer.new.self) c.args.clock c.args.walker
    c.take_flight-answer.result u h.0 c.enter-turn.ensures.sound h.1 (rw c.deref_mut.ensures.value at c.take_flight-answer.ensures.flight) in
    let e : clock_by c.args.clock r c.last-before.result c.last.result ≡ clock_by c.args.clock r s.last u.last = cc in
    record {
      origin = home.origin;
      has_origin = c.enter-turn.ensures.origin;
      before = before;
      added = map plain (listed h.0);
      s = s;
      t = u;
      s_is = c.enter-turn.ensures.sound.legal;
      t_is = subst (λ ns. IsLegal home.origin ns u) n.0 k.legal;
      told = record { made = h.0; added_is = refl; tells = h.1; clock_is = c.clock_for-clock.ensures ∙ (e ∙ clock_is s c.args.clock c.args.walker FlushOut r u h.0 h.1); in_time = omega arith };
      found = subst (λ w. GrownByOthers noter w (seen c.args.pass) before) c.requires.1 c.enter-turn.ensures.grown;
      seen_is = l.seen ∙ n.0;
      own_is = l.own ∙ ap (λ o. o ++ drop (length (turn_seen c.enter-turn.result.0)) (notes_of u.journal home.marks.items)) t.2
          ∙ ap (λ j. own c.args.pass ++ drop (length j) (notes_of u.journal home.marks.items)) t.3
          ∙ ap (λ o. own c.args.pass ++ o) (added_notes before (notes_of u.journal home.marks.items) (map plain (listed h.0)) n.0);
      number_is = l.pass.1 ∙ t.1;
      origin_is = l.pass.3 ∙ t.5;
      known_rises = (let q = l.pass.2 ∙ t.4 in omega arith);
    }

pub returns-clause-flight : goal.returns-clause-flight
returns-clause-flight g c = let t = c.enter-turn.ensures.turn in let h = rw c.deref_mut.ensures.value at c.take_flight-answer.ensures.told in let l = c.leave.ensures in let home = c.enter-turn.result.1 in
    let s = g.M.Machine.shard home.machine in let u = g.M.Machine.shard c.take_flight-answer.new.self in let r = outcome_in c.take_flight-answer.result in
    let k = sound_departs g.M.Gate.Gate.is_shut g.M.Gate.Gate.faults g.M.Gate.Gate.shard g.M.Gate.Gate.logs home.origin home.marks.items (vec_capacity home.marks) s (g.M.Machine.gate home.machine) (g.M.Machine.gate c.take_flight-answer.new.self) c.args.clock c.args.walker
    c.take_flight-answer.result u h.0 c.enter-turn.ensures.sound h.1 (rw c.deref_mut.ensures.value at c.take_flight-answer.ensures.flight) in
    let e : clock_by c.args.clock r c.last-before.result c.last.result ≡ clock_by c.args.clock r s.last u.last = cc in
    flight_told g.M.Gate.Gate.is_shut g.M.Gate.Gate.faults g.M.Gate.Gate.shard g.M.Gate.Gate.logs home.origin home.marks.items (vec_capacity home.marks) s (g.M.Machine.gate home.machine) (g.M.Machine.gate c.take_flight-answer.new.self) c.args.clock c.args.walker
    c.clock_for-clock.result u h.0 c.leave.result c.take_flight-answer.result c.enter-turn.ensures.sound h.1 (rw c.deref_mut.ensures.value at c.take_flight-answer.ensures.flight) (c.clock_for-clock.ensures ∙ (e ∙ clock_is s c.args.clock c.args.walker FlushOut r u h.0 h.1)) k
    (l.pass.3 ∙ (t.5 ∙ c.enter-turn.ensures.origin)) l.seen
