use Rattle.std.proofs.Common.{arith, ◌∙◌, ◌++◌, ◌∷◌, [], sym, ap, subst, length, drop, refl, vec_capacity, Some, Ok}
use Rattle.clv_base.specs.declared.events.Event.TheVariants.{FlushIn}
use Rattle.clv_base.specs.Events.{land}
use Rattle.turn_lock.specs.Passes.{seen, own, turn_seen}
use Rattle.turn_lock.specs.Journals.{GrownByOthers, durable_of}
use Rattle.machine_laws.specs.Notes.{noter, plain, notes_of, noted_durable}
use Rattle.machine_laws.specs.Homes.{layout_of, IsLegal}
use Rattle.machine_laws.specs.Sound.{IsSound}
use Rattle.machine_laws.specs.Gates.{Landable}
use Rattle.machine_laws.proofs.Laws.{grown_by, added_notes, notes_step, still_flying, still_landable, sound_lands}
use Rattle.law_base.proofs.Options.{some_inj}
use Rattle.cluster_turns.proofs.Flights.{land_is, told_durable}
use Rattle.cluster_turns.proofs.rest_turns.touch_down.Goals as goal

pub land-requires-clause-up : goal.land-requires-clause-up
land-requires-clause-up g c = let a = c.requires.away in let home = c.enter-turn.result.1 in let s = g.M.Machine.shard home.machine in
    let legal = subst (λ o. IsLegal o (seen c.args.pass) a.s) (some_inj a.origin home.origin (sym a.has_origin ∙ c.enter-turn.ensures.origin)) a.s_is in
    rw c.deref_mut.ensures.value ((still_flying home.origin a.s s c.args.walker c.args.flight.upto (seen c.args.pass) (notes_of s.journal home.marks.items) legal c.enter-turn.ensures.sound.legal
    (subst (λ w. GrownByOthers noter w (seen c.args.pass) (notes_of s.journal home.marks.items)) c.requires.pass.1 c.enter-turn.ensures.grown) a.holds.up a.holds.flies a.early a.taken).0.is_up)

pub land-requires-clause-flies : goal.land-requires-clause-flies
land-requires-clause-flies g c = let a = c.requires.away in let home = c.enter-turn.result.1 in let s = g.M.Machine.shard home.machine in
    let legal = subst (λ o. IsLegal o (seen c.args.pass) a.s) (some_inj a.origin home.origin (sym a.has_origin ∙ c.enter-turn.ensures.origin)) a.s_is in
    rw c.deref_mut.ensures.value ((still_flying home.origin a.s s c.args.walker c.args.flight.upto (seen c.args.pass) (notes_of s.journal home.marks.items) legal c.enter-turn.ensures.sound.legal
    (subst (λ w. GrownByOthers noter w (seen c.args.pass) (notes_of s.journal home.marks.items)) c.requires.pass.1 c.enter-turn.ensures.grown) a.holds.up a.holds.flies a.early a.taken).0.flight)

pub land-requires-clause-last : goal.land-requires-clause-last
land-requires-clause-last g c = let a = c.requires.away in let home = c.enter-turn.result.1 in let s = g.M.Machine.shard home.machine in
    let legal = subst (λ o. IsLegal o (seen c.args.pass) a.s) (some_inj a.origin home.origin (sym a.has_origin ∙ c.enter-turn.ensures.origin)) a.s_is in
    rw c.deref_mut.ensures.value ((still_flying home.origin a.s s c.args.walker c.args.flight.upto (seen c.args.pass) (notes_of s.journal home.marks.items) legal c.enter-turn.ensures.sound.legal
    (subst (λ w. GrownByOthers noter w (seen c.args.pass) (notes_of s.journal home.marks.items)) c.requires.pass.1 c.enter-turn.ensures.grown) a.holds.up a.holds.flies a.early a.taken).0.early)

pub leave-pass-requires-clause-grown : goal.leave-pass-requires-clause-grown
leave-pass-requires-clause-grown g c = let t = c.enter-turn.ensures.turn in let h = rw c.deref_mut.ensures.value at c.land.ensures.told in let home = c.enter-turn.result.1 in
    let s = g.M.Machine.shard home.machine in let u = g.M.Machine.shard c.land.new.self in
    let n = notes_step s u home.marks.items (Some h.0) h.1.journal c.enter-turn.ensures.sound.marked in
    grown_by (land s c.args.clock c.args.walker c.args.pushed) s u c.args.clock c.args.walker FlushIn (Ok c.land.result) (Some h.0) (turn_seen c.enter-turn.result.0) (notes_of s.journal home.marks.items) _ _ (c.land.result, refl, h.1) n.0 t.3
    (t.1 ∙ c.requires.pass.1)

pub leave-pass-requires-clause-sound : goal.leave-pass-requires-clause-sound
leave-pass-requires-clause-sound g c = let a = c.requires.away in let home = c.enter-turn.result.1 in let s = g.M.Machine.shard home.machine in let u = g.M.Machine.shard c.land.new.self in let flight = c.args.flight in let h = rw c.deref_mut.ensures.value at c.land.ensures.told in
    let legal = subst (λ o. IsLegal o (seen c.args.pass) a.s) (some_inj a.origin home.origin (sym a.has_origin ∙ c.enter-turn.ensures.origin)) a.s_is in
    let f = still_flying home.origin a.s s c.args.walker flight.upto (seen c.args.pass) (notes_of s.journal home.marks.items) legal c.enter-turn.ensures.sound.legal
    (subst (λ w. GrownByOthers noter w (seen c.args.pass) (notes_of s.journal home.marks.items)) c.requires.pass.1 c.enter-turn.ensures.grown) a.holds.up a.holds.flies a.early a.taken in
    let ready = still_landable g.M.Gate.Gate.is_shut g.M.Gate.Gate.faults g.M.Gate.Gate.shard g.M.Gate.Gate.logs home.origin (seen c.args.pass) c.args.pushed a.s s flight.upto (g.M.Gate.Gate.faults flight.as_taken.value) flight.gate legal f.0 (subst (λ o. Landable c.args.pushed a.s flight.upto (g.M.Gate.Gate.faults flight.as_taken.value) (g.M.Gate.Gate.is_shut flight.gate) (g.M.Gate.Gate.faults flight.gate) (g.M.Gate.Gate.shard flight.gate) (g.M.Gate.Gate.logs flight.gate (layout_of o))) (some_inj a.origin home.origin (sym a.has_origin ∙ c.enter-turn.ensures.origin)) a.holds) in
    subst (λ y. IsSound g.M.Gate.Gate.is_shut g.M.Gate.Gate.faults g.M.Gate.Gate.shard g.M.Gate.Gate.logs home.origin home.marks.items (vec_capacity home.marks) u y) (sym c.land.ensures.gate)
    (sound_lands g.M.Gate.Gate.is_shut g.M.Gate.Gate.faults g.M.Gate.Gate.shard g.M.Gate.Gate.logs home.origin home.marks.items (vec_capacity home.marks) s (g.M.Machine.gate home.machine) c.args.clock c.args.walker flight.upto (g.M.Gate.Gate.faults flight.as_taken.value) c.args.pushed c.land.result u
    h.0 flight.gate c.enter-turn.ensures.sound h.1 ready f.0.early c.requires.clock f.1)

pub tell-requires-clause-found : goal.tell-requires-clause-found
tell-requires-clause-found g c = let a = c.requires.away in let home = c.enter-turn.result.1 in let s = g.M.Machine.shard home.machine in let u = g.M.Machine.shard c.land.new.self in let h = rw c.deref_mut.ensures.value at c.land.ensures.told in
    let legal = subst (λ o. IsLegal o (seen c.args.pass) a.s) (some_inj a.origin home.origin (sym a.has_origin ∙ c.enter-turn.ensures.origin)) a.s_is in
    let f = still_flying home.origin a.s s c.args.walker c.args.flight.upto (seen c.args.pass) (notes_of s.journal home.marks.items) legal c.enter-turn.ensures.sound.legal
    (subst (λ w. GrownByOthers noter w (seen c.args.pass) (notes_of s.journal home.marks.items)) c.requires.pass.1 c.enter-turn.ensures.grown) a.holds.up a.holds.flies a.early a.taken in
    let m = land_is s c.args.clock c.args.walker c.args.flight.upto c.args.pushed c.land.result u h.0 h.1 f.0.is_up f.0.flight in
    let n = notes_step s u home.marks.items (Some h.0) h.1.journal c.enter-turn.ensures.sound.marked in
    let sees = c.leave-pass.ensures.seen ∙ n.0 in
    λ p. subst (λ ns. Rattle.std.proofs.Common.◌≤◌ c.args.flight.upto (durable_of noted_durable ns)) (sym sees)
    (told_durable s u c.args.clock c.args.walker c.args.flight.upto c.args.pushed h.0 (notes_of s.journal home.marks.items) m.0 p)

pub returns-clause-turned : goal.returns-clause-turned
returns-clause-turned g c = let t = c.enter-turn.ensures.turn in let h = rw c.deref_mut.ensures.value at c.land.ensures.told in let l = c.leave-pass.ensures in let home = c.enter-turn.result.1 in let a = c.requires.away in let flight = c.args.flight in
    let s = g.M.Machine.shard home.machine in let u = g.M.Machine.shard c.land.new.self in
    let before = notes_of s.journal home.marks.items in
    let legal = subst (λ o. IsLegal o (seen c.args.pass) a.s) (some_inj a.origin home.origin (sym a.has_origin ∙ c.enter-turn.ensures.origin)) a.s_is in
    let others = subst (λ w. GrownByOthers noter w (seen c.args.pass) before) c.requires.pass.1 c.enter-turn.ensures.grown in
    let f = still_flying home.origin a.s s c.args.walker flight.upto (seen c.args.pass) before legal c.enter-turn.ensures.sound.legal others a.holds.up a.holds.flies a.early a.taken in
    let m = land_is s c.args.clock c.args.walker flight.upto c.args.pushed c.land.result u h.0 h.1 f.0.is_up f.0.flight in
    let ready = still_landable g.M.Gate.Gate.is_shut g.M.Gate.Gate.faults g.M.Gate.Gate.shard g.M.Gate.Gate.logs home.origin (seen c.args.pass) c.args.pushed a.s s flight.upto (g.M.Gate.Gate.faults flight.as_taken.value) flight.gate legal f.0 (subst (λ o. Landable c.args.pushed a.s flight.upto (g.M.Gate.Gate.faults flight.as_taken.value) (g.M.Gate.Gate.is_shut flight.gate) (g.M.Gate.Gate.faults flight.gate) (g.M.Gate.Gate.shard flight.gate) (g.M.Gate.Gate.logs flight.gate (layout_of o))) (some_inj a.origin home.origin (sym a.has_origin ∙ c.enter-turn.ensures.origin)) a.holds) in
    let k = sound_lands g.M.Gate.Gate.is_shut g.M.Gate.Gate.faults g.M.Gate.Gate.shard g.M.Gate.Gate.logs home.origin home.marks.items (vec_capacity home.marks) s (g.M.Machine.gate home.machine) c.args.clock c.args.walker flight.upto (g.M.Gate.Gate.faults flight.as_taken.value) c.args.pushed c.land.result u
    h.0 flight.gate c.enter-turn.ensures.sound h.1 ready f.0.early c.requires.clock f.1 in
    let n = notes_step s u home.marks.items (Some h.0) h.1.journal c.enter-turn.ensures.sound.marked in
    let e = c.tell.ensures in
    record {
      origin = home.origin;
      has_origin = c.enter-turn.ensures.origin;
      before = before;
      added = plain h.0 ∷ [];
      s = s;
      t = u;
      s_is = c.enter-turn.ensures.sound.legal;
      t_is = subst (λ ns. IsLegal home.origin ns u) n.0 k.legal;
      told = record { made = h.0; added_is = refl; made_is = m.0; clock_is = (rw c.deref.ensures at c.last-clock.ensures) ∙ m.1 };
      found = others;
      seen_is = e.pass.1.2 ∙ l.seen ∙ n.0;
      own_is = e.pass.1.3 ∙ l.own ∙ ap (λ o. o ++ drop (length (turn_seen c.enter-turn.result.0)) (notes_of u.journal home.marks.items)) t.2
          ∙ ap (λ j. own c.args.pass ++ drop (length j) (notes_of u.journal home.marks.items)) t.3
          ∙ ap (λ o. own c.args.pass ++ o) (added_notes before (notes_of u.journal home.marks.items) (plain h.0 ∷ []) n.0);
      number_is = e.pass.1.1 ∙ l.pass.1 ∙ t.1;
      origin_is = e.pass.1.0 ∙ l.pass.3 ∙ t.5;
      known_rises = (let q = l.pass.2 ∙ t.4 in let r = e.known in omega arith);
    }
