use Rattle.std.proofs.Common.{arith, ◌∙◌, ◌++◌, ap, subst, length, drop}
use Rattle.turn_lock.specs.Passes.{seen, own, turn_seen}
use Rattle.turn_lock.specs.Journals.{GrownByOthers}
use Rattle.machine_laws.specs.Notes.{noter, notes_of}
use Rattle.machine_laws.specs.Homes.{IsLegal}
use Rattle.machine_laws.proofs.Laws.{added_notes}
use Rattle.cluster_closing.specs.Restarts.{Recovers}
use Rattle.cluster_closing.specs.Revived.{IsReadyFor}
use Rattle.cluster_closing.proofs.ReviveHolding.{finds, adds_own, same_seen}
use Rattle.cluster_closing.proofs.turns.take_up.Goals as goal

pub bring_up-clock-requires-clause-held : goal.bring_up-clock-requires-clause-held
bring_up-clock-requires-clause-held g c = let home = c.enter-turn.result.1 in let s = g.M.Machine.shard home.machine in let a = c.args.ready in let G = g.M.Gate.Gate in let notes = notes_of s.journal home.marks.items in
    (finds c.args.walker (λ layout u. IsReadyFor u a.epoch a.found.value.items (g.M.Store.Store.records a.store) a.recovered × Recovers u a.recovered.buffer.records (G.is_shut a.gate) (G.faults a.gate) (G.shard a.gate) (G.logs a.gate layout)) c.args.pass home.origin notes s c.requires.held c.enter-turn.ensures.origin c.enter-turn.ensures.sound.legal
    (subst (λ w. GrownByOthers noter w (seen c.args.pass) notes) c.requires.pass.1 c.enter-turn.ensures.grown)).held

pub bring_up-clock-requires-clause-down : goal.bring_up-clock-requires-clause-down
bring_up-clock-requires-clause-down g c = let home = c.enter-turn.result.1 in let s = g.M.Machine.shard home.machine in let a = c.args.ready in let G = g.M.Gate.Gate in let notes = notes_of s.journal home.marks.items in
    (finds c.args.walker (λ layout u. IsReadyFor u a.epoch a.found.value.items (g.M.Store.Store.records a.store) a.recovered × Recovers u a.recovered.buffer.records (G.is_shut a.gate) (G.faults a.gate) (G.shard a.gate) (G.logs a.gate layout)) c.args.pass home.origin notes s c.requires.held c.enter-turn.ensures.origin c.enter-turn.ensures.sound.legal
    (subst (λ w. GrownByOthers noter w (seen c.args.pass) notes) c.requires.pass.1 c.enter-turn.ensures.grown)).down

pub bring_up-clock-requires-clause-ready : goal.bring_up-clock-requires-clause-ready
bring_up-clock-requires-clause-ready g c = let home = c.enter-turn.result.1 in let s = g.M.Machine.shard home.machine in let a = c.args.ready in let G = g.M.Gate.Gate in let notes = notes_of s.journal home.marks.items in
    (finds c.args.walker (λ layout u. IsReadyFor u a.epoch a.found.value.items (g.M.Store.Store.records a.store) a.recovered × Recovers u a.recovered.buffer.records (G.is_shut a.gate) (G.faults a.gate) (G.shard a.gate) (G.logs a.gate layout)) c.args.pass home.origin notes s c.requires.held c.enter-turn.ensures.origin c.enter-turn.ensures.sound.legal
    (subst (λ w. GrownByOthers noter w (seen c.args.pass) notes) c.requires.pass.1 c.enter-turn.ensures.grown)).holds.0

pub bring_up-clock-requires-clause-gate : goal.bring_up-clock-requires-clause-gate
bring_up-clock-requires-clause-gate g c = let home = c.enter-turn.result.1 in let s = g.M.Machine.shard home.machine in let a = c.args.ready in let G = g.M.Gate.Gate in let notes = notes_of s.journal home.marks.items in
    (finds c.args.walker (λ layout u. IsReadyFor u a.epoch a.found.value.items (g.M.Store.Store.records a.store) a.recovered × Recovers u a.recovered.buffer.records (G.is_shut a.gate) (G.faults a.gate) (G.shard a.gate) (G.logs a.gate layout)) c.args.pass home.origin notes s c.requires.held c.enter-turn.ensures.origin c.enter-turn.ensures.sound.legal
    (subst (λ w. GrownByOthers noter w (seen c.args.pass) notes) c.requires.pass.1 c.enter-turn.ensures.grown)).holds.1

pub leave-requires-clause-grown : goal.leave-requires-clause-grown
leave-requires-clause-grown g c = let t = c.enter-turn.ensures.turn in let home = c.enter-turn.result.1 in let after = c.bring_up-clock.new.home in let s = g.M.Machine.shard home.machine in let u = g.M.Machine.shard after.machine in
    let h = c.bring_up-clock.ensures.told in
    adds_own c.args.clock c.args.walker c.args.ready.epoch _ c.args.ready.found.value.items c.bring_up-clock.result.1 c.bring_up-clock.result.0 s u (turn_seen c.enter-turn.result.0) (notes_of s.journal home.marks.items) (notes_of u.journal after.marks.items) h.0 h.1 h.2 t.3 (t.1 ∙ c.requires.pass.1)

pub returns-clause-turned : goal.returns-clause-turned
returns-clause-turned g c = let t = c.enter-turn.ensures.turn in let l = c.leave.ensures in let home = c.enter-turn.result.1 in let after = c.bring_up-clock.new.home in let s = g.M.Machine.shard home.machine in let u = g.M.Machine.shard after.machine in
    let before = notes_of s.journal home.marks.items in let h = c.bring_up-clock.ensures.told in
    record {
      origin = home.origin;
      has_origin = c.enter-turn.ensures.origin;
      before = before;
      added = h.0;
      s = s;
      t = u;
      s_is = c.enter-turn.ensures.sound.legal;
      t_is = subst (λ o. IsLegal o (before ++ h.0) u) c.bring_up-clock.ensures.origin (subst (λ ns. IsLegal after.origin ns u) h.2 c.bring_up-clock.ensures.sound.legal);
      told = h.1;
      found = subst (λ w. GrownByOthers noter w (seen c.args.pass) before) c.requires.pass.1 c.enter-turn.ensures.grown;
      seen_is = l.seen ∙ h.2;
      own_is = l.own ∙ ap (λ o. o ++ drop (length (turn_seen c.enter-turn.result.0)) (notes_of u.journal after.marks.items)) t.2
          ∙ ap (λ j. own c.args.pass ++ drop (length j) (notes_of u.journal after.marks.items)) t.3
          ∙ ap (λ o. own c.args.pass ++ o) (added_notes before (notes_of u.journal after.marks.items) h.0 h.2);
      number_is = l.pass.1 ∙ t.1;
      origin_is = l.pass.3 ∙ t.5;
      known_rises = (let k = l.pass.2 ∙ t.4 in omega arith);
    }

pub returns-clause-same : goal.returns-clause-same
returns-clause-same g c = let t = c.enter-turn.ensures.turn in let l = c.leave.ensures in let home = c.enter-turn.result.1 in let after = c.bring_up-clock.new.home in let s = g.M.Machine.shard home.machine in let u = g.M.Machine.shard after.machine in let h = c.bring_up-clock.ensures.told in
    let a = c.args.ready in let G = g.M.Gate.Gate in let notes = notes_of s.journal home.marks.items in
    let f = finds c.args.walker (λ layout v. IsReadyFor v a.epoch a.found.value.items (g.M.Store.Store.records a.store) a.recovered × Recovers v a.recovered.buffer.records (G.is_shut a.gate) (G.faults a.gate) (G.shard a.gate) (G.logs a.gate layout)) c.args.pass home.origin notes s c.requires.held c.enter-turn.ensures.origin c.enter-turn.ensures.sound.legal
    (subst (λ w. GrownByOthers noter w (seen c.args.pass) notes) c.requires.pass.1 c.enter-turn.ensures.grown) in
    same_seen c.args.clock c.args.walker a.epoch a.found.value.items c.bring_up-clock.result.1 c.bring_up-clock.result.0 s u (seen c.args.pass) notes h.0 (seen c.leave.result) _ _ h.1 f.same (l.seen ∙ h.2) (l.pass.3 ∙ t.5)
