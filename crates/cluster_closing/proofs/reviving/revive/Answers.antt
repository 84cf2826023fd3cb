use Rattle.std.proofs.Common.{◌≡◌, ◌++◌, ◌∷◌, [], sym, ap, subst, refl, arith, vec_capacity}
use Rattle.clv_base.specs.declared.events.Event.TheVariants.{Restart}
use Rattle.machine_calls.specs.Steps.{Tells}
use Rattle.machine_calls.specs.Restored.{revives, error_in}
use Rattle.machine_laws.specs.declared.notes.Mark.TheVariants.{Left}
use Rattle.machine_laws.specs.Notes.{notes_of}
use Rattle.machine_laws.specs.Sound.{IsSound}
use Rattle.cluster_closing.proofs.Bringing.{gate_away, up_again}
use Rattle.cluster_closing.proofs.reviving.revive.Goals as goal

pub revive-requires-clause-away : goal.revive-requires-clause-away
revive-requires-clause-away g c = let G = g.M.Gate.Gate in let h = c.args.home.now in
    rw c.deref_mut.ensures.value (gate_away G.is_shut G.faults G.shard G.logs h.origin h.marks.items (vec_capacity h.marks) (g.M.Machine.shard h.machine) (g.M.Machine.gate h.machine) c.args.walker c.requires.sound c.requires.down c.requires.held)

pub returns-in-Ok-clause-sound : goal.returns-in-Ok-clause-sound
returns-in-Ok-clause-sound g c = let G = g.M.Gate.Gate in let h = c.args.home.now in let y = c.args.ready in let s = g.M.Machine.shard h.machine in let t = g.M.Machine.shard c.revive.new.self in let records = y.recovered.buffer.records in
    let away = gate_away G.is_shut G.faults G.shard G.logs h.origin h.marks.items (vec_capacity h.marks) s (g.M.Machine.gate h.machine) c.args.walker c.requires.sound c.requires.down c.requires.held in
    let k = rw c.deref_mut.ensures.value at c.revive.ensures.told in
    let u = up_again G.is_shut G.faults G.shard G.logs h.origin h.marks.items (vec_capacity h.marks) (vec_capacity c.push_reserved.new.self) s t c.args.clock c.args.walker y.epoch c.last.result y.found.value.items records c.in-Ok.field-0 k.0 (Left c.entries-at.result c.of-log.result) y.gate
    (subst (λ z. IsSound G.is_shut G.faults G.shard G.logs h.origin h.marks.items (vec_capacity h.marks) s z) away c.requires.sound)
    (subst (λ r. Tells (revives s c.args.clock c.args.walker y.epoch records) s c.args.clock c.args.walker Restart (error_in r) t k.0) c.in-Ok.is k.1) c.requires.down c.requires.ready.epoch_is c.requires.ready.ready.log c.requires.fits c.requires.held
    (rw c.deref.ensures at c.entries-at.ensures, ap (λ b. b.records) c.of-log.ensures) (let w = c.push_reserved.ensures.capacity in let r = c.requires.room in omega arith) c.requires.gate (rw c.deref-in-Ok.ensures at c.last.ensures) in
    subst (λ ms. IsSound G.is_shut G.faults G.shard G.logs h.origin ms (vec_capacity c.push_reserved.new.self) t (g.M.Machine.gate c.revive.new.self)) (sym c.push_reserved.ensures.items)
    (subst (λ z. IsSound G.is_shut G.faults G.shard G.logs h.origin (h.marks.items ++ Left c.entries-at.result c.of-log.result ∷ []) (vec_capacity c.push_reserved.new.self) t z) (sym c.in-Ok.ensures.up) u.0)

pub returns-in-Ok-clause-told : goal.returns-in-Ok-clause-told
returns-in-Ok-clause-told g c = let G = g.M.Gate.Gate in let h = c.args.home.now in let y = c.args.ready in let s = g.M.Machine.shard h.machine in let t = g.M.Machine.shard c.revive.new.self in let records = y.recovered.buffer.records in
    let away = gate_away G.is_shut G.faults G.shard G.logs h.origin h.marks.items (vec_capacity h.marks) s (g.M.Machine.gate h.machine) c.args.walker c.requires.sound c.requires.down c.requires.held in
    let k = rw c.deref_mut.ensures.value at c.revive.ensures.told in
    let u = up_again G.is_shut G.faults G.shard G.logs h.origin h.marks.items (vec_capacity h.marks) (vec_capacity c.push_reserved.new.self) s t c.args.clock c.args.walker y.epoch c.last.result y.found.value.items records c.in-Ok.field-0 k.0 (Left c.entries-at.result c.of-log.result) y.gate
    (subst (λ z. IsSound G.is_shut G.faults G.shard G.logs h.origin h.marks.items (vec_capacity h.marks) s z) away c.requires.sound)
    (subst (λ r. Tells (revives s c.args.clock c.args.walker y.epoch records) s c.args.clock c.args.walker Restart (error_in r) t k.0) c.in-Ok.is k.1) c.requires.down c.requires.ready.epoch_is c.requires.ready.ready.log c.requires.fits c.requires.held
    (rw c.deref.ensures at c.entries-at.ensures, ap (λ b. b.records) c.of-log.ensures) (let w = c.push_reserved.ensures.capacity in let r = c.requires.room in omega arith) c.requires.gate (rw c.deref-in-Ok.ensures at c.last.ensures) in
    (u.1.0, (refl, u.1.1), subst (λ ms. notes_of t.journal ms ≡ notes_of s.journal h.marks.items ++ u.1.0) (sym c.push_reserved.ensures.items) u.1.2)
