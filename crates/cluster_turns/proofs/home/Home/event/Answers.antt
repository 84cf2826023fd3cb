use Rattle.std.proofs.Common.{◌≡◌, ◌∙◌, true, sym, subst, vec_capacity}
use Rattle.machine_calls.specs.Events.{event_fits}
use Rattle.machine_calls.specs.Steps.{clock_by}
use Rattle.machine_laws.specs.Notes.{notes_of}
use Rattle.machine_laws.specs.Sound.{IsSound}
use Rattle.machine_laws.proofs.Laws.{clock_is}
use Rattle.machine_laws.proofs.Laws.{legal_shard}
use Rattle.machine_laws.proofs.Laws.{sound_step}
use Rattle.machine_laws.proofs.Laws.{singly}
use Rattle.cluster_turns.proofs.home.Home.event.Goals as goal

pub step-answer-requires-clause-stepped : goal.step-answer-requires-clause-stepped
step-answer-requires-clause-stepped g c = (singly c.args.event c.requires.single).stepped

pub step-answer-requires-clause-fits : goal.step-answer-requires-clause-fits
step-answer-requires-clause-fits g c = let h = c.args.self.now in let s = g.M.Machine.shard h.machine in
    rw c.deref_mut.ensures.value (subst (λ n. event_fits n c.args.event ≡ true) (sym (legal_shard h.origin (notes_of s.journal h.marks.items) s c.requires.sound.legal)) c.requires.fits)

pub returns-clause-event : goal.returns-clause-event
returns-clause-event g c = let h = rw c.deref_mut.ensures.value at c.step-answer.ensures.told in let s = g.M.Machine.shard c.args.self.now.machine in let t = g.M.Machine.shard c.step-answer.new.self in
    let e : clock_by c.args.clock c.step-answer.result c.last-before.result c.last.result ≡ clock_by c.args.clock c.step-answer.result s.last t.last = cc in
    (h.0, h.1, c.clock_for-clock.ensures ∙ (e ∙ clock_is s c.args.clock c.args.walker c.args.event c.step-answer.result t h.0 h.1))

pub returns-clause-sound : goal.returns-clause-sound
returns-clause-sound g c = let h = rw c.deref_mut.ensures.value at c.step-answer.ensures.told in let v = c.args.self.now in let s = g.M.Machine.shard v.machine in let t = g.M.Machine.shard c.step-answer.new.self in
    subst (λ gate. IsSound g.M.Gate.Gate.is_shut g.M.Gate.Gate.faults g.M.Gate.Gate.shard g.M.Gate.Gate.logs v.origin v.marks.items (vec_capacity v.marks) t gate) (sym (rw c.deref_mut.ensures.value at c.step-answer.ensures.gate))
    (sound_step g.M.Gate.Gate.is_shut g.M.Gate.Gate.faults g.M.Gate.Gate.shard g.M.Gate.Gate.logs v.origin v.marks.items (vec_capacity v.marks) s (g.M.Machine.gate v.machine) c.args.clock c.args.walker c.args.event c.step-answer.result t h.0
    c.requires.sound h.1 c.requires.single c.requires.free c.requires.named)
