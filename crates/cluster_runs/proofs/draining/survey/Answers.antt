use Rattle.std.proofs.Common.{arith, ◌≡◌, ◌∙◌, Bool, ◌&&◌, ◌++◌, [], sym, ap, subst, length, drop, refl, append-nil}
use Rattle.turn_lock.specs.Passes.{seen, own, turn_seen}
use Rattle.turn_lock.specs.Journals.{GrownByOthers}
use Rattle.machine_laws.specs.Notes.{noter, notes_of}
use Rattle.machine_laws.specs.Homes.{IsLegal}
use Rattle.machine_laws.proofs.Laws.{added_notes}
use Rattle.machine_calls.specs.Settled.{are_inactive, is_quiet, is_settled}
use Rattle.cluster_runs.proofs.draining.survey.Goals.{then-settled, else-settled}
use Rattle.cluster_runs.proofs.draining.survey.Goals as goal

pub leave-requires-clause-grown : goal.leave-requires-clause-grown
leave-requires-clause-grown g c = let t = c.enter-turn.ensures.turn in let home = c.enter-turn.result.1 in let notes = notes_of (g.M.Machine.shard home.machine).journal home.marks.items in
    ([], sym t.3 ∙ sym (append-nil (turn_seen c.enter-turn.result.0)), λ k d l. absurd (omega arith))

pub returns-clause-turned : goal.returns-clause-turned
returns-clause-turned g c = let t = c.enter-turn.ensures.turn in let l = c.leave.ensures in let home = c.enter-turn.result.1 in let s = g.M.Machine.shard home.machine in
    let settled : c.is_settled-settled.result ≡ is_settled s = rw c.deref.ensures at c.is_settled-settled.ensures in
    let also : Bool → Bool = λ b. b && are_inactive s.local.parts in
    let quiet : c.if-settled.quiet ≡ is_quiet s =
    elim c.if-settled.branch [
      | then-settled w ↦ w.quiet-is ∙ (rw w.deref-then-settled.ensures at w.is_inactive-quiet.ensures) ∙ ap also (sym w.if-settled.true ∙ settled)
      | else-settled w ↦ w.quiet-is ∙ w.if-settled.false ∙ ap also (sym w.if-settled.false ∙ settled)
    ] in
    let before = notes_of s.journal home.marks.items in let is : before ≡ before ++ [] = sym (append-nil before) in
    record {
      origin = home.origin;
      has_origin = c.enter-turn.ensures.origin;
      before = before;
      added = [];
      s = s;
      t = s;
      s_is = c.enter-turn.ensures.sound.legal;
      t_is = subst (λ ns. IsLegal home.origin ns s) is c.enter-turn.ensures.sound.legal;
      told = record { settled = record { added_is = refl; same = refl; answer_is = settled }; quiet_is = quiet; last_is = (let e = rw c.deref-2.ensures at c.last-last.ensures in omega arith) };
      found = subst (λ w. GrownByOthers noter w (seen c.args.pass) before) c.requires.pass.1 c.enter-turn.ensures.grown;
      seen_is = l.seen ∙ is;
      own_is = l.own ∙ ap (λ o. o ++ drop (length (turn_seen c.enter-turn.result.0)) before) t.2 ∙ ap (λ j. own c.args.pass ++ drop (length j) before) t.3
          ∙ ap (λ o. own c.args.pass ++ o) (added_notes before before [] is);
      number_is = l.pass.1 ∙ t.1;
      origin_is = l.pass.3 ∙ t.5;
      known_rises = (let k = l.pass.2 ∙ t.4 in omega arith);
    }
