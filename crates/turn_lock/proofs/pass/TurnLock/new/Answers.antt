use Rattle.std.proofs.Common.{◌≡◌, ◌<◌, ◌++◌, [], ◌∷◌, length, Some, sym, ap, ◌∙◌}
use Rattle.turn_lock.specs.Rule.{first_view}
use Rattle.turn_lock.proofs.Sums.{one_same}
use Rattle.turn_lock.proofs.Keeps.{starts}
use Rattle.turn_lock.proofs.pass.TurnLock.new.Goals as goal

pub new-requires : goal.new-requires
new-requires g c = starts g.T.Journaled.journal g.T.Journaled.origin g.T.Journaled.maker g.T.Journaled.durable g.T.Journaled.sound c.args.passes (g.T.Journaled.origin c.of.result.value) c.push_reserved.new.self.items c.args.value
    (c.push_reserved.ensures.items ∙ ap (λ l. l ++ Some c.args.value ∷ []) c.in-Ok-with_capacity.ensures.items) c.ranges.passes.fits c.requires.empty (ap g.T.Journaled.origin (sym c.of.ensures)) c.requires.sound

pub invariant_of-lock : goal.invariant_of-lock
invariant_of-lock g c = let made = c.in-Ok-new.ensures.ok in let few : 0 < c.in-Ok-new.table.shared.key.passes = rw (ap (λ k. k.passes) made.5) c.requires.some in
    record { sized = (made.0, made.1 ∙ ap length (c.push_reserved.ensures.items ∙ ap (λ l. l ++ Some c.args.value ∷ []) c.in-Ok-with_capacity.ensures.items), few) }

pub deal-all-requires-clause-room : goal.deal-all-requires-clause-room
deal-all-requires-clause-room g c = (c.in-Ok.ensures.len, c.in-Ok.ensures.capacity, c.requires.some, sym (ap (λ k. k.passes) c.in-Ok-new.ensures.ok.5))

pub deal-all-requires-clause-seat : goal.deal-all-requires-clause-seat
deal-all-requires-clause-seat g c = let made = c.in-Ok-new.ensures.ok in (made.2, made.4 ∙ ap (λ k. (first_view c.args.passes (g.T.Journaled.origin k.value.value), [])) (sym made.5))

pub returns-in-Ok-new-clause-lock : goal.returns-in-Ok-new-clause-lock
returns-in-Ok-new-clause-lock g c = ap (λ k. k.passes) c.in-Ok-new.ensures.ok.5

pub returns-in-Ok-new-clause-passes : goal.returns-in-Ok-new-clause-passes
returns-in-Ok-new-clause-passes g c =
    let origin : g.T.Journaled.origin c.in-Ok-new.table.shared.key.value.value ≡ g.T.Journaled.origin c.args.value = ap (λ k. g.T.Journaled.origin k.value.value) c.in-Ok-new.ensures.ok.5 ∙ ap g.T.Journaled.origin c.of.ensures in
    (c.deal-all.ensures.0, λ k d below. let p = c.deal-all.ensures.1 k d below in (p.0, p.1 ∙ ap Some origin, p.2, p.3, p.4, p.5))

pub value_of-requires : goal.value_of-requires
value_of-requires g c = (c.args.value, c.in-Err.ensures.err ∙ (c.push_reserved.ensures.items ∙ ap (λ l. l ++ Some c.args.value ∷ []) c.in-Ok-with_capacity.ensures.items))

pub returns-in-Err-clause-err : goal.returns-in-Err-clause-err
returns-in-Err-clause-err g c = one_same c.value_of.result c.args.value (sym c.value_of.ensures ∙ (c.in-Err.ensures.err ∙ (c.push_reserved.ensures.items ∙ ap (λ l. l ++ Some c.args.value ∷ []) c.in-Ok-with_capacity.ensures.items)))
