use Rattle.std.proofs.Common.{◌≡◌, true, subst, sym, refl}
use Rattle.clv_base.specs.declared.events.Event.TheVariants.{Remind}
use Rattle.clv_base.specs.Sessions.{is_session}
use Rattle.cluster_turns.specs.Walkers.{kept}
use Rattle.cluster_turns.proofs.Walking.{other_goes_on}
use Rattle.cluster_turns.proofs.reminding.remind_once.Goals as goal

pub event-answer-requires-clause-free : goal.event-answer-requires-clause-free
event-answer-requires-clause-free g c = record { named = refl; free = λ p o had from up. refl }

pub event-answer-requires-clause-goes : goal.event-answer-requires-clause-goes
event-answer-requires-clause-goes g c = let w = c.args.walker.now in let sh = c.args.shards.now in
    other_goes_on sh.splits sh.run w.number (kept w.passes.items) c.args.shard Remind (subst (λ run. is_session sh.splits run w.number (kept w.passes.items) ≡ true) (sym c.requires.walker.run) c.requires.walker.walks.keeps.session) refl tt

pub returns-clause-reminded : goal.returns-clause-reminded
returns-clause-reminded g c = (c.event-answer.result, c.told_of.ensures, c.event-answer.ensures.event)
