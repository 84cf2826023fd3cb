-- The newest writes are taken back, and the transaction is a candidate.
use Rattle.std.proofs.Common.{◌≡◌, sym, ap, subst, ◌∙◌, Some}
use Rattle.clv_base.specs.declared.state.Stage.TheVariants.{Active}
use Rattle.clv_base.specs.State.{with_local}
use Rattle.clv_base.specs.Undo.{stage_of, roll_to}
use Rattle.clv_base.specs.Events.{finish}
use Rattle.shard_core.specs.Core.{Core}
use Rattle.shard_core.proofs.Back.{back_changed}
use Rattle.shard_core.proofs.Parts.{Parts, seen, Changed, rest_of}
use Rattle.shard_core.proofs.Requested.{room_known}
use Rattle.shard_core.proofs.Taking.{stage_known}
use Rattle.std.proofs.Common.{is_some}
use Rattle.shard_core.proofs.shard.ShardCore.roll_here.Given as given
use Rattle.shard_core.proofs.shard.ShardCore.roll_here.Goals as goal

pub roll_to-requires : goal.roll_to-requires
roll_to-requires g c = subst (λ (v : Core). stage_of v.shard.local c.args.tx ≡ Some Active) (sym c.self.view_is) c.requires.active

pub note-requires : goal.note-requires
note-requires g c =
    let i = c.self.inside in
    let a : Parts = record { shard = i.shard; run = i.run; transactions = i.transactions; participant = i.participant; coordinator = i.coordinator; prepares = i.prepares; outbox = i.outbox; candidates = i.candidates } in
    let active = subst (λ (v : Core). stage_of v.shard.local c.args.tx ≡ Some Active) (sym c.self.view_is) c.requires.active in
    room_known (seen a) c.args.tx i.candidates c.self.invariant.candidates (stage_known (seen a) c.args.tx (ap is_some active))

unfoldable before : (g : given.Over) (c : goal.After-note g) → Parts
before g c = let i = c.self.inside in record {
  shard = i.shard;
  run = i.run;
  transactions = i.transactions;
  participant = i.participant;
  coordinator = i.coordinator;
  prepares = i.prepares;
  outbox = i.outbox;
  candidates = i.candidates;
}

the_change : (g : given.Over) (c : goal.After-note g) → Changed (record (before g c) { transactions = c.roll_to.new.self; candidates = c.note.new.candidates }) (with_local (roll_to c.args.tx c.args.count) (seen (before g c)))
unfolding before
the_change g c =
    let a = before g c in let e = c.note.ensures in let r = c.roll_to.ensures in
    let active = subst (λ (v : Core). stage_of v.shard.local c.args.tx ≡ Some Active) (sym c.self.view_is) c.requires.active in
    back_changed a c.args.tx c.args.count c.roll_to.new.self c.note.new.candidates (rest_of a c.args.self.now c.self.view_is c.requires.rest) c.self.invariant active r.rolled r.room r.pairs_room e.candidates
    (record { sound = e.sound; purged = e.purged; rise = e.rise; few = e.few })

pub invariant_of-self : goal.invariant_of-self
unfolding before
invariant_of-self g c = (the_change g c).whole

pub returns-clause-ready : goal.returns-clause-ready
unfolding before
returns-clause-ready g c = (the_change g c).ready

pub returns-clause-finished : goal.returns-clause-finished
unfolding before
returns-clause-finished g c = (the_change g c).finished ∙ ap (λ (v : Core). finish (with_local (roll_to c.args.tx c.args.count) v.shard)) c.self.view_is
