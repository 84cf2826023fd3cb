-- The part is closed and a vote is owed, and the transaction and its successors are candidates.
use Rattle.std.proofs.Common.{◌≡◌, sym, ap, subst, ◌∙◌, ◌+◌, ◌∷◌, false, Some, arith}
use Rattle.clv_base.specs.declared.state.Stage.TheVariants.{Active}
use Rattle.clv_base.specs.State.{Shard, with_local}
use Rattle.clv_base.specs.Undo.{stage_of}
use Rattle.clv_base.specs.OneShard.{close_part}
use Rattle.clv_base.specs.Events.{finish, owe_vote}
use Rattle.protocol_laws.specs.Changes.{successors_of}
use Rattle.protocol_laws.proofs.Laws.{prepares_touch}
use Rattle.shard_core.specs.Core.{Core}
use Rattle.two_phase_commit.specs.Voting.{Voting}
use Rattle.shard_core.specs.Whole.{IsAtRest}
use Rattle.shard_core.proofs.Parts.{Parts, seen, Changed, rest_of, viewed, Holds}
use Rattle.shard_core.proofs.Grown.{like_closed, turns_closed, owed_changed, room_doomed, within_closed, rising_before, stayed_same, stayed_holds, stayed_rest}
use Rattle.shard_core.proofs.shard.ShardCore.prepare_active.Given as given
use Rattle.shard_core.proofs.shard.ShardCore.prepare_active.Goals as goal

unfoldable before : (g : given.Over) (c : goal.After-close_noted g) → Parts
before g c = let i = c.self.inside in record {
  shard = i.shard;
  run = i.run;
  transactions = i.transactions;
  participant = i.participant;
  coordinator = i.coordinator;
  prepares = i.prepares;
  outbox = i.outbox;
  candidates = i.candidates;
}

pub close_noted-requires-clause-room : goal.close_noted-requires-clause-room
close_noted-requires-clause-room g c =
    let i = c.self.inside in let stay = c.make_room.ensures.stay in
    let a : Parts = record { shard = i.shard; run = i.run; transactions = i.transactions; participant = i.participant; coordinator = i.coordinator; prepares = i.prepares; outbox = i.outbox; candidates = i.candidates } in
    room_doomed a c.args.tx c.make_room.new.transactions c.make_room.new.candidates c.self.invariant (subst (λ (v : Core). stage_of v.shard.local c.args.tx ≡ Some Active) (sym c.self.view_is) c.requires.active) stay.transactions stay.candidates stay.limit

the_change : (g : given.Over) (c : goal.After-close_noted g)
    → Changed (record (before g c) { transactions = c.close_noted.new.transactions; participant = c.on_prepare.new.self; prepares = c.close_noted.new.prepares; outbox = c.make_room.new.outbox; candidates = c.close_noted.new.candidates })
    (owe_vote c.args.tx c.args.home c.args.seen (with_local (close_part c.args.tx c.args.home false) (seen (before g c))))
unfolding before
the_change g c =
    let a = before g c in let s : Shard = seen a in let t = a.transactions in let tx = c.args.tx in let home = c.args.home in let n = c.make_room.new in let stay = c.make_room.ensures.stay in let made = c.in-Ok-make_room.ensures.made in
    let e = c.close_noted.ensures in let u = c.close_noted.new.transactions in let q = c.close_noted.new.prepares in let f = c.close_noted.new.candidates in
    let rest = rest_of a c.args.self.now c.self.view_is c.requires.rest in
    let active : stage_of t.local tx ≡ Some Active = subst (λ (v : Core). stage_of v.shard.local tx ≡ Some Active) (sym c.self.view_is) c.requires.active in
    let left : n.outbox.room ≡ n.outbox.room + 0 = omega arith in
    owed_changed 1 a tx (close_part tx home false t.local) u q f (tx ∷ successors_of t.local.pairs tx) rest c.self.invariant
    (like_closed a tx home false c.self.invariant active (rising_before t n.transactions stay.transactions e.rising)) home c.args.seen c.on_prepare.new.self n.outbox
    (turns_closed 2 0 tx home false t n.transactions u a.prepares n.prepares q a.outbox n.outbox n.outbox a.candidates n.candidates f stay made e.closed e.room e.pairs_room e.places e.txs e.limit rest.none left)
    c.in-Ok-on_prepare.ensures.ok c.in-Ok-on_prepare.ensures.rising stay.messages (prepares_touch.0 s tx home c.args.seen) (within_closed tx n.transactions t n.candidates f stay.transactions e.txs)
    (record { sound = e.sound; purged = e.purged; rise = e.rise; few = e.few })

pub invariant_of-self-2 : goal.invariant_of-self-2
unfolding before
invariant_of-self-2 g c = (the_change g c).whole

pub returns-clause-ready : goal.returns-clause-ready
unfolding before
returns-clause-ready g c = (the_change g c).ready

pub returns-clause-finished : goal.returns-clause-finished
unfolding before
returns-clause-finished g c = (the_change g c).finished ∙ ap (λ (v : Core). finish (owe_vote c.args.tx c.args.home c.args.seen (with_local (close_part c.args.tx c.args.home false) v.shard))) c.self.view_is

-- where there is no memory only room was made
pub invariant_of-self : goal.invariant_of-self
invariant_of-self g c =
    let i = c.self.inside in
    let a : Parts = record { shard = i.shard; run = i.run; transactions = i.transactions; participant = i.participant; coordinator = i.coordinator; prepares = i.prepares; outbox = i.outbox; candidates = i.candidates } in
    let n = c.make_room.new in let rest = rest_of a c.args.self.now c.self.view_is c.requires.rest in let stay = c.make_room.ensures.stay in
    stayed_holds a n.transactions n.prepares n.outbox n.candidates rest c.self.invariant stay

pub returns-in-Err-make_room-clause-err : goal.returns-in-Err-make_room-clause-err
returns-in-Err-make_room-clause-err g c =
    let i = c.self.inside in
    let a : Parts = record { shard = i.shard; run = i.run; transactions = i.transactions; participant = i.participant; coordinator = i.coordinator; prepares = i.prepares; outbox = i.outbox; candidates = i.candidates } in
    let n = c.make_room.new in let rest = rest_of a c.args.self.now c.self.view_is c.requires.rest in let stay = c.make_room.ensures.stay in
    stayed_same a n.transactions n.prepares n.outbox n.candidates rest c.self.invariant stay ∙ ap (λ (v : Core). v.shard) c.self.view_is

pub returns-in-Err-make_room-clause-still : goal.returns-in-Err-make_room-clause-still
returns-in-Err-make_room-clause-still g c =
    let i = c.self.inside in
    let a : Parts = record { shard = i.shard; run = i.run; transactions = i.transactions; participant = i.participant; coordinator = i.coordinator; prepares = i.prepares; outbox = i.outbox; candidates = i.candidates } in
    let n = c.make_room.new in let rest = rest_of a c.args.self.now c.self.view_is c.requires.rest in let stay = c.make_room.ensures.stay in
    stayed_rest a n.transactions n.prepares n.outbox n.candidates rest c.self.invariant stay

pub invariant_of-self-in-Err-on_prepare : goal.invariant_of-self-in-Err-on_prepare
invariant_of-self-in-Err-on_prepare g c =
    let i = c.self.inside in
    let a : Parts = record { shard = i.shard; run = i.run; transactions = i.transactions; participant = i.participant; coordinator = i.coordinator; prepares = i.prepares; outbox = i.outbox; candidates = i.candidates } in
    let n = c.make_room.new in let rest = rest_of a c.args.self.now c.self.view_is c.requires.rest in let stay = c.make_room.ensures.stay in
    subst (λ (x : Voting). Holds (record (record a { transactions = n.transactions; prepares = n.prepares; outbox = n.outbox; candidates = n.candidates }) { participant = x })) (sym c.in-Err-on_prepare.ensures.err) (stayed_holds a n.transactions n.prepares n.outbox n.candidates rest c.self.invariant stay)

pub returns-in-Err-on_prepare-clause-err : goal.returns-in-Err-on_prepare-clause-err
returns-in-Err-on_prepare-clause-err g c =
    let i = c.self.inside in
    let a : Parts = record { shard = i.shard; run = i.run; transactions = i.transactions; participant = i.participant; coordinator = i.coordinator; prepares = i.prepares; outbox = i.outbox; candidates = i.candidates } in
    let n = c.make_room.new in let rest = rest_of a c.args.self.now c.self.view_is c.requires.rest in let stay = c.make_room.ensures.stay in
    ap (λ (x : Voting). seen (record (record a { transactions = n.transactions; prepares = n.prepares; outbox = n.outbox; candidates = n.candidates }) { participant = x })) c.in-Err-on_prepare.ensures.err ∙ stayed_same a n.transactions n.prepares n.outbox n.candidates rest c.self.invariant stay ∙ ap (λ (v : Core). v.shard) c.self.view_is

pub returns-in-Err-on_prepare-clause-still : goal.returns-in-Err-on_prepare-clause-still
returns-in-Err-on_prepare-clause-still g c =
    let i = c.self.inside in
    let a : Parts = record { shard = i.shard; run = i.run; transactions = i.transactions; participant = i.participant; coordinator = i.coordinator; prepares = i.prepares; outbox = i.outbox; candidates = i.candidates } in
    let n = c.make_room.new in let rest = rest_of a c.args.self.now c.self.view_is c.requires.rest in let stay = c.make_room.ensures.stay in
    subst (λ (x : Voting). IsAtRest (viewed (record (record a { transactions = n.transactions; prepares = n.prepares; outbox = n.outbox; candidates = n.candidates }) { participant = x }))) (sym c.in-Err-on_prepare.ensures.err) (stayed_rest a n.transactions n.prepares n.outbox n.candidates rest c.self.invariant stay)
