-- A vote is owed, and its transaction is a candidate.
use Rattle.std.proofs.Common.{◌≡◌, ap, ◌∙◌, ◌+◌, [], ◌∷◌, arith, sym, subst}
use Rattle.clv_base.specs.State.{Shard}
use Rattle.clv_base.specs.Events.{finish, owe_vote}
use Rattle.protocol_laws.proofs.Laws.{prepares_touch}
use Rattle.shard_core.specs.Core.{Core}
use Rattle.shard_core.proofs.Requested.{own_within}
use Rattle.two_phase_commit.specs.Voting.{Voting}
use Rattle.shard_core.specs.Whole.{IsAtRest}
use Rattle.shard_core.proofs.Parts.{Parts, seen, Changed, rest_of, viewed, Holds}
use Rattle.shard_core.proofs.Grown.{like_same, turns_same, owed_changed, room_own, stayed_same, stayed_holds, stayed_rest}
use Rattle.shard_core.proofs.shard.ShardCore.prepare_other.Given as given
use Rattle.shard_core.proofs.shard.ShardCore.prepare_other.Goals as goal

unfoldable before : (g : given.Over) (c : goal.After-note g) → Parts
before g c = let i = c.self.inside in record {
  shard = i.shard;
  run = i.run;
  transactions = i.transactions;
  participant = i.participant;
  coordinator = i.coordinator;
  prepares = i.prepares;
  outbox = i.outbox;
  candidates = i.candidates;
}

pub note-requires : goal.note-requires
note-requires g c =
    let i = c.self.inside in
    let a : Parts = record { shard = i.shard; run = i.run; transactions = i.transactions; participant = i.participant; coordinator = i.coordinator; prepares = i.prepares; outbox = i.outbox; candidates = i.candidates } in
    room_own c.args.tx i.candidates c.make_room.new.candidates (rest_of a c.args.self.now c.self.view_is c.requires.rest).none c.make_room.ensures.stay.candidates c.in-Ok.ensures.made.limit

the_change : (g : given.Over) (c : goal.After-note g)
    → Changed (record (before g c) { transactions = c.make_room.new.transactions; participant = c.on_prepare.new.self; prepares = c.make_room.new.prepares; outbox = c.make_room.new.outbox; candidates = c.note.new.candidates })
    (owe_vote c.args.tx c.args.home c.args.seen (seen (before g c)))
unfolding before
the_change g c =
    let a = before g c in let s : Shard = seen a in let tx = c.args.tx in let n = c.make_room.new in let stay = c.make_room.ensures.stay in let e = c.note.ensures in
    let rest = rest_of a c.args.self.now c.self.view_is c.requires.rest in let f = c.note.new.candidates in
    let left : n.outbox.room ≡ n.outbox.room + 0 = omega arith in
    owed_changed 0 a tx a.transactions.local n.transactions n.prepares f (tx ∷ []) rest c.self.invariant (like_same a c.self.invariant) c.args.home c.args.seen c.on_prepare.new.self n.outbox
    (turns_same 1 0 tx a.transactions n.transactions a.prepares n.prepares a.outbox n.outbox n.outbox a.candidates n.candidates f stay c.in-Ok.ensures.made c.self.invariant.prepares e.candidates rest.none left)
    c.in-Ok-on_prepare.ensures.ok c.in-Ok-on_prepare.ensures.rising stay.messages (prepares_touch.1 s tx c.args.home c.args.seen) (own_within tx n.candidates f e.candidates)
    (record { sound = e.sound; purged = e.purged; rise = e.rise; few = e.few })

pub invariant_of-self-2 : goal.invariant_of-self-2
unfolding before
invariant_of-self-2 g c = (the_change g c).whole

pub returns-clause-ready : goal.returns-clause-ready
unfolding before
returns-clause-ready g c = (the_change g c).ready

pub returns-clause-finished : goal.returns-clause-finished
unfolding before
returns-clause-finished g c = (the_change g c).finished ∙ ap (λ (v : Core). finish (owe_vote c.args.tx c.args.home c.args.seen v.shard)) c.self.view_is

-- where there is no memory only room was made
pub invariant_of-self : goal.invariant_of-self
invariant_of-self g c =
    let i = c.self.inside in
    let a : Parts = record { shard = i.shard; run = i.run; transactions = i.transactions; participant = i.participant; coordinator = i.coordinator; prepares = i.prepares; outbox = i.outbox; candidates = i.candidates } in
    let n = c.make_room.new in let rest = rest_of a c.args.self.now c.self.view_is c.requires.rest in let stay = c.make_room.ensures.stay in
    stayed_holds a n.transactions n.prepares n.outbox n.candidates rest c.self.invariant stay

pub returns-in-Err-clause-err : goal.returns-in-Err-clause-err
returns-in-Err-clause-err g c =
    let i = c.self.inside in
    let a : Parts = record { shard = i.shard; run = i.run; transactions = i.transactions; participant = i.participant; coordinator = i.coordinator; prepares = i.prepares; outbox = i.outbox; candidates = i.candidates } in
    let n = c.make_room.new in let rest = rest_of a c.args.self.now c.self.view_is c.requires.rest in let stay = c.make_room.ensures.stay in
    stayed_same a n.transactions n.prepares n.outbox n.candidates rest c.self.invariant stay ∙ ap (λ (v : Core). v.shard) c.self.view_is

pub returns-in-Err-clause-still : goal.returns-in-Err-clause-still
returns-in-Err-clause-still g c =
    let i = c.self.inside in
    let a : Parts = record { shard = i.shard; run = i.run; transactions = i.transactions; participant = i.participant; coordinator = i.coordinator; prepares = i.prepares; outbox = i.outbox; candidates = i.candidates } in
    let n = c.make_room.new in let rest = rest_of a c.args.self.now c.self.view_is c.requires.rest in let stay = c.make_room.ensures.stay in
    stayed_rest a n.transactions n.prepares n.outbox n.candidates rest c.self.invariant stay

pub invariant_of-self-in-Err-on_prepare : goal.invariant_of-self-in-Err-on_prepare
invariant_of-self-in-Err-on_prepare g c =
    let i = c.self.inside in
    let a : Parts = record { shard = i.shard; run = i.run; transactions = i.transactions; participant = i.participant; coordinator = i.coordinator; prepares = i.prepares; outbox = i.outbox; candidates = i.candidates } in
    let n = c.make_room.new in let rest = rest_of a c.args.self.now c.self.view_is c.requires.rest in let stay = c.make_room.ensures.stay in
    subst (λ (x : Voting). Holds (record (record a { transactions = n.transactions; prepares = n.prepares; outbox = n.outbox; candidates = n.candidates }) { participant = x })) (sym c.in-Err-on_prepare.ensures.err) (stayed_holds a n.transactions n.prepares n.outbox n.candidates rest c.self.invariant stay)

pub returns-in-Err-on_prepare-clause-err : goal.returns-in-Err-on_prepare-clause-err
returns-in-Err-on_prepare-clause-err g c =
    let i = c.self.inside in
    let a : Parts = record { shard = i.shard; run = i.run; transactions = i.transactions; participant = i.participant; coordinator = i.coordinator; prepares = i.prepares; outbox = i.outbox; candidates = i.candidates } in
    let n = c.make_room.new in let rest = rest_of a c.args.self.now c.self.view_is c.requires.rest in let stay = c.make_room.ensures.stay in
    ap (λ (x : Voting). seen (record (record a { transactions = n.transactions; prepares = n.prepares; outbox = n.outbox; candidates = n.candidates }) { participant = x })) c.in-Err-on_prepare.ensures.err ∙ stayed_same a n.transactions n.prepares n.outbox n.candidates rest c.self.invariant stay ∙ ap (λ (v : Core). v.shard) c.self.view_is

pub returns-in-Err-on_prepare-clause-still : goal.returns-in-Err-on_prepare-clause-still
returns-in-Err-on_prepare-clause-still g c =
    let i = c.self.inside in
    let a : Parts = record { shard = i.shard; run = i.run; transactions = i.transactions; participant = i.participant; coordinator = i.coordinator; prepares = i.prepares; outbox = i.outbox; candidates = i.candidates } in
    let n = c.make_room.new in let rest = rest_of a c.args.self.now c.self.view_is c.requires.rest in let stay = c.make_room.ensures.stay in
    subst (λ (x : Voting). IsAtRest (viewed (record (record a { transactions = n.transactions; prepares = n.prepares; outbox = n.outbox; candidates = n.candidates }) { participant = x }))) (sym c.in-Err-on_prepare.ensures.err) (stayed_rest a n.transactions n.prepares n.outbox n.candidates rest c.self.invariant stay)
