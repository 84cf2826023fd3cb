-- The request is kept, and its transaction is a candidate.
use Rattle.std.proofs.Common.{◌≡◌, ap, ◌∙◌, ◌+◌, ◌++◌, List, [], ◌∷◌, arith, sym, subst}
use Rattle.clv_base.specs.declared.messages.Message.{Message}
use Rattle.clv_base.specs.State.{Shard}
use Rattle.clv_base.specs.Coordinator.{prepares}
use Rattle.clv_base.specs.Events.{finish, coordinate}
use Rattle.protocol_laws.proofs.Laws.{requests_touch}
use Rattle.shard_core.specs.Core.{Core}
use Rattle.shard_core.proofs.Requested.{own_within}
use Rattle.two_phase_commit.specs.Coordinated.{Coordination}
use Rattle.shard_core.specs.Whole.{IsAtRest}
use Rattle.shard_core.proofs.Parts.{Parts, seen, Changed, rest_of, viewed, Holds}
use Rattle.shard_core.proofs.Grown.{like_same, turns_same, asked_changed, room_own, stayed_same, stayed_holds, stayed_rest}
use Rattle.shard_core.proofs.shard.ShardCore.request_absent.Given as given
use Rattle.shard_core.proofs.shard.ShardCore.request_absent.Goals as goal

unfoldable before : (g : given.Over) (c : goal.After-drop-messages-2 g) → Parts
before g c = let i = c.self.inside in record {
  shard = i.shard;
  run = i.run;
  transactions = i.transactions;
  participant = i.participant;
  coordinator = i.coordinator;
  prepares = i.prepares;
  outbox = i.outbox;
  candidates = i.candidates;
}

pub note-requires : goal.note-requires
note-requires g c =
    let i = c.self.inside in
    let a : Parts = record { shard = i.shard; run = i.run; transactions = i.transactions; participant = i.participant; coordinator = i.coordinator; prepares = i.prepares; outbox = i.outbox; candidates = i.candidates } in
    room_own c.args.tx i.candidates c.make_room.new.candidates (rest_of a c.args.self.now c.self.view_is c.requires.rest).none c.make_room.ensures.stay.candidates c.in-Ok-make_room.ensures.made.limit

the_change : (g : given.Over) (c : goal.After-drop-messages-2 g)
    → Changed (record (before g c) { transactions = c.make_room.new.transactions; coordinator = c.ask_commit.new.self; prepares = c.make_room.new.prepares; outbox = c.push_these.new.outbox; candidates = c.note.new.candidates })
    (coordinate c.args.tx c.args.touched (seen (before g c)))
unfolding before
the_change g c =
    let a = before g c in let s : Shard = seen a in let tx = c.args.tx in let touched = c.args.touched in let n = c.make_room.new in let stay = c.make_room.ensures.stay in let e = c.note.ensures in
    let rest = rest_of a c.args.self.now c.self.view_is c.requires.rest in let f = c.note.new.candidates in let w = c.push_these.new.outbox in
    let told = c.push_these.ensures.room in let many = c.deref.ensures.len in let counted = c.len.ensures in
    let left : n.outbox.room ≡ w.room + c.len.result = omega (arith, told, many, counted) in
    let list : c.deref.result.now ≡ prepares a.transactions.shard tx touched = c.deref.ensures.value ∙ c.in-Ok.ensures ∙ ap (prepares a.shard tx) c.as_slice.ensures ∙ ap (λ k. prepares k tx touched) c.self.invariant.transactions in
    let sent : w.messages ≡ a.outbox.messages ++ prepares a.transactions.shard tx touched = c.push_these.ensures.messages ∙ ap (λ (ms : List Message). ms ++ c.deref.result.now) stay.messages ∙ ap (λ (ms : List Message). a.outbox.messages ++ ms) list in
    asked_changed 0 a tx a.transactions.local n.transactions n.prepares f (tx ∷ []) rest c.self.invariant (like_same a c.self.invariant) touched c.ask_commit.new.self w
    (turns_same 2 c.len.result tx a.transactions n.transactions a.prepares n.prepares a.outbox n.outbox w a.candidates n.candidates f stay c.in-Ok-make_room.ensures.made c.self.invariant.prepares e.candidates rest.none left)
    c.in-Ok-ask_commit.ensures.ok c.in-Ok-ask_commit.ensures.keys sent (requests_touch.1 s tx touched) (own_within tx n.candidates f e.candidates)
    (record { sound = e.sound; purged = e.purged; rise = e.rise; few = e.few })

pub invariant_of-self-2 : goal.invariant_of-self-2
unfolding before
invariant_of-self-2 g c = (the_change g c).whole

pub returns-clause-ready : goal.returns-clause-ready
unfolding before
returns-clause-ready g c = (the_change g c).ready

pub returns-clause-finished : goal.returns-clause-finished
unfolding before
returns-clause-finished g c = (the_change g c).finished ∙ ap (λ (v : Core). finish (coordinate c.args.tx c.args.touched v.shard)) c.self.view_is

-- where there is no memory only room was made
pub invariant_of-self : goal.invariant_of-self
invariant_of-self g c =
    let i = c.self.inside in
    let a : Parts = record { shard = i.shard; run = i.run; transactions = i.transactions; participant = i.participant; coordinator = i.coordinator; prepares = i.prepares; outbox = i.outbox; candidates = i.candidates } in
    let n = c.make_room.new in let rest = rest_of a c.args.self.now c.self.view_is c.requires.rest in let stay = c.make_room.ensures.stay in
    stayed_holds a n.transactions n.prepares n.outbox n.candidates rest c.self.invariant stay

pub returns-in-Err-make_room-clause-err : goal.returns-in-Err-make_room-clause-err
returns-in-Err-make_room-clause-err g c =
    let i = c.self.inside in
    let a : Parts = record { shard = i.shard; run = i.run; transactions = i.transactions; participant = i.participant; coordinator = i.coordinator; prepares = i.prepares; outbox = i.outbox; candidates = i.candidates } in
    let n = c.make_room.new in let rest = rest_of a c.args.self.now c.self.view_is c.requires.rest in let stay = c.make_room.ensures.stay in
    stayed_same a n.transactions n.prepares n.outbox n.candidates rest c.self.invariant stay ∙ ap (λ (v : Core). v.shard) c.self.view_is

pub returns-in-Err-make_room-clause-still : goal.returns-in-Err-make_room-clause-still
returns-in-Err-make_room-clause-still g c =
    let i = c.self.inside in
    let a : Parts = record { shard = i.shard; run = i.run; transactions = i.transactions; participant = i.participant; coordinator = i.coordinator; prepares = i.prepares; outbox = i.outbox; candidates = i.candidates } in
    let n = c.make_room.new in let rest = rest_of a c.args.self.now c.self.view_is c.requires.rest in let stay = c.make_room.ensures.stay in
    stayed_rest a n.transactions n.prepares n.outbox n.candidates rest c.self.invariant stay

pub invariant_of-self-in-Err-ask_commit : goal.invariant_of-self-in-Err-ask_commit
invariant_of-self-in-Err-ask_commit g c =
    let i = c.self.inside in
    let a : Parts = record { shard = i.shard; run = i.run; transactions = i.transactions; participant = i.participant; coordinator = i.coordinator; prepares = i.prepares; outbox = i.outbox; candidates = i.candidates } in
    let n = c.make_room.new in let rest = rest_of a c.args.self.now c.self.view_is c.requires.rest in let stay = c.make_room.ensures.stay in
    subst (λ (x : Coordination). Holds (record (record a { transactions = n.transactions; prepares = n.prepares; outbox = n.outbox; candidates = n.candidates }) { coordinator = x })) (sym c.in-Err-ask_commit.ensures.err) (stayed_holds a n.transactions n.prepares n.outbox n.candidates rest c.self.invariant stay)

pub returns-in-Err-ask_commit-clause-err : goal.returns-in-Err-ask_commit-clause-err
returns-in-Err-ask_commit-clause-err g c =
    let i = c.self.inside in
    let a : Parts = record { shard = i.shard; run = i.run; transactions = i.transactions; participant = i.participant; coordinator = i.coordinator; prepares = i.prepares; outbox = i.outbox; candidates = i.candidates } in
    let n = c.make_room.new in let rest = rest_of a c.args.self.now c.self.view_is c.requires.rest in let stay = c.make_room.ensures.stay in
    ap (λ (x : Coordination). seen (record (record a { transactions = n.transactions; prepares = n.prepares; outbox = n.outbox; candidates = n.candidates }) { coordinator = x })) c.in-Err-ask_commit.ensures.err ∙ stayed_same a n.transactions n.prepares n.outbox n.candidates rest c.self.invariant stay ∙ ap (λ (v : Core). v.shard) c.self.view_is

pub returns-in-Err-ask_commit-clause-still : goal.returns-in-Err-ask_commit-clause-still
returns-in-Err-ask_commit-clause-still g c =
    let i = c.self.inside in
    let a : Parts = record { shard = i.shard; run = i.run; transactions = i.transactions; participant = i.participant; coordinator = i.coordinator; prepares = i.prepares; outbox = i.outbox; candidates = i.candidates } in
    let n = c.make_room.new in let rest = rest_of a c.args.self.now c.self.view_is c.requires.rest in let stay = c.make_room.ensures.stay in
    subst (λ (x : Coordination). IsAtRest (viewed (record (record a { transactions = n.transactions; prepares = n.prepares; outbox = n.outbox; candidates = n.candidates }) { coordinator = x }))) (sym c.in-Err-ask_commit.ensures.err) (stayed_rest a n.transactions n.prepares n.outbox n.candidates rest c.self.invariant stay)
