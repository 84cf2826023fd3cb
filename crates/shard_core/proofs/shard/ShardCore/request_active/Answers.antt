-- The part is closed and the request is kept, and the transaction and its successors are candidates.
use Rattle.std.proofs.Common.{◌≡◌, sym, ap, subst, ◌∙◌, ℕ, ◌+◌, ◌++◌, true, map, List, ◌∷◌, Some, arith}
use Rattle.clv_base.specs.declared.messages.Message.{Message}
use Rattle.clv_base.specs.declared.state.Stage.TheVariants.{Active}
use Rattle.clv_base.specs.Orders.{nat_in}
use Rattle.clv_base.specs.State.{Shard, with_local}
use Rattle.clv_base.specs.Undo.{stage_of}
use Rattle.clv_base.specs.Coordinator.{prepares, others}
use Rattle.clv_base.specs.OneShard.{close_part}
use Rattle.clv_base.specs.Events.{finish, is_alone, coordinate}
use Rattle.protocol_laws.specs.Changes.{ChangesDue, successors_of}
use Rattle.protocol_laws.proofs.Laws.{requests_touch}
use Rattle.two_phase_commit.proofs.Laws.{low_in}
use Rattle.shard_core.specs.Core.{Core}
use Rattle.two_phase_commit.specs.Coordinated.{Coordination}
use Rattle.shard_core.specs.Whole.{IsAtRest}
use Rattle.shard_core.proofs.Parts.{Parts, seen, Changed, rest_of, viewed, Holds}
use Rattle.shard_core.proofs.Grown.{like_closed, turns_closed, asked_changed, room_doomed, within_closed, rising_before, stayed_same, stayed_holds, stayed_rest}
use Rattle.shard_core.proofs.shard.ShardCore.request_active.Given as given
use Rattle.shard_core.proofs.shard.ShardCore.request_active.Goals as goal

unfoldable before : (g : given.Over) (c : goal.After-drop-messages-2 g) → Parts
before g c = let i = c.self.inside in record {
  shard = i.shard;
  run = i.run;
  transactions = i.transactions;
  participant = i.participant;
  coordinator = i.coordinator;
  prepares = i.prepares;
  outbox = i.outbox;
  candidates = i.candidates;
}

pub close_noted-requires-clause-room : goal.close_noted-requires-clause-room
close_noted-requires-clause-room g c =
    let i = c.self.inside in let stay = c.make_room.ensures.stay in
    let a : Parts = record { shard = i.shard; run = i.run; transactions = i.transactions; participant = i.participant; coordinator = i.coordinator; prepares = i.prepares; outbox = i.outbox; candidates = i.candidates } in
    room_doomed a c.args.tx c.make_room.new.transactions c.make_room.new.candidates c.self.invariant (subst (λ (v : Core). stage_of v.shard.local c.args.tx ≡ Some Active) (sym c.self.view_is) c.requires.active) stay.transactions stay.candidates stay.limit

pub close_noted-requires-clause-home : goal.close_noted-requires-clause-home
close_noted-requires-clause-home g c =
    let home : c.self.inside.shard ≡ c.args.self.now.shard.shard = c.self.invariant.transactions ∙ ap (λ (v : Core). v.shard.shard) c.self.view_is in
    low_in c.self.inside.shard c.args.touched c.requires.low (subst (λ n. nat_in n (map (λ (t : ℕ × ℕ). t.0) c.args.touched) ≡ true) (sym home) c.requires.own)

the_change : (g : given.Over) (c : goal.After-drop-messages-2 g)
    → Changed (record (before g c) { transactions = c.close_noted.new.transactions; coordinator = c.ask_commit.new.self; prepares = c.close_noted.new.prepares; outbox = c.push_these.new.outbox; candidates = c.close_noted.new.candidates })
    (coordinate c.args.tx c.args.touched (with_local (close_part c.args.tx (seen (before g c)).shard (is_alone (others (seen (before g c)).shard c.args.touched))) (seen (before g c))))
unfolding before
the_change g c =
    let a = before g c in let s : Shard = seen a in let t = a.transactions in let tx = c.args.tx in let touched = c.args.touched in let n = c.make_room.new in let stay = c.make_room.ensures.stay in let made = c.in-Ok-make_room.ensures.made in
    let e = c.close_noted.ensures in let u = c.close_noted.new.transactions in let q = c.close_noted.new.prepares in let f = c.close_noted.new.candidates in let w = c.push_these.new.outbox in
    let rest = rest_of a c.args.self.now c.self.view_is c.requires.rest in let home = c.self.inside.shard in let alone = c.is_only-alone.result in
    let active : stage_of t.local tx ≡ Some Active = subst (λ (v : Core). stage_of v.shard.local tx ≡ Some Active) (sym c.self.view_is) c.requires.active in
    let told = c.push_these.ensures.room in let many = c.deref.ensures.len in let counted = c.len.ensures in
    let left : n.outbox.room ≡ w.room + c.len.result = omega (arith, told, many, counted) in
    let list : c.deref.result.now ≡ prepares t.shard tx touched = c.deref.ensures.value ∙ c.in-Ok-prepares.ensures ∙ ap (prepares home tx) c.as_slice-2.ensures ∙ ap (λ k. prepares k tx touched) c.self.invariant.transactions in
    let sent : w.messages ≡ a.outbox.messages ++ prepares t.shard tx touched = c.push_these.ensures.messages ∙ ap (λ (ms : List Message). ms ++ c.deref.result.now) stay.messages ∙ ap (λ (ms : List Message). a.outbox.messages ++ ms) list in
    let b : Parts = record a { transactions = u; coordinator = c.ask_commit.new.self; prepares = q; outbox = w; candidates = f } in
    let touch : ChangesDue (tx ∷ successors_of t.local.pairs tx) s (coordinate tx touched (record s { local = close_part tx home alone t.local })) =
    subst (λ k. ChangesDue (tx ∷ successors_of t.local.pairs tx) s (coordinate tx touched (record s { local = close_part tx k alone t.local }))) (sym c.self.invariant.transactions) (requests_touch.0 s tx touched alone) in
    let same : alone ≡ is_alone (others t.shard touched) = c.is_only-alone.ensures ∙ ap (λ ts. is_alone (others home ts)) c.as_slice.ensures ∙ ap (λ k. is_alone (others k touched)) c.self.invariant.transactions in
    subst (λ o. Changed b (coordinate tx touched (record s { local = close_part tx t.shard o t.local }))) same
    (subst (λ k. Changed b (coordinate tx touched (record s { local = close_part tx k alone t.local }))) c.self.invariant.transactions
    (asked_changed 1 a tx (close_part tx home alone t.local) u q f (tx ∷ successors_of t.local.pairs tx) rest c.self.invariant
    (like_closed a tx home alone c.self.invariant active (rising_before t n.transactions stay.transactions e.rising)) touched c.ask_commit.new.self w
    (turns_closed 3 c.len.result tx home alone t n.transactions u a.prepares n.prepares q a.outbox n.outbox w a.candidates n.candidates f stay made e.closed e.room e.pairs_room e.places e.txs e.limit rest.none left)
    c.in-Ok-ask_commit.ensures.ok c.in-Ok-ask_commit.ensures.keys sent touch (within_closed tx n.transactions t n.candidates f stay.transactions e.txs)
    (record { sound = e.sound; purged = e.purged; rise = e.rise; few = e.few })))

pub invariant_of-self-2 : goal.invariant_of-self-2
unfolding before
invariant_of-self-2 g c = (the_change g c).whole

pub returns-clause-ready : goal.returns-clause-ready
unfolding before
returns-clause-ready g c = (the_change g c).ready

pub returns-clause-finished : goal.returns-clause-finished
unfolding before
returns-clause-finished g c = (the_change g c).finished ∙ ap (λ (v : Core). finish (coordinate c.args.tx c.args.touched (with_local (close_part c.args.tx v.shard.shard (is_alone (others v.shard.shard c.args.touched))) v.shard))) c.self.view_is

-- where there is no memory only room was made
pub invariant_of-self : goal.invariant_of-self
invariant_of-self g c =
    let i = c.self.inside in
    let a : Parts = record { shard = i.shard; run = i.run; transactions = i.transactions; participant = i.participant; coordinator = i.coordinator; prepares = i.prepares; outbox = i.outbox; candidates = i.candidates } in
    let n = c.make_room.new in let rest = rest_of a c.args.self.now c.self.view_is c.requires.rest in let stay = c.make_room.ensures.stay in
    stayed_holds a n.transactions n.prepares n.outbox n.candidates rest c.self.invariant stay

pub returns-in-Err-make_room-clause-err : goal.returns-in-Err-make_room-clause-err
returns-in-Err-make_room-clause-err g c =
    let i = c.self.inside in
    let a : Parts = record { shard = i.shard; run = i.run; transactions = i.transactions; participant = i.participant; coordinator = i.coordinator; prepares = i.prepares; outbox = i.outbox; candidates = i.candidates } in
    let n = c.make_room.new in let rest = rest_of a c.args.self.now c.self.view_is c.requires.rest in let stay = c.make_room.ensures.stay in
    stayed_same a n.transactions n.prepares n.outbox n.candidates rest c.self.invariant stay ∙ ap (λ (v : Core). v.shard) c.self.view_is

pub returns-in-Err-make_room-clause-still : goal.returns-in-Err-make_room-clause-still
returns-in-Err-make_room-clause-still g c =
    let i = c.self.inside in
    let a : Parts = record { shard = i.shard; run = i.run; transactions = i.transactions; participant = i.participant; coordinator = i.coordinator; prepares = i.prepares; outbox = i.outbox; candidates = i.candidates } in
    let n = c.make_room.new in let rest = rest_of a c.args.self.now c.self.view_is c.requires.rest in let stay = c.make_room.ensures.stay in
    stayed_rest a n.transactions n.prepares n.outbox n.candidates rest c.self.invariant stay

pub invariant_of-self-in-Err-ask_commit : goal.invariant_of-self-in-Err-ask_commit
invariant_of-self-in-Err-ask_commit g c =
    let i = c.self.inside in
    let a : Parts = record { shard = i.shard; run = i.run; transactions = i.transactions; participant = i.participant; coordinator = i.coordinator; prepares = i.prepares; outbox = i.outbox; candidates = i.candidates } in
    let n = c.make_room.new in let rest = rest_of a c.args.self.now c.self.view_is c.requires.rest in let stay = c.make_room.ensures.stay in
    subst (λ (x : Coordination). Holds (record (record a { transactions = n.transactions; prepares = n.prepares; outbox = n.outbox; candidates = n.candidates }) { coordinator = x })) (sym c.in-Err-ask_commit.ensures.err) (stayed_holds a n.transactions n.prepares n.outbox n.candidates rest c.self.invariant stay)

pub returns-in-Err-ask_commit-clause-err : goal.returns-in-Err-ask_commit-clause-err
returns-in-Err-ask_commit-clause-err g c =
    let i = c.self.inside in
    let a : Parts = record { shard = i.shard; run = i.run; transactions = i.transactions; participant = i.participant; coordinator = i.coordinator; prepares = i.prepares; outbox = i.outbox; candidates = i.candidates } in
    let n = c.make_room.new in let rest = rest_of a c.args.self.now c.self.view_is c.requires.rest in let stay = c.make_room.ensures.stay in
    ap (λ (x : Coordination). seen (record (record a { transactions = n.transactions; prepares = n.prepares; outbox = n.outbox; candidates = n.candidates }) { coordinator = x })) c.in-Err-ask_commit.ensures.err ∙ stayed_same a n.transactions n.prepares n.outbox n.candidates rest c.self.invariant stay ∙ ap (λ (v : Core). v.shard) c.self.view_is

pub returns-in-Err-ask_commit-clause-still : goal.returns-in-Err-ask_commit-clause-still
returns-in-Err-ask_commit-clause-still g c =
    let i = c.self.inside in
    let a : Parts = record { shard = i.shard; run = i.run; transactions = i.transactions; participant = i.participant; coordinator = i.coordinator; prepares = i.prepares; outbox = i.outbox; candidates = i.candidates } in
    let n = c.make_room.new in let rest = rest_of a c.args.self.now c.self.view_is c.requires.rest in let stay = c.make_room.ensures.stay in
    subst (λ (x : Coordination). IsAtRest (viewed (record (record a { transactions = n.transactions; prepares = n.prepares; outbox = n.outbox; candidates = n.candidates }) { coordinator = x }))) (sym c.in-Err-ask_commit.ensures.err) (stayed_rest a n.transactions n.prepares n.outbox n.candidates rest c.self.invariant stay)
