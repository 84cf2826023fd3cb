use Rattle.std.proofs.Common.{rules, arith, ◌≡◌, ◌%◌, ◌^◌, ◌∙◌, ◌∷◌, Some, None, sym, ap}
use Rattle.atomic_table.specs.Table.{rest}
use Rattle.turn_lock.proofs.Keeps.{draws, looks, held_or}
use Rattle.turn_lock.proofs.Tells.{entered}
use Rattle.turn_lock.proofs.pass.TurnLock.enter_in.Goals as goal

pub fetch_add-ticket-requires : goal.fetch_add-ticket-requires
fetch_add-ticket-requires g c = let p = c.args.pass.rests in let z = c.args.self.now.sized in
    (c.requires, omega arith, draws g.T.Journaled.journal g.T.Journaled.origin g.T.Journaled.maker g.T.Journaled.durable g.T.Journaled.sound _ _ _ _ _ p.1 p.2)

pub load-served-requires : goal.load-served-requires
load-served-requires g c = let z = c.args.self.now.sized in let t = c.fetch_add-ticket.ensures.2 in let inv = c.loop.invariant.2 ∙ t.1 in (
  c.loop.invariant.0 ∙ (c.fetch_add-ticket.ensures.0 ∙ c.requires),
  omega arith,
  looks g.T.Journaled.journal g.T.Journaled.origin g.T.Journaled.maker g.T.Journaled.durable g.T.Journaled.sound _ _ _ _ _ t.0 (ap (λ m. m.1) inv ∙ c.args.pass.rests.0) (ap (λ m. m.0.stage) inv),
)

pub exchange-requires : goal.exchange-requires
exchange-requires g c = let t = c.fetch_add-ticket.ensures.2 in let inv = c.loop.invariant.2 ∙ t.1 in
    let hit : c.load-served.result ≡ t.0 % 2 ^ 64 = c.if-served-ticket.true ∙ sym t.2 in
    let got = (c.load-served.ensures.2 t.0 (ap (λ m. m.0.stage) inv)).1 hit in
    (c.load-served.ensures.0 ∙ (c.loop.invariant.0 ∙ (c.fetch_add-ticket.ensures.0 ∙ c.requires)), (Some got.value, got.slot ∙ ap (λ cs. (0, Some got.value) ∷ rest cs) (sym got.slot)))

pub unwrap-value-requires : goal.unwrap-value-requires
unwrap-value-requires g c = let t = c.fetch_add-ticket.ensures.2 in let inv = c.loop.invariant.2 ∙ t.1 in
    let hit : c.load-served.result ≡ t.0 % 2 ^ 64 = c.if-served-ticket.true ∙ sym t.2 in
    let got = (c.load-served.ensures.2 t.0 (ap (λ m. m.0.stage) inv)).1 hit in
    let is : c.exchange.result ≡ Some got.value = ap (held_or None) (sym c.exchange.ensures.2 ∙ got.slot) in search rules

pub invariant_of-result : goal.invariant_of-result
invariant_of-result g c = let t = c.fetch_add-ticket.ensures.2 in let inv = c.loop.invariant.2 ∙ t.1 in
    let hit : c.load-served.result ≡ t.0 % 2 ^ 64 = c.if-served-ticket.true ∙ sym t.2 in
    let got = (c.load-served.ensures.2 t.0 (ap (λ m. m.0.stage) inv)).1 hit in
    let e = entered g.T.Journaled.journal g.T.Journaled.origin g.T.Journaled.maker g.T.Journaled.durable g.T.Journaled.sound c.args.pass.seat.me.0 _ _ _ t.0 _ _ (ap (λ m. m.0) inv) got c.exchange.ensures.2 c.unwrap-value.ensures c.exchange.ensures.3 in
    record { served = (e.carried, e.turn, e.one) }

pub returns-then-served-ticket : goal.returns-then-served-ticket
returns-then-served-ticket g c = let t = c.fetch_add-ticket.ensures.2 in let inv = c.loop.invariant.2 ∙ t.1 in
    let hit : c.load-served.result ≡ t.0 % 2 ^ 64 = c.if-served-ticket.true ∙ sym t.2 in
    let got = (c.load-served.ensures.2 t.0 (ap (λ m. m.0.stage) inv)).1 hit in
    let e = entered g.T.Journaled.journal g.T.Journaled.origin g.T.Journaled.maker g.T.Journaled.durable g.T.Journaled.sound c.args.pass.seat.me.0 _ _ _ t.0 _ _ (ap (λ m. m.0) inv) got c.exchange.ensures.2 c.unwrap-value.ensures c.exchange.ensures.3 in
    let table = c.exchange.ensures.0 ∙ (c.load-served.ensures.0 ∙ (c.loop.invariant.0 ∙ (c.fetch_add-ticket.ensures.0 ∙ c.requires))) in
    record { turn = (table, e.number_kept, e.own_kept, e.seen_all, e.known_kept, e.origin_kept); origin = e.origin_is; grown = e.grown; durable = e.safe; sound = e.is_sound }

pub loop-preserved : goal.loop-preserved
loop-preserved g c = let t = c.fetch_add-ticket.ensures.2 in let inv = c.loop.invariant.2 ∙ t.1 in
    let same = (c.load-served.ensures.2 t.0 (ap (λ m. m.0.stage) inv)).0 (λ hit. c.if-served-ticket.false (hit ∙ t.2)) in
    (c.load-served.ensures.0 ∙ c.loop.invariant.0, c.load-served.ensures.1 ∙ c.loop.invariant.1, same ∙ c.loop.invariant.2)
