use Rattle.std.proofs.Common.{arith, ◌≡◌, ◌+◌, ◌-◌, ℕ, suc, drop, ap, ◌∙◌}
use Rattle.turn_lock.specs.Rule.{new_records}
use Rattle.turn_lock.specs.Passes.{number_in, seen_in, own_in, origin_in, IsNewPass}
use Rattle.turn_lock.proofs.Keeps.{splits}
use Rattle.turn_lock.proofs.Tells.{dealt_more, cut_off}
use Rattle.turn_lock.proofs.pass.TurnLock.deal.Goals as goal

pub split_seat-first-requires : goal.split_seat-first-requires
split_seat-first-requires g c = let z = c.args.self.now.sized in (c.loop-given.invariant.table, omega arith, splits g.T.Journaled.journal g.T.Journaled.origin g.T.Journaled.maker g.T.Journaled.durable g.T.Journaled.sound _ _ _ _ c.loop-given.invariant.idle)

pub loop-given-preserved : goal.loop-given-preserved
loop-given-preserved g c = let o = g.T.Journaled.origin c.args.self.now.table.shared.key.value.value in let inv = c.loop-given.invariant in let now = c.split_seat-first.ensures.2 in let k : ℕ = c.args.passes - (c.loop-given.given + 1) in
    let low = c.loop-given-test.true in let m : c.args.passes - c.loop-given.given ≡ suc k = omega arith in
    let recs : c.loop-given.seat.me.0.records ≡ new_records o c.loop-given.given (suc k) = inv.records ∙ ap (new_records o c.loop-given.given) m in
    let up : suc c.loop-given.given ≡ c.loop-given.given + 1 = omega arith in
    let cut = cut_off c.split_seat-first.result.me c.loop-given.seat.me.0 o c.loop-given.given k c.split_seat-first.ensures.4 recs in let ok = c.loop-given.all.ok in record {
      len = (let h = c.push_reserved.ensures.len in omega arith);
      room = (let h = c.push_reserved.ensures.capacity in omega arith);
      some_left = omega arith;
      table = c.split_seat-first.ensures.0 ∙ inv.table;
      unheard = ap (λ z. z.0.known) now ∙ inv.unheard;
      empty = ap (λ z. z.1) now ∙ inv.empty;
      idle = ap (λ z. z.0.stage) now ∙ inv.idle;
      records = ap (λ z. z.0.records) now ∙ (ap (drop 1) recs ∙ ap (λ (j : ℕ). new_records o j k) up);
      dealt = rw c.push_reserved.ensures.items (dealt_more (IsNewPass c.args.self.now o) c.loop-given.all.items _ c.loop-given.given (let h = inv.len in omega arith) inv.dealt
          (c.split_seat-first.ensures.3 ∙ inv.table, cut.0, cut.1, cut.2, cut.3, ap (λ z. z.0.known) c.split_seat-first.ensures.4));
    }

pub returns : goal.returns
returns g c = let o = g.T.Journaled.origin c.args.self.now.table.shared.key.value.value in let inv = c.loop-given.invariant in let at_end = c.loop-given-test.false in let most = c.loop-given.auto.given-end in let one : c.args.passes - c.loop-given.given ≡ 1 = (let h = inv.some_left in omega arith) in
    let recs : c.loop-given.seat.me.0.records ≡ new_records o c.loop-given.given 1 = inv.records ∙ ap (new_records o c.loop-given.given) one in let all : c.loop-given.given + 1 ≡ c.args.passes = (let h = inv.some_left in omega arith) in let ok = c.loop-given.all.ok in (
      (let h = c.push_reserved-2.ensures.len in let h' = inv.len in omega arith),
      λ k d l. rw c.push_reserved-2.ensures.items (dealt_more (IsNewPass c.args.self.now o) c.loop-given.all.items _ c.loop-given.given (let h = inv.len in omega arith) inv.dealt
          (inv.table, ap origin_in recs, ap number_in recs, ap seen_in recs, ap own_in recs, inv.unheard) k d (omega arith)),
    )
