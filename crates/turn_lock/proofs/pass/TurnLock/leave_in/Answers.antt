use Rattle.std.proofs.Common.{arith, ◌≡◌, ◌++◌, ◌∙◌, ◌∷◌, length, drop, All, Some, sym, ap, subst}
use Rattle.turn_lock.proofs.Sums.{some_inj}
use Rattle.turn_lock.specs.Rule.{is_turn}
use Rattle.turn_lock.specs.Passes.{number_in, seen_in, own_in, origin_in}
use Rattle.atomic_table.specs.Table.{rest}
use Rattle.turn_lock.proofs.Sums.{only_one}
use Rattle.turn_lock.proofs.Keeps.{releases}
use Rattle.turn_lock.proofs.Tells.{left}
use Rattle.turn_lock.proofs.pass.TurnLock.leave_in.Goals as goal

pub fetch_add-requires : goal.fetch_add-requires
fetch_add-requires g c = let p = c.args.turn.seat.me in let h = c.args.turn.served in let z = c.args.self.now.sized in
    let one = only_one p.0.records h.2 in let now = c.exchange-empty.ensures.3 in let d = c.requires.grown in (
      c.exchange-empty.ensures.0 ∙ c.requires.turn,
      omega arith,
      releases g.T.Journaled.journal g.T.Journaled.origin g.T.Journaled.maker g.T.Journaled.durable g.T.Journaled.sound _ _ _ _ _ c.args.value one.0 d.0 (ap (λ m. m.1) now ∙ ap (λ l. (0, Some c.args.value) ∷ rest l) h.0) (ap (λ m. is_turn m.0.stage) now ∙ h.1) (ap (λ m. m.0.records) now ∙ one.1)
          (some_inj one.0.origin (g.T.Journaled.origin c.args.value) (sym (ap origin_in one.1) ∙ c.requires.origin)) c.requires.sound (d.1 ∙ ap (λ l. seen_in l ++ d.0) one.1) (subst (λ l. All (λ e. g.T.Journaled.maker e ≡ number_in l) d.0) one.1 d.2),
    )

pub invariant_of-result : goal.invariant_of-result
invariant_of-result g c = let h = c.args.turn.served in let now = c.exchange-empty.ensures.3 in let m = c.exchange-empty.new.seat.me in let one = only_one m.0.records (ap (λ z. length z.0.records) now ∙ h.2) in
    let l = left g.T.Journaled.journal g.T.Journaled.origin g.T.Journaled.maker g.T.Journaled.durable g.T.Journaled.sound m.0 c.args.value one.0 c.fetch_add.new.seat.me one.1 (c.fetch_add.ensures.2 c.args.value one.0 (ap (λ z. z.1) now ∙ ap (λ xs. (0, Some c.args.value) ∷ rest xs) h.0) one.1) in
    record { rests = (l.carried, l.idle, l.one) }

pub returns : goal.returns
returns g c = let h = c.args.turn.served in let now = c.exchange-empty.ensures.3 in let m = c.exchange-empty.new.seat.me in let one = only_one m.0.records (ap (λ z. length z.0.records) now ∙ h.2) in
    let l = left g.T.Journaled.journal g.T.Journaled.origin g.T.Journaled.maker g.T.Journaled.durable g.T.Journaled.sound m.0 c.args.value one.0 c.fetch_add.new.seat.me one.1 (c.fetch_add.ensures.2 c.args.value one.0 (ap (λ z. z.1) now ∙ ap (λ xs. (0, Some c.args.value) ∷ rest xs) h.0) one.1) in
    record {
      pass = (c.fetch_add.ensures.0 ∙ (c.exchange-empty.ensures.0 ∙ c.requires.turn), l.number_kept ∙ ap (λ z. number_in z.0.records) now, l.known_kept ∙ ap (λ z. z.0.known) now, l.origin_kept ∙ ap (λ z. origin_in z.0.records) now);
      seen = l.seen_all;
      own = l.own_grown ∙ ap (λ z. own_in z.0.records ++ drop (length (seen_in z.0.records)) (g.T.Journaled.journal c.args.value)) now;
    }
