use Rattle.std.proofs.Common.{◌≡◌, cond, ◌∷◌, Some, length, sym, ap, subst, ◌∙◌}
use Rattle.clv_base.specs.declared.names.TxId.{TxId}
use Rattle.clv_base.specs.Orders.{tx_get, tx_same}
use Rattle.shard_machine.specs.Numbers.{stacks, numbers_at, numbers_of, IsAbove, AreNotes, Noted}
use Rattle.shard_machine.specs.declared.numbers.Note.{Note}
use Rattle.shard_machine.proofs.Numbering.{noted, still_notes}
use Rattle.shard_machine.proofs.numbers.Numbers.note.Goals as goal

pub invariant_of-self : goal.invariant_of-self
invariant_of-self c =
    let i = c.self.inside in let ns = i.notes.items in let n : Note = record { number = c.args.number; below = c.get.result } in
    let rows : (t : TxId) → tx_get t c.set.new.self.rows ≡ cond (tx_same c.args.tx t) (Some (length ns)) (tx_get t i.newest.rows) =
    λ t. c.set.ensures.rows t ∙ ap (λ k. cond (tx_same c.args.tx t) (Some k) (tx_get t i.newest.rows)) (c.len.ensures ∙ i.notes.ok.0) in
    subst (λ l. AreNotes l c.set.new.self.rows) (sym c.push_reserved.ensures.items)
    (still_notes ns i.newest.rows c.set.new.self.rows c.args.tx n c.self.invariant c.get.ensures rows (subst (λ (v : Noted). IsAbove c.args.number (numbers_of c.args.tx v)) (sym c.self.view_is) c.requires.above))

pub returns : goal.returns
returns c = λ t.
    let i = c.self.inside in let ns = i.notes.items in let n : Note = record { number = c.args.number; below = c.get.result } in
    let rows : (u : TxId) → tx_get u c.set.new.self.rows ≡ cond (tx_same c.args.tx u) (Some (length ns)) (tx_get u i.newest.rows) =
    λ u. c.set.ensures.rows u ∙ ap (λ k. cond (tx_same c.args.tx u) (Some k) (tx_get u i.newest.rows)) (c.len.ensures ∙ i.notes.ok.0) in
    ap (λ l. numbers_at (stacks l) (tx_get t c.set.new.self.rows)) c.push_reserved.ensures.items
    ∙ noted ns i.newest.rows c.set.new.self.rows c.args.tx n c.self.invariant c.get.ensures rows t
    ∙ ap (λ (v : Noted). cond (tx_same c.args.tx t) (c.args.number ∷ numbers_of c.args.tx v) (numbers_of t v)) c.self.view_is
