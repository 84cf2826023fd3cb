-- Above the newest, so above all.
use Rattle.std.proofs.Common.{◌≡◌, Some, sym, subst, ◌∙◌, arith}
use Rattle.std.proofs.lemmas.Bool.Decides.{nat_tests}
use Rattle.clv_base.specs.Orders.{tx_get}
use Rattle.shard_machine.specs.Numbers.{stacks, numbers_at, numbers_of, IsAbove, Noted}
use Rattle.shard_machine.proofs.Numbering.{IsAt, note_at, above_all, is_there}
use Rattle.shard_machine.proofs.numbers.Numbers.is_above.Goals as goal

pub returns-in-Some : goal.returns-in-Some
returns-in-Some c = λ less.
    let i = c.self.inside in let at = c.in-Some.at in let ns = i.notes.items in let m = c.args.number in let n = c.index.result.now in
    let found : tx_get c.args.tx i.newest.rows ≡ Some at = sym c.get.ensures ∙ c.in-Some.is in
    let here : IsAt (stacks ns) at n = subst (IsAt (stacks ns) at) (sym c.index.ensures) (note_at ns at n c.self.invariant.over (is_there ns i.newest.rows c.args.tx at c.self.invariant found)) in
    subst (λ (v : Noted). IsAbove m (numbers_of c.args.tx v)) c.self.view_is
    (subst (λ o. IsAbove m (numbers_at (stacks ns) o)) (sym found) (above_all (stacks ns) at n m here (grind (arith, nat_tests, less))))
