use Rattle.std.proofs.Common.{◌≡◌, ℕ, ◌+◌, ◌++◌, ◌∷◌, [], List, take, drop, get_or, arith}
use Rattle.std.specs.Borrow.{Bor}
use Rattle.std.proofs.lemmas.Grind.{common_steps}
use Rattle.command_line.proofs.Lists.{one_more, one_is_none}
use Rattle.command_line.proofs.meanings.numbers_of.Goals as goal

abbrev at : List (Bor (List ℕ)) → ℕ → Bor (List ℕ)
at words place = get_or words place (record { ref_ptr = (0, 0); now = [] })

pub returns-in_default-clause-usage : goal.returns-in_default-clause-usage
returns-in_default-clause-usage c = λ e list all.
    let words = c.args.words.now in
    let place = c.loop-place.place in
    let parts : words ≡ take place words ++ at words place ∷ drop (place + 1) words = grind (arith, common_steps) in
    one_is_none words (take place words) (drop (place + 1) words) (at words place) c.as_bytes.result.now c.as_bytes.ensures.value parts c.in_default.ensures list all

pub loop-place-preserved : goal.loop-place-preserved
loop-place-preserved c =
    let words = c.args.words.now in
    let place = c.loop-place.place in
    let longer : take (place + 1) words ≡ take place words ++ at words place ∷ [] = grind (arith, common_steps) in
    one_more (take place words) (take (place + 1) words) (at words place) c.as_bytes.result.now c.loop-place.list.items c.push.new.self.items c.in-Some.number c.as_bytes.ensures.value longer
    c.loop-place.invariant c.in-Some.ensures (c.in-Ok.ensures {u = tt}).items
