use Rattle.std.proofs.Common.{◌≡◌, ◌<◌, ◌∙◌, [], ◌∷◌, ◌++◌, length, drop, sym, ap, subst, arith, length-drop}
use Rattle.std.proofs.lemmas.Bool.Decides.{nat_tests}
use Rattle.interleaving_core.proofs.Spelled.{Unread, unread_all, next, none_unread, read_next, begins_inside}
use Rattle.interleaving_core.proofs.reading.read_batch.Goals as goal

pub loop-rest-init : goal.loop-rest-init
loop-rest-init c more s = subst (λ items. Unread more items c.args.payload.now) (sym c.new-batch.ensures.items) (unread_all more c.args.payload.now s)

pub unreachable-requires : goal.unreachable-requires
unreachable-requires c =
    let some : 0 < length c.loop-rest.rest.now = grind (arith, nat_tests, c.loop-rest-test.ensures) in
    let n = next _ c.loop-rest.rest.now (c.loop-rest.invariant c.requires.records c.requires.spelled).spelled some in
    c.decode.ensures.bad (c.in-Err-Bad.is ∙ ap (λ e. Rattle.std.proofs.Common.Err e) c.in-Err-Bad.field-0-is) n.first _ n.begins

pub behind-rest-requires : goal.behind-rest-requires
behind-rest-requires c = (begins_inside c.in-Ok.found.0 c.in-Ok.found.1 c.loop-rest.rest.now c.length_is_size.ensures c.in-Ok.ensures.found c.in-Ok.ensures.size).0

pub loop-rest-smaller : goal.loop-rest-smaller
loop-rest-smaller c =
    let inside = begins_inside c.in-Ok.found.0 c.in-Ok.found.1 c.loop-rest.rest.now c.length_is_size.ensures c.in-Ok.ensures.found c.in-Ok.ensures.size in
    let less : length c.behind-rest.result.now < length c.loop-rest.rest.now = omega (arith, inside.0, inside.1, ap length c.behind-rest.ensures, length-drop c.in-Ok.found.1 c.loop-rest.rest.now) in
    less

pub loop-rest-preserved : goal.loop-rest-preserved
loop-rest-preserved c more s =
    let some : 0 < length c.loop-rest.rest.now = grind (arith, nat_tests, c.loop-rest-test.ensures) in
    let r = c.in-Ok.found.0 in
    subst (λ items. Unread more items c.behind-rest.result.now) (sym c.in_ok-push.ensures.items)
    (subst (Unread more (c.loop-rest.batch.items ++ r ∷ [])) (sym c.behind-rest.ensures)
    (read_next c.no_spelling_begins_another.ensures more c.loop-rest.batch.items c.loop-rest.rest.now (drop c.in-Ok.found.1 c.loop-rest.rest.now) r (c.loop-rest.invariant more s) some c.in-Ok.ensures.found))

pub returns : goal.returns
returns c more s =
    let none : length c.loop-rest.rest.now ≡ 0 = grind (arith, nat_tests, c.loop-rest-test.ensures) in
    sym (none_unread more c.loop-rest.batch.items c.loop-rest.rest.now (c.loop-rest.invariant more s) none)
