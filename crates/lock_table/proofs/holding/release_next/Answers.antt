-- The transaction's first row is its lock on that row's anchor.
use Rattle.std.proofs.Common.{◌≡◌, refl, sym, ap, ◌∙◌, None, Some, position}
use Rattle.lock_table.proofs.OneLock.{is_of, none_held, one_held}
use Rattle.lock_table.proofs.holding.release_next.Goals as goal

pub returns-in_default : goal.returns-in_default
returns-in_default c =
    let tx = c.args.tx in let rows = c.args.rows.now.items in
    let e : position (is_of tx) rows ≡ None = sym (ap (position (is_of tx)) c.deref.ensures.value) ∙ (sym c.place_of.ensures ∙ c.in_default.is) in
    (refl, none_held tx rows e)

pub returns : goal.returns
returns c =
    let tx = c.args.tx in let rows = c.args.rows.now.items in
    let e : position (is_of tx) rows ≡ Some c.in-Some.at = sym (ap (position (is_of tx)) c.deref.ensures.value) ∙ (sym c.place_of.ensures ∙ c.in-Some.is) in
    (one_held tx rows c.in-Some.at c.index.result.now e c.index.ensures, c.give_up.ensures)
