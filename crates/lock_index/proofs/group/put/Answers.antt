use Rattle.std.proofs.Common.{sym, ◌∙◌, ap, ◌≡◌, None, Some, position, is_eq, if◌then◌else◌, is_ok, set}
use Rattle.std.specs.List.{insert}
use Rattle.lock_table.proofs.Laws.{reached, put_last, put_merged, put_before}
use Rattle.lock_index.proofs.Places.{side_of, merged, take_here-put}
use Rattle.lock_index.proofs.group.put.Goals as goal

pub returns-in_default-clause-holders : goal.returns-in_default-clause-holders
returns-in_default-clause-holders c = let y = c.args.holder in let hs = c.args.holders.now.items in
    let e : position (reached (side_of y) y (merged y)) hs ≡ None = sym (ap (position (reached (side_of y) y (merged y))) c.deref.ensures.value) ∙ (sym c.place_of.ensures ∙ c.in_default.is) in
    c.push_reserved.ensures.items ∙ sym (take_here-put y hs ∙ put_last (side_of y) y (merged y) hs e)

pub returns-then-is_eq-clause-holders : goal.returns-then-is_eq-clause-holders
returns-then-is_eq-clause-holders c = let y = c.args.holder in let hs = c.args.holders.now.items in
    let e : position (reached (side_of y) y (merged y)) hs ≡ Some c.in-Some.at = sym (ap (position (reached (side_of y) y (merged y))) c.deref.ensures.value) ∙ (sym c.place_of.ensures ∙ c.in-Some.is) in
    ap (λ m. set hs c.in-Some.at (record c.index.result.now { mode = m })) c.join-mode.ensures ∙ sym (take_here-put y hs ∙ put_merged (side_of y) y (merged y) c.in-Some.at hs _ e c.index.ensures (ap is_eq (sym c.cmp.ensures) ∙ (sym c.is_eq.ensures ∙ c.if-is_eq.true)))

pub returns-clause-holders : goal.returns-clause-holders
returns-clause-holders c = let y = c.args.holder in let hs = c.args.holders.now.items in
    let e : position (reached (side_of y) y (merged y)) hs ≡ Some c.in-Some.at = sym (ap (position (reached (side_of y) y (merged y))) c.deref.ensures.value) ∙ (sym c.place_of.ensures ∙ c.in-Some.is) in
    let put = take_here-put y hs ∙ put_before (side_of y) y (merged y) c.in-Some.at hs _ e c.index.ensures (ap is_eq (sym c.cmp.ensures) ∙ (sym c.is_eq.ensures ∙ c.if-is_eq.false)) in
    c.insert.ensures.items ∙ (ap (λ r. if is_ok r then insert hs c.in-Some.at y else hs) c.in-Ok.is ∙ sym put)
