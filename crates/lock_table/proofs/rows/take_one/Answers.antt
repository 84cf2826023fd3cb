use Rattle.std.proofs.Common.{sym, ◌∙◌, ap, ◌≡◌, None, Some, position, is_eq, if◌then◌else◌, is_ok, set}
use Rattle.std.specs.List.{insert}
use Rattle.clv_base.specs.declared.modes.Anchor.{Anchor}
use Rattle.clv_base.specs.declared.modes.Holder.{Holder}
use Rattle.lock_table.proofs.Places.{reached, put_last, put_merged, put_before, row_side, row_merge, take_one-put}
use Rattle.lock_table.proofs.rows.take_one.Goals as goal

pub returns-in_default-clause-rows : goal.returns-in_default-clause-rows
returns-in_default-clause-rows c = let side = row_side c.args.anchor c.args.holder in let merge = row_merge c.args.anchor c.args.holder in let y : Anchor × Holder = (c.args.anchor, c.args.holder) in let rows = c.args.rows.now.items in
    let e : position (reached side y merge) rows ≡ None = sym (ap (position (reached side y merge)) c.deref.ensures.value) ∙ (sym c.place_of.ensures ∙ c.in_default.is) in
    c.push_reserved.ensures.items ∙ sym (take_one-put c.args.anchor c.args.holder rows ∙ put_last side y merge rows e)

pub returns-then-is_eq-clause-rows : goal.returns-then-is_eq-clause-rows
returns-then-is_eq-clause-rows c = let side = row_side c.args.anchor c.args.holder in let merge = row_merge c.args.anchor c.args.holder in let y : Anchor × Holder = (c.args.anchor, c.args.holder) in let rows = c.args.rows.now.items in
    let e : position (reached side y merge) rows ≡ Some c.in-Some.at = sym (ap (position (reached side y merge)) c.deref.ensures.value) ∙ (sym c.place_of.ensures ∙ c.in-Some.is) in
    ap (λ m. set rows c.in-Some.at (c.args.anchor, record c.index.result.now.1 { mode = m })) c.join-mode.ensures ∙ sym (take_one-put c.args.anchor c.args.holder rows ∙ put_merged side y merge c.in-Some.at rows _ e c.index.ensures (ap is_eq (sym c.compare.ensures) ∙ (sym c.is_eq.ensures ∙ c.if-is_eq.true)))

pub returns-clause-rows : goal.returns-clause-rows
returns-clause-rows c = let side = row_side c.args.anchor c.args.holder in let merge = row_merge c.args.anchor c.args.holder in let y : Anchor × Holder = (c.args.anchor, c.args.holder) in let rows = c.args.rows.now.items in
    let e : position (reached side y merge) rows ≡ Some c.in-Some.at = sym (ap (position (reached side y merge)) c.deref.ensures.value) ∙ (sym c.place_of.ensures ∙ c.in-Some.is) in
    let put = take_one-put c.args.anchor c.args.holder rows ∙ put_before side y merge c.in-Some.at rows _ e c.index.ensures (ap is_eq (sym c.compare.ensures) ∙ (sym c.is_eq.ensures ∙ c.if-is_eq.false)) in
    c.insert.ensures.items ∙ (ap (λ r. if is_ok r then insert rows c.in-Some.at y else rows) c.in-Ok.is ∙ sym put)
