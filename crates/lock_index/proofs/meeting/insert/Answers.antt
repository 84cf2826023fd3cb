use Rattle.std.proofs.Common.{sym, ◌∙◌, ap, ◌≡◌, None, Some, position, is_eq, if◌then◌else◌, is_ok, ◌++◌, ◌∷◌, []}
use Rattle.std.specs.List.{insert}
use Rattle.lock_table.proofs.Laws.{reached, put_last, put_merged, put_before, tx_side, tx_insert-put}
use Rattle.lock_index.proofs.meeting.insert.Goals as goal
use Rattle.law_base.proofs.Lists.{set_same}

pub returns-in-Ok : goal.returns-in-Ok
returns-in-Ok c = let tx = c.args.tx in let txs = c.args.txs.now.items in
    let e : position (reached (tx_side tx) tx (λ x. x)) txs ≡ None = sym (ap (position (reached (tx_side tx) tx (λ x. x))) c.deref.ensures.value) ∙ (sym c.place_of.ensures ∙ c.in_default.is) in
    c.push.ensures.items ∙ (ap (λ r. if is_ok r then txs ++ tx ∷ [] else txs) c.in-Ok.is ∙ sym (tx_insert-put tx txs ∙ put_last (tx_side tx) tx (λ x. x) txs e))

pub returns-then-is_eq : goal.returns-then-is_eq
returns-then-is_eq c = let tx = c.args.tx in let txs = c.args.txs.now.items in
    let e : position (reached (tx_side tx) tx (λ x. x)) txs ≡ Some c.in-Some.at = sym (ap (position (reached (tx_side tx) tx (λ x. x))) c.deref.ensures.value) ∙ (sym c.place_of.ensures ∙ c.in-Some.is) in
    sym (tx_insert-put tx txs ∙ (put_merged (tx_side tx) tx (λ x. x) c.in-Some.at txs _ e c.index.ensures (ap is_eq (sym c.cmp.ensures) ∙ (sym c.is_eq.ensures ∙ c.if-is_eq.true)) ∙ set_same txs c.in-Some.at _ c.index.ensures))

pub returns-in-Ok-insert : goal.returns-in-Ok-insert
returns-in-Ok-insert c = let tx = c.args.tx in let txs = c.args.txs.now.items in
    let e : position (reached (tx_side tx) tx (λ x. x)) txs ≡ Some c.in-Some.at = sym (ap (position (reached (tx_side tx) tx (λ x. x))) c.deref.ensures.value) ∙ (sym c.place_of.ensures ∙ c.in-Some.is) in
    let put = tx_insert-put tx txs ∙ put_before (tx_side tx) tx (λ x. x) c.in-Some.at txs _ e c.index.ensures (ap is_eq (sym c.cmp.ensures) ∙ (sym c.is_eq.ensures ∙ c.if-is_eq.false)) in
    c.insert.ensures.items ∙ (ap (λ r. if is_ok r then insert txs c.in-Some.at tx else txs) c.in-Ok-insert.is ∙ sym put)
