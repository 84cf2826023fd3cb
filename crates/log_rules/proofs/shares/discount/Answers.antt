use Rattle.std.proofs.Common.{sym, ◌∙◌, ap, ◌≡◌, None, Some, position, true, false, set}
use Rattle.log_rules.specs.Shares.{none_left, one_fewer}
use Rattle.log_rules.proofs.ShareLists.{is_own, not_there, gone, lessened}
use Rattle.log_rules.proofs.shares.discount.Goals as goal

pub returns-in_default : goal.returns-in_default
returns-in_default c = let ss = c.args.shares.now.items in let tx = c.args.tx in let b = c.args.is_setting in
    let e : position (is_own tx b) ss ≡ None = sym (ap (position (is_own tx b)) c.deref.ensures.value) ∙ (sym c.place_of.ensures ∙ c.in_default.is) in
    sym (not_there tx b ss e).1

pub returns-then-is_none_left : goal.returns-then-is_none_left
returns-then-is_none_left c = let ss = c.args.shares.now.items in let tx = c.args.tx in let b = c.args.is_setting in
    let e : position (is_own tx b) ss ≡ Some c.in-Some.at = sym (ap (position (is_own tx b)) c.deref.ensures.value) ∙ (sym c.place_of.ensures ∙ c.in-Some.is) in
    let none : none_left (one_fewer b c.index.result.now) ≡ true = ap none_left (sym c.fewer-left.ensures) ∙ (sym c.is_none_left.ensures ∙ c.if-is_none_left.true) in
    c.remove.ensures.items ∙ sym (gone tx b c.in-Some.at ss _ e c.index.ensures none)

pub returns-else-is_none_left : goal.returns-else-is_none_left
returns-else-is_none_left c = let ss = c.args.shares.now.items in let tx = c.args.tx in let b = c.args.is_setting in
    let e : position (is_own tx b) ss ≡ Some c.in-Some.at = sym (ap (position (is_own tx b)) c.deref.ensures.value) ∙ (sym c.place_of.ensures ∙ c.in-Some.is) in
    let some : none_left (one_fewer b c.index.result.now) ≡ false = ap none_left (sym c.fewer-left.ensures) ∙ (sym c.is_none_left.ensures ∙ c.if-is_none_left.false) in
    ap (set ss c.in-Some.at) c.fewer-left.ensures ∙ sym (lessened tx b c.in-Some.at ss _ e c.index.ensures some)
