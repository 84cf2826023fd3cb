use Rattle.std.proofs.Common.{sym, ◌∙◌, ap, ◌≡◌, None, Some, position, ◌++◌, ◌∷◌, [], set}
use Rattle.log_rules.proofs.ShareLists.{is_own, not_there, counted}
use Rattle.log_rules.proofs.shares.count.Goals as goal

pub returns-in_default : goal.returns-in_default
returns-in_default c = let ss = c.args.shares.now.items in let tx = c.args.tx in let b = c.args.is_setting in
    let e : position (is_own tx b) ss ≡ None = sym (ap (position (is_own tx b)) c.deref.ensures.value) ∙ (sym c.place_of.ensures ∙ c.in_default.is) in
    c.in_ok-push.ensures.items ∙ ap (λ s. ss ++ s ∷ []) c.of_one.ensures ∙ sym (not_there tx b ss e).0

pub returns : goal.returns
returns c = let ss = c.args.shares.now.items in let tx = c.args.tx in let b = c.args.is_setting in
    let e : position (is_own tx b) ss ≡ Some c.in-Some.at = sym (ap (position (is_own tx b)) c.deref.ensures.value) ∙ (sym c.place_of.ensures ∙ c.in-Some.is) in
    ap (set ss c.in-Some.at) c.in_ok-shares.ensures ∙ sym (counted tx b c.in-Some.at ss _ e c.index.ensures)
