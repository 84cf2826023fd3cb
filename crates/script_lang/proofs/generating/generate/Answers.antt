use Rattle.std.proofs.Common.{◌≡◌, List, ◌∷◌, [], ◌+◌, ◌-◌, ◌++◌, ◌∙◌, ap, arith}
use Rattle.script_lang.specs.Bodies.{Body}
use Rattle.script_lang.specs.Loads.{sessions_from, session}
use Rattle.script_lang.proofs.Lists.{grown, sessions_more}
use Rattle.script_lang.proofs.generating.generate.Goals as goal

pub loop-place-preserved : goal.loop-place-preserved
loop-place-preserved c =
    let number = c.loop-place.place + 1 in
    let items : c.push.new.self.items ≡ c.loop-place.list.items ++ session c.args.seed c.args.accounts c.args.transfers number ∷ [] =
    c.in_ok-push.ensures.items ∙ ap (λ (s : List Body). c.loop-place.list.items ++ s ∷ []) c.in_ok-session.ensures in
    ap (λ (list : List (List Body)). list ++ sessions_from c.args.seed c.args.accounts c.args.transfers (number + 1) (c.args.sessions - number)) items
    ∙ grown _ _ _ _ _ c.loop-place.invariant (sessions_more c.args.seed c.args.accounts c.args.transfers c.args.sessions c.loop-place.place (omega arith))
