use Rattle.std.proofs.Common.{◌≡◌, List, ◌∷◌, [], ◌+◌, ◌-◌, ◌++◌, ◌∙◌, ap, arith}
use Rattle.script_lang.specs.Bodies.{Body}
use Rattle.script_lang.specs.Grammar.{body}
use Rattle.script_lang.specs.declared.actions.Ending.TheVariants.{Commit}
use Rattle.script_lang.specs.Loads.{transfers, transfer}
use Rattle.script_lang.proofs.Lists.{grown, transfers_more}
use Rattle.script_lang.proofs.generating.add_transfers.Goals as goal

pub loop-turn-preserved : goal.loop-turn-preserved
loop-turn-preserved c =
    let left = c.args.count - (c.loop-turn._turn + 1) in
    let items : c.push.new.self.items ≡ c.loop-turn.transactions.items ++ body (transfer c.args.accounts c.loop-turn.numbers.state ∷ []) Commit ∷ [] =
    c.in_ok-push.ensures.items ∙ ap (λ (t : Body). c.loop-turn.transactions.items ++ t ∷ []) c.in_ok-one_transfer.ensures.transfer in
    ap (λ (ts : List Body). ts ++ transfers c.args.accounts c.one_transfer.new.numbers.state left) items
    ∙ ap (λ x. (c.loop-turn.transactions.items ++ body (transfer c.args.accounts c.loop-turn.numbers.state ∷ []) Commit ∷ []) ++ transfers c.args.accounts x left) c.in_ok-one_transfer.ensures.state
    ∙ grown _ _ _ _ _ c.loop-turn.invariant (transfers_more c.args.accounts c.loop-turn.numbers.state c.args.count c.loop-turn._turn (omega arith))
