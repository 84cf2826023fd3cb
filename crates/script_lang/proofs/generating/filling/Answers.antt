use Rattle.std.proofs.Common.{◌+◌, ◌-◌, [], ◌∷◌, ◌++◌, ◌∙◌, ap, arith}
use Rattle.script_lang.specs.declared.actions.Action.TheVariants.{Do}
use Rattle.script_lang.specs.Loads.{fill}
use Rattle.script_lang.proofs.Lists.{grown, fill_more}
use Rattle.script_lang.proofs.generating.filling.Goals as goal

pub loop-account-preserved : goal.loop-account-preserved
loop-account-preserved c =
    ap (λ items. items ++ fill (c.loop-account.account + 1) (c.args.accounts - (c.loop-account.account + 1))) c.in_ok-push.ensures.items
    ∙ ap (λ op. (c.loop-account.actions.items ++ Do op ∷ []) ++ fill (c.loop-account.account + 1) (c.args.accounts - (c.loop-account.account + 1))) c.new.ensures
    ∙ grown _ _ _ _ _ c.loop-account.invariant (fill_more c.args.accounts c.loop-account.account (omega arith))
