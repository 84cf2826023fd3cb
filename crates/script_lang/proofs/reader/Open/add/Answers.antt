use Rattle.std.proofs.Common.{◌≡◌, ◌++◌, ◌∷◌, [], ap, sym, ◌∙◌}
use Rattle.script_lang.specs.Savepoints.{no_savepoints}
use Rattle.script_lang.specs.Grammar.{saves_in, with_line}
use Rattle.script_lang.proofs.Keeping.{saves_more}
use Rattle.script_lang.proofs.reader.Open.add.Goals as goal

pub invariant_of-self-2 : goal.invariant_of-self-2
invariant_of-self-2 c =
    let items = c.self.inside.actions.items in
    let now : c.push_reserved.new.self.items ≡ items ++ c.args.action ∷ [] = c.push_reserved.ensures.items ∙ ap (λ l. l ++ c.args.action ∷ []) c.reserve.ensures.items in
    (c.in_ok-follow.ensures {u = tt}).saves c.if-not-branch.false ∙ ap (with_line c.args.action) c.self.invariant ∙ sym (saves_more no_savepoints items c.args.action) ∙ ap saves_in (sym now)
