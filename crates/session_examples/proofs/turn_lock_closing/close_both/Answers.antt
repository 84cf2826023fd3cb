use Rattle.std.proofs.Common.{arith, ◌∙◌, ◌++◌, [], ◌∷◌, ap}
use Rattle.session_examples.proofs.Two.{both_of}
use Rattle.session_examples.proofs.turn_lock_closing.close_both.Goals as goal

pub returns-clause-first : goal.returns-clause-first
returns-clause-first g c = (let ok = c.args.passes.ok in let r = c.requires.room in both_of g.T.Journaled.journal g.T.Journaled.maker c.close.result c.push_reserved-2.new.self.items c.args.passes.items c.args.one c.args.two (omega arith) (c.push_reserved-2.ensures.items ∙ ap (λ l. l ++ c.args.two ∷ []) c.push_reserved.ensures.items) c.close.ensures.own).0

pub returns-clause-second : goal.returns-clause-second
returns-clause-second g c = (let ok = c.args.passes.ok in let r = c.requires.room in both_of g.T.Journaled.journal g.T.Journaled.maker c.close.result c.push_reserved-2.new.self.items c.args.passes.items c.args.one c.args.two (omega arith) (c.push_reserved-2.ensures.items ∙ ap (λ l. l ++ c.args.two ∷ []) c.push_reserved.ensures.items) c.close.ensures.own).1
