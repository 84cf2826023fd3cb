use Rattle.std.proofs.Common.{sym, ◌∙◌}
use Rattle.std.proofs.lemmas.Bool.{both_ways}
use Rattle.clv_base.specs.Sessions.{begins}
use Rattle.interleaving_core.proofs.Entries.{for_last, for_next}
use Rattle.interleaving_core.proofs.sessions.Session.follow_birth.Goals as goal

pub returns-then-is_last : goal.returns-then-is_last
returns-then-is_last c t h = for_last c.args.self.now t c.args.tx c.args.birth (sym c.is_last.ensures.last ∙ c.if-is_last.true) h

pub returns-then-begins : goal.returns-then-begins
returns-then-begins c t h = c.begin.ensures ∙ (for_next c.args.self.now t c.args.tx c.args.birth (sym c.is_last.ensures.last ∙ c.if-is_last.false) h).1

pub returns-else-begins : goal.returns-else-begins
returns-else-begins c t h =
    let f = for_next c.args.self.now t c.args.tx c.args.birth (sym c.is_last.ensures.last ∙ c.if-is_last.false) h in
    absurd (both_ways (begins c.args.self.now c.args.tx c.args.birth) (sym c.begins.ensures.begins ∙ c.if-begins.false) f.0)
