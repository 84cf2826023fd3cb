use Rattle.std.proofs.Common.{sym, ◌∙◌, ap, None, get_or}
use Rattle.log_buffer.proofs.Pushing.{no_second, second_found}
use Rattle.log_buffer.proofs.chain.Chain.second.Goals as goal

pub returns-in-None : goal.returns-in-None
returns-in-None c = λ links h. no_second links c.args.tx (sym (c.newest.ensures links h) ∙ c.in-None.is)

pub returns-in-Some : goal.returns-in-Some
returns-in-Some c = λ links h.
    c.entry_at.ensures ∙ ap (λ l. get_or l c.in-Some.newest None) c.deref.ensures.value
    ∙ second_found c.args.self.now links c.args.tx c.in-Some.newest h (sym (c.newest.ensures links h) ∙ c.in-Some.is)
