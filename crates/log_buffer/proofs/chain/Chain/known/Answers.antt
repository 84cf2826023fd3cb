use Rattle.std.proofs.Common.{◌∙◌, ap}
use Rattle.log_buffer.specs.Chained.{known_by}
use Rattle.log_buffer.proofs.chain.Chain.known.Goals as goal

pub returns : goal.returns
returns c = λ links h. c.known_of.ensures ∙ ap known_by c.get.ensures ∙ h.written c.args.tx
