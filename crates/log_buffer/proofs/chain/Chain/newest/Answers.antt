use Rattle.std.proofs.Common.{ap}
use Rattle.log_buffer.specs.declared.chain.Written.{Written}
use Rattle.log_buffer.proofs.chain.Chain.newest.Goals as goal

pub returns : goal.returns
returns c = λ links h. ap (λ (w : Written). w.newest) (c.known.ensures links h)
