use Rattle.std.proofs.Common.{arith}
use Rattle.clv_base.proofs.Fitting.{bytes_fit}
use Rattle.clv_base.proofs.values.bytes_fit.Goals as goal

pub returns : goal.returns
returns c = bytes_fit c.args.bytes.now c.requires (λ i. omega (arith, c.type_inv.bytes i))
