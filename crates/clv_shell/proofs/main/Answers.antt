use Rattle.std.proofs.Common.{Bool, ap₂}
use Rattle.clv_shell.proofs.main.Goals as goal

pub run-requires-clause-inside : goal.run-requires-clause-inside
run-requires-clause-inside g c = λ lifetimes n low. ap₂ (λ (x y : Bool). (x, y)) (c.new-house.ensures.in_place n 0) (c.new-house.ensures.in_place n 1)
