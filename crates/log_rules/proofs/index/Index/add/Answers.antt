use Rattle.std.proofs.Common.{refl}
use Rattle.std.proofs.lemmas.Result.{on_ok_weaker}
use Rattle.log_rules.proofs.index.Index.add.Goals as goal

pub returns : goal.returns
returns c = on_ok_weaker c.add.result (λ added. record { between = c.place.new.self; places = c.in_ok-place.ensures; rest = refl; facts = added }) c.add.ensures.added
