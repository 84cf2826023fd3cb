use Rattle.std.proofs.Common.{refl}
use Rattle.session_examples.proofs.second_thoughts.taken_back_is_as_before.Goals as goal

pub returns : goal.returns
returns c = λ splits m key value before. refl
