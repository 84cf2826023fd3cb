use Rattle.checkpoint_laws.proofs.ExchangedStandAlike.{exchanged_alike}
use Rattle.checkpoint_laws.proofs.laws.exchanged_stand_alike.Goals as goal

pub returns : goal.returns
returns c = exchanged_alike
