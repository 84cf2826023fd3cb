use Rattle.checkpoint_laws.proofs.ExchangedMayBeOpened.{exchanged_may_open}
use Rattle.checkpoint_laws.proofs.laws.exchanged_may_be_opened.Goals as goal

pub returns : goal.returns
returns c = exchanged_may_open
