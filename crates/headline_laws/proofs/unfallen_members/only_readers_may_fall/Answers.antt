use Rattle.headline_laws.proofs.OnlyReadersMayFall.{only_readers_may_fall}
use Rattle.headline_laws.proofs.unfallen_members.only_readers_may_fall.Goals as goal

pub returns : goal.returns
returns c = only_readers_may_fall
