use Rattle.cluster_closing.proofs.Landing.{messages_land}
use Rattle.cluster_closing.proofs.end_promises.messages_land.Goals as goal

pub returns : goal.returns
returns g c = messages_land
