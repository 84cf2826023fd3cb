use Rattle.fate_laws.proofs.Origins.AllComesOfEntries.{prepares_come_of_requests}
use Rattle.fate_laws.proofs.origin.prepares_come_of_requests.Goals as goal

pub returns : goal.returns
returns c = prepares_come_of_requests
